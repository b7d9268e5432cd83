-- What a fault tells.
--   number_of f   the number of the refusal
--   row_of f      the row that it names
--   fault_text f  how it is printed
use Rattle.std.specs.Prelude.{ℕ, List, ◌++◌, codes, decimal}
use Rattle.faults.specs.declared.Fault.{Fault}
use Rattle.faults.specs.declared.Fault.TheVariants.{Opening, Shut, UnknownToken, SameRow, Memory, OutOfRange, NoHandleRow, NoBlockRow, NoPlace}

abbrev pub number_of : Fault → ℕ
number_of (Opening row) = 1
number_of (Shut row) = 2
number_of (UnknownToken row) = 3
number_of (SameRow row) = 4
number_of (Memory row fault) = 5
number_of (OutOfRange row) = 6
number_of (NoHandleRow row) = 7
number_of (NoBlockRow row) = 8
number_of (NoPlace row size) = 9

abbrev pub row_of : Fault → ℕ
row_of (Opening row) = row
row_of (Shut row) = row
row_of (UnknownToken row) = row
row_of (SameRow row) = row
row_of (Memory row fault) = row
row_of (OutOfRange row) = row
row_of (NoHandleRow row) = row
row_of (NoBlockRow row) = row
row_of (NoPlace row size) = row

abbrev pub fault_text : Fault → List ℕ
fault_text f = codes "the ledger refuses with " ++ decimal (number_of f) ++ codes ", row " ++ decimal (row_of f)
