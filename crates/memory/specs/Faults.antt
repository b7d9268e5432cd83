-- Why a position is refused.
--   own_fault size p   the fault of a memory of this size that itself refuses p
--   raised f           the fault f as the next layer hands it up
--   fault_text f       how the fault f is printed
use Rattle.std.specs.Prelude.{ℕ, ◌+◌, min, List, ◌++◌, codes, decimal}
use Rattle.memory.specs.declared.fault.MemoryFault.{MemoryFault}

abbrev pub own_fault : ℕ → ℕ → MemoryFault
own_fault size p = record { position = p; size = size; layers = 0 }

abbrev pub raised : MemoryFault → MemoryFault
raised f = record f { layers = min (f.layers + 1) 255 }

abbrev pub fault_text : MemoryFault → List ℕ
fault_text f = codes "no position " ++ decimal f.position ++ codes " in " ++ decimal f.size ++ codes " bytes (layers: " ++ decimal f.layers ++ codes ")"
