-- What a check that passes tells, and what the rest of a call behind it leaves.
use Rattle.std.proofs.Common.{◌≡◌, ℕ, ◌<◌, ◌≤◌, Bool, true, false, cond, leb, List, length, Some, None, Ok, Err, Option, Result, refl, arith}
use Rattle.faults.specs.declared.Fault.{Fault}
use Rattle.memory.specs.declared.fault.MemoryFault.{MemoryFault}
use Rattle.rows.proofs.Highest.{highest_is}
use Rattle.rows.specs.Rows.{block_free, handle_free}
use Rattle.rows.specs.declared.block.BlockRow.TheVariants as block
use Rattle.rows.specs.declared.handle.HandleRow.TheVariants as row
use Rattle.std.proofs.lemmas.Bool.{leb-true}
use Rattle.std.proofs.lemmas.Bool.Decides.{nat_tests}
use Rattle.std.specs.Option.{ok_or}
use Rattle.table.proofs.LowestPlace.{place_found}
use Rattle.table.specs.Checks.{and_then, block_row_check, handle_row_check, memory_check, open_check, or_refuse, or_refuse_with, place_check, range_check}
use Rattle.table.specs.Soundness.{RoomAt, Sound}
use Rattle.table.specs.Tables.{block_at, handle_at}
use Rattle.table.specs.declared.table.Table.{Table}

-- an answer is no refusal
pub refused_ok : {A B : Type 0} {x : A} {e : Fault} → ◌≡◌ {A = Result A Fault} (Err e) (Ok x) → B
refused_ok e = let z : ◌≡◌ {A = ℕ} 0 1 = cc in absurd (omega arith)

pub ok_some : {A E : Type 0} (o : Option A) (e : E) (x : A) → ok_or o e ≡ Ok x → o ≡ Some x
ok_some None e x h = cc
ok_some (Some y) e x h = cc

pub passed : {A E : Type 0} (b : Bool) (x y : A) (e : E) → cond b (Ok x) (Err e) ≡ Ok y → b ≡ true
passed true x y e h = refl
passed false x y e h = cc

pub range_passed : (n len i : ℕ) {x : Unit {0}} → range_check (leb n len) i ≡ Ok x → n ≤ len
range_passed n len i {x} e = leb-true n len (passed (leb n len) tt x _ e)

-- a memory that passes the check reaches as far as the ledger does
pub memory_reaches : (t : Table) (m : List ℕ) (f : ℕ → MemoryFault) (i : ℕ) (x : Unit {0}) → Ok x ≡ memory_check t m f i → t.limit ≤ length m
memory_reaches t m f i x e = grind (arith, nat_tests)

pub opened_from : (t : Table) (i : ℕ) (x : Unit {0}) → Ok x ≡ open_check t i → t.opened ≡ true
opened_from t i x e = grind (arith, nat_tests)

module _ (t : Table) (named : ℕ) (s : Sound t) where
  pub handle_row_passed : (i : ℕ) → handle_row_check t named ≡ Ok i → (i < 64) × (handle_free (handle_at t i) ≡ true)
  handle_row_passed i e = let found = highest_is handle_free t.handles row.Free i (ok_some _ _ i e) in (omega (arith, found.0, s.rows), found.1)

  pub block_row_passed : (b : ℕ) → block_row_check t named ≡ Ok b → (b < 32) × (block_free (block_at t b) ≡ true)
  block_row_passed b e = let found = highest_is block_free t.blocks block.Free b (ok_some _ _ b e) in (omega (arith, found.0, s.blocks), found.1)

  pub place_passed : (n p : ℕ) → place_check t n named ≡ Ok p → RoomAt t n p
  place_passed n p e = place_found t n p (λ b. (s.placed b).low) (ok_some _ _ p e)

-- What a call went on with.

pub and_then_passed : {A B : Type 0} (r : Result A Fault) (rest : A → Result B Fault) (y : B) → and_then r rest ≡ Ok y → (x : A) × (r ≡ Ok x) × (rest x ≡ Ok y)
and_then_passed (Ok x) rest y e = (x, refl, e)
and_then_passed (Err f) rest y e = refused_ok e

-- what holds of a refusal, and of the rest of the call where the check passes, holds of both
pub table_after : {A B : Type 0} (P : Result B Fault × Table → Type 0) (r : Result A Fault) (t : Table) (rest : A → Result B Fault × Table) → ((e : Fault) → P (Err e, t)) → ((x : A) → r ≡ Ok x → P (rest x)) → P (or_refuse r t rest)
table_after P (Ok x) t rest refused goes = goes x refl
table_after P (Err e) t rest refused goes = refused e

pub both_after : {A B : Type 0} (P : Result B Fault × Table × List ℕ → Type 0) (r : Result A Fault) (t : Table) (m : List ℕ) (rest : A → Result B Fault × Table × List ℕ) → ((e : Fault) → P (Err e, t, m)) → ((x : A) → r ≡ Ok x → P (rest x)) → P (or_refuse_with r t m rest)
both_after P (Ok x) t m rest refused goes = goes x refl
both_after P (Err e) t m rest refused goes = refused e
