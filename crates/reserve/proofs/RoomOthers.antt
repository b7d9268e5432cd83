-- Making room for one handle leaves the rows of the others.
use Rattle.std.proofs.Common.{◌≡◌, ℕ, ◌≢◌, List, Result, refl, ap, ◌∙◌}
use Rattle.faults.specs.declared.Fault.{Fault}
use Rattle.rows.specs.Rows.{block_in}
use Rattle.rows.specs.declared.block.Block.{Block}
use Rattle.rows.specs.declared.handle.HandleRow.{HandleRow}
use Rattle.rows.specs.declared.handle.HandleRow.TheVariants.{Free, Writable}
use Rattle.rows.specs.declared.handle.WritableHandle.{WritableHandle}
use Rattle.std.proofs.lemmas.List.{get_or-set_other}
use Rattle.table.specs.Checks.{block_row_check, place_check}
use Rattle.table.specs.Tables.{block_at, handle_at, let_go, with_handle}
use Rattle.table.specs.declared.table.Table.{Table}
use Rattle.table.proofs.Passing.{both_after}
use Rattle.reserve.specs.Rooms.{carried, need_check, room_of}
use Rattle.reserve.specs.Rules.{rule_of}
use Rattle.reserve.specs.declared.room.Room.{Room}
use Rattle.reserve.specs.declared.rules.ReserveRule.{ReserveRule}
use Rattle.reserve.specs.declared.rules.ReserveRule.TheVariants.{Keep, Slide, Grow, Widen, MoveOut}

module _ (t : Table) (m : List ℕ) (g : ℕ → ℕ → ℕ) (i : ℕ) (h : WritableHandle) (is : handle_at t i ≡ Writable h) (j : ℕ) (ne : j ≢ i) where
  abbrev SameRow : Result Room Fault × Table × List ℕ → Type 0
  SameRow o = handle_at o.1 j ≡ handle_at t j

  put_elsewhere : (u : Table) (r : HandleRow) → handle_at u j ≡ handle_at t j → handle_at (with_handle u i r) j ≡ handle_at t j
  put_elsewhere u r e = get_or-set_other u.handles i j r Free ne ∙ e

  carried_elsewhere : (b : Block) (r : ReserveRule) → SameRow (carried t m g i h b r)
  carried_elsewhere b Keep = refl
  carried_elsewhere b Slide = put_elsewhere t _ refl
  carried_elsewhere b (Grow n) =
      both_after SameRow (need_check t n i) t m _ (λ _. refl) (λ _ _.
      both_after SameRow (place_check t (g b.size n) i) t m _ (λ _. refl) (λ _ _. put_elsewhere t _ refl))
  carried_elsewhere b (Widen c) = put_elsewhere t _ refl
  carried_elsewhere b (MoveOut n) =
      both_after SameRow (block_row_check t i) t m _ (λ _. refl) (λ _ _.
      both_after SameRow (place_check t n i) t m _ (λ _. refl) (λ _ _.
      put_elsewhere (with_handle (let_go t (handle_at t i)) i Free) _ (put_elsewhere (let_go t (handle_at t i)) Free (ap (λ r. handle_at (let_go t r) j) is))))

  -- the row of another handle
  pub room_elsewhere : (a : ℕ) → handle_at (room_of t m g i h a).1 j ≡ handle_at t j
  room_elsewhere a = carried_elsewhere (block_in (block_at t h.block)) (rule_of h (block_in (block_at t h.block)) a)
