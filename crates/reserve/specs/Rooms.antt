-- What making room answers, and the table t and the bytes m that it leaves.
--   moved_to h s c            the handle h from s on, with the capacity c
--   copied m h to             the bytes m, with those that h shows copied to the position to
--   slide_of t m row h b      the bytes of h slid to the place of its block b
--   need_check t n row        a need that the working part can hold
--   grow_of t m g row h b n   the block b grown under the growth rule g to at least n bytes, h at the same offset
--   move_out_of t m row h b n the bytes of h in a new block of n bytes, of the class of b
--   widen_of t row h c        the handle h with the capacity c
--   carried t m g row h b r   the rule r carried out
--   room_of t m g row h a     room for a bytes more behind those of h
--   reclaim_of t m row h a    the same without a growth rule or a new block: the bytes that slid, or none where there is no room
use Rattle.std.specs.Prelude.{ℕ, ◌+◌, ◌-◌, cond, List, drop, Some, None, Option, Ok, Err, Result, nat_le}
use Rattle.std.proofs.Math.Seq.{paste}
use Rattle.table.specs.Checks.{block_row_check, or_refuse_with, place_check}
use Rattle.rows.specs.Rows.{block_in}
use Rattle.table.specs.Tables.{block_at, detach, settle, with_handle}
use Rattle.faults.specs.declared.Fault.{Fault}
use Rattle.faults.specs.declared.Fault.TheVariants.{NoPlace}
use Rattle.rows.specs.declared.block.Block.{Block}
use Rattle.rows.specs.declared.handle.HandleRow.TheVariants.{Writable}
use Rattle.rows.specs.declared.handle.WritableHandle.{WritableHandle}
use Rattle.rows.specs.declared.handle.WritableKind.TheVariants.{Own}
use Rattle.table.specs.declared.table.Table.{Table}
use Rattle.reserve.specs.Rules.{offset, rule_of}
use Rattle.reserve.specs.declared.room.Room.{Room}
use Rattle.reserve.specs.declared.rules.ReserveRule.{ReserveRule}
use Rattle.reserve.specs.declared.rules.ReserveRule.TheVariants.{Keep, Slide, Grow, Widen, MoveOut}

abbrev pub moved_to : WritableHandle → ℕ → ℕ → WritableHandle
moved_to h s c = record { kind = h.kind; block = h.block; start = s; len = h.len; capacity = c }

abbrev pub copied : List ℕ → WritableHandle → ℕ → List ℕ
copied m h to = paste m to (drop h.start m) h.len

abbrev pub slide_of : Table → List ℕ → ℕ → WritableHandle → Block → Room × Table × List ℕ
slide_of t m row h b =
    (record { slid = h.len; handle = moved_to h b.place b.size }, with_handle t row (Writable (moved_to h b.place b.size)), copied m h b.place)

abbrev pub need_check : Table → ℕ → ℕ → Result Unit Fault
need_check t n row = cond (nat_le n (t.limit - t.fixed)) (Ok tt) (Err (NoPlace row n))

abbrev pub grown_handle : WritableHandle → Block → ℕ → ℕ → WritableHandle
grown_handle h b n p = moved_to h (p + offset h b) (n - offset h b)

abbrev pub grown_block : Block → ℕ → ℕ → Block
grown_block b n p = record { place = p; size = n; count = b.count; class = b.class }

abbrev pub grow_of : Table → List ℕ → (ℕ → ℕ → ℕ) → ℕ → WritableHandle → Block → ℕ → Result Room Fault × Table × List ℕ
grow_of t m g row h b n =
    or_refuse_with (need_check t n row) t m (λ _.
    or_refuse_with (place_check t (g b.size n) row) t m (λ p.
    (Ok (record { slid = 0; handle = grown_handle h b (g b.size n) p }), settle t row h.block (grown_block b (g b.size n) p) (Writable (grown_handle h b (g b.size n) p)), copied m h (p + offset h b))))

abbrev pub moved_out : WritableHandle → ℕ → ℕ → ℕ → WritableHandle
moved_out h new p n = record { kind = Own; block = new; start = p; len = h.len; capacity = n }

abbrev pub new_block : Block → ℕ → ℕ → Block
new_block b p n = record { place = p; size = n; count = 1; class = b.class }

abbrev pub move_out_of : Table → List ℕ → ℕ → WritableHandle → Block → ℕ → Result Room Fault × Table × List ℕ
move_out_of t m row h b n =
    or_refuse_with (block_row_check t row) t m (λ new.
    or_refuse_with (place_check t n row) t m (λ p.
    (Ok (record { slid = 0; handle = moved_out h new p n }), settle (detach t row) row new (new_block b p n) (Writable (moved_out h new p n)), copied m h p)))

abbrev pub widen_of : Table → ℕ → WritableHandle → ℕ → Room × Table
widen_of t row h c = (record { slid = 0; handle = moved_to h h.start c }, with_handle t row (Writable (moved_to h h.start c)))

abbrev pub done : Room × Table × List ℕ → Result Room Fault × Table × List ℕ
done r = (Ok r.0, r.1, r.2)

abbrev pub carried : Table → List ℕ → (ℕ → ℕ → ℕ) → ℕ → WritableHandle → Block → ReserveRule → Result Room Fault × Table × List ℕ
carried t m g row h b Keep = (Ok (record { slid = 0; handle = h }), t, m)
carried t m g row h b Slide = done (slide_of t m row h b)
carried t m g row h b (Grow n) = grow_of t m g row h b n
carried t m g row h b (Widen c) = (Ok (widen_of t row h c).0, (widen_of t row h c).1, m)
carried t m g row h b (MoveOut n) = move_out_of t m row h b n

abbrev pub room_of : Table → List ℕ → (ℕ → ℕ → ℕ) → ℕ → WritableHandle → ℕ → Result Room Fault × Table × List ℕ
room_of t m g row h a = carried t m g row h (block_in (block_at t h.block)) (rule_of h (block_in (block_at t h.block)) a)

abbrev pub reclaimed : Table → List ℕ → ℕ → WritableHandle → Block → ReserveRule → Option ℕ × Table × List ℕ
reclaimed t m row h b Keep = (Some 0, t, m)
reclaimed t m row h b Slide = (Some (slide_of t m row h b).0.slid, (slide_of t m row h b).1, (slide_of t m row h b).2)
reclaimed t m row h b (Grow n) = (None, t, m)
reclaimed t m row h b (Widen c) = (Some 0, (widen_of t row h c).1, m)
reclaimed t m row h b (MoveOut n) = (None, t, m)

abbrev pub reclaim_of : Table → List ℕ → ℕ → WritableHandle → ℕ → Option ℕ × Table × List ℕ
reclaim_of t m row h a = reclaimed t m row h (block_in (block_at t h.block)) (rule_of h (block_in (block_at t h.block)) a)
