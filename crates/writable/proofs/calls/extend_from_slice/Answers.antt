use Rattle.std.proofs.Common.{◌≡◌, ℕ, ◌+◌, ◌≤◌, List, length, Ok, Result, refl, sym, subst, arith}
use Rattle.faults.specs.declared.Fault.{Fault}
use Rattle.rows.specs.Rows.{block_in}
use Rattle.table.specs.Soundness.{Sound}
use Rattle.table.specs.Tables.{block_at}
use Rattle.table.specs.declared.table.Table.{Table}
use Rattle.table.proofs.SoundSingle.{sound_opens}
use Rattle.reserve.proofs.HandleFacts.{handled}
use Rattle.table.proofs.Passing.{memory_reaches}
use Rattle.reserve.proofs.RoomFacts.{room_roomy}
use Rattle.reserve.proofs.RoomsSound.{Roomy, room_enough}
use Rattle.reserve.specs.declared.room.Room.{Room}
use Rattle.writable.proofs.CallsSound.{extended_sound}
use Rattle.writable.proofs.calls.extend_from_slice.Given as given
use Rattle.writable.proofs.calls.extend_from_slice.Goals as goal
use Rattle.writable.proofs.calls.extend_from_slice.Goals.{In_ok-room}

-- the slice goes behind the bytes shown, in the memory
behind : (g : given.Over) (c : In_ok-room g) → (c.in_ok-room.room.handle.start + c.in_ok-room.room.handle.len + length c.args.source.now ≤ length (g.M.Memory.bytes c.make_room.new.mem)) × (c.in_ok-room.room.handle.start + c.in_ok-room.room.handle.len + length c.args.source.now ≤ 16777216)
behind g c =
    let t = c.args.table.now.rows in
    let m = g.M.Memory.bytes c.args.mem.now in
    let h = c.args.held.handle in
    let b = block_in (block_at t h.block) in
    let w = handled t c.args.held.row h c.requires.held (sound_opens t c.args.table.now.sound) b refl in
    let reaches = memory_reaches t m (g.M.Memory.fault c.args.mem.now) _ _ c.in_ok-check_memory.ensures in
    let made = room_roomy t m (g.G.Growth.answer c.args.growth.now) (g.met.G.Growth.enough c.args.growth.now) c.args.held.row h b (length c.args.source.now) w reaches c.in_ok-room.room _ _ refl c.in_ok-room.ensures.does in
    (omega arith, omega arith)

pub overflow_add-handle : goal.overflow_add-handle
overflow_add-handle g c = omega (arith, (behind g (goal.at.overflow_add-handle g c).In_ok-room).1)

pub write_bytes-requires : goal.write_bytes-requires
write_bytes-requires g c = omega (arith, (behind g (goal.at.write_bytes-requires g c).In_ok-room).0)

pub overflow_cast-longer : goal.overflow_cast-longer
overflow_cast-longer g c = omega (arith, (behind g (goal.at.overflow_cast-longer g c).In_ok-room).1)

pub overflow_add-longer : goal.overflow_add-longer
overflow_add-longer g c = omega (arith, (behind g (goal.at.overflow_add-longer g c).In_ok-room).1)

pub invariant_of-table : goal.invariant_of-table
invariant_of-table g c =
    let t = c.args.table.now.rows in
    let m = g.M.Memory.bytes c.args.mem.now in
    let grown = g.G.Growth.answer c.args.growth.now in
    let i = c.args.held.row in
    let h = c.args.held.handle in
    let xs = c.args.source.now in
    let after = c.make_room.new.table in
    let s = sound_opens t c.args.table.now.sound in
    let roomy = room_enough t m grown i h (length xs) s c.requires.held (g.met.G.Growth.enough c.args.growth.now) in
    record {
      sound = ∣ subst Sound (sym c.set_handle.ensures) (extended_sound (Ok c.in_ok-room.room, after.rows, g.M.Memory.bytes c.make_room.new.mem) i h xs (sound_opens after.rows after.sound)
          (subst (λ (r : Result Room Fault × Table × List ℕ). (room : Room) → r.0 ≡ Ok room → Roomy r.1 i h (length xs) room.handle) (sym c.in_ok-room.ensures.does) roomy)) ∣₁;
    }
