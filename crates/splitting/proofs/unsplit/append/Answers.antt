use Rattle.std.proofs.Common.{◌≡◌, ℕ, List, Ok, Result, sym, ap, ◌∙◌, subst, arith}
use Rattle.faults.specs.declared.Fault.{Fault}
use Rattle.reserve.proofs.RoomOthers.{room_elsewhere}
use Rattle.reserve.proofs.RoomsSound.{Roomy, room_enough}
use Rattle.reserve.specs.declared.room.Room.{Room}
use Rattle.table.proofs.SoundSingle.{sound_opens}
use Rattle.table.specs.Soundness.{Sound}
use Rattle.table.specs.Tables.{detach, handle_at}
use Rattle.table.specs.declared.table.Table.{Table}
use Rattle.splitting.proofs.Beside.{Beside, room_beside}
use Rattle.splitting.proofs.JoinsSound.{appended_sound}
use Rattle.splitting.proofs.unsplit.append.Given as given
use Rattle.splitting.proofs.unsplit.append.Goals as goal
use Rattle.splitting.proofs.unsplit.append.Goals.{In_ok-room}

beside : (g : given.Over) (c : In_ok-room g) → Beside c.args.table.now.rows.limit (g.M.Memory.bytes c.args.mem.now) (g.M.Memory.bytes c.make_room.new.mem) c.args.first.handle c.args.other.handle c.in_ok-room.room.handle
beside g c =
    let t = c.args.table.now.rows in
    room_beside t (g.M.Memory.bytes c.args.mem.now) (g.G.Growth.answer c.args.growth.now) (g.met.G.Growth.enough c.args.growth.now) c.args.first.row c.args.other.row c.args.first.handle c.args.other.handle (sound_opens t c.args.table.now.sound) c.requires.held c.requires.other_held (λ e. c.requires.two (sym e)) c.requires.whole c.in_ok-room.room _ _ c.in_ok-room.ensures.does

pub overflow_add-handle : goal.overflow_add-handle
overflow_add-handle g c = let b = beside g (goal.at.overflow_add-handle g c).In_ok-room in omega arith

pub copy_bytes-requires : goal.copy_bytes-requires
copy_bytes-requires g c =
    let b = beside g (goal.at.copy_bytes-requires g c).In_ok-room in
    let whole = c.requires.whole in
    record { source = omega arith; target = omega arith; apart = b.apart }

pub overflow_add-longer : goal.overflow_add-longer
overflow_add-longer g c = let b = beside g (goal.at.overflow_add-longer g c).In_ok-room in omega arith

pub invariant_of-table : goal.invariant_of-table
invariant_of-table g c =
    let t = c.args.table.now.rows in
    let m = g.M.Memory.bytes c.args.mem.now in
    let r = g.G.Growth.answer c.args.growth.now in
    let enough = g.met.G.Growth.enough c.args.growth.now in
    let i = c.args.first.row in
    let j = c.args.other.row in
    let h = c.args.first.handle in
    let k = c.args.other.handle in
    let after = c.make_room.new.table in
    let s = sound_opens t c.args.table.now.sound in
    let does = c.in_ok-room.ensures.does in
    let there = ap (λ o. handle_at o.1 j) does ∙ room_elsewhere t m r i h c.requires.held j (λ e. c.requires.two (sym e)) k.len ∙ c.requires.other_held in
    let roomy = subst (λ (o : Result Room Fault × Table × List ℕ). (x : Room) → o.0 ≡ Ok x → Roomy o.1 i h k.len x.handle) (sym does) (room_enough t m r i h k.len s c.requires.held enough) in
    let left = appended_sound t i j h k s c.requires.held c.requires.other_held c.requires.two m r enough (Ok c.in_ok-room.room, after.rows, g.M.Memory.bytes c.make_room.new.mem) (sound_opens after.rows after.sound) roomy there in
    record { sound = ∣ subst Sound (sym (c.detach.ensures ∙ ap (λ u. detach u j) c.set_handle.ensures)) left ∣₁ }
