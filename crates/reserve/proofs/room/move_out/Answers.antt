use Rattle.std.proofs.Common.{sym, arith}
use Rattle.table.proofs.SoundSingle.{sound_opens}
use Rattle.reserve.proofs.HandleFacts.{copy_apart, room_found}
use Rattle.reserve.proofs.room.move_out.Goals as goal

pub copy_bytes-requires-clause-apart : goal.copy_bytes-requires-clause-apart
copy_bytes-requires-clause-apart g c =
    let t = c.args.table.now in
    let x = c.args.seat in
    let h = x.held.handle in
    let room = room_found t _ _ _ (sound_opens t c.requires.sound) (sym c.in_ok-place.ensures.answer) in
    copy_apart t _ _ _ h.start h.len h.block x.block room c.requires.over x.before x.behind (omega arith) (omega arith)
