use Rattle.std.proofs.Common.{arith}
use Rattle.reserve.proofs.HandlesSound.{over}
use Rattle.table.proofs.SoundSingle.{sound_opens}
use Rattle.splitting.proofs.unsplit.try_unsplit.Goals as goal

pub merge-requires : goal.merge-requires
merge-requires c =
    let t = c.args.table.now in
    let s = sound_opens t c.requires.sound in
    let first = over t c.args.first.row c.args.first.handle s c.requires.held in
    let other = over t c.args.other.row c.args.other.handle s c.requires.other_held in
    record { len = omega arith; capacity = omega arith }
