use Rattle.std.proofs.Common.{◌+◌, vec_items}
use Rattle.table.proofs.SoundSingle.{sound_opens}
use Rattle.law.proofs.Views.{advanced_view}
use Rattle.law.specs.Views.{view}
use Rattle.fetching.proofs.Cutting.{cut_at_first}
use Rattle.fetching.proofs.Knowing.{known_advanced}
use Rattle.fetching.proofs.fetch.next_line.Goals as goal

pub returns-in_ok-advance-in-Some : goal.returns-in_ok-advance-in-Some
returns-in_ok-advance-in-Some g c =
    let t = c.args.ledger.now.table.rows in
    let m = g.M.Memory.bytes c.args.mem.now in
    let f = g.M.Memory.fault c.args.mem.now in
    let k = c.args.token.now in
    let i = c.in-Some.end in
    let read = c.in_ok-shown.ensures in
    let shown = c.in_ok-shown.shown in
    let after = c.advance.new.ledger.table.rows in
    let s = sound_opens t c.args.ledger.now.table.sound in
    let moved = advanced_view t m f k s read.reaches (i + 1) after c.in_ok-advance-in-Some.ensures in
    let cut = cut_at_first (view t m k) (vec_items shown) c.as_slice.result.now (vec_items c.truncate.new.self) (view after m k) i read.answer c.as_slice.ensures.value c.truncate.ensures.items moved c.in-Some.ensures in
    record { fetched = cut; known = known_advanced t after s k (i + 1) c.advance.result c.advance.ensures }

pub returns-in_err-advance-in-Some-clause-known : goal.returns-in_err-advance-in-Some-clause-known
returns-in_err-advance-in-Some-clause-known g c =
    let t = c.args.ledger.now.table.rows in
    known_advanced t c.advance.new.ledger.table.rows (sound_opens t c.args.ledger.now.table.sound) c.args.token.now (c.in-Some.end + 1) c.advance.result c.advance.ensures
