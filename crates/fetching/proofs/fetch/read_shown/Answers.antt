use Rattle.std.proofs.Common.{◌≡◌, length, drop, ap, ◌∙◌, arith}
use Rattle.std.proofs.lemmas.List.{take-append-le, take_all}
use Rattle.table.proofs.SoundSingle.{sound_opens}
use Rattle.law.proofs.Views.{len_view, read_reaches, read_whole}
use Rattle.fetching.proofs.fetch.read_shown.Goals as goal

pub returns : goal.returns
returns g c =
    let t = c.args.ledger.now.table.rows in
    let m = g.M.Memory.bytes c.args.mem.now in
    let f = g.M.Memory.fault c.args.mem.now in
    let k = c.args.token.now in
    let s = sound_opens t c.args.ledger.now.table.sound in
    let told = c.in_ok-count.ensures in
    let n = c.in_ok-count.count in
    let out = c.as_mut_slice.result.now in
    let filled = c.read.new.out in
    let does = c.in_ok-read.ensures in
    let reaches = read_reaches t m f k s 0 out filled does in
    let whole = c.in_ok-shown.ensures.len in
    let long : length out ≡ n = omega (arith, c.as_mut_slice.ensures.len, whole) in
    let all = read_whole t m f k s n out filled told long does in
    let full : length filled ≡ n = omega (arith, ap length all, len_view t m f k s reaches n told) in
    let count = c.in_ok-shown.shown.len in
    record {
      answer = take-append-le count filled (drop (length filled) c.in_ok-shown.shown.items) (omega (arith, whole)) ∙ take_all count filled (omega (arith, whole)) ∙ all;
      reaches = reaches;
    }
