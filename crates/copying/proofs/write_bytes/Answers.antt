use Rattle.std.proofs.Common.{length, ap, arith, length-set}
use Rattle.std.proofs.lemmas.List.Edits.{paste_more}
use Rattle.copying.proofs.write_bytes.Goals as goal

pub loop-i-preserved : goal.loop-i-preserved
loop-i-preserved g c =
    let kept = simp length-set at (ap length c.store.ensures.memory) in
    let more = paste_more (g.M.Memory.bytes c.args.mem.now) c.args.at c.args.source.now c.loop-i.i 0 (omega arith) (omega arith) in
    (cc, cc, cc)
