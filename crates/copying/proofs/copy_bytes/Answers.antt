use Rattle.std.proofs.Common.{◌+◌, length, drop, ap, inl, inr, ⊎_elim, arith, length-drop, length-set, get_or-drop}
use Rattle.std.proofs.lemmas.List.Edits.{paste_more}
use Rattle.copying.proofs.Pasting.{get_or_unwritten}
use Rattle.copying.proofs.copy_bytes.Goals as goal

pub loop-i-preserved : goal.loop-i-preserved
loop-i-preserved g c =
    let m = g.M.Memory.bytes c.args.mem.now in
    let i = c.loop-i.i in
    let f = c.args.from in
    let left = length-drop f m in
    let kept = simp length-set at (ap length c.store.ensures.memory) in
    let read = get_or_unwritten m c.args.to (drop f m) i (f + i) (omega arith) (omega arith) (⊎_elim (λ h. inr (omega arith)) (λ h. inl (omega arith)) c.requires.apart) in
    let wanted = get_or-drop f m i 0 in
    let more = paste_more m c.args.to (drop f m) i 0 (omega arith) (omega arith) in
    (cc, cc, cc)
