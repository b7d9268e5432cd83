use Rattle.std.proofs.Common.{◌≡◌, Ok, position, vec_items, ap, ◌∙◌}
use Rattle.statement.specs.Records.{ended_record}
use Rattle.statement.specs.declared.record.Record.TheVariants.{Payment}
use Rattle.matching.specs.Pairings.{asks_for, judged_as, pairing}
use Rattle.matching.proofs.pairing.judge.Goals as goal

pub returns-in-Ok-Payment : goal.returns-in-Ok-Payment
returns-in-Ok-Payment g c =
    let ys = g.M.Memory.bytes c.args.mem.now in
    let k = c.args.index in
    let text = c.args.text.now in
    let is = vec_items c.args.invoices.now in
    let payment = c.in-Ok-Payment.payment in
    let said : Ok (Payment payment) ≡ ended_record c.args.line text = cc in
    c.pair.ensures ∙ ap (λ payee. pairing k payment is (position (asks_for ys payment.amount payee) is)) c.part_of-payee.ensures ∙ ap (judged_as ys k text is) said
