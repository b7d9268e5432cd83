use Rattle.std.proofs.Common.{◌≡◌, length}
use Rattle.fetching.specs.Knowing.{Knows}
use Rattle.fetching.specs.Passages.{Carries}
use Rattle.law.specs.Views.{view}
use Rattle.fetching.proofs.reconciling.pass_lines.Given as goal

abbrev pub invariant-loop-text : goal.invariant-loop-text
invariant-loop-text g l =
    let m = g.M.Memory.bytes l.mem in
    record {
      memory : l.progress.open_items.mem.now ≡ l.initial.progress.open_items.mem.now;
      passed : Carries (g.I.Memory.bytes l.initial.progress.open_items.mem.now) l.initial.progress (view l.initial.ledger.table.rows m l.token) l.progress (view l.ledger.table.rows m l.token);
      known : Knows l.initial.ledger.table.rows l.token → Knows l.ledger.table.rows l.token;
    }

abbrev pub decreases-loop-text : goal.decreases-loop-text
decreases-loop-text g l = length (view l.ledger.table.rows (g.M.Memory.bytes l.mem) l.token)
