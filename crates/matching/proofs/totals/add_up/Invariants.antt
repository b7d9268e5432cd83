use Rattle.std.proofs.Common.{◌≡◌, drop, fold}
use Rattle.matching.specs.Totals.{Few, added, totals_of}
use Rattle.matching.proofs.totals.add_up.Given as goal

-- what is left of the entries gives the totals that are still to come
abbrev pub invariant-loop-entry : goal.invariant-loop-entry
invariant-loop-entry l = record {
  totals : fold (λ t e. added t e.outcome) l.totals (drop l.entry-index l.entries) ≡ totals_of l.entries;
  few : Few l.entry-index l.totals;
}
