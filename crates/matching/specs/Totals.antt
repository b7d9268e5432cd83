-- What the lines of a statement come to.
--   plus t a         the total t with one line of the amount a more
--   more_unmatched t a   the totals t with one line more that was logged, of the amount a
--   logged t r       the totals t with one line more that was logged and says r
--   added t o        the totals t with one line more, of which o became
--   totals_of es     the totals of the entries es
--   Within t         the sum of t is no larger than its lines allow, each of a 64-bit amount
--   Few n t          the totals t are of at most n lines each, and their sums no larger than those allow
use Rattle.std.specs.Prelude.{ℕ, ◌+◌, ◌*◌, ◌≤◌, List, ℤ, pos, ◌+ℤ◌, neg_ℤ, ◌≤ℤ◌, fold}
use Rattle.statement.specs.declared.record.Record.{Record}
use Rattle.statement.specs.declared.record.Record.TheVariants.{Balance, Payment, Charge, Return}
use Rattle.matching.specs.declared.entry.Entry.{Entry}
use Rattle.matching.specs.declared.entry.Outcome.{Outcome}
use Rattle.matching.specs.declared.entry.Outcome.TheVariants.{Paired, Unmatched, Unreadable}
use Rattle.matching.specs.declared.totals.Total.{Total}
use Rattle.matching.specs.declared.totals.Totals.{Totals}

abbrev pub plus : Total → ℤ → Total
plus t a = record { lines = t.lines + 1; cents = t.cents +ℤ a }

abbrev pub more_unmatched : Totals → ℤ → Totals
more_unmatched t a = record t { unmatched = plus t.unmatched a }

abbrev pub logged : Totals → Record → Totals
logged t (Balance a) = record t { balances = t.balances + 1 }
logged t (Payment w) = more_unmatched t w.amount
logged t (Charge w) = more_unmatched t w.amount
logged t (Return w) = more_unmatched t w.amount

abbrev pub added : Totals → Outcome → Totals
added t (Paired payment i) = record t { paired = plus t.paired payment.amount }
added t (Unmatched said) = logged t said
added t (Unreadable malformed) = record t { unreadable = t.unreadable + 1 }

abbrev pub no_total : Total
no_total = record { lines = 0; cents = pos 0 }

abbrev pub no_totals : Totals
no_totals = record { paired = no_total; unmatched = no_total; balances = 0; unreadable = 0 }

abbrev pub totals_of : List Entry → Totals
totals_of es = fold (λ t e. added t e.outcome) no_totals es

pub record Within (t : Total) : Type 0 where
  pub low : neg_ℤ (pos (9223372036854775808 * t.lines)) ≤ℤ t.cents
  pub high : t.cents ≤ℤ pos (9223372036854775808 * t.lines)

pub record Few (n : ℕ) (t : Totals) : Type 0 where
  pub paired_lines : t.paired.lines ≤ n
  pub paired_within : Within t.paired
  pub unmatched_lines : t.unmatched.lines ≤ n
  pub unmatched_within : Within t.unmatched
  pub balances : t.balances ≤ n
  pub unreadable : t.unreadable ≤ n
