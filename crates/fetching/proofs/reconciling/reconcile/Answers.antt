use Rattle.std.proofs.Common.{◌≡◌, ℕ, List, ◌++◌, vec_items, sym, ap, ◌∙◌, subst}
use Rattle.std.specs.Slice.Iter.{chunks_rest}
use Rattle.matching.specs.Pairings.{entries_of, settled_invoices}
use Rattle.matching.proofs.Reconciling.{reconciled_as}
use Rattle.law.proofs.Views.{extended_view}
use Rattle.law.specs.Views.{view}
use Rattle.table.proofs.SoundSingle.{sound_opens}
use Rattle.fetching.specs.Fetches.{NoEnd}
use Rattle.fetching.specs.Passages.{Carries, Underway}
use Rattle.fetching.proofs.Knowing.{known_extended}
use Rattle.fetching.proofs.Passing.{chunk_carried, source_carried}
use Rattle.fetching.proofs.reconciling.reconcile.Goals as goal

pub loop-chunk-init : goal.loop-chunk-init
loop-chunk-init g c =
    let ys = g.I.Memory.bytes c.args.open_items.now in
    let p = c.pass_lines.new.progress in
    let v = view c.pass_lines.new.ledger.table.rows (g.M.Memory.bytes c.args.mem.now) c.args.token.now in
    let all = ap chunks_rest c.into_iter-chunk-iterator.ensures.into_iter_gives ∙ c.chunks-chunk-items.ensures.rest in
    record {
      memory = c.in_ok-pass_lines.ensures.memory ∙ c.in_ok-progress.ensures.memory;
      no_end = c.in_ok-pass_lines.ensures.fetched;
      underway = λ xs. subst (λ (rest : List ℕ). Underway xs ys p (v ++ rest)) (sym all);
      known = c.in_ok-pass_lines.ensures.known;
    }

pub loop-chunk-preserved : goal.loop-chunk-preserved
loop-chunk-preserved g c =
    let ys = g.I.Memory.bytes c.args.open_items.now in
    let k = c.args.token.now in
    let t = c.loop-chunk.ledger.table.rows in
    let m = g.M.Memory.bytes c.loop-chunk.mem in
    let f = g.M.Memory.fault c.loop-chunk.mem in
    let t' = c.extend_from_slice.new.ledger.table.rows in
    let m' = g.M.Memory.bytes c.extend_from_slice.new.mem in
    let grown = g.G.Growth.answer c.args.growth.now in
    let chunk = c.in-Some.chunk.now in
    let s = sound_opens t c.loop-chunk.ledger.table.sound in
    let extended = extended_view t m f k s grown (g.met.G.Growth.enough c.args.growth.now) chunk c.in_ok-moved.moved t' m' c.in_ok-moved.ensures.does in
    let grown_known = known_extended t t' s m m' f grown k chunk c.extend_from_slice.result c.extend_from_slice.ensures.does in
    let w = view c.pass_lines-in-loop-chunk.new.ledger.table.rows m' k in
    let cut = c.in-Some.ensures.steps.1.0 in
    let passed = c.in_ok-pass_lines-2.ensures in
    let p = c.loop-chunk.progress in
    let q = c.pass_lines-in-loop-chunk.new.progress in
    let carries = subst (λ m. Carries (g.I.Memory.bytes m) p (view t' m' k) q w) c.loop-chunk.invariant.memory passed.passed in
    record {
      memory = passed.memory ∙ c.loop-chunk.invariant.memory;
      no_end = passed.fetched;
      underway = λ xs under. chunk_carried xs ys p q (view t m k) w (view t' m' k) chunk (chunks_rest c.loop-chunk.chunk-iterator) (chunks_rest c.next.new.self) cut extended carries (c.loop-chunk.invariant.underway xs under);
      known = λ knows. passed.known (grown_known (c.loop-chunk.invariant.known knows));
    }

pub returns : goal.returns
returns g c =
    let ys = g.I.Memory.bytes c.args.open_items.now in
    let k = c.args.token.now in
    let source = c.args.source.now in
    let xs = view c.args.ledger.now.table.rows (g.M.Memory.bytes c.args.mem.now) k ++ source in
    let v = view c.loop-chunk.ledger.table.rows (g.M.Memory.bytes c.loop-chunk.mem) k in
    let left = c.as_slice.result.now in
    let report = c.in_ok-report.report in
    let shown = c.as_slice.ensures.value ∙ c.in_ok-left.ensures.answer in
    let p = c.in_ok-progress.progress in
    let shown_first = view c.pass_lines.new.ledger.table.rows (g.M.Memory.bytes c.args.mem.now) k in
    let begun = subst (λ m. Carries (g.I.Memory.bytes m) p (view c.args.ledger.now.table.rows (g.M.Memory.bytes c.args.mem.now) k) c.pass_lines.new.progress shown_first) c.in_ok-progress.ensures.memory c.in_ok-pass_lines.ensures.passed in
    let first = begun xs source (c.in_ok-progress.ensures.begun xs) in
    let last = source_carried xs ys c.loop-chunk.progress v (chunks_rest c.loop-chunk.chunk-iterator) left c.in-None.ensures.steps.1.0 shown (c.loop-chunk.invariant.underway xs first) in
    let same = c.loop-chunk.invariant.memory in
    let closes = subst (λ m. Underway xs (g.I.Memory.bytes m) c.loop-chunk.progress left → (vec_items report.entries ≡ entries_of xs (g.I.Memory.bytes m)) × (vec_items report.invoices ≡ settled_invoices xs (g.I.Memory.bytes m))) same (c.in_ok-report.ensures xs (subst NoEnd (sym shown) c.loop-chunk.invariant.no_end)) in
    let done = closes last in
    record { entries = done.0; invoices = done.1; law = reconciled_as xs ys (vec_items report.entries) (vec_items report.invoices) done.0 done.1; known = c.loop-chunk.invariant.known }

pub returns-in_err-moved-clause-known : goal.returns-in_err-moved-clause-known
returns-in_err-moved-clause-known g c =
    let t = c.loop-chunk.ledger.table.rows in
    let s = sound_opens t c.loop-chunk.ledger.table.sound in
    λ knows. known_extended t c.extend_from_slice.new.ledger.table.rows s (g.M.Memory.bytes c.loop-chunk.mem) (g.M.Memory.bytes c.extend_from_slice.new.mem) (g.M.Memory.fault c.loop-chunk.mem) (g.G.Growth.answer c.args.growth.now) c.args.token.now c.in-Some.chunk.now c.extend_from_slice.result c.extend_from_slice.ensures.does (c.loop-chunk.invariant.known knows)

pub returns-in_err-pass_lines-2-clause-known : goal.returns-in_err-pass_lines-2-clause-known
returns-in_err-pass_lines-2-clause-known g c =
    let t = c.loop-chunk.ledger.table.rows in
    let s = sound_opens t c.loop-chunk.ledger.table.sound in
    λ knows. c.in_err-pass_lines-2.ensures.known (known_extended t c.extend_from_slice.new.ledger.table.rows s (g.M.Memory.bytes c.loop-chunk.mem) (g.M.Memory.bytes c.extend_from_slice.new.mem) (g.M.Memory.fault c.loop-chunk.mem) (g.G.Growth.answer c.args.growth.now) c.args.token.now c.in-Some.chunk.now c.extend_from_slice.result c.extend_from_slice.ensures.does (c.loop-chunk.invariant.known knows))
