-- A new handle is made in free rows at a place that was found, or refused.
use Rattle.std.proofs.Common.{◌≡◌, ℕ, ◌<◌, true, Ok, Err, Result}
use Rattle.faults.specs.declared.Fault.{Fault}
use Rattle.rows.specs.Rows.{block_free, handle_free}
use Rattle.rows.specs.declared.handle.HandleRow.TheVariants as row
use Rattle.table.proofs.Passing.{block_row_passed, handle_row_passed, table_after}
use Rattle.table.specs.Checks.{block_row_check, handle_row_check, no_row, place_check}
use Rattle.table.specs.Soundness.{Sound}
use Rattle.table.specs.Tables.{block_at, handle_at, settle}
use Rattle.table.specs.declared.table.Table.{Table}
use Rattle.writable.specs.Calls.{fresh, fresh_block, make_of}
use Rattle.writable.specs.declared.calls.Made.{Made}

-- of capacity n, with k bytes shown
pub make_on : (t : Table) (k n : ℕ) → Sound t → (P : (Result Made Fault × Table) → Type 0) → ((i b p : ℕ) → i < 64 → handle_free (handle_at t i) ≡ true → b < 32 → block_free (block_at t b) ≡ true → place_check t n no_row ≡ Ok p → P (Ok (record { row = i; place = p }), settle t i b (fresh_block p n) (row.Writable (fresh b p n k)))) → ((e : Fault) → P (Err e, t)) → P (make_of t k n)
make_on t k n s P makes refuses =
    table_after P (handle_row_check t no_row) t _ refuses (λ i handle.
    table_after P (block_row_check t no_row) t _ refuses (λ b place.
    table_after P (place_check t n no_row) t _ refuses (λ p found.
    let h = handle_row_passed t no_row s i handle in
    let x = block_row_passed t no_row s b place in
    makes i b p h.0 h.1 x.0 x.1 found)))
