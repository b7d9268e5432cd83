use Rattle.std.proofs.Common.{◌≡◌, ◌*◌, ◌≤◌, take, sum_by, count_by}
use Rattle.rows.specs.Rows.{block_live, handle_live, size_of}
use Rattle.table.proofs.table.Table.tally.Given as goal

abbrev pub invariant-loop-handle : goal.invariant-loop-handle
invariant-loop-handle l = record {
  handles : l.live_handles ≡ count_by handle_live (take l.handle-index l.self.handles);
  few : l.live_handles ≤ l.handle-index;
}

abbrev pub invariant-loop-row : goal.invariant-loop-row
invariant-loop-row l = record {
  blocks : l.live_blocks ≡ count_by block_live (take l.row-index l.self.blocks);
  bytes : l.bytes ≡ sum_by size_of (take l.row-index l.self.blocks);
  few : l.live_blocks ≤ l.row-index;
  small : l.bytes ≤ l.row-index * 4294967295;
}
