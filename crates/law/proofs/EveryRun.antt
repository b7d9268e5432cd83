-- Every turn keeps what is kept of a run, and so every run keeps its promises.
use Rattle.std.proofs.Common.{ℕ, List}
use Rattle.memory.specs.declared.fault.MemoryFault.{MemoryFault}
use Rattle.law.proofs.CutTurns.{split_off_turn, split_to_turn, split_turn}
use Rattle.law.proofs.JoinTurns.{try_unsplit_turn, unsplit_turn}
use Rattle.law.proofs.MemoryTurns.{extend_turn, from_turn, reserve_turn, try_reclaim_turn}
use Rattle.law.proofs.Promising.{EveryTurnKeeps, every_run}
use Rattle.law.proofs.TableTurns.{TurnKept, KeptIn, advance_turn, capacity_turn, len_turn, opening_turn, read_turn, release_turn, tally_turn, truncate_turn, with_capacity_turn}
use Rattle.law.proofs.TurnSound.{turn_sound}
use Rattle.law.specs.Calls as calls
use Rattle.law.specs.Calls.{Call}
use Rattle.law.specs.Law.{EveryRunKeepsItsPromises}
use Rattle.law.specs.Runs.{Run}

module _ (f : ℕ → MemoryFault) (r : Run) (marks : List ℕ) (kept : KeptIn r marks) where
  turn_kept : (c : Call) → TurnKept f r c
  turn_kept (calls.opening number fixed limit) = opening_turn r marks kept f number fixed limit
  turn_kept calls.tally = tally_turn r marks kept f
  turn_kept (calls.with_capacity n) = with_capacity_turn r marks kept f n
  turn_kept (calls.from xs) = from_turn f r kept xs
  turn_kept (calls.len k) = len_turn r marks kept f k
  turn_kept (calls.capacity k) = capacity_turn r marks kept f k
  turn_kept (calls.read k at out) = read_turn r marks kept f k at out
  turn_kept (calls.split_off k at) = split_off_turn r marks kept f k at
  turn_kept (calls.split_to k at) = split_to_turn r marks kept f k at
  turn_kept (calls.split k) = split_turn r marks kept f k
  turn_kept (calls.truncate k n) = truncate_turn r marks kept f k n
  turn_kept (calls.advance k n) = advance_turn r marks kept f k n
  turn_kept (calls.reserve k g n) = reserve_turn f r kept k g n
  turn_kept (calls.try_reclaim k n) = try_reclaim_turn f r kept k n
  turn_kept (calls.extend k g xs) = extend_turn f r kept k g xs
  turn_kept (calls.try_unsplit k o) = try_unsplit_turn f r kept k o
  turn_kept (calls.unsplit k g o) = unsplit_turn f r kept k o g
  turn_kept (calls.release k) = release_turn r marks kept f k

every_turn : EveryTurnKeeps
every_turn f r c marks kept = turn_kept f r marks kept c (turn_sound f r.state kept.sound c)

pub every_run_keeps_its_promises : EveryRunKeepsItsPromises
every_run_keeps_its_promises = every_run every_turn
