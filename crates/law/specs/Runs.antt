-- Runs: lists of calls on one new ledger and one memory.
--   Run              what a run has come to: the memory as found, the state, the book, the bytes slid and the distances so far
--   begun m          a new ledger, over a memory with the bytes m
--   gone r c o       the run r after the call c, which came to o
--   run f r cs       the run r after the calls cs, where f are the memory's faults
use Rattle.std.specs.Prelude.{ℕ, ◌+◌, List, [], ◌∷◌, replicate, None}
use Rattle.memory.specs.declared.fault.MemoryFault.{MemoryFault}
use Rattle.table.specs.Tables.{new_table}
use Rattle.law.specs.Book.{Book, distance, feed, slid_by}
use Rattle.law.specs.Calls.{Answer, Call, State, turn}

pub record Run : Type 0 where
  pub found : List ℕ
  pub state : State
  pub book : Book
  pub slid : ℕ
  pub distances : ℕ

abbrev pub begun : List ℕ → Run
begun m = record { found = m; state = record { table = new_table; memory = m }; book = replicate 64 None; slid = 0; distances = 0 }

abbrev pub gone : Run → Call → Answer × State → Run
gone r c o = record {
  found = r.found;
  state = o.1;
  book = feed r.found r.book c o.0;
  slid = r.slid + slid_by o.0;
  distances = r.distances + distance r.book c o.0;
}

abbrev pub run : (ℕ → MemoryFault) → Run → List Call → Run
run f r [] = r
run f r (c ∷ cs) = run f (gone r c (turn f r.state c)) cs
