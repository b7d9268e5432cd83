use Rattle.std.proofs.Common.{length, refl, ap, ◌∙◌, length-set}
use Rattle.memory.specs.Faults.{own_fault}
use Rattle.memory.specs.Layouts.{first_bytes}
use Rattle.memory.proofs.slice.SliceMemoryMemory.put.Goals as goal

pub returns : goal.returns
returns c = record {
  answer = c.put_cell.ensures.answer;
  memory = c.put_cell.ensures.memory;
  faults = ap own_fault (ap length c.put_cell.ensures.memory ∙ length-set (first_bytes c.args.self.now.slice.now) c.args.position c.args.byte);
  named = refl;
}
