use Rattle.std.proofs.Common.{arith, length-take}
use Rattle.memory.specs.Layouts.{most}
use Rattle.memory.proofs.cells.cell_count.Goals as goal

pub returns : goal.returns
returns c = omega (arith, length-take most c.args.cells.now)
