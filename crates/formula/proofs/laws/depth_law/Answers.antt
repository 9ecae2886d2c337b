use Rattle.formula.proofs.Depths.{below_depth}
use Rattle.formula.proofs.laws.depth_law.Goals as goal

pub returns : goal.returns
returns c = below_depth
