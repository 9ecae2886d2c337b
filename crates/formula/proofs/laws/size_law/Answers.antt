use Rattle.formula.proofs.Sameness.{size_shifted, depth_shifted, size_dual, depth_dual}
use Rattle.formula.proofs.laws.size_law.Goals as goal

pub returns-clause-shifted : goal.returns-clause-shifted
returns-clause-shifted c = size_shifted

pub returns-clause-shifted_depth : goal.returns-clause-shifted_depth
returns-clause-shifted_depth c = depth_shifted

pub returns-clause-dual : goal.returns-clause-dual
returns-clause-dual c = size_dual

pub returns-clause-dual_depth : goal.returns-clause-dual_depth
returns-clause-dual_depth c = depth_dual
