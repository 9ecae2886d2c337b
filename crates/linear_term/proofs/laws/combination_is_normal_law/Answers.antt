use Rattle.linear_term.proofs.Normal.{normal-combination}
use Rattle.linear_term.proofs.laws.combination_is_normal_law.Goals as goal

pub returns : goal.returns
returns c = λ m s n t. normal-combination m n s t
