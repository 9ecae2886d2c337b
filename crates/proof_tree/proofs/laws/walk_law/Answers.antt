use Rattle.std.proofs.Common.{ap, Some, ◌∙◌}
use Rattle.proof_tree.proofs.Walking.{gives_walked, walked_gives}
use Rattle.proof_tree.proofs.laws.walk_law.Goals as goal

pub returns : goal.returns
returns c = λ n s x d. (walked_gives x n s d, λ g. gives_walked x n s g.0 ∙ ap Some g.1)
