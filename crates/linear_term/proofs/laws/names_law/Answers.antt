use Rattle.linear_term.proofs.Names.{combination-unmentioned, combination-over}
use Rattle.linear_term.proofs.laws.names_law.Goals as goal

pub returns : goal.returns
returns c = record {
  unmentioned = λ m s n t. combination-unmentioned m n s t;
  over = λ k m s n t. combination-over k m n s t;
}
