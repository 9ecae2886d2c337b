use Rattle.std.proofs.lemmas.List.Elements.{recursion_from_All}
use Rattle.clause_set.specs.Literals.{IsLiteral}
use Rattle.elim_rule_laws.proofs.EquationValues.{equation-value}
use Rattle.elim_rule_laws.proofs.EquationExactness.{equation-exact, equation-keeps}
use Rattle.elim_rule_laws.proofs.EquationProgress.{equation-free, equation-falls, equation-nearer}
use Rattle.elim_rule_laws.proofs.equation_rules.equation_rule_law.Goals as goal

pub returns : goal.returns
returns k = record {
  value = equation-value;
  exact = λ x i c e p a. (equation-exact x i c (recursion_from_All IsLiteral c p) a).met e;
  clauses = λ x i c e f a. (equation-keeps x i c f a).met e;
  formed = λ x i c f a. (equation-keeps x i c f a).formed;
  free = equation-free;
  falls = equation-falls;
  nearer = equation-nearer;
}
