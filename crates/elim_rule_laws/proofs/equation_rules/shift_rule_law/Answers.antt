use Rattle.std.proofs.lemmas.List.Elements.{recursion_from_All}
use Rattle.clause_set.specs.Formed.{IsFormed}
use Rattle.elim_rule_laws.proofs.EquationValues.{shift-value}
use Rattle.elim_rule_laws.proofs.EquationExactness.{shift-exact, shift-keeps}
use Rattle.elim_rule_laws.proofs.EquationProgress.{shift-falls, shift-nearer}
use Rattle.elim_rule_laws.proofs.equation_rules.shift_rule_law.Goals as goal

pub returns : goal.returns
returns k = record {
  value = shift-value;
  exact = λ x i c e f a. (shift-exact x i c (recursion_from_All IsFormed c f) a).met e;
  clauses = λ x i c e f a. (shift-keeps x i c f a).met e;
  formed = λ x i c f a. (shift-keeps x i c f a).formed;
  falls = shift-falls;
  nearer = shift-nearer;
}
