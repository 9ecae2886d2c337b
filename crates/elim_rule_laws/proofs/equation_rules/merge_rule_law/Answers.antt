use Rattle.std.proofs.lemmas.List.Elements.{recursion_from_All}
use Rattle.clause_set.specs.Formed.{IsFormed}
use Rattle.elim_rule_laws.proofs.EquationValues.{merge-value}
use Rattle.elim_rule_laws.proofs.EquationExactness.{merge-same, merge-keeps}
use Rattle.elim_rule_laws.proofs.EquationProgress.{merge-falls, merge-nearer}
use Rattle.elim_rule_laws.proofs.equation_rules.merge_rule_law.Goals as goal

pub returns : goal.returns
returns k = record {
  value = merge-value;
  same = λ x i j c e f a. merge-same x i j c e (recursion_from_All IsFormed c f) a;
  clauses = λ x i j c e f a. (merge-keeps x i j c f a).met e;
  formed = λ x i j c f a. (merge-keeps x i j c f a).formed;
  falls = merge-falls;
  nearer = merge-nearer;
}
