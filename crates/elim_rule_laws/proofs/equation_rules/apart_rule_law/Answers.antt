use Rattle.std.proofs.lemmas.List.Elements.{recursion_from_All}
use Rattle.clause_set.specs.Literals.{IsLiteral}
use Rattle.elim_rule_laws.proofs.EquationValues.{apart-value}
use Rattle.elim_rule_laws.proofs.EquationExactness.{apart-same, apart-keeps}
use Rattle.elim_rule_laws.proofs.EquationProgress.{apart-falls, apart-nearer}
use Rattle.elim_rule_laws.proofs.equation_rules.apart_rule_law.Goals as goal

pub returns : goal.returns
returns k = record {
  value = apart-value;
  same = λ x i c e p a. apart-same x i c e (recursion_from_All IsLiteral c p) a;
  clauses = λ x i c e f a. (apart-keeps x i c f a).met e;
  formed = λ x i c f a. (apart-keeps x i c f a).formed;
  falls = apart-falls;
  nearer = apart-nearer;
}
