use Rattle.elim_laws.proofs.Taking.{rule_keeps}
use Rattle.elim_laws.proofs.Names.{rule-lacks}
use Rattle.elim_laws.proofs.laws.rule_law.Goals as goal

pub returns-clause-met : goal.returns-clause-met
returns-clause-met c = λ x d e f a. (rule_keeps x d e f a).met

pub returns-clause-formed : goal.returns-clause-formed
returns-clause-formed c = λ x d e f a. (rule_keeps x d e f a).formed

pub returns-clause-names : goal.returns-clause-names
returns-clause-names c = rule-lacks
