use Rattle.elim_laws.proofs.First.{first_is_rule, none_first, free_first, split_late}
use Rattle.elim_laws.proofs.laws.first_rule_law.Goals as goal

pub returns-clause-none : goal.returns-clause-none
returns-clause-none c = λ x d. (none_first x d, free_first x d)

pub returns-clause-first : goal.returns-clause-first
returns-clause-first c = λ x d e h. (first_is_rule x d e h).applies

pub returns-clause-nearer : goal.returns-clause-nearer
returns-clause-nearer c = λ x d e h. (first_is_rule x d e h).nearer

pub returns-clause-late : goal.returns-clause-late
returns-clause-late c = split_late
