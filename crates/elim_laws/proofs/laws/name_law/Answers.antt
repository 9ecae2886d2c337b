use Rattle.elim_laws.proofs.Taking.{taken_out-rule, exists_name-out}
use Rattle.elim_laws.proofs.Always.{for_all_name-every}
use Rattle.elim_laws.proofs.Names.{exists_name-lacks}
use Rattle.elim_laws.proofs.laws.name_law.Goals as goal

pub returns-clause-first : goal.returns-clause-first
returns-clause-first c = taken_out-rule

pub returns-clause-out : goal.returns-clause-out
returns-clause-out c = exists_name-out

pub returns-clause-every : goal.returns-clause-every
returns-clause-every c = for_all_name-every

pub returns-clause-names : goal.returns-clause-names
returns-clause-names c = exists_name-lacks
