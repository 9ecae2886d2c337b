use Rattle.elim_rule_laws.proofs.Merge.{merged-divisibilities}
use Rattle.elim_rule_laws.proofs.divisions.merged_law.Goals as goal

pub returns : goal.returns
returns k = merged-divisibilities
