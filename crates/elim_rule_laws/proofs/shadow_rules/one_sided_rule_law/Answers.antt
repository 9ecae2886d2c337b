use Rattle.elim_rule_laws.proofs.ShadowExactness.{one_sided-met}
use Rattle.elim_rule_laws.proofs.Forms.{one_sided-kept, one_sided-formed, one_sided-nearer}
use Rattle.elim_rule_laws.proofs.ShadowProgress.{one_sided-falls}
use Rattle.elim_rule_laws.proofs.ShadowValues.{one_sided-value}
use Rattle.elim_rule_laws.proofs.shadow_rules.one_sided_rule_law.Goals as goal

pub returns : goal.returns
returns c = record { value = one_sided-value; exact = one_sided-met; clauses = one_sided-kept; formed = one_sided-formed; falls = one_sided-falls; nearer = one_sided-nearer }
