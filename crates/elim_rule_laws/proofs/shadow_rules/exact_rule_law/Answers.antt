use Rattle.elim_rule_laws.proofs.ShadowExactness.{exact-met}
use Rattle.elim_rule_laws.proofs.Forms.{exact-kept, exact-formed, exact-nearer}
use Rattle.elim_rule_laws.proofs.ShadowProgress.{exact-falls}
use Rattle.elim_rule_laws.proofs.ShadowValues.{exact-value}
use Rattle.elim_rule_laws.proofs.shadow_rules.exact_rule_law.Goals as goal

pub returns : goal.returns
returns c = record { value = exact-value; exact = exact-met; clauses = exact-kept; formed = exact-formed; falls = exact-falls; nearer = exact-nearer }
