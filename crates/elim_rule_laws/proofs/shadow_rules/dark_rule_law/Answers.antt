use Rattle.elim_rule_laws.proofs.ShadowExactness.{dark-met}
use Rattle.elim_rule_laws.proofs.Forms.{dark-kept, dark-formed, dark-nearer}
use Rattle.elim_rule_laws.proofs.ShadowProgress.{dark-falls}
use Rattle.elim_rule_laws.proofs.ShadowValues.{dark-value}
use Rattle.elim_rule_laws.proofs.shadow_rules.dark_rule_law.Goals as goal

pub returns : goal.returns
returns c = record { value = dark-value; exact = dark-met; clauses = dark-kept; formed = dark-formed; falls = dark-falls; nearer = dark-nearer }
