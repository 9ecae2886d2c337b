use Rattle.elim_rule_laws.proofs.Bezouts.{bezout-is, bezout-only}
use Rattle.elim_rule_laws.proofs.divisions.bezout_law.Goals as goal

pub returns : goal.returns
returns k = record { is = bezout-is; only = bezout-only }
