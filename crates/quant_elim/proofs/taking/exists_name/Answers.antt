use Rattle.std.proofs.Common.{subst}
use Rattle.clause_set.specs.Kept.{AreFormed}
use Rattle.elim_laws.specs.Elimination.{IsOut, exists_name}
use Rattle.elim_laws.proofs.Taking.{exists_name-out}
use Rattle.quant_elim.proofs.Outcomes.{logged_by, value_with}
use Rattle.quant_elim.proofs.taking.exists_name.Goals as goal

pub returns-clause-charged : goal.returns-clause-charged
returns-clause-charged c = logged_by (exists_name c.args.x c.args.d.now) _ _ _ _ c.new.ensures c.name_out-outcome.ensures c.with_log.ensures

pub returns-clause-out : goal.returns-clause-out
returns-clause-out c =
    value_with (IsOut c.args.x c.args.d.now) (exists_name c.args.x c.args.d.now) _ _ _ _ c.new.ensures c.name_out-outcome.ensures c.with_log.ensures (exists_name-out c.args.x c.args.d.now (subst AreFormed c.clauses.ensures c.know_formed.ensures))
