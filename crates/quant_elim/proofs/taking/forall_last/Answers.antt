use Rattle.std.proofs.Common.{subst, ◌-◌}
use Rattle.clause_set.specs.Kept.{AreFormed}
use Rattle.elim_laws.specs.Elimination.{IsEvery, for_all_name}
use Rattle.elim_laws.proofs.Always.{for_all_name-every}
use Rattle.quant_elim.proofs.Outcomes.{logged_by, value_with}
use Rattle.quant_elim.proofs.taking.forall_last.Goals as goal

pub returns-clause-charged : goal.returns-clause-charged
returns-clause-charged c = logged_by (for_all_name (c.args.names - 1) c.args.d.now) _ _ _ _ c.new.ensures c.all_values-outcome.ensures c.with_log.ensures

pub returns-clause-every : goal.returns-clause-every
returns-clause-every c =
    value_with (IsEvery (c.args.names - 1) c.args.d.now) (for_all_name (c.args.names - 1) c.args.d.now) _ _ _ _ c.new.ensures c.all_values-outcome.ensures c.with_log.ensures
    (for_all_name-every (c.args.names - 1) c.args.d.now (subst AreFormed c.clauses.ensures c.know_formed.ensures))
