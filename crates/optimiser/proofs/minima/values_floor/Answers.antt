use Rattle.std.proofs.Common.{◌^◌, sym, subst}
use Rattle.std.specs.Prelude.{All}
use Rattle.base_budget.proofs.Charging.{charged_value}
use Rattle.base_budget.proofs.Following.{followed_value}
use Rattle.quant_elim.proofs.Budgets.{below_budget}
use Rattle.parameter_solver.specs.Names.{IsOfName}
use Rattle.parameter_solver.proofs.Spanning.{all_out, all_entries}
use Rattle.optimiser.proofs.Levels.{begins_failed, begins_stopped, begins_done, left_names, same_log}
use Rattle.optimiser.proofs.minima.values_floor.Goals as goal

pub returns-in_err-both-clause-work : goal.returns-in_err-both-clause-work
returns-in_err-both-clause-work c =
    begins_failed c.args.names c.args.d.now c.args.t.now _ c.from_residual.result c.args.log.now.entries c.in_err-both.ensures c.from_residual.ensures.1

pub names_from-requires-clause-budget : goal.names_from-requires-clause-budget
names_from-requires-clause-budget c = below_budget (2 ^ 32) c.in_ok-both.ensures c.requires.budget

pub returns-in_err-left-clause-work : goal.returns-in_err-left-clause-work
returns-in_err-left-clause-work c =
    begins_stopped c.args.names c.args.d.now c.in_ok-both.both c.args.t.now _ c.from_residual-in_err-left.result c.args.log.now.entries _ c.in_ok-both.ensures (all_out c.args.names c.in_ok-both.both _ _ _ c.in_err-left.ensures)
    c.from_residual-in_err-left.ensures.1

pub dnf_floor-requires : goal.dnf_floor-requires
dnf_floor-requires c =
    subst (All (IsOfName c.args.names)) (sym c.clauses.ensures)
    (left_names c.args.names c.args.d.now c.in_ok-both.both c.in_ok-left.left c.args.t.now c.requires.task (charged_value c.in_ok-both.ensures) (followed_value (all_out c.args.names c.in_ok-both.both _ _ _ c.in_ok-left.ensures)))

pub returns-clause-work : goal.returns-clause-work
returns-clause-work c =
    begins_done c.args.names c.args.d.now c.in_ok-both.both c.in_ok-left.left c.args.t.now c.dnf_floor.result c.args.log.now.entries _ c.in_ok-both.ensures (all_out c.args.names c.in_ok-both.both _ _ _ c.in_ok-left.ensures)
    (rw c.clauses.ensures at c.dnf_floor.ensures.charged)

pub returns-clause-log : goal.returns-clause-log
returns-clause-log c =
    same_log c.args.names c.args.d.now c.in_ok-both.both c.args.t.now _ _ c.dnf_floor.result c.in_ok-both.ensures (all_entries c.args.names c.in_ok-both.both c.in_ok-left.left _ _ c.in_ok-left.ensures)
