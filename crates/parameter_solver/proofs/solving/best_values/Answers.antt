use Rattle.std.proofs.Common.{◌^◌, ◌≡◌, arith, sym, ◌∙◌, length}
use Rattle.base_budget.proofs.Following.{follow_ok, follow_err}
use Rattle.quant_elim.proofs.Budgets.{below_budget}
use Rattle.elim_laws.specs.Whole.{names_out}
use Rattle.solve_laws.specs.Solutions.{answered, solving}
use Rattle.parameter_solver.proofs.Spanning.{all_out, all_entries}
use Rattle.parameter_solver.proofs.Answered.{answered_none, answered_some, answered_err}
use Rattle.parameter_solver.proofs.solving.best_values.Goals as goal

pub returns-in_err-left-clause-work : goal.returns-in_err-left-clause-work
unfolding solving
returns-in_err-left-clause-work c = follow_err (names_out c.args.names c.args.d.now) (answered c.args.names c.args.d.now) c.from_residual.result c.from_residual.ensures.1 (all_out c.args.names c.args.d.now _ _ _ c.in_err-left.ensures)

pub returns-then-len-eq0-clause-work : goal.returns-then-len-eq0-clause-work
unfolding solving
returns-then-len-eq0-clause-work c =
    follow_ok (names_out c.args.names c.args.d.now) (answered c.args.names c.args.d.now) (all_out c.args.names c.args.d.now _ _ _ c.in_ok-left.ensures)
    (answered_none c.args.names c.args.d.now c.in_ok-left.left (sym c.len.ensures ∙ c.if-len-eq0.true))

pub values-requires-clause-budget : goal.values-requires-clause-budget
values-requires-clause-budget c = below_budget (2 ^ 32) c.in_ok-left.ensures c.requires.budget

pub returns-in_err-values-clause-work : goal.returns-in_err-values-clause-work
unfolding solving
returns-in_err-values-clause-work c =
    let some : ¬ (length c.in_ok-left.left ≡ 0) = λ e. absurd (let test = c.if-len-eq0.false in let is = c.len.ensures in omega (arith, test, is, e)) in
    follow_ok (names_out c.args.names c.args.d.now) (answered c.args.names c.args.d.now) (all_out c.args.names c.args.d.now _ _ _ c.in_ok-left.ensures)
    (answered_err c.args.names c.args.d.now c.in_ok-left.left _ c.from_residual-in_err-values.result some c.in_err-values.ensures c.from_residual-in_err-values.ensures.1)

pub returns-clause-work : goal.returns-clause-work
unfolding solving
returns-clause-work c =
    let some : ¬ (length c.in_ok-left.left ≡ 0) = λ e. absurd (let test = c.if-len-eq0.false in let is = c.len.ensures in omega (arith, test, is, e)) in
    follow_ok (names_out c.args.names c.args.d.now) (answered c.args.names c.args.d.now) (all_out c.args.names c.args.d.now _ _ _ c.in_ok-left.ensures)
    (answered_some c.args.names c.args.d.now c.in_ok-left.left c.in_ok-values.field-0 some c.in_ok-values.ensures)

pub returns-then-len-eq0-clause-none : goal.returns-then-len-eq0-clause-none
returns-then-len-eq0-clause-none c = λ h. all_entries c.args.names c.args.d.now c.in_ok-left.left _ _ c.in_ok-left.ensures
