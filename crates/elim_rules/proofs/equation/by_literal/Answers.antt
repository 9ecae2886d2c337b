use Rattle.std.proofs.Common.{rules, to_z-of_z}
use mir.Syntax.{w128}
use mir.Val.{SFits}
use Rattle.base_budget.proofs.Charging.{work_ok, work_err, work_just}
use Rattle.elim_rules.proofs.Solving.{solves, solved_at, solved_formed}
use Rattle.elim_rules.proofs.equation.by_literal.Goals as goal

pub returns-in_err-solved : goal.returns-in_err-solved
returns-in_err-solved c =
    let q = solves c.in_ok-q.q c.args.x c.args.l.now c.term.result.now c.term.ensures c.in_ok-q.ensures.name c.in_ok-q.ensures.coefficient c.in_ok-q.ensures.rest in
    work_err _ _ c.from_residual-in_err-solved.result c.from_residual-in_err-solved.ensures.1 (solved_at c.in_ok-q.q c.args.x c.args.l.now c.args.rest.now _ q c.in_err-solved.ensures.work)

pub returns : goal.returns
returns c =
    let n : SFits w128 c.size.result = search rules in
    let q = solves c.in_ok-q.q c.args.x c.args.l.now c.term.result.now c.term.ensures c.in_ok-q.ensures.name c.in_ok-q.ensures.coefficient c.in_ok-q.ensures.rest in
    work_ok _ _ (solved_at c.in_ok-q.q c.args.x c.args.l.now c.args.rest.now _ q c.in_ok-solved.ensures.work)
    (work_just _ _ (solved_formed c.in_ok-q.q c.args.x c.args.l.now c.size.result c.in_ok-literals.literals c.in_ok-solved.solved c.append.new.self c.in_ok-in_form.field-0 q c.size.ensures.exact
    (simp to_z-of_z at c.in_ok-literals.ensures) c.in_ok-append.ensures c.in_ok-in_form.ensures))
