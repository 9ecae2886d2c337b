use Rattle.std.proofs.Common.{rules, sym, subst, ap, ◌∙◌, to_z-of_z, pos, ◌<ℤ◌}
use mir.Syntax.{w128}
use mir.Val.{SFits}
use Rattle.linear_term.specs.Linear.{coef_of}
use Rattle.clause_set.specs.Literals.{term_of}
use Rattle.clause_set.specs.Order.{divisor_of}
use Rattle.parameter_solver.proofs.OneName.{coefficient_positive, divisibility_alone, class_failed, class_done, two_ok_range}
use Rattle.parameter_solver.proofs.single.by_class.Goals as goal

pub residue-requires-clause-positive : goal.residue-requires-clause-positive
residue-requires-clause-positive c =
    let b : SFits w128 c.coef.result = search rules in
    simp to_z-of_z
    (subst (λ k. pos 0 <ℤ k) (sym (c.coef.ensures.exact ∙ ap (λ z. coef_of z c.args.j) c.term-t.ensures))
    (coefficient_positive c.args.j (divisor_of c.args.l.now) (term_of c.args.l.now) (divisibility_alone c.args.j c.args.l.now c.requires.divisibility c.requires.alone)))

pub returns-in_err-r-clause-work : goal.returns-in_err-r-clause-work
returns-in_err-r-clause-work c =
    let b : SFits w128 c.coef.result = search rules in
    let d : SFits w128 c.divisor-d.result = search rules in
    let k : SFits w128 c.constant.result = search rules in
    class_failed c.args.j c.args.l.now c.term-t.result.now c.coef.result c.divisor-d.result c.constant.result c.args.lo c.args.hi _ c.from_residual.result c.term-t.ensures c.coef.ensures.exact
    c.divisor-d.ensures c.constant.ensures.exact (simp to_z-of_z at c.in_err-r.ensures.work) c.from_residual.ensures.1

pub returns-clause-work : goal.returns-clause-work
returns-clause-work c =
    let b : SFits w128 c.coef.result = search rules in
    let d : SFits w128 c.divisor-d.result = search rules in
    let k : SFits w128 c.constant.result = search rules in
    let r : SFits w128 c.in_ok-r.r = search rules in
    class_done c.args.j c.args.l.now c.term-t.result.now c.coef.result c.divisor-d.result c.constant.result c.in_ok-r.r c.args.lo c.args.hi c.two_between.result c.term-t.ensures
    c.coef.ensures.exact c.divisor-d.ensures c.constant.ensures.exact (simp to_z-of_z at c.in_ok-r.ensures.work) (simp to_z-of_z at c.two_between.ensures)

pub returns-clause-range : goal.returns-clause-range
returns-clause-range c =
    let d : SFits w128 c.divisor-d.result = search rules in
    let r : SFits w128 c.in_ok-r.r = search rules in
    two_ok_range c.divisor-d.result c.in_ok-r.r c.args.lo c.args.hi c.two_between.result (simp to_z-of_z at c.two_between.ensures)
