use Rattle.std.proofs.Common.{arith, pos, sym, subst, ◌∙◌}
use Rattle.std.specs.Prelude.{All}
use Rattle.solve_laws.specs.Candidates.{IsAlone}
use Rattle.parameter_solver.proofs.OneName.{class_step, bounded_here, bounded_none, two_ok_range}
use Rattle.parameter_solver.proofs.single.bounded.Goals as goal

pub returns-then-is_divisibility-clause-work : goal.returns-then-is_divisibility-clause-work
returns-then-is_divisibility-clause-work c =
    bounded_here c.args.j c.args.c.now c.literals-l-items.result.now c.loop-l.l-index c.l-item.result c.lower-lo.result c.upper-hi.result c.by_class.result c.literals-l-items.ensures c.lower-lo.ensures.exact
    c.upper-hi.ensures.exact (omega arith) c.l-item.is (sym c.is_divisibility.ensures ∙ c.if-is_divisibility.true) c.loop-l.invariant c.by_class.ensures.work

pub loop-l-preserved : goal.loop-l-preserved
loop-l-preserved c =
    class_step c.args.j c.literals-l-items.result.now c.loop-l.l-index c.l-item.result (subst (All (IsAlone c.args.j)) (sym c.literals-l-items.ensures) c.requires) (omega arith) c.l-item.is
    (sym c.is_divisibility.ensures ∙ c.if-is_divisibility.false) c.loop-l.invariant

pub returns-clause-work : goal.returns-clause-work
returns-clause-work c =
    bounded_none c.args.j c.args.c.now c.literals-l-items.result.now c.loop-l.l-index c.lower-lo.result c.upper-hi.result c.two_between.result c.literals-l-items.ensures c.lower-lo.ensures.exact c.upper-hi.ensures.exact
    (omega arith) c.loop-l.invariant c.two_between.ensures

pub returns-clause-range : goal.returns-clause-range
returns-clause-range c = two_ok_range (pos 1) (pos 0) c.lower-lo.result c.upper-hi.result c.two_between.result c.two_between.ensures
