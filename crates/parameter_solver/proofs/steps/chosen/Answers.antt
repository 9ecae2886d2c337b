use Rattle.std.proofs.Common.{arith, refl, rules, sym, ap, subst, ◌∙◌, to_z-of_z, ℤ, List, Result, Err}
use Rattle.base_budget.specs.declared.fault.StepFault.{StepFault}
use Rattle.base_budget.specs.declared.fault.StepFault.TheVariants.{Memory}
use mir.Syntax.{w128}
use mir.Val.{SFits}
use Rattle.linear_term.specs.Range.{InRange}
use Rattle.base_budget.proofs.Charging.{drop-item, drop_all, remains_next, remains_ends, then_ok, then_err, then_just, then_fault, no_memory}
use Rattle.solve_laws.specs.Nearest.{nearest}
use Rattle.solve_laws.specs.Solutions.{chosen}
use Rattle.parameter_solver.proofs.Parting.{name_item, range_append, nearest_range}
use Rattle.parameter_solver.proofs.steps.chosen.Goals as goal

pub charged_candidates-requires : goal.charged_candidates-requires
charged_candidates-requires c = name_item c.args.j c.args.cs.now c.loop-c.c-index c.c-item.result c.requires (omega arith) c.c-item.is

pub loop-c-preserved : goal.loop-c-preserved
loop-c-preserved c =
    let item = drop-item c.args.cs.now c.loop-c.c-index c.c-item.result (omega arith) c.c-item.is in
    let inv = rw item at c.loop-c.invariant.work in
    record {
      work = rw c.in_ok-append.ensures (remains_next _ _ inv c.in_ok-charged_candidates.ensures.charged);
      range = range_append _ _ _ c.in_ok-append.ensures c.loop-c.invariant.range c.in_ok-charged_candidates.ensures.range;
    }

pub returns-clause-charged : goal.returns-clause-charged
unfolding chosen
returns-clause-charged c =
    let none = drop_all c.args.cs.now c.loop-c.c-index (omega arith) in
    let inv = rw none at c.loop-c.invariant.work in
    let v : SFits w128 c.nearest.result = search rules in
    simp to_z-of_z (then_ok _ _ (remains_ends inv (then_just c.loop-c.vs c.loop-c.vs refl)) (then_just _ c.nearest.result (c.nearest.ensures ∙ ap nearest c.as_slice.ensures)))

pub returns-clause-range : goal.returns-clause-range
returns-clause-range c =
    let v : SFits w128 c.nearest.result = search rules in
    simp to_z-of_z (subst InRange (sym (c.nearest.ensures ∙ ap nearest c.as_slice.ensures)) (nearest_range c.loop-c.vs c.loop-c.invariant.range))

pub returns-in_err-charged_candidates-clause-charged : goal.returns-in_err-charged_candidates-clause-charged
unfolding chosen
returns-in_err-charged_candidates-clause-charged c =
    let item = drop-item c.args.cs.now c.loop-c.c-index c.c-item.result (omega arith) c.c-item.is in
    let inv = rw item at c.loop-c.invariant.work in
    then_err _ _ c.from_residual.result c.from_residual.ensures.1 (remains_ends inv (then_fault _ _ c.in_err-charged_candidates.ensures.charged))

pub returns-in_err-append-clause-charged : goal.returns-in_err-append-clause-charged
unfolding chosen
returns-in_err-append-clause-charged c =
    let item = drop-item c.args.cs.now c.loop-c.c-index c.c-item.result (omega arith) c.c-item.is in
    let inv = rw item at c.loop-c.invariant.work in
    let stop : Result (List ℤ) StepFault = Err Memory in
    then_err _ _ c.from_residual-in_err-append.result c.from_residual-in_err-append.ensures.1 (remains_ends (remains_next _ _ inv c.in_ok-charged_candidates.ensures.charged) (no_memory stop refl))
