use Rattle.std.proofs.Common.{sym, subst}
use Rattle.formula.specs.Tree.{form}
use Rattle.model_refuting.proofs.Body.{IsAbove, one_below, whole_above}
use Rattle.model_refuting.proofs.below.body_of.Goals as goal

pub loop-sort-init : goal.loop-sort-init
loop-sort-init c =
    let p = c.args.problem.now in
    let f = form c.args.encoded.now.root in
    subst (λ ss. IsAbove p ss f) (sym c.as_slice-types.ensures) (whole_above p f c.requires.well_formed c.requires.none c.requires.encoded.root)

pub loop-sort-preserved : goal.loop-sort-preserved
loop-sort-preserved c =
    one_below c.args.problem.now c.loop-sort.types.now c.in-Some.more.now c.in-Some.sort.now (form c.loop-sort.f.now) (form c.in-Some-below.g.now)
    c.in-Some.ensures.cases.0 c.in-Some-below.ensures c.loop-sort.invariant
