use Rattle.std.proofs.Common.{ap, arith, refl, subst, suc, sym}
use Rattle.smt_writing.specs.declared.places.Head.TheVariants as heads
use Rattle.smt_writing.specs.declared.places.Step.TheVariants as steps
use Rattle.smt_writing.specs.Layers.{own_count}
use Rattle.smt_writing.specs.Places.{Reaches, name_height, name_said}
use Rattle.smt_writing.proofs.Reaching.{finds_argument, finds_bound, finds_nothing, finds_variable}
use Rattle.smt_writing.proofs.places.look_up.Goals as goal

pub returns-then-i-count : goal.returns-then-i-count
returns-then-i-count c =
    let many = ap own_count c.in-Variables.is in
    let past = c.if-i-count.true in
    finds_nothing c.args.layers.now.items c.args.layer c.args.i c.requires.layered (omega (arith, many, past))

pub returns-then-i-bodies : goal.returns-then-i-bodies
returns-then-i-bodies c =
    let many = ap own_count c.in-Bound.is in
    let past = c.if-i-bodies.true in
    finds_nothing c.args.layers.now.items c.args.layer c.args.i c.requires.layered (omega (arith, many, past))

pub returns-then-i-arguments : goal.returns-then-i-arguments
returns-then-i-arguments c =
    let many = ap own_count c.in-Arguments.is in
    let past = c.if-i-arguments.true in
    finds_nothing c.args.layers.now.items c.args.layer c.args.i c.requires.layered (omega (arith, many, past))

pub returns-in_ok-name-in-Variables : goal.returns-in_ok-name-in-Variables
returns-in_ok-name-in-Variables c =
    let ls = c.args.layers.now.items in
    subst (λ k. Reaches ls (name_said ls c.args.layer c.args.i) (suc (name_height ls c.args.layer c.args.i)) ls (steps.Last (heads.Name k))) (sym c.in_ok-name-in-Variables.ensures)
    (finds_variable ls c.args.layer c.in-Variables.count c.in-Variables.first c.args.i c.requires.layered c.in-Variables.is (omega (arith, c.if-i-count.false)))

pub returns-in_ok-layer-in-Bound : goal.returns-in_ok-layer-in-Bound
returns-in_ok-layer-in-Bound c =
    let kept = c.in_ok-layer-in-Bound.ensures in
    finds_bound c.args.layers.now.items c.push.new.layers.items c.args.layer c.in-Bound.bodies c.in-Bound.definitions c.args.i _ kept.layered kept.extends kept.last kept.said kept.height
    c.in-Bound.is (omega (arith, c.if-i-bodies.false)) refl c.index-bodies-i.is

pub returns-else-i-arguments : goal.returns-else-i-arguments
returns-else-i-arguments c =
    finds_argument c.args.layers.now.items c.args.layer c.in-Arguments.arguments c.in-Arguments.definitions c.args.i _ c.requires.layered c.in-Arguments.is c.requires.within
    (omega (arith, c.if-i-arguments.false)) refl refl c.index-arguments-i.is
