use Rattle.std.proofs.Common.{rules, to_z-of_z}
use mir.Syntax.{w128}
use mir.Val.{SFits}
use Rattle.countermodel.proofs.Joining.{all_behind, none_behind, none_left, one_behind}
use Rattle.countermodel.proofs.probing.probe.Goals as goal

pub loop-sort-init : goal.loop-sort-init
loop-sort-init c = all_behind c.new-values.result c.as_slice-rest.result.now c.args.p.now.existential_types c.new-values.ensures c.as_slice-rest.ensures

pub returns-in-None : goal.returns-in-None
returns-in-None c = none_behind c.loop-sort.values c.in-Some.sort.now c.loop-sort.rest.now c.in-Some.more.now c.probe_value.result _ c.in-Some.ensures.cases.0 c.loop-sort.invariant c.probe_value.ensures c.in-None.is

pub loop-sort-preserved : goal.loop-sort-preserved
loop-sort-preserved c =
    let f : SFits w128 c.in-Some-probe_value.v = search rules in
    one_behind c.loop-sort.values c.push.new.self c.in-Some-probe_value.v c.in-Some.sort.now c.loop-sort.rest.now c.in-Some.more.now c.probe_value.result _ c.in-Some.ensures.cases.0 c.loop-sort.invariant c.probe_value.ensures c.in-Some-probe_value.is
    (simp to_z-of_z at c.in_ok-push-in-Some-probe_value.ensures.ok)

pub returns : goal.returns
returns c = none_left c.loop-sort.values c.loop-sort.rest.now _ c.in_default.ensures.cases c.loop-sort.invariant
