use Rattle.std.proofs.Common.{rules, ◌≡◌, ◌<◌, ◌≤◌, ℤ, List, length, refl, sym, ap, ◌∙◌, subst, arith, to_z-of_z}
use mir.Syntax.{w128}
use mir.Val.{SFits}
use Rattle.linear_term.specs.Linear.{value_of}
use Rattle.formula.specs.Form.{conjunction, and_form, no_form}
use Rattle.formula.specs.Tree.{form}
use Rattle.model_formulas.specs.Expansions.{Same}
use Rattle.model_formulas.proofs.Chosen.{cases_go, differs_said, differing_ends}
use Rattle.model_formulas.proofs.choosing.differing.Goals as goal

pub loop-guard-preserved : goal.loop-guard-preserved
loop-guard-preserved c =
    let lt : c.loop-guard.guard-index < length c.args.guards.now = omega arith in
    let f : SFits w128 c.guard-item.result.value = search rules in
    λ V chosen w n.
    cases_go w n (λ e v. ¬ (v ≡ value_of c.args.u.now e)) c.args.guards.now c.loop-guard.guard-index c.guard-item.result c.loop-guard.out c.push_any.new.out c.in_ok-other.other c.in_ok-g.g lt c.guard-item.is chosen.pure
    (differs_said w n c.in_ok-same.same c.in_ok-other.other c.args.u.now c.guard-item.result.value c.in_ok-other.ensures (simp to_z-of_z at c.in_ok-same.ensures))
    (subst (λ z. Same n (conjunction (and_form (form z) (and_form (form c.in_ok-other.other) no_form))) (form c.in_ok-g.g)) c.in_ok-when.ensures (c.in_ok-g.ensures n))
    (c.in_ok-push_any.ensures n) (c.loop-guard.invariant V chosen w n)

pub returns : goal.returns
returns c =
    let le : length c.args.guards.now ≤ c.loop-guard.guard-index = omega arith in
    λ V chosen. differing_ends V c.args.guards.now c.loop-guard.guard-index c.loop-guard.out (form c.any.result) c.args.u.now le chosen c.any.ensures (c.loop-guard.invariant V chosen)
