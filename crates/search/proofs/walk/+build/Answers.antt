use Rattle.std.proofs.Common.{◌≡◌, ◌+◌, ◌-◌, ◌^◌, ◌++◌, ◌∷◌, [], ◌∙◌, Ok, Some, ap, arith, refl, subst, sym}
use Rattle.std.specs.List.{slice_get}
use Rattle.base_budget.proofs.Advancing.{followed_later}
use Rattle.base_budget.proofs.Charging.{drop_all}
use Rattle.quant_elim.proofs.Budgets.{below_budget}
use Rattle.tree_branch.specs.Passed.{IsPassed}
use Rattle.tree_branch.specs.Standing.{LeadsBack, held, premises_from, rule_at, standing}
use Rattle.tree_branch.specs.declared.branch.Branch.{Branch}
use Rattle.sequent.specs.Views.{HasRoom}
use Rattle.sequent.specs.declared.member.Pick.TheVariants.{Close}
use Rattle.sequent.proofs.Members.{all_at}
use Rattle.proof_tree.specs.Walk.{fee}
use Rattle.search.specs.Building.{built}
use Rattle.tree_branch.specs.Within.{IsWithin}
use Rattle.search.proofs.Growing.{all_grown, all_numbered, built_then, item_at, made_none, made_some, no_level, node_cut, node_made, node_none, node_paid, node_unpaid, premise_built, premise_cut, premise_memory, premise_none, stepping_memory, stepping_starts}
use Rattle.tree_branch.proofs.Keeping.{premises_few, premises_within, within_room}
use Rattle.search.proofs.walk.+build.Goals as goal

-- ---- which rule comes first
pub build-returns-then-left-eq0-clause-work : goal.build-returns-then-left-eq0-clause-work
build-returns-then-left-eq0-clause-work t c = made_none (no_level c.args.plan.now.limit c.args.left c.args.course.now.nodes (standing c.args.branch.now) c.if-left-eq0.true)

pub build-returns-in-Some-clause-work : goal.build-returns-in-Some-clause-work
build-returns-in-Some-clause-work t c =
    let p = c.in-Some.principal in
    built_then c.args.plan.now.limit c.args.left (standing c.args.branch.now) (rule_at p.shape p.index) c.args.course.now c.grow.result c.if-left-eq0.false c.in-Some.ensures.rule c.grow.ensures.work

pub build-returns-in-None-clause-work : goal.build-returns-in-None-clause-work
build-returns-in-None-clause-work t c =
    built_then c.args.plan.now.limit c.args.left (standing c.args.branch.now) Close c.args.course.now c.close.result c.if-left-eq0.false c.in-None.ensures.rule (c.close.ensures (built c.args.plan.now.limit (c.args.left - 1)))

-- ---- a node with a principal
pub grow-returns-in_err-step-clause-work : goal.grow-returns-in_err-step-clause-work
grow-returns-in_err-step-clause-work t c =
    let s = standing c.args.branch.now in
    let rule = rule_at c.args.principal.now.shape c.args.principal.now.index in
    node_unpaid (built c.args.plan.now.limit c.args.left) s rule c.args.course.now c.from_residual.result (c.enter.ensures c.args.course.now.nodes) c.from_residual.ensures.1 (c.in_err-step.ensures (fee s rule) c.principal_fee.ensures)

pub grow-build_all-requires : goal.grow-build_all-requires
grow-build_all-requires t c =
    let s = standing c.args.branch.now in
    let rule = rule_at c.args.principal.now.shape c.args.principal.now.index in
    let paid = c.in_ok-step.ensures (fee s rule) c.principal_fee.ensures in
    let now = node_paid s rule c.args.course.now (c.enter.ensures c.args.course.now.nodes) c.requires.funds c.requires.paid paid in
    (omega (arith, c.decreases), (c.requires.principal, (c.requires.passed, (c.requires.behind, (c.requires.within, (below_budget (2 ^ 32) paid c.requires.budget, (now.1, now.0)))))))

pub grow-returns-in_err-children-clause-work : goal.grow-returns-in_err-children-clause-work
grow-returns-in_err-children-clause-work t c =
    let s = standing c.args.branch.now in
    let rule = rule_at c.args.principal.now.shape c.args.principal.now.index in
    node_cut (built c.args.plan.now.limit c.args.left) s rule c.args.course.now c.from_residual-in_err-children.result (c.enter.ensures c.args.course.now.nodes) (c.in_ok-step.ensures (fee s rule) c.principal_fee.ensures)
    c.from_residual-in_err-children.ensures.1 (c.in_err-children.ensures.work.err _ refl)

pub grow-finish-requires-clause-budget : goal.grow-finish-requires-clause-budget
grow-finish-requires-clause-budget t c =
    let s = standing c.args.branch.now in
    let rule = rule_at c.args.principal.now.shape c.args.principal.now.index in
    below_budget (2 ^ 32) (c.in_ok-children.ensures.work.some c.in-Some.children (ap Ok c.in-Some.is)).1.charged (below_budget (2 ^ 32) (c.in_ok-step.ensures (fee s rule) c.principal_fee.ensures) c.requires.budget)

pub grow-returns-in-Some-clause-work : goal.grow-returns-in-Some-clause-work
grow-returns-in-Some-clause-work t c =
    let s = standing c.args.branch.now in
    let rule = rule_at c.args.principal.now.shape c.args.principal.now.index in
    let same = rw c.in-Some.is at c.in_ok-children.ensures.back in
    let all = c.in_ok-children.ensures.work.some c.in-Some.children (ap Ok c.in-Some.is) in
    let paid = c.in_ok-step.ensures (fee s rule) c.principal_fee.ensures in
    let now = node_paid s rule c.args.course.now (c.enter.ensures c.args.course.now.nodes) c.requires.funds c.requires.paid paid in
    let later = followed_later _ now.1 all.1 in
    node_made c.args.plan.now.keeps (built c.args.plan.now.limit c.args.left) s rule c.args.course.now all.0 c.in-Some.children c.finish.result (c.enter.ensures c.args.course.now.nodes) paid all.1 all.2 later.within
    (rw same at (c.finish.ensures c.args.course.now.nodes all.0 (rw (sym same) at all.2.trees)))

pub grow-returns-in-None-clause-work : goal.grow-returns-in-None-clause-work
grow-returns-in-None-clause-work t c =
    let s = standing c.args.branch.now in
    let rule = rule_at c.args.principal.now.shape c.args.principal.now.index in
    made_none (node_none (built c.args.plan.now.limit c.args.left) s rule c.args.course.now (c.enter.ensures c.args.course.now.nodes) (c.in_ok-step.ensures (fee s rule) c.principal_fee.ensures) (c.in_ok-children.ensures.work.none (ap Ok c.in-None.is)))

-- ---- its premises
pub build_all-width-i-end-requires-clause-few : goal.build_all-width-i-end-requires-clause-few
build_all-width-i-end-requires-clause-few t c =
    premises_few (c.args.left + 1) (standing c.args.branch.now) (rule_at c.args.principal.now.shape c.args.principal.now.index) c.requires.within

pub build_all-loop-i-init : goal.build_all-loop-i-init
build_all-loop-i-init t c =
    (refl, [], stepping_starts c.args.plan.now.keeps (built c.args.plan.now.limit c.args.left) (premises_from c.args.branch.now c.args.principal.now) c.new-children.result c.args.purse.now c.args.course.now c.new-children.ensures c.requires.paid c.requires.funds)

pub build_all-enter-requires-clause-room : goal.build_all-enter-requires-clause-room
build_all-enter-requires-clause-room t c = subst (λ (b : Branch). HasRoom (held b)) (sym c.loop-i.invariant.0) (within_room (c.args.left + 1) (held c.args.branch.now) c.requires.within)

pub build_all-returns-in_err-entered-clause-work : goal.build_all-returns-in_err-entered-clause-work
build_all-returns-in_err-entered-clause-work t c = stepping_memory c.from_residual.result c.loop-i.invariant.2 c.from_residual.ensures.1

pub build_all-build-requires : goal.build_all-build-requires
build_all-build-requires t c =
    let b = c.args.branch.now in
    let p = c.args.principal.now in
    let here = standing c.enter.new.self in
    let premise = subst (λ (x : Branch). slice_get (premises_from x p) c.loop-i.i ≡ Some here) c.loop-i.invariant.0 c.in_ok-entered.ensures.premise in
    let within = premises_within c.args.left (standing b) (rule_at p.shape p.index) c.requires.within in
    let passed = c.in_ok-entered.ensures.passed c.args.plan.now.limit c.args.plan.now.passed (subst (λ (x : Branch). IsPassed c.args.plan.now.limit x c.args.plan.now.passed) (sym c.loop-i.invariant.0) c.requires.passed) c.requires.behind in
    let same = c.loop-i.invariant.2.budget in (
      omega (arith, c.decreases),
      (all_at (IsWithin c.args.left) (premises_from b p) c.loop-i.i here premise within, (passed, ((let most = c.requires.budget in omega (arith, same, most)), (c.loop-i.invariant.2.funds, c.loop-i.invariant.2.paid)))),
    )

pub build_all-returns-in_err-child-clause-work : goal.build_all-returns-in_err-child-clause-work
build_all-returns-in_err-child-clause-work t c =
    let p = c.args.principal.now in
    let here = standing c.enter.new.self in
    let premise = subst (λ (x : Branch). slice_get (premises_from x p) c.loop-i.i ≡ Some here) c.loop-i.invariant.0 c.in_ok-entered.ensures.premise in
    premise_cut here c.from_residual-in_err-child.result c.loop-i.invariant.2 (item_at (premises_from c.args.branch.now p) c.loop-i.i here premise) c.from_residual-in_err-child.ensures.1 (c.in_err-child.ensures.work.err _ refl)

pub build_all-returns-in_err-push-in-Some-clause-work : goal.build_all-returns-in_err-push-in-Some-clause-work
build_all-returns-in_err-push-in-Some-clause-work t c =
    let p = c.args.principal.now in
    let here = standing c.enter.new.self in
    let premise = subst (λ (x : Branch). slice_get (premises_from x p) c.loop-i.i ≡ Some here) c.loop-i.invariant.0 c.in_ok-entered.ensures.premise in
    let made = c.in_ok-child.ensures.work.some c.in-Some.child (ap Ok c.in-Some.is) in
    premise_memory here made.0 c.from_residual-in_err-push-in-Some.result c.loop-i.invariant.2 (item_at (premises_from c.args.branch.now p) c.loop-i.i here premise) c.from_residual-in_err-push-in-Some.ensures.1 made.1

pub build_all-returns-in-None-clause-work : goal.build_all-returns-in-None-clause-work
build_all-returns-in-None-clause-work t c =
    let p = c.args.principal.now in
    let here = standing c.enter.new.self in
    let premise = subst (λ (x : Branch). slice_get (premises_from x p) c.loop-i.i ≡ Some here) c.loop-i.invariant.0 c.in_ok-entered.ensures.premise in
    made_none (premise_none here c.loop-i.invariant.2 (item_at (premises_from c.args.branch.now p) c.loop-i.i here premise) (c.in_ok-child.ensures.work.none (ap Ok c.in-None.is)))

pub build_all-loop-i-preserved : goal.build_all-loop-i-preserved
build_all-loop-i-preserved t c =
    let p = c.args.principal.now in
    let here = standing c.enter.new.self in
    let premise = subst (λ (x : Branch). slice_get (premises_from x p) c.loop-i.i ≡ Some here) c.loop-i.invariant.0 c.in_ok-entered.ensures.premise in
    let made = c.in_ok-child.ensures.work.some c.in-Some.child (ap Ok c.in-Some.is) in
    let same = rw c.in-Some.is at c.in_ok-child.ensures.back in (
      c.leave.ensures c.loop-i.branch (subst (λ (x : Branch). LeadsBack c.in_ok-entered.entered x c.loop-i.branch) (sym same) c.in_ok-entered.ensures.back) ∙ c.loop-i.invariant.0,
      c.loop-i.invariant.1 ++ made.0 ∷ [],
      premise_built here made.0 c.in-Some.child _ c.loop-i.invariant.2 (item_at (premises_from c.args.branch.now p) c.loop-i.i here premise) made.1 made.2 c.in_ok-push-in-Some.ensures.nodes c.in_ok-push-in-Some.ensures.constraints
          c.in_ok-push-in-Some.ensures.has_open,
    )

pub build_all-returns-clause-work : goal.build_all-returns-clause-work
build_all-returns-clause-work t c =
    let past = c.loop-i-test.false in
    let end = c.width-i-end.ensures in
    made_some c.loop-i.invariant.1 c.loop-i.children (all_grown c.loop-i.invariant.2 (drop_all (premises_from c.args.branch.now c.args.principal.now) c.loop-i.i (omega (arith, past, end)))) (all_numbered c.loop-i.invariant.2)
