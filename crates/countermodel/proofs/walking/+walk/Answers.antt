use Rattle.std.proofs.Common.{◌≡◌, ◌+◌, ◌-◌, ◌<◌, ◌≤◌, ◌^◌, List, Some, drop, length, map, Ok, arith, sym, ap, subst}
use Rattle.std.proofs.lemmas.Option.{slice_get_within}
use Rattle.sequent.specs.Rules.{premises_of}
use Rattle.sequent.specs.Views.{sequent_of}
use Rattle.countermodel.specs.Ready.{AreWalkReady}
use Rattle.countermodel.specs.Stopped.{stopped}
use Rattle.std.specs.List.{AllByRecursion, slice_get}
use Rattle.proof_tree.specs.declared.node.Node.{Node, out-Node}
use Rattle.proof_tree.specs.Proof.{Proof, given, proofs}
use Rattle.proof_tree.specs.Views.{proof_of}
use Rattle.solve_laws.specs.Solutions.{IsGiven}
use Rattle.countermodel.proofs.Nodes.{first_is_given, fork_cut, fork_ends, fork_more, fork_on, get_at, given_at, none_first, nothing_there, nowhere_gamma, nowhere_trivial, ready_child, ready_drop, ready_here, stops, turn_cut, turn_none, turn_on, walked_here, walks_alpha, walks_beta, walks_delta, wants_memory}
use Rattle.countermodel.proofs.Below.{few_constants}
use Rattle.countermodel.proofs.Beneath.{alpha_below, beta_below, beta_few, beta_given, delta_below, delta_child, delta_given, ready_room}
use Rattle.quant_elim.proofs.Budgets.{below_budget}
use Rattle.countermodel.proofs.walking.+walk.Goals as goal

-- ---- one child
pub step-premise_apart-requires-clause-within : goal.step-premise_apart-requires-clause-within
step-premise_apart-requires-clause-within t c =
    let ss = premises_of (sequent_of c.args.s.now) c.args.rule in
    let r = ready_child c.args.left ss c.args.children.now c.args.i c.in-Some.child.now c.args.values (sym c.in-Some.ensures) c.requires.ready in
    slice_get_within ss c.args.i r.premise r.is

pub step-returns-in_err-t-in-Some-clause-work : goal.step-returns-in_err-t-in-Some-clause-work
step-returns-in_err-t-in-Some-clause-work t c = wants_memory c.from_residual.result c.from_residual.ensures.1

pub step-walk-requires : goal.step-walk-requires
step-walk-requires t c =
    let ss = premises_of (sequent_of c.args.s.now) c.args.rule in
    let r = ready_child c.args.left ss c.args.children.now c.args.i c.in-Some.child.now c.args.values (sym c.in-Some.ensures) c.requires.ready in
    (omega (arith, c.decreases), (ready_here c.args.left ss c.args.children.now c.args.i c.in-Some.child.now c.args.values (sequent_of c.in_ok-t-in-Some.t) r c.in_ok-t-in-Some.ensures, c.requires.budget))

pub step-returns-in_ok-t-in-Some-clause-work : goal.step-returns-in_ok-t-in-Some-clause-work
step-returns-in_ok-t-in-Some-clause-work t c =
    let ss = premises_of (sequent_of c.args.s.now) c.args.rule in
    let r = ready_child c.args.left ss c.args.children.now c.args.i c.in-Some.child.now c.args.values (sym c.in-Some.ensures) c.requires.ready in
    walked_here c.args.left ss c.args.children.now c.args.i c.in-Some.child.now c.args.values (sequent_of c.in_ok-t-in-Some.t) (stopped c.walk.result) r c.in_ok-t-in-Some.ensures c.walk.ensures.work

pub step-returns-in-None-clause-work : goal.step-returns-in-None-clause-work
step-returns-in-None-clause-work t c = nothing_there (premises_of (sequent_of c.args.s.now) c.args.rule) c.args.children.now c.args.i c.args.values (sym c.in-None.ensures)

-- ---- delta
pub turn-denied-requires-clause-given : goal.turn-denied-requires-clause-given
turn-denied-requires-clause-given t c = first_is_given (c.args.s.now.count + 1) c.args.children.now c.in-Some.child.now c.as_slice.result.now (sym c.in-Some.ensures) c.as_slice.ensures c.requires.given

pub turn-returns-in_err-more-in-Some-clause-work : goal.turn-returns-in_err-more-in-Some-clause-work
turn-returns-in_err-more-in-Some-clause-work t c =
    turn_cut c.args.s.now.count (c.args.s.now.count + 1) (premises_of (sequent_of c.args.s.now) c.args.rule) c.args.children.now c.in-Some.child.now c.as_slice.result.now c.args.values c.as_slice-in-Some.result.now c.from_residual.result (sym c.in-Some.ensures) (omega arith) c.as_slice.ensures c.as_slice-in-Some.ensures
    c.in_err-more-in-Some.ensures.work c.from_residual.ensures.1

pub turn-step-requires : goal.turn-step-requires
turn-step-requires t c = (
  omega (arith, c.decreases),
  (
    c.requires.room,
    (
      c.requires.ready c.in-Some-2.more (c.in_ok-more-in-Some.ensures.values c.in-Some-2.more (ap Ok c.in-Some-2.is)) (c.in_ok-more-in-Some.ensures.many c.in-Some-2.more (ap Ok c.in-Some-2.is)),
      below_budget (2 ^ 32) c.in_ok-more-in-Some.ensures.work.charged c.requires.budget,
    ),
  ),
)

pub turn-returns-in-Some-2-clause-work : goal.turn-returns-in-Some-2-clause-work
turn-returns-in-Some-2-clause-work t c =
    turn_on c.args.s.now.count (c.args.s.now.count + 1) (premises_of (sequent_of c.args.s.now) c.args.rule) c.args.children.now c.in-Some.child.now c.as_slice.result.now c.args.values c.as_slice-in-Some.result.now c.in-Some-2.more c.in_ok-more-in-Some.field-0 (stopped c.step.result) (sym c.in-Some.ensures) (omega arith) c.as_slice.ensures c.as_slice-in-Some.ensures c.in-Some-2.is
    c.in_ok-more-in-Some.ensures.work c.step.ensures.work

pub turn-returns-in-Some-clause-work : goal.turn-returns-in-Some-clause-work
turn-returns-in-Some-clause-work t c =
    turn_none c.args.s.now.count (c.args.s.now.count + 1) (premises_of (sequent_of c.args.s.now) c.args.rule) c.args.children.now c.in-Some.child.now c.as_slice.result.now c.args.values c.as_slice-in-Some.result.now c.in_ok-more-in-Some.field-0 (sym c.in-Some.ensures) (omega arith) c.as_slice.ensures c.as_slice-in-Some.ensures c.in-None-2.is
    c.in_ok-more-in-Some.ensures.work

pub turn-returns-clause-work : goal.turn-returns-clause-work
turn-returns-clause-work t c = absurd (none_first c.args.children.now (sym c.in-None.ensures) c.requires.child)

-- ---- beta
pub fork-affirmed-requires-clause-given : goal.fork-affirmed-requires-clause-given
fork-affirmed-requires-clause-given t c = given_at c.args.s.now.count c.args.children.now c.loop-i.i c.index-children-i.result c.as_slice.result.now (get_at c.args.children.now c.loop-i.i c.index-children-i.result c.index-children-i.is c.loop-i-test.true) c.as_slice.ensures c.requires.given

pub fork-returns-in_err-affirmed-clause-work : goal.fork-returns-in_err-affirmed-clause-work
fork-returns-in_err-affirmed-clause-work t c =
    fork_cut c.args.s.now.count c.args.left (premises_of (sequent_of c.args.s.now) c.args.rule) c.args.children.now c.loop-i.i c.index-children-i.result c.as_slice.result.now c.args.values c.loop-i.values c.as_slice-in-loop-i.result.now c.from_residual.result (get_at c.args.children.now c.loop-i.i c.index-children-i.result c.index-children-i.is c.loop-i-test.true) c.as_slice.ensures
    c.as_slice-in-loop-i.ensures c.loop-i.invariant.0 c.requires.ready c.loop-i.invariant.2 c.in_err-affirmed.ensures c.from_residual.ensures.1

pub fork-step-requires : goal.fork-step-requires
fork-step-requires t c = (
  omega (arith, c.decreases),
  (
    c.requires.room,
    (
      subst (λ z. AreWalkReady c.args.left (drop c.loop-i.i (premises_of (sequent_of c.args.s.now) c.args.rule)) (proofs (map proof_of (drop c.loop-i.i c.args.children.now))) z) (sym c.loop-i.invariant.0)
          (ready_drop c.args.left (premises_of (sequent_of c.args.s.now) c.args.rule) c.args.children.now c.loop-i.i c.args.values c.requires.ready),
      below_budget (2 ^ 32) c.in_ok-affirmed.ensures.charged c.loop-i.invariant.1,
    ),
  ),
)

pub fork-returns-in-None-clause-work : goal.fork-returns-in-None-clause-work
fork-returns-in-None-clause-work t c =
    fork_on c.args.s.now.count c.args.left (premises_of (sequent_of c.args.s.now) c.args.rule) c.args.children.now c.loop-i.i c.index-children-i.result c.as_slice.result.now c.args.values c.loop-i.values c.as_slice-in-loop-i.result.now c.in_ok-affirmed.field-0 (stopped c.step.result) (get_at c.args.children.now c.loop-i.i c.index-children-i.result c.index-children-i.is c.loop-i-test.true) c.as_slice.ensures
    c.as_slice-in-loop-i.ensures c.loop-i.invariant.0 c.requires.ready c.loop-i.invariant.2 c.in-None.is c.in_ok-affirmed.ensures c.step.ensures.work

pub fork-loop-i-preserved : goal.fork-loop-i-preserved
fork-loop-i-preserved t c = (
  c.loop-i.invariant.0,
  below_budget (2 ^ 32) c.in_ok-affirmed.ensures.charged c.loop-i.invariant.1,
  fork_more c.args.s.now.count c.args.left (premises_of (sequent_of c.args.s.now) c.args.rule) c.args.children.now c.loop-i.i (c.loop-i.i + 1) c.index-children-i.result c.as_slice.result.now c.args.values c.loop-i.values c.as_slice-in-loop-i.result.now c.in-Some.field-0 c.in_ok-affirmed.field-0
      (get_at c.args.children.now c.loop-i.i c.index-children-i.result c.index-children-i.is c.loop-i-test.true) (omega arith) c.as_slice.ensures c.as_slice-in-loop-i.ensures c.loop-i.invariant.0 c.requires.ready c.loop-i.invariant.2 c.in-Some.is c.in_ok-affirmed.ensures,
)

pub fork-returns-clause-work : goal.fork-returns-clause-work
fork-returns-clause-work t c = fork_ends c.args.s.now.count (premises_of (sequent_of c.args.s.now) c.args.rule) c.args.children.now c.loop-i.i c.loop-i.values (omega arith) c.loop-i.invariant.2

-- ---- the node
pub walk-step-requires : goal.walk-step-requires
walk-step-requires t c = (
  omega (arith, c.decreases, c.if-left-eq0.false),
  (
    ready_room c.args.left c.args.s (proof_of c.args.x.now) c.args.values c.requires.ready,
    ((subst (λ (ys : List Node). AreWalkReady (c.args.left - 1) (premises_of (sequent_of c.args.s) (out-Node c.args.x.now).rule) (proofs (map proof_of ys)) c.args.values) (sym c.as_slice.ensures) (alpha_below c.args.left (sequent_of c.args.s) c.args.x.now c.in-Alpha.field-0 c.args.values c.in-Alpha.is c.if-left-eq0.false c.requires.ready)), c.requires.budget),
  ),
)

pub walk-turn-requires : goal.walk-turn-requires
walk-turn-requires t c = (
  omega (arith, c.decreases, c.if-left-eq0.false),
  (
    ready_room c.args.left c.args.s (proof_of c.args.x.now) c.args.values c.requires.ready,
    (
      few_constants c.args.left (sequent_of c.args.s) (proof_of c.args.x.now) c.args.values c.requires.ready,
      (
        subst (λ (ys : List Node). 1 ≤ length ys) (sym c.as_slice-in-Delta.ensures) (delta_child c.args.left (sequent_of c.args.s) c.args.x.now c.in-Delta.field-0 c.args.values c.in-Delta.is c.requires.ready),
        (
          subst (λ (ys : List Node). (child : Proof) → slice_get (map proof_of ys) 0 ≡ Some child → IsGiven (c.args.s.count + 1) (given child)) (sym c.as_slice-in-Delta.ensures)
              (delta_given c.args.left (sequent_of c.args.s) c.args.x.now c.in-Delta.field-0 c.args.values c.in-Delta.is c.requires.ready),
          (
            (λ u inside many. (subst (λ (ys : List Node). AreWalkReady (c.args.left - 1) (premises_of (sequent_of c.args.s) (out-Node c.args.x.now).rule) (proofs (map proof_of ys)) u) (sym c.as_slice-in-Delta.ensures) (delta_below c.args.left (sequent_of c.args.s) c.args.x.now c.in-Delta.field-0 c.args.values c.in-Delta.is c.if-left-eq0.false c.requires.ready u inside many))),
            (c.requires.ready.values, (c.requires.ready.many, c.requires.budget)),
          ),
        ),
      ),
    ),
  ),
)

pub walk-fork-requires : goal.walk-fork-requires
walk-fork-requires t c = (
  omega (arith, c.decreases, c.if-left-eq0.false),
  (
    ready_room c.args.left c.args.s (proof_of c.args.x.now) c.args.values c.requires.ready,
    (
      subst (λ (ys : List Node). length ys < 2 ^ 32) (sym c.as_slice-in-Beta.ensures) (beta_few c.args.left (sequent_of c.args.s) c.args.x.now c.in-Beta.field-0 c.args.values c.in-Beta.is c.requires.ready),
      (
        subst (λ (ys : List Node). AllByRecursion (λ y. IsGiven c.args.s.count (given y)) (map proof_of ys)) (sym c.as_slice-in-Beta.ensures) (beta_given c.args.left (sequent_of c.args.s) c.args.x.now c.in-Beta.field-0 c.args.values c.in-Beta.is c.requires.ready),
        (
          (subst (λ (ys : List Node). AreWalkReady (c.args.left - 1) (premises_of (sequent_of c.args.s) (out-Node c.args.x.now).rule) (proofs (map proof_of ys)) c.args.values) (sym c.as_slice-in-Beta.ensures) (beta_below c.args.left (sequent_of c.args.s) c.args.x.now c.in-Beta.field-0 c.args.values c.in-Beta.is c.if-left-eq0.false c.requires.ready)),
          (c.requires.ready.values, (c.requires.ready.many, c.requires.budget)),
        ),
      ),
    ),
  ),
)

pub walk-returns-in-Trivial-clause-work : goal.walk-returns-in-Trivial-clause-work
walk-returns-in-Trivial-clause-work t c = nowhere_trivial (sequent_of c.args.s) c.args.x.now c.in-Trivial.field-0 c.args.values c.in-Trivial.is

pub walk-returns-in-Gamma-clause-work : goal.walk-returns-in-Gamma-clause-work
walk-returns-in-Gamma-clause-work t c = nowhere_gamma (sequent_of c.args.s) c.args.x.now c.in-Gamma.field-0 c.args.values c.in-Gamma.is

pub walk-returns-in-Alpha-clause-work : goal.walk-returns-in-Alpha-clause-work
walk-returns-in-Alpha-clause-work t c = walks_alpha (sequent_of c.args.s) c.args.x.now c.in-Alpha.field-0 c.as_slice.result.now c.args.values (stopped c.step.result) c.in-Alpha.is c.as_slice.ensures c.step.ensures.work

pub walk-returns-in-Delta-clause-work : goal.walk-returns-in-Delta-clause-work
walk-returns-in-Delta-clause-work t c = walks_delta (sequent_of c.args.s) c.args.x.now c.in-Delta.field-0 c.as_slice-in-Delta.result.now c.args.values (stopped c.turn.result) c.in-Delta.is c.as_slice-in-Delta.ensures c.turn.ensures.work

pub walk-returns-in-Beta-clause-work : goal.walk-returns-in-Beta-clause-work
walk-returns-in-Beta-clause-work t c = walks_beta (sequent_of c.args.s) c.args.x.now c.in-Beta.field-0 c.as_slice-in-Beta.result.now c.args.values (stopped c.fork.result) c.in-Beta.is c.as_slice-in-Beta.ensures c.fork.ensures.work

pub walk-returns-in-Close-clause-work : goal.walk-returns-in-Close-clause-work
walk-returns-in-Close-clause-work t c = stops (sequent_of c.args.s) c.args.x.now c.args.values c.in-Close.is
