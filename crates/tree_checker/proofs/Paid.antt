-- What is paid while a proof is walked, and what did not come out of a call.
use Rattle.std.proofs.Common.{◌≡◌, ◌+◌, ◌≤◌, Option, Result, Ok, Err, IsErrAnd, ap, arith}
use Rattle.base_budget.specs.declared.fault.StepFault.{StepFault}
use Rattle.base_budget.specs.Followed.{Later}
use Rattle.base_budget.specs.Trace.{Funds, capped, pay, step}
use Rattle.base_budget.specs.Work.{Charged}
use Rattle.base_budget.proofs.Advancing.{followed_later, followed_whole}
use Rattle.base_budget.proofs.Following.{follow_unnoted}
use Rattle.sequent.specs.declared.member.Pick.{Pick}
use Rattle.sequent.specs.declared.member.Pick.TheVariants as pick
use Rattle.sequent.specs.Sequent.{Sequent}
use Rattle.proof_tree.specs.Walk.{fee}
use Rattle.tree_checker.specs.declared.course.Course.{Course}
use Rattle.tree_checker.specs.Hand.{at_node}
use Rattle.tree_checker.specs.Walking.{IfGiven, IsPaid}

-- ---- charges
one_fee : (s : Sequent) (p : Pick) → 1 ≤ capped (fee s p)
one_fee s (pick.Trivial i) = omega arith
one_fee s (pick.Alpha i) = omega arith
one_fee s (pick.Delta i) = omega arith
one_fee s (pick.Beta i) = omega arith
one_fee s (pick.Gamma i) = omega arith
one_fee s pick.Close = omega arith

-- a node that was entered has been charged
pub node_paid : (s : Sequent) (p : Pick) (c : Course) {a b : Funds} {d : Course} {u : Unit {0}} → d.nodes ≡ c.nodes + 1 → IsPaid c a → Charged (pay (fee s p)) a (Ok u) b → IsPaid d b
unfolding step
node_paid s p c {a} {b} {d} {u} count paid did =
    let w = followed_whole at_node (pay (fee s p)) a b 0 0 u paid.within (follow_unnoted (Ok u) did) in
    let later = followed_later {add = at_node} {s = 0} {t = 0} (Ok u) paid.within (follow_unnoted (Ok u) did) in
    let sum : b.spent ≡ a.spent + (capped (fee s p) + 0) = ap (λ z. z.funds.spent) w.1.stands in
    let one = one_fee s p in
    let before = paid.nodes in
    let same = later.budget in
    let most = paid.budget in
    record { nodes = omega (arith, before, sum, one, count); within = later.within; budget = omega (arith, same, most) }

pub later_paid : {a b : Funds} {c d : Course} → Later a b → d.nodes ≡ c.nodes → IsPaid c a → IsPaid d b
later_paid l same h =
    let spent = l.spent in
    let budget = l.budget in
    let before = h.nodes in
    let most = h.budget in
    record { nodes = omega (arith, spent, before, same); within = l.within; budget = omega (arith, budget, most) }

pub if_err : {A : Type 0} (Q : A → Type 0) (e : StepFault) (r : Result (Option A) StepFault) → IsErrAnd r (λ x. x ≡ e) → IfGiven r Q
if_err Q e (Ok o) h = absurd h
if_err Q e (Err x) h = tt
