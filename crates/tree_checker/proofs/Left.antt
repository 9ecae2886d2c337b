-- How the walk leaves a node.
use Rattle.std.proofs.Common.{◌≡◌, ℕ, Bool, true, false, cond, List, [], Option, Some, None, Result, Ok, Err, IfSome, IsErrAnd, refl, sym, ap, subst, ◌∙◌}
use Rattle.base_budget.specs.declared.fault.StepFault.{StepFault}
use Rattle.base_budget.specs.declared.fault.StepFault.TheVariants.{Memory}
use Rattle.base_budget.specs.declared.log.ElimLog.{ElimLog}
use Rattle.base_budget.specs.declared.log.Entry.{Entry}
use Rattle.base_budget.specs.Followed.{Followed}
use Rattle.base_budget.specs.Trace.{Funds, back, next}
use Rattle.base_budget.proofs.Following.{follow_err, follow_just, follow_memory, follow_note, follow_ok}
use Rattle.clause_set.specs.declared.literal.Literal.{Literal}
use Rattle.sequent.specs.declared.member.Pick.{Pick}
use Rattle.sequent.specs.Sequent.{Sequent}
use Rattle.proof_tree.specs.Walk.{confirmed, is_same, on_some, redone}
use Rattle.proof_tree.proofs.Walking.{same_so}
use Rattle.tree_checker.specs.declared.course.Course.{Course}
use Rattle.tree_checker.specs.Hand.{at_node}
use Rattle.tree_checker.specs.Walking.{HasLeft, IfGiven, IsLogOf}
use Rattle.tree_checker.proofs.Paid.{if_err}

-- ---- leaving a node
confirmed_by : (d c : List (List Literal)) (t : Bool) (o : Option (List (List Literal))) {b : Funds} {n : ℕ} → is_same c d ≡ t → o ≡ cond t (Some d) None → Followed at_node (confirmed d c) b n (Ok o) b n
confirmed_by d c true o {b} {n} same is = rw same (follow_just (Some d) o is)
confirmed_by d c false o {b} {n} same is = rw same (follow_just None o is)

-- what was made again, beside what the node gives
pub confirm_same : (d c : List (List Literal)) {o : Option (List (List Literal))} (b : Funds) (n : ℕ) → o ≡ Some c → is_same c d ≡ true → Followed at_node (on_some (confirmed d) o) b n (Ok (Some c)) b n
confirm_same d c b n is same = rw is (confirmed_by d c true (Some c) same (ap (λ (z : List (List Literal)). Some z) (same_so c d same)))

pub confirm_other : (d c : List (List Literal)) {o : Option (List (List Literal))} (b : Funds) (n : ℕ) → o ≡ Some c → is_same c d ≡ false → Followed at_node (on_some (confirmed d) o) b n (Ok None) b n
confirm_other d c b n is same = rw is (confirmed_by d c false None same refl)

pub confirm_none : (d : List (List Literal)) {o : Option (List (List Literal))} (b : Funds) (n : ℕ) → o ≡ None → Followed at_node (on_some (confirmed d) o) b n (Ok None) b n
confirm_none d b n is = rw is (follow_just None None refl)

-- the log that came is that of the node
pub log_is : (e : Bool) (log : ElimLog) (es : List Entry) → (e ≡ true → log.entries ≡ es) → (e ≡ false → es ≡ []) → IsLogOf e log es
log_is true log es came none = came refl
log_is false log es came none = none refl

pub left_memory : (n : ℕ) (s : Sequent) (p : Pick) (es : List Entry) (d : List (List Literal)) (ds : List (List (List Literal))) {Behind : Type 0} {a b : Funds} {from to : Course} (r : Result (Option (List (List Literal))) StepFault)
    → b ≡ a → IsErrAnd r (λ x. x ≡ Memory) → HasLeft n s p es d ds Behind a from r b to
left_memory n s p es d ds (Ok o) same h = absurd h
left_memory n s p es d ds {Behind} {a} {b} {from} {to} (Err e) same h =
    subst (λ (z : Funds). HasLeft n s p es d ds Behind a from (Err e) z to) (sym same) (let r : Result (Option (List (List Literal))) StepFault = Err e in record { work = follow_memory r h; behind = tt })

-- the same of a sequent that is equal
pub left_same : (n : ℕ) (p : Pick) (es : List Entry) (d : List (List Literal)) (ds : List (List (List Literal))) {s t : Sequent} {Behind : Type 0} {a b : Funds} {from to : Course} {r : Result (Option (List (List Literal))) StepFault}
    → s ≡ t → HasLeft n s p es d ds Behind a from r b to → HasLeft n t p es d ds Behind a from r b to
left_same n p es d ds {Behind = Behind} {a} {b} {from} {to} {r} same left = subst (λ (z : Sequent). HasLeft n z p es d ds Behind a from r b to) same left

pub left_cut : (n : ℕ) (s : Sequent) (p : Pick) (es : List Entry) (d : List (List Literal)) (ds : List (List (List Literal))) {Behind : Type 0} {a b : Funds} {from to : Course} {e : StepFault} (r : Result (Option (List (List Literal))) StepFault)
    → to.hand ≡ at_node from.hand (back n) → Followed at_node (redone s p ds es) a to.hand (Err e) b to.hand → IsErrAnd r (λ x. x ≡ e) → HasLeft n s p es d ds Behind a from r b to
left_cut n s p es d ds r hand work is = record { work = follow_note (back n) (λ _. next (redone s p ds es) (on_some (confirmed d))) hand (follow_err (redone s p ds es) (on_some (confirmed d)) r is work); behind = if_err _ _ r is }

pub left_with : (n : ℕ) (s : Sequent) (p : Pick) (es : List Entry) (d e : List (List Literal)) (ds : List (List (List Literal))) {Behind : Type 0} {a b : Funds} {from to : Course} {made : Option (List (List Literal))} (o : Option (List (List Literal)))
    → to.hand ≡ at_node from.hand (back n) → e ≡ d → Followed at_node (redone s p ds es) a to.hand (Ok made) b to.hand → Followed at_node (on_some (confirmed e) made) b to.hand (Ok o) b to.hand → IfSome o (λ c. c ≡ e) → Behind
    → HasLeft n s p es d ds Behind a from (Ok o) b to
left_with n s p es d e ds {Behind} {b = b} {to = to} {made} o hand same work told is behind = record {
  work = follow_note (back n) (λ _. next (redone s p ds es) (on_some (confirmed d))) hand
      (follow_ok (redone s p ds es) (on_some (confirmed d)) work (subst (λ z. Followed at_node (on_some (confirmed z) made) b to.hand (Ok o) b to.hand) same told));
  behind = both o is;
}
  where
    both : (q : Option (List (List Literal))) → IfSome q (λ c. c ≡ e) → IfGiven (Ok q) (λ c. (c ≡ d) × Behind)
    both (Some c) h = (h ∙ same, behind)
    both None h = tt
