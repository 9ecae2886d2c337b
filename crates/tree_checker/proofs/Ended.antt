-- The check of a whole proof.
use Rattle.std.proofs.Common.{◌≡◌, ◌∙◌, ℕ, ◌&&◌, List, [], Option, Some, None, Result, Ok, Err, IsErrAnd, refl, sym, ap, subst, arith}
use Rattle.base_budget.specs.declared.fault.StepFault.{StepFault}
use Rattle.base_budget.specs.declared.fault.StepFault.TheVariants as step_fault
use Rattle.base_budget.specs.Followed.{Followed}
use Rattle.base_budget.specs.Trace.{Funds, at, cut, enter, next, note}
use Rattle.base_budget.proofs.Following.{follow_err, follow_just, follow_memory, follow_note, follow_ok}
use Rattle.clause_set.specs.declared.literal.Literal.{Literal}
use Rattle.formula.specs.Form.{Form, is_pure}
use Rattle.sequent.specs.declared.member.Pick.{Pick}
use Rattle.proof_tree.specs.declared.node.Conclusion.{Conclusion}
use Rattle.proof_tree.specs.declared.run.Verdict.{Verdict}
use Rattle.proof_tree.specs.Proof.{Proof, given}
use Rattle.proof_tree.specs.Proves.{concluded, is_root_rule, proof_walk, rule_of, start}
use Rattle.proof_tree.specs.Walk.{nodes_in, on_some, walked}
use Rattle.tree_checker.specs.declared.checking.Checked as code
use Rattle.tree_checker.specs.declared.course.Course.{Course}
use Rattle.tree_checker.specs.Answering.{ChecksAs, HasChecked, HasConcluded, answer_at, verdicts}
use Rattle.tree_checker.specs.Faults.{first_fault, leaves, too_costly, wrong}
use Rattle.tree_checker.specs.Hand.{at_node}
use Rattle.tree_checker.specs.Walking.{HasWalked, IfGiven}
use Rattle.tree_checker.proofs.Paid.{if_err}

verdicts_err : (e : StepFault) (r : Result (Option code.Checked) StepFault) → IsErrAnd r (λ x. x ≡ e) → IsErrAnd (verdicts r) (λ x. x ≡ e)
verdicts_err e (Ok o) h = absurd h
verdicts_err e (Err x) h = h

-- ---- the conclusion
module _ (f : Form) (n : ℕ) (p : Pick) (c : Conclusion) (d : List (List Literal)) where
  pub end_memory : {a : Funds} {from to : Course} (r : Result (Option code.Checked) StepFault) → IsErrAnd r (λ x. x ≡ step_fault.Memory) → HasConcluded f n p c d a from r a to
  end_memory r err = record { work = follow_memory (verdicts r) (verdicts_err step_fault.Memory r err); accepts = if_err _ _ r err }

  pub end_cut : {a b : Funds} {from to : Course} {e : StepFault} (r : Result (Option code.Checked) StepFault) → to.hand ≡ at_node from.hand (enter from.nodes) → IsErrAnd r (λ x. x ≡ e)
      → Followed at_node (concluded f n p c d) a to.hand (Err e) b to.hand → HasConcluded f n p c d a from r b to
  end_cut {a} {b} {from} {to} {e} r hand err h = record {
    work = follow_note (enter from.nodes) (λ _. concluded f n p c d) hand (so r err);
    accepts = if_err _ _ r err;
  }
    where
      so : (q : Result (Option code.Checked) StepFault) → IsErrAnd q (λ x. x ≡ e) → Followed at_node (concluded f n p c d) a to.hand (verdicts q) b to.hand
      so (Ok o) is = absurd is
      so (Err x) is = subst (λ (y : StepFault). Followed at_node (concluded f n p c d) a to.hand (Err y) b to.hand) (sym is) h

  pub end_none : {a b : Funds} {from to : Course} → to.hand ≡ at_node from.hand (enter from.nodes) → Followed at_node (concluded f n p c d) a to.hand (Ok None) b to.hand → HasConcluded f n p c d a from (Ok None) b to
  end_none {from = from} hand h = record { work = follow_note (enter from.nodes) (λ _. concluded f n p c d) hand h; accepts = tt }

  pub end_some : {a b : Funds} {from to : Course} (k : code.Checked) → to.hand ≡ at_node from.hand (enter from.nodes) → Followed at_node (concluded f n p c d) a to.hand (Ok (Some k.verdict)) b to.hand → k.constraint ≡ d
      → k.exact ≡ (is_pure f && is_root_rule p) → HasConcluded f n p c d a from (Ok (Some k)) b to
  end_some {from = from} k hand h constraint exact = record { work = follow_note (enter from.nodes) (λ _. concluded f n p c d) hand h; accepts = (constraint, exact) }

-- ---- the tree, and then the conclusion
module _ (f : Form) (n : ℕ) (x : Proof) (c : Conclusion) where
  pub proof_memory : {a : Funds} {h : ℕ} {to : Course} (r : Result (Option code.Checked) StepFault) → IsErrAnd r (λ x. x ≡ step_fault.Memory) → HasChecked f n x c a h r a to
  proof_memory r err = record { work = follow_memory (verdicts r) (verdicts_err step_fault.Memory r err); accepts = if_err _ _ r err }

  tree_walk : (from : Course) {a b : Funds} {t : ℕ} {r : Result (Option (List (List Literal))) StepFault} → from.nodes ≡ 0 → Followed at_node (walked from.nodes (start f n) x) a from.hand r b t
      → Followed at_node (walked 0 (start f n) x) a from.hand r b t
  tree_walk from {a} {b} {t} {r} first h = subst (λ m. Followed at_node (walked m (start f n) x) a from.hand r b t) first h

  pub proof_cut : {Behind : Type 0} {a b : Funds} (from : Course) {to : Course} {e : StepFault} (r : Result (Option code.Checked) StepFault) → from.nodes ≡ 0 → IsErrAnd r (λ x. x ≡ e)
      → HasWalked (start f n) x Behind a from (Err e) b to → HasChecked f n x c a from.hand r b to
  proof_cut from {e = e} r first err w = record {
    work = follow_err (walked 0 (start f n) x) _ (verdicts r) (verdicts_err e r err) (tree_walk from first w.work);
    accepts = if_err _ _ r err;
  }

  pub proof_none : {Behind : Type 0} {a b : Funds} (from : Course) {to : Course} → from.nodes ≡ 0 → HasWalked (start f n) x Behind a from (Ok None) b to → HasChecked f n x c a from.hand (Ok None) b to
  proof_none from first w = record { work = follow_ok (walked 0 (start f n) x) _ (tree_walk from first w.work) (follow_just None None refl); accepts = tt }

  pub proof_ended : {Behind : Type 0} {a b g : Funds} (from : Course) (mid : Course) {to : Course} (p : Pick) (d : List (List Literal)) (r : Result (Option code.Checked) StepFault) → from.nodes ≡ 0 → p ≡ rule_of x
      → HasWalked (start f n) x Behind a from (Ok (Some d)) b mid → HasConcluded f n p c d b mid r g to → HasChecked f n x c a from.hand r g to
  proof_ended {b = b} {g} from mid {to} p d r first rule w end = record {
    work =
        follow_ok (walked 0 (start f n) x) (on_some (λ d. next (note (enter (nodes_in x))) (λ _. concluded f n (rule_of x) c d))) (tree_walk from first w.work)
        (subst (λ m. Followed at_node (next (note (enter m)) (λ _. concluded f n (rule_of x) c d)) b mid.hand (verdicts r) g to.hand) count
        (subst (λ q. Followed at_node (next (note (enter mid.nodes)) (λ _. concluded f n q c d)) b mid.hand (verdicts r) g to.hand) rule end.work));
    accepts = both r end.accepts;
  }
    where
      count : mid.nodes ≡ nodes_in x
      count = let all = w.behind.1 in omega (arith, all, first)

      both : (q : Result (Option code.Checked) StepFault) → IfGiven q (λ k. (k.constraint ≡ d) × (k.exact ≡ (is_pure f && is_root_rule p))) → IfGiven q (λ k. (k.constraint ≡ given x) × (k.exact ≡ (is_pure f && is_root_rule (rule_of x))))
      both (Ok (Some k)) h = (h.0 ∙ w.behind.0, h.1 ∙ ap (λ q. is_pure f && is_root_rule q) rule)
      both (Ok None) h = tt
      both (Err e) h = tt

-- ---- the answer is the first fault of the walk
module _ (f : Form) (n : ℕ) (x : Proof) (c : Conclusion) (charges : ℕ) {new : Funds} {to : Course} where
  by_result : (r : Result (Option code.Checked) StepFault) → HasChecked f n x c (record { budget = charges; spent = 0 }) 0 r new to → ChecksAs f n x c charges (answer_at to.hand r)
  unfolding cut
  by_result (Ok (Some k)) h =
      let o = h.work.charged.ok (Some k.verdict) refl in
      let w = proof_walk f n x c in
      (ap (λ e. first_fault w.value e) o.1.end ∙ ap (λ (v : Option Verdict). first_fault v (cut [] (at new h.work.notes))) (sym o.0), h.accepts.0, h.accepts.1)
  by_result (Ok None) h =
      let o = h.work.charged.ok None refl in
      let w = proof_walk f n x c in
      ap (λ e. first_fault w.value e) o.1.end ∙ ap (λ (v : Option Verdict). first_fault v (cut [] (at new h.work.notes))) (sym o.0) ∙ ap wrong (sym h.work.kept)
  by_result (Err step_fault.Steps) h = let w = proof_walk f n x c in ap (λ e. first_fault w.value e) (h.work.charged.steps refl).end ∙ ap too_costly (sym h.work.kept)
  by_result (Err (step_fault.Overflow p)) h =
      let l = h.work.charged.overflow p refl in
      let w = proof_walk f n x c in
      (l.numbers, ap (λ e. first_fault w.value e) l.end ∙ ap (λ m. leaves m l.numbers) (sym h.work.kept), l.among, l.leaves)
  by_result (Err step_fault.Memory) h = tt

  pub checks_as : {old : Funds} {hand : ℕ} (r : Result (Option code.Checked) StepFault) {q : Result code.Checked _} → HasChecked f n x c old hand r new to → old ≡ record { budget = charges; spent = 0 } → hand ≡ 0 → q ≡ answer_at to.hand r
      → ChecksAs f n x c charges q
  checks_as {old} r h purse start is = subst (ChecksAs f n x c charges) (sym is) (by_result r (subst (λ (z : Funds). HasChecked f n x c z 0 r new to) purse (subst (λ z. HasChecked f n x c old z r new to) start h)))
