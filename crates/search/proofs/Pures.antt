-- The canonical run on a pure formula is one round of one node.
use Rattle.std.proofs.Common.{◌≡◌, ℕ, ℤ, Bool, true, cond, nat_lt, List, [], refl, ◌∙◌, ap, Option, Some, None}
use Rattle.base_budget.specs.Trace.{Traced, just, next, note, pay, round, enter, back}
use Rattle.base_budget.proofs.Tracing.{next-assoc, next-just, next-same}
use Rattle.clause_set.specs.declared.literal.Literal.{Literal}
use Rattle.elim_laws.specs.Logs.{entries_of}
use Rattle.elim_laws.specs.Whole.{names_out}
use Rattle.formula.specs.Form.{Form, equal, unequal, at_least, holds, fails, differs, conjunction, disjunction, universal, existential, no_form, and_form, is_pure}
use Rattle.sequent.specs.declared.member.Pick.{Pick}
use Rattle.sequent.specs.declared.member.Pick.TheVariants as pick
use Rattle.sequent.specs.declared.member.Shape.{Shape}
use Rattle.sequent.specs.declared.member.Shape.TheVariants.{Trivial, Alpha, Delta, Beta, Gamma}
use Rattle.sequent.specs.Rules.{allowed, at_place, is_shape, or_else, picked, premises_of, shape, suc_place}
use Rattle.sequent.specs.Sequent.{Sequent}
use Rattle.solve_laws.specs.Solutions.{solving}
use Rattle.proof_tree.specs.Proof.{Proof}
use Rattle.proof_tree.specs.Proves.{start}
use Rattle.proof_tree.specs.Walk.{fee, in_new_log, on_some}
use Rattle.search.specs.Building.{all_built, built, canonical_constraint, entered, finished}
use Rattle.search.specs.Pure.{answer_of, at_root, leaf, pure_run, solved}
use Rattle.search.specs.Run.{RunAnswer, canonical_run, concluded, has_open_leaf, judged, or_further, rounds, saturated}
use Rattle.base_limits.specs.Limits.{branch_limit}

-- ---- the rule that a pure formula takes has no premises
-- the pick of a sequent whose one member fits so
abbrev pub place_of : Shape → Option Shape → Option ℕ
place_of k o = cond (is_shape k o) (Some 0) (suc_place None)

abbrev pub pick_of : Option Shape → Pick
pick_of o =
    or_else (at_place pick.Trivial (place_of Trivial o))
    (or_else (at_place pick.Alpha (place_of Alpha o))
    (or_else (at_place pick.Delta (place_of Delta o))
    (or_else (at_place pick.Beta (place_of Beta o))
    (or_else (at_place pick.Gamma (place_of Gamma o)) pick.Close))))

pub pure_pick : (f : Form) (n k : ℕ) → is_pure f ≡ true → picked k (start f n).members ≡ pick_of (allowed true (nat_lt 0 k) (shape f))
pure_pick f n k p = ap (λ b. pick_of (allowed b (nat_lt 0 k) (shape f))) p

none_of : (f : Form) (n : ℕ) (b : Bool) → premises_of (start f n) (pick_of (allowed true b (shape f))) ≡ []
none_of (equal t) n b = refl
none_of (unequal t) n b = refl
none_of (at_least t) n b = refl
none_of (holds q ts) n b = refl
none_of (fails q ts) n b = refl
none_of (differs q ts u) n b = refl
none_of (conjunction no_form) n b = refl
none_of (conjunction (and_form f fs)) n b = refl
none_of (disjunction fs) n b = refl
none_of (universal f) n b = refl
none_of (existential f) n b = refl

pub no_premises : (f : Form) (n k : ℕ) → is_pure f ≡ true → premises_of (start f n) (picked k (start f n).members) ≡ []
no_premises f n k p = ap (premises_of (start f n)) (pure_pick f n k p) ∙ none_of f n (nat_lt 0 k)

-- ---- one node
module _ (n : ℕ) (s : Sequent) (p : Pick) (none : premises_of s p ≡ []) where
  -- what is left of the node when it is left
  left : Traced (Option Proof)
  left = finished 0 s p []

  children : (f : ℕ → Sequent → Traced (Option Proof)) → next (all_built f 1 (premises_of s p) []) (on_some (finished 0 s p)) ≡ left
  unfolding left
  children f = ap (λ ss. next (all_built f 1 ss []) (on_some (finished 0 s p))) none ∙ next-just (Some []) (on_some (finished 0 s p))

  entered_is : (f : ℕ → Sequent → Traced (Option Proof)) → entered f 0 s p ≡ next (note (enter 0)) (λ _. next (pay (fee s p)) (λ _. left))
  entered_is f = ap (λ w. next (note (enter 0)) (λ _. next (pay (fee s p)) (λ _. w))) (children f)

  -- and after it, work k on the tree
  left_then : {B : Type 0} (k : Option Proof → Traced B) → next left k ≡ next (note (back 0)) (λ _. next (in_new_log (canonical_constraint s p [])) (λ d. k (Some (leaf s p d))))
  unfolding left
  left_then k =
      let made = in_new_log (canonical_constraint s p []) in
      let tree : List (List Literal) → Traced (Option Proof) = (λ d. just (Some (leaf s p d))) in
      next-assoc (note (back 0)) (λ _. next made tree) k
      ∙ next-same (note (back 0)) (λ _. next (next made tree) k) (λ _. next made (λ d. k (Some (leaf s p d))))
      (next-assoc made tree k ∙ next-same made (λ d. next (tree d) k) (λ d. k (Some (leaf s p d))) (next-just (Some (leaf s p made.value)) k))

  entered_then : {B : Type 0} (f : ℕ → Sequent → Traced (Option Proof)) (k : Option Proof → Traced B)
      → next (entered f 0 s p) k
      ≡ next (note (enter 0)) (λ _. next (pay (fee s p)) (λ _. next (note (back 0)) (λ _. next (in_new_log (canonical_constraint s p [])) (λ d. k (Some (leaf s p d))))))
  entered_then f k =
      ap (λ w. next w k) (entered_is f)
      ∙ next-assoc (note (enter 0)) (λ _. next (pay (fee s p)) (λ _. left)) k
      ∙ next-same (note (enter 0)) (λ _. next (next (pay (fee s p)) (λ _. left)) k) _
      (next-assoc (pay (fee s p)) (λ _. left) k ∙ next-same (pay (fee s p)) (λ _. next left k) _ (left_then k))

-- ---- the answer comes in the first round
answered : (f : Form) (n : ℕ) (s : Sequent) (p : Pick) (d : List (List Literal)) (a : Option (List ℤ)) (further : Traced RunAnswer) → is_pure f ≡ true
    → or_further further (concluded f n (leaf s p d) a) ≡ just (answer_of n s p d a)
answered f n s p d (Some vs) further h = refl
answered f n s p d None further h =
    let saturating : Option RunAnswer = cond (has_open_leaf (start f n) (leaf s p d)) None (Some (saturated (entries_of (names_out n d).events) (leaf s p d))) in
    ap (λ b. or_further further (cond b (Some (answer_of n s p d None)) saturating)) h

judged_then : (f : Form) (n : ℕ) (s : Sequent) (p : Pick) (d : List (List Literal)) (further : Traced RunAnswer) → is_pure f ≡ true
    → next (judged f n (Some (leaf s p d))) (or_further further) ≡ solved n s p d
judged_then f n s p d further h =
    let w = in_new_log (solving n d) in
    let told : Option (List ℤ) → Traced (Option RunAnswer) = (λ a. just (concluded f n (leaf s p d) a)) in
    next-assoc w told (or_further further)
    ∙ next-same w (λ a. next (told a) (or_further further)) (λ a. just (answer_of n s p d a))
    (next-just (concluded f n (leaf s p d) w.value) (or_further further) ∙ answered f n s p d w.value further h)

round_then : (f : Form) (n m : ℕ) (s : Sequent) (p : Pick) (tree : Traced (Option Proof)) (further : Traced RunAnswer) → is_pure f ≡ true
    → next tree (λ o. next (judged f n o) (or_further further))
    ≡ next (note (enter 0)) (λ _. next (pay (fee s p)) (λ _. next (note (back 0)) (λ _. next (in_new_log (canonical_constraint s p [])) (λ d. next (judged f n (Some (leaf s p d))) (or_further further)))))
    → next (next (note (round 0)) (λ _. next tree (judged f n))) (or_further further) ≡ next (note (round 0)) (λ _. at_root n s p)
round_then f n m s p tree further h is =
    let made = in_new_log (canonical_constraint s p []) in
    next-assoc (note (round 0)) (λ _. next tree (judged f n)) (or_further further)
    ∙ next-same (note (round 0)) (λ _. next (next tree (judged f n)) (or_further further)) (λ _. at_root n s p)
    (next-assoc tree (judged f n) (or_further further) ∙ is
    ∙ ap (λ w. next (note (enter 0)) (λ _. next (pay (fee s p)) (λ _. next (note (back 0)) (λ _. w))))
    (next-same made (λ d. next (judged f n (Some (leaf s p d))) (or_further further)) (solved n s p) (judged_then f n s p made.value further h)))

pub pure_run_is : (f : Form) (n budget : ℕ) → is_pure f ≡ true → canonical_run f n budget ≡ pure_run f n
unfolding canonical_run built
pure_run_is f n budget h =
    let s = start f n in
    let p = picked 0 s.members in
    let further = rounds f n budget 1 in
    round_then f n budget s p (built 0 branch_limit 0 s) further h
    (entered_then n s p (no_premises f n 0 h) (built 0 1999) (λ o. next (judged f n o) (or_further further)))
