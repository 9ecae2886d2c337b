-- At the root of an encoded problem stand the conditions of the existential constants' types. They are true at values of the types, so
-- the walk goes on to the formula after them.
use Rattle.std.proofs.Common.{◌≡◌, ◌⊎◌, inl, inr, ℕ, zero, suc, ℤ, Bool, true, false, ◌&&◌, List, [], ◌∷◌, ◌++◌, length, Some, refl, sym, ◌∙◌, ap, subst}
use Rattle.std.specs.List.{AllByRecursion}
use Rattle.form_typed.specs.Sorts.{AreValuesOf}
use Rattle.form_typed.specs.Truth.{Meaning}
use Rattle.base_budget.specs.Trace.{just, next}
use Rattle.clause_set.specs.Literals.{dnf_truth}
use Rattle.formula.specs.Form.{Form, AreFormsTrue, is_pure, are_pure, conjunction, forms}
use Rattle.formula.specs.Reduced.{HasReducedTerms}
use Rattle.sequent.specs.declared.member.Pick.TheVariants as pick
use Rattle.sequent.specs.Covers.{IsOneFalse}
use Rattle.sequent.specs.Rules.{premises_of}
use Rattle.sequent.specs.Sequent.{member, IsFormedSequent}
use Rattle.sequent.proofs.Forming.{start_formed}
use Rattle.proof_tree.specs.Gives.{AreGiven, truths}
use Rattle.proof_tree.specs.Proof.{Proof, Proofs, node, no_proof, and_proof, given, all_given}
use Rattle.proof_tree.specs.Proves.{start}
use Rattle.proof_tree.specs.Reduced.{IsReducedSequent}
use Rattle.proof_tree.proofs.Giving.{constraint_is, formed_by}
use Rattle.proof_tree.proofs.Premises.{reduced_by}
use Rattle.proof_tree.proofs.Given.{node_given}
use Rattle.pri_typing.specs.declared.problem.Problem.{Problem}
use Rattle.pri_typing.specs.WellFormed as problem
use Rattle.form_encoding.specs.Encoding.{restricted}
use Rattle.form_encoding.specs.Problems.{body, problem_root}
use Rattle.form_encoding.specs.Root.{conditions, for_last}
use Rattle.form_encoding.proofs.Conditions.{all_kept, conditions_pure, conditions_true, for_last_pure, restricted_pure}
use Rattle.form_encoding.proofs.Problems.{root_over}
use Rattle.model_trees.specs.Open.{AreOpen, IsOpenTree}
use Rattle.model_trees.specs.Walk.{walk, walk_false, where_none}
use Rattle.model_trees.proofs.Finding.{affirmed_none, affirmed_some}
use Rattle.model_runs.proofs.Frames.{Falsified, GoesOn, IsAt, at_refutes, falsified, last_false, not_closed}
use Rattle.model_runs.proofs.Staying.{each_stays, starts}

-- ---- premises whose formulas are true are passed
record Passed (n : ℕ) (hs : List Form) (g : Form) (ns : Proofs) (e : List ℤ) : Type 0 where
  child : Proof
  there : IsAt (start g n) child e
  same : (walk_false n (starts n (hs ++ g ∷ [])) ns e).value ≡ (walk (start g n) child e).value

first : {A : Type 0} → A ⊎ ⊥ → A
first (inl a) = a
first (inr b) = absurd b

abbrev AllTrue : List Form → List ℤ → Type 0
AllTrue hs e = (w : Meaning) → AreFormsTrue w (forms hs) e

passes : (n : ℕ) (hs : List Form) (g : Form) (ns : Proofs) (e : List ℤ) → AllTrue hs e → length e ≡ n → AreGiven (starts n (hs ++ g ∷ [])) ns → AreOpen (starts n (hs ++ g ∷ [])) ns
    → AllByRecursion IsFormedSequent (starts n (hs ++ g ∷ [])) → AllByRecursion IsReducedSequent (starts n (hs ++ g ∷ [])) → IsOneFalse (truths (all_given ns)) e → Passed n hs g ns e
unfolding next
passes n [] g no_proof e true_all long gives opens formed reduced one = absurd gives
passes n [] g (and_proof y (and_proof z zs)) e true_all long gives opens formed reduced one = absurd gives.1
passes n [] g (and_proof y no_proof) e true_all long gives opens formed reduced one =
    let bad = first one in
    let none = affirmed_none n (given y) e (node_given (start g n) y formed.0 reduced.0 gives.0) long bad in
    record {
      child = y;
      there = record { gives = gives.0; opens = opens.0; formed = formed.0; reduced = reduced.0; long = long; bad = bad };
      same = ap (λ o. (where_none (walk (start g n) y e) (walk_false n [] no_proof e) o).value) none;
    }
passes n (h ∷ hs) g no_proof e true_all long gives opens formed reduced one = absurd gives
passes n (h ∷ hs) g (and_proof y ys) e true_all long gives opens formed reduced one =
    by (dnf_truth (given y) e) refl (λ more. passes n hs g ys e (λ w. (true_all w).1) long gives.1 opens.1 formed.1 reduced.1 more) one
  where
    by : (b : Bool) → dnf_truth (given y) e ≡ b → (IsOneFalse (truths (all_given ys)) e → Passed n hs g ys e) → IsOneFalse (truths (all_given (and_proof y ys))) e → Passed n (h ∷ hs) g (and_proof y ys) e
    by false bad later some =
        let r = at_refutes (start h n) y e (record { gives = gives.0; opens = opens.0; formed = formed.0; reduced = reduced.0; long = long; bad = bad }) in
        absurd (last_false _ [] h n e long r.root (true_all _).0)
    by true good later (inl bad) = absurd (let z : true ≡ false = sym good ∙ bad in cc)
    by true good later (inr more) =
        let some = affirmed_some n (given y) e (node_given (start h n) y formed.0 reduced.0 gives.0) long good in
        let p = later more in
        record {
          child = p.child;
          there = p.there;
          same = ap (λ o. (where_none (walk (start h n) y e) (walk_false n (starts n (hs ++ g ∷ [])) ys e) o).value) (some.1) ∙ p.same;
        }

-- ---- the root
beta_premises : (n : ℕ) (h : Form) (hs : List Form) (g : Form) → premises_of (start (conjunction (forms ((h ∷ hs) ++ g ∷ []))) n) (pick.Beta 0) ≡ starts n ((h ∷ hs) ++ g ∷ [])
beta_premises n h hs g = each_stays n ((h ∷ hs) ++ g ∷ [])

conditions_on : (hs : List Form) (g : Form) (n : ℕ) (x : Proof) (e : List ℤ) → AllTrue hs e → are_pure (forms (hs ++ g ∷ [])) ≡ false → IsAt (start (restricted false hs g) n) x e
    → GoesOn (start (restricted false hs g) n) x e (start g n) e
conditions_on [] g n x e true_all app h = record { child = x; there = h; same = refl }
conditions_on (f ∷ hs) g n (node (pick.Beta zero) ns log d) e true_all app h =
    let s = start (conjunction (forms ((f ∷ hs) ++ g ∷ []))) n in
    let one = beta_premises n f hs g in
    let falsity = (constraint_is s (pick.Beta 0) ns log d h.reduced h.gives).no e h.long h.bad in
    let p = passes n (f ∷ hs) g ns e true_all h.long (subst (λ ss. AreGiven ss ns) one (h.gives).1) (subst (λ ss. AreOpen ss ns) one (h.opens).1)
    (subst (AllByRecursion IsFormedSequent) one (formed_by s (Some 0) h.formed)) (subst (AllByRecursion IsReducedSequent) one (reduced_by s (Some 0) h.reduced)) falsity in
    record { child = p.child; there = p.there; same = ap (λ ss. (walk_false n ss ns e).value) one ∙ p.same }
conditions_on (f ∷ hs) g n (node (pick.Beta (suc i)) ns log d) e true_all app h = absurd (let z : false ≡ true = (h.gives).0 in cc)
conditions_on (f ∷ hs) g n (node (pick.Trivial zero) ns log d) e true_all app h = absurd (let z : false ≡ true = (h.gives).0 in cc)
conditions_on (f ∷ hs) g n (node (pick.Trivial (suc i)) ns log d) e true_all app h = absurd (let z : false ≡ true = (h.gives).0 in cc)
conditions_on (f ∷ hs) g n (node (pick.Alpha zero) ns log d) e true_all app h = absurd (let z : false ≡ true = (h.gives).0 in cc)
conditions_on (f ∷ hs) g n (node (pick.Alpha (suc i)) ns log d) e true_all app h = absurd (let z : false ≡ true = (h.gives).0 in cc)
conditions_on (f ∷ hs) g n (node (pick.Delta zero) ns log d) e true_all app h = absurd (let z : false ≡ true = (h.gives).0 in cc)
conditions_on (f ∷ hs) g n (node (pick.Delta (suc i)) ns log d) e true_all app h = absurd (let z : false ≡ true = (h.gives).0 in cc)
conditions_on (f ∷ hs) g n (node (pick.Gamma i) ns log d) e true_all app h = absurd (h.opens).0
conditions_on (f ∷ hs) g n (node pick.Close ns log d) e true_all app h = absurd (not_closed [] (member (conjunction (forms ((f ∷ hs) ++ g ∷ []))) n 0) app (h.opens).0)

last_pure : (b : Bool) → (b && true) ≡ b
last_pure true = refl
last_pure false = refl

-- the walk through an open tree of an encoded problem, from values of the types of its existential constants
pub problem_falsified : (p : Problem) (x : Proof) (e : List ℤ) → problem.IsWellFormed p → HasReducedTerms (problem_root p).value → is_pure (problem_root p).value ≡ false → IsOpenTree (problem_root p).value (length p.existentials) x
    → length e ≡ length p.existentials → AreValuesOf p.existential_types e → dnf_truth (given x) e ≡ false → Falsified p.universal_types (body p).value (start (problem_root p).value (length p.existentials)) x e
unfolding next just
problem_falsified p x e formed red app tree len typed bad =
    let many = formed.existential_types.many in
    let es = p.existential_types in
    let n = length es in
    let g : Form = (for_last n p.universal_types (body p)).value in
    let hs : List Form = (conditions (λ y. true) 0 es).value in
    let root : Form = (problem_root p).value in
    let long : length e ≡ n = len ∙ sym many in
    let inner : is_pure g ≡ false = sym (last_pure (is_pure g)) ∙ sym (conditions_pure (λ y. true) 0 es (g ∷ [])) ∙ sym (restricted_pure hs g) ∙ app in
    let all : are_pure (forms (hs ++ g ∷ [])) ≡ false = sym (restricted_pure hs g) ∙ app in
    let above : IsAt (start root (length p.existentials)) x e =
    record { gives = tree.gives; opens = tree.is; formed = start_formed root (length p.existentials) (root_over p formed); reduced = (red, tt); long = len; bad = bad } in
    let here : IsAt (start root n) x e = subst (λ k. IsAt (start root k) x e) (sym many) above in
    let true_all : AllTrue hs e = λ w. (conditions_true w (λ y. true) 0 es e).1 ((all_kept [] e 0 es refl long).1 typed) in
    let on = conditions_on hs g n x e true_all all here in
    let f = falsified p.universal_types n (body p) [] on.child e tt (sym (for_last_pure n p.universal_types (body p)) ∙ inner) on.there in
    let it : Falsified p.universal_types (body p).value (start root n) x e =
    record { stop = f.stop; is = on.same ∙ f.is; found = f.found; more = f.more; values = f.values; typed = f.typed; fails = f.fails } in
    subst (λ k. Falsified p.universal_types (body p).value (start root k) x e) many it
