-- What the values say.
use Rattle.std.proofs.Common.{◌≡◌, ◌∙◌, ◌<◌, ℕ, ℤ, Bool, true, false, List, [], ◌∷◌, ◌++◌, length, take, refl, sym, ap, subst, append-nil}
use Rattle.base_budget.specs.Ending.{Ending, IsOutOfRange, IsOutOfSteps, ends_with, out_of_steps, overflows}
use Rattle.base_budget.specs.Trace.{At}
use Rattle.base_integers.specs.Entry.{entry}
use Rattle.form_encoding.specs.Problems.{problem_root}
use Rattle.form_encoding.proofs.Problems.{holds_is, pure_is, root_over}
use Rattle.form_typed.specs.Formula.{formula}
use Rattle.form_typed.specs.Sorts.{AreValuesOf}
use Rattle.form_typed.specs.declared.typed.Sort.{Sort}
use Rattle.form_typed.specs.Truth.{Meaning, Truth}
use Rattle.formula.specs.Form.{FormTruth, is_pure}
use Rattle.job_values.specs.Values.{AreFalseValues, EndsValid, IsDenied, no_model}
use Rattle.job_values.proofs.Denied.{denied_formed}
use Rattle.model_refuting.specs.Refuting.{IsModelCounterexample}
use Rattle.model_runs.specs.Ends.{run_end}
use Rattle.model_table.specs.Models.{meaning_of}
use Rattle.pri_problem.specs.Encoded.{Fits}
use Rattle.pri_problem.proofs.Reduced.{problem_reduced}
use Rattle.pri_typing.specs.Problems.{Holds, IsPure, IsRefuted, IsRefutedAt, IsWithoutApplication, finite_meaning}
use Rattle.pri_typing.specs.WellFormed.{IsWellFormed}
use Rattle.pri_typing.specs.declared.problem.Problem.{Problem}
use Rattle.search.specs.Meaning.{IsFoundProof, Tells}
use Rattle.search.specs.Run as run
use Rattle.search.proofs.Telling.{answer_tells}
use Rattle.solve_laws.specs.Best.{IsNearer}

no_types : (p : Problem) → IsWellFormed p → p.existentials ≡ [] → p.existential_types ≡ []
no_types p formed alone = nothing p.existential_types (formed.existential_types.many ∙ ap length alone)
  where
    nothing : (ss : List Sort) → length ss ≡ 0 → ss ≡ []
    nothing [] e = refl
    nothing (s ∷ ss) e = absurd cc

-- what the run on the negation tells
run_tells : (budget : ℕ) (q : Problem) → IsWellFormed q → (a : run.RunAnswer) (stands : At) → run_end budget q ≡ ends_with a stands → Tells (problem_root q).value (length q.existentials) a
run_tells budget q formed a stands is = answer_tells (problem_root q).value (length q.existentials) (record { budget = budget; spent = 0 }) a stands (root_over q formed) (problem_reduced q) is

found_tells : (budget : ℕ) (p : Problem) (vs : List ℤ) → IsWellFormed p → p.existentials ≡ [] → (h : AreFalseValues budget p vs) → IsFoundProof (problem_root h.other).value (length (h.other).existentials) vs h.found.tree
found_tells budget p vs formed alone h = run_tells budget h.other (denied_formed p h.other formed alone h.is) (run.valid vs h.found.tree) h.found.stands h.found.ends

-- a problem holds at the values with which its run ends valid
pub run_holds : (budget : ℕ) (p : Problem) (vs : List ℤ) (w : Meaning) → IsWellFormed p → EndsValid budget p vs → Holds w p vs
run_holds budget p vs w formed h =
    let found : IsFoundProof (problem_root p).value (length p.existentials) vs h.tree = run_tells budget p formed (run.valid vs h.tree) h.stands h.ends in
    (holds_is w p vs formed found.best.names).0 (found.covers w vs found.best.names found.best.satisfies)

-- the negation holds at the values
values_hold : (budget : ℕ) (p : Problem) (vs : List ℤ) (w : Meaning) → IsWellFormed p → p.existentials ≡ [] → (h : AreFalseValues budget p vs) → Holds w h.other vs
values_hold budget p vs w formed alone h = run_holds budget h.other vs w (denied_formed p h.other formed alone h.is) h.found

-- where the negation holds, the formula is false
denial_fails : (w : Meaning) (p q : Problem) (us : List ℤ) → IsDenied p q → Holds w q us → ¬ (Truth w (formula p.formula) us)
denial_fails w p q us h holds t =
    let typed : AreValuesOf q.universal_types [] = subst (λ ss. AreValuesOf ss []) (sym h.universal_types) tt in
    let not_so : ¬ (Truth w (formula p.formula) (us ++ [])) = subst (λ f. Truth w f (us ++ [])) h.denies (holds.is [] (sym (ap length h.universals)) typed) in
    not_so (subst (Truth w (formula p.formula)) (sym (append-nil us)) t)

-- and where the formula is false at values of the types, the negation holds
denial_holds : (w : Meaning) (p q : Problem) (us : List ℤ) → IsDenied p q → length us ≡ length p.universals → AreValuesOf p.universal_types us → ¬ (Truth w (formula p.formula) us) → Holds w q us
denial_holds w p q us h many typed fails = record {
  many = many ∙ sym (ap length h.existentials);
  typed = subst (λ ss. AreValuesOf ss us) (sym h.existential_types) typed;
  is = λ u none _. subst (λ f. Truth w f (us ++ u)) (sym h.denies) (λ t. fails (subst (Truth w (formula p.formula)) (ap (λ v. us ++ v) (nil u (none ∙ ap length h.universals)) ∙ append-nil us) t));
}
  where
    nil : (u : List ℤ) → length u ≡ 0 → u ≡ []
    nil [] e = refl
    nil (v ∷ u) e = absurd cc

pub values_fail : (budget : ℕ) (p : Problem) (vs : List ℤ) (w : Meaning) → IsWellFormed p → p.existentials ≡ [] → AreFalseValues budget p vs → ¬ (Truth w (formula p.formula) vs)
values_fail budget p vs w formed alone h = denial_fails w p h.other vs h.is (values_hold budget p vs w formed alone h)

pub values_refute : (budget : ℕ) (p : Problem) (vs : List ℤ) → IsWellFormed p → p.existentials ≡ [] → AreFalseValues budget p vs → IsModelCounterexample p [] no_model vs
values_refute budget p vs formed alone h =
    let holds = values_hold budget p vs (meaning_of no_model) formed alone h in
    record {
      many = sym (ap length alone);
      fit = holds.many ∙ ap length h.is.existentials;
      typed = subst (λ ss. AreValuesOf ss vs) h.is.existential_types holds.typed;
      fails = values_fail budget p vs (meaning_of no_model) formed alone h;
      symbols = record { functions = tt; predicates = tt };
    }

denied_pure : (p q : Problem) → IsPure p → IsDenied p q → is_pure (problem_root q).value ≡ true
denied_pure p q pure h = (pure_is q).1 (subst IsWithoutApplication (sym h.denies) (tt, pure))

pub values_best : (budget : ℕ) (p : Problem) (vs us : List ℤ) (w : Meaning) (j : ℕ) → IsWellFormed p → p.existentials ≡ [] → IsPure p → AreFalseValues budget p vs → length us ≡ length p.universals → AreValuesOf p.universal_types us
    → ¬ (Truth w (formula p.formula) us) → j < length p.universals → take j us ≡ take j vs → ¬ (IsNearer (entry us j) (entry vs j))
values_best budget p vs us w j formed alone pure h many typed fails below same =
    let q = h.other in
    let found = found_tells budget p vs formed alone h in
    let holds = denial_holds w p q us h.is many typed fails in
    let truth = (holds_is w q us (denied_formed p q formed alone h.is) holds.many).1 holds in
    found.best.best us holds.many (found.exact (denied_pure p q pure h.is) w us holds.many truth) j (subst (λ n. j < n) (sym (ap length h.is.existentials)) below) same

not_both : (b : Bool) → b ≡ true → b ≡ false → ⊥
not_both true h k = cc
not_both false h k = cc

-- a problem without predicates and functions that is refuted has such values, unless the run is cut
pub refuted_found : (budget : ℕ) (p q : Problem) → IsWellFormed p → p.existentials ≡ [] → IsPure p → IsRefuted p → IsDenied p q → Fits q → ¬ (IsOutOfSteps (run_end budget q)) → ¬ (IsOutOfRange (run_end budget q))
    → (vs : List ℤ) × AreFalseValues budget p vs
refuted_found budget p q formed alone pure refuted h fits no_steps no_overflow = by (run_end budget q) refl
  where
    tells : (a : run.RunAnswer) (stands : At) → run_end budget q ≡ ends_with a stands → Tells (problem_root q).value (length q.existentials) a
    tells a stands is = run_tells budget q (denied_formed p q formed alone h) a stands is

    here : IsRefutedAt p []
    here = refuted [] (sym (ap length alone)) (subst (λ ss. AreValuesOf ss []) (sym (no_types p formed alone)) tt)

    true_somewhere : (w : Meaning) → w ≡ finite_meaning here.interpretation → FormTruth w (problem_root q).value here.universals
    true_somewhere w is =
        let holds = denial_holds w p q here.universals h here.fit here.typed (subst (λ v. ¬ (Truth v (formula p.formula) here.universals)) (sym is) here.fails) in
        (holds_is w q here.universals (denied_formed p q formed alone h) holds.many).1 holds

    many_here : length here.universals ≡ length q.existentials
    many_here = here.fit ∙ sym (ap length h.existentials)

    by : (end : Ending run.RunAnswer) → run_end budget q ≡ end → (vs : List ℤ) × AreFalseValues budget p vs
    by (ends_with (run.valid vs x) stands) is = (vs, record { other = q; is = h; fits = fits; found = record { tree = x; stands = stands; ends = is } })
    by (ends_with (run.invalid log x) stands) is = absurd ((tells (run.invalid log x) stands is).fails (finite_meaning here.interpretation) here.universals many_here (true_somewhere (finite_meaning here.interpretation) refl))
    by (ends_with (run.saturated log x) stands) is = absurd (not_both (is_pure (problem_root q).value) (denied_pure p q pure h) (tells (run.saturated log x) stands is))
    by (ends_with run.too_long stands) is = absurd (not_both (is_pure (problem_root q).value) (denied_pure p q pure h) (tells run.too_long stands is))
    by (out_of_steps stands) is = absurd (no_steps (stands, is))
    by (overflows numbers stands) is = absurd (no_overflow (numbers, stands, is))
