-- What is left of a for-all that reads a value of a function.
use Rattle.std.proofs.Common.{◌≡◌, ℕ, zero, suc, ◌+◌, ◌<◌, ◌≤◌, ℤ, true, List, [], ◌∷◌, ◌++◌, length, map, drop, get_or, refl, sym, ap, ◌∙◌, subst, arith}
use Rattle.std.specs.List.{AllByRecursion}
use Rattle.std.proofs.lemmas.List.Elements.{All-from_recursion}
use Rattle.linear_term.specs.Linear.{Linear, value_of, name, number, IsOver}
use Rattle.linear_term.proofs.Totals.{value_of-name, value_of-number}
use Rattle.form_typed.specs.Truth.{Meaning}
use Rattle.formula.specs.Form.{Form, Forms, FormTruth, AreFormsFalse, equal, unequal, at_least, holds, fails, differs, conjunction, disjunction, universal, existential, no_form, and_form, is_pure, values_of}
use Rattle.formula.specs.Tree.{form, forms_of}
use Rattle.formula.specs.declared.calculus.Core.{Core}
use Rattle.formula.specs.declared.calculus.Core.TheVariants as c
use Rattle.formula.proofs.Building.{form-Or}
use Rattle.formula.proofs.Extending.{extends_more, entry_last, over_number, values_extend}
use Rattle.model_table.specs.declared.model.Model.{Model}
use Rattle.model_table.specs.Models.{meaning_of, value_at}
use Rattle.model_formulas.specs.declared.choosing.Guard.{Guard}
use Rattle.model_formulas.specs.Choices.{AreChoices}
use Rattle.model_formulas.specs.Expansions.{Same}
use Rattle.form_closures.specs.Putting.{put_in}
use Rattle.model_formulas.proofs.Chosen.{CasesSo, SaysCase, cases_begin, cases_go, cases_end}
use Rattle.form_closures.proofs.Values.{put_values}
use Rattle.model_formulas.specs.Expanded.{IsExpansion, IsRead, Reads, ReadsFirst, are_over}
use Rattle.model_formulas.proofs.Arms.{expands_as, values_more}
use Rattle.model_formulas.proofs.Readings.{overs_are}

values_length : (ts : List Linear) (e : List ℤ) → length (values_of ts e) ≡ length ts
values_length [] e = refl
values_length (t ∷ ts) e = ap suc (values_length ts e)

-- the members from the second on are not all false, where the last name has the value v
abbrev pub RestTruth : Model → List Linear → List Core → List ℤ → ℤ → Type 0
RestTruth m ts ms e v = ¬ (AreFormsFalse (meaning_of m) (forms_of (drop 1 ms)) (values_of ts e ++ v ∷ []))

-- ---- the reading: exactly one value of the name counts
first_parts : (m : Model) (n : ℕ) (d : Form) (f : ℕ) (us : List Linear) (vs : List ℤ) (u : ℤ) → length vs ≡ n → are_over n us ≡ true → ReadsFirst n f us d
    → (FormTruth (meaning_of m) d (vs ++ u ∷ []) → ¬ (value_at m.functions f (values_of us vs) ≡ u)) × ((¬ (value_at m.functions f (values_of us vs) ≡ u)) → FormTruth (meaning_of m) d (vs ++ u ∷ []))
first_parts m n (differs g ss t) f us vs u len over h =
    let same : values_of ss (vs ++ u ∷ []) ≡ values_of us vs = ap (λ l. values_of l (vs ++ u ∷ [])) h.1
    ∙ values_extend n (suc n) vs (vs ++ u ∷ []) us (extends_more n vs u len) (All-from_recursion (IsOver n) us (overs_are n us over)) in
    let left : value_at m.functions g (values_of ss (vs ++ u ∷ [])) ≡ value_at m.functions f (values_of us vs) = λ i. value_at m.functions (h.0 i) (same i) in
    let right : value_of t (vs ++ u ∷ []) ≡ u = ap (λ z. value_of z (vs ++ u ∷ [])) h.2 ∙ value_of-name n (vs ++ u ∷ []) ∙ entry_last n vs u len in
    ((λ k eq. k (left ∙ eq ∙ sym right)), (λ k eq. k (sym left ∙ eq ∙ right)))
first_parts m n (equal t) f us vs u len over h = absurd h
first_parts m n (unequal t) f us vs u len over h = absurd h
first_parts m n (at_least t) f us vs u len over h = absurd h
first_parts m n (holds p ss) f us vs u len over h = absurd h
first_parts m n (fails p ss) f us vs u len over h = absurd h
first_parts m n (conjunction fs) f us vs u len over h = absurd h
first_parts m n (disjunction fs) f us vs u len over h = absurd h
first_parts m n (universal g) f us vs u len over h = absurd h
first_parts m n (existential g) f us vs u len over h = absurd h

reading_means : (m : Model) (ts : List Linear) (ms : List Core) (f : ℕ) (us : List Linear) (e : List ℤ) → Reads (length ts) f us (disjunction (forms_of ms)) → are_over (length ts) us ≡ true
    → (RestTruth m ts ms e (value_at m.functions f (values_of us (values_of ts e))) → FormTruth (meaning_of m) (universal (disjunction (forms_of ms))) (values_of ts e))
    × (FormTruth (meaning_of m) (universal (disjunction (forms_of ms))) (values_of ts e) → RestTruth m ts ms e (value_at m.functions f (values_of us (values_of ts e))))
reading_means m ts [] f us e h over = absurd h
reading_means m ts (d ∷ ms) f us e h over =
    let vs = values_of ts e in
    let V = value_at m.functions f (values_of us vs) in
    let parts = λ (u : ℤ). first_parts m (length ts) (form d) f us vs u (values_length ts e) over h in (
      (λ t u none. none.0 ((parts u).1 (λ eq. t (subst (λ z. AreFormsFalse (meaning_of m) (forms_of ms) (vs ++ z ∷ [])) (sym eq) none.1)))),
      (λ t none. t V ((λ x. (parts V).0 x refl), none)),
    )

-- ---- one guard
case_said : (m : Model) (ts inner us : List Linear) (ms ns : List Core) (n : ℕ) (v : ℤ) (r : Form) → inner ≡ ts ++ number v ∷ [] → us ≡ inner → ns ≡ ms
    → IsExpansion m (disjunction (forms_of (drop 1 ns))) us n r → SaysCase (meaning_of m) n (RestTruth m ts ms) v r
case_said m ts inner us ms ns n v r inner_is us_is ns_is h =
    let values = λ (e : List ℤ). ap (λ l. values_of l e) (us_is ∙ inner_is) ∙ values_more ts (number v) e ∙ ap (λ z. values_of ts e ++ z ∷ []) (value_of-number v e) in
    let k = subst (λ l. IsExpansion m (disjunction (forms_of (drop 1 l))) us n r) ns_is h in
    record {
      pure = k.pure;
      there = λ e l x none. k.there e l x (subst (AreFormsFalse (meaning_of m) (forms_of (drop 1 ms))) (sym (values e)) none);
      back = λ e l x. k.back e l (λ none. x (subst (AreFormsFalse (meaning_of m) (forms_of (drop 1 ms))) (values e) none));
    }

number_over : (n : ℕ) (v : ℤ) (ts : List Linear) → AllByRecursion (IsOver n) ts → AllByRecursion (IsOver n) (ts ++ number v ∷ [])
number_over n v [] h = (over_number n v, tt)
number_over n v (u ∷ us) h = (h.0, number_over n v us h.1)

pub value_over : (n : ℕ) (ts inner us : List Linear) (v : ℤ) → us ≡ inner → inner ≡ ts ++ number v ∷ [] → AllByRecursion (IsOver n) ts → AllByRecursion (IsOver n) us
value_over n ts inner us v us_is inner_is over = subst (AllByRecursion (IsOver n)) (sym (us_is ∙ inner_is)) (number_over n v ts over)

-- the guards so far
pub record RestSo (m : Model) (ts : List Linear) (n : ℕ) (ms : List Core) (gs rest : List Guard) (out : List Core) : Type 0 where
  pub so : CasesSo (meaning_of m) n (RestTruth m ts ms) gs rest out

pub rest_begins : (m : Model) (ts : List Linear) (n : ℕ) (ms : List Core) (gs : List Guard) (out : List Core) → out ≡ [] → RestSo m ts n ms gs (drop 0 gs) out
rest_begins m ts n ms gs out none = record { so = cases_begin (meaning_of m) n (RestTruth m ts ms) gs out none }

pub rest_goes : (m : Model) (body : Form) (ts inner us : List Linear) (n : ℕ) (ms ns : List Core) (gs : List Guard) (i : ℕ) (g : Guard) (out more : List Core) (when r h : Core)
    → ((k : ℕ) → Same k (disjunction (forms_of (out ++ h ∷ []))) (disjunction (forms_of more))) → ((k : ℕ) → Same k (conjunction (and_form (form when) (and_form (form r) no_form))) (form h))
    → IsExpansion m (disjunction (forms_of (drop 1 ns))) us n (form r) → RestSo m ts n ms gs (drop i gs) out → us ≡ inner → inner ≡ ts ++ number g.value ∷ [] → i < length gs → g ≡ get_or gs i g → when ≡ g.when → ns ≡ ms → IsRead m body ts gs
    → RestSo m ts n ms gs (drop (i + 1) gs) more
rest_goes m body ts inner us n ms ns gs i g out more when r h grown both_is x so us_is inner_is lt is when_is ns_is read = record {
  so = cases_go (meaning_of m) n (RestTruth m ts ms) gs i g out more r h lt is read.chosen.pure (case_said m ts inner us ms ns n g.value (form r) inner_is us_is ns_is x)
      (subst (λ z. Same n (conjunction (and_form (form z) (and_form (form r) no_form))) (form h)) when_is (both_is n)) (grown n) so.so;
}

pub rest_ends : (m : Model) (body : Core) (ts : List Linear) (n : ℕ) (ms : List Core) (gs : List Guard) (i : ℕ) (out : List Core) (g : Form) → body ≡ c.Or ms → length gs ≤ i → IsRead m (form body) ts gs
    → ((k : ℕ) → Same k (disjunction (forms_of out)) g) → RestSo m ts n ms gs (drop i gs) out → IsExpansion m (universal (form body)) ts n g
rest_ends m body ts n ms gs i out g is le read same so =
    let V : List ℤ → ℤ = λ e. value_at m.functions read.function (values_of (map (put_in ts) read.arguments) e) in
    let made = cases_end (meaning_of m) n (RestTruth m ts ms) V gs i out g le read.chosen (λ e bad none. bad (λ k. k none)) (same n) so.so in
    let reads : Reads (length ts) read.function read.arguments (disjunction (forms_of ms)) = subst (Reads (length ts) read.function read.arguments) (ap form is ∙ form-Or ms) read.reads in
    let V_is = λ (e : List ℤ). ap (value_at m.functions read.function) (put_values ts read.arguments e) in
    let means = λ (e : List ℤ). reading_means m ts ms read.function read.arguments e reads read.over in
    expands_as m (universal (form body)) (universal (disjunction (forms_of ms))) ts n g (ap (λ z. universal z) (ap form is ∙ form-Or ms)) (record {
      pure = made.pure;
      there = λ e l t. (means e).0 (subst (RestTruth m ts ms e) (V_is e) (made.there e l t));
      back = λ e l t. made.back e l (subst (RestTruth m ts ms e) (sym (V_is e)) ((means e).1 t));
    })

pub ruleset rests = (rest_begins, rest_goes, rest_ends, value_over)
