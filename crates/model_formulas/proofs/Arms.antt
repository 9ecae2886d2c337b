-- The expansion of a formula of each form.
use Rattle.std.proofs.Common.{◌≡◌, ℕ, suc, ◌+◌, ◌<◌, ◌≤◌, ℤ, pos, ◌≤ℤ◌, Bool, true, List, [], ◌∷◌, ◌++◌, length, map, All, Result, Ok, refl, sym, ap, ◌∙◌, subst, arith}
use Rattle.std.specs.List.{AllByRecursion}
use Rattle.std.proofs.lemmas.List.{map-append}
use Rattle.std.proofs.lemmas.List.Elements.{All-from_recursion}
use Rattle.linear_term.specs.Linear.{Linear, value_of, name, IsOver}
use Rattle.linear_term.proofs.Totals.{value_of-name}
use Rattle.form_typed.specs.Truth.{Meaning}
use Rattle.formula.specs.Duals.{dual}
use Rattle.formula.specs.Form.{Form, FormTruth, equal, unequal, at_least, holds, fails, differs, conjunction, disjunction, universal, existential, is_pure, values_of}
use Rattle.formula.specs.Made.{Made}
use Rattle.formula.specs.Tree.{form, forms_of}
use Rattle.formula.specs.declared.calculus.Core.{Core}
use Rattle.formula.specs.declared.calculus.Core.TheVariants as c
use Rattle.formula.proofs.Building.{form-Eq, form-Neq, form-Geq, form-Pred, form-NotPred, form-NotFun, form-And, form-Or, form-Forall, form-Exists}
use Rattle.formula.proofs.Extending.{Extends, extends_more, entry_last, over_name, over_more, values_extend}
use Rattle.formula.proofs.Sameness.{pure_dual}
use Rattle.model_table.specs.declared.model.Model.{Model}
use Rattle.model_table.specs.Models.{meaning_of, truth_at, value_at}
use Rattle.model_formulas.specs.declared.choosing.Guard.{Guard}
use Rattle.model_formulas.specs.Choices.{AreChoices}
use Rattle.model_formulas.specs.Expansions.{Tells}
use Rattle.form_closures.specs.Putting.{put_in}
use Rattle.form_closures.proofs.Values.{put_value, put_values}
use Rattle.model_formulas.proofs.Chosen.{made_value}
use Rattle.model_formulas.proofs.Firsts.{negated}
use Rattle.model_formulas.specs.Expanded.{IsExpansion, IsBound, IsRead}

pub expands_as : (m : Model) (f g : Form) (ts : List Linear) (n : ℕ) (h : Form) → f ≡ g → IsExpansion m g ts n h → IsExpansion m f ts n h
expands_as m f g ts n h is x = subst (λ z. IsExpansion m z ts n h) (sym is) x

pub arm_eq : (m : Model) (f : Core) (t : Linear) (ts : List Linear) (n : ℕ) (g : Form) → f ≡ c.Eq t → ((k : Model) (j : ℕ) → IsExpansion k (equal t) ts j g) → IsExpansion m (form f) ts n g
arm_eq m f t ts n g is h = expands_as m (form f) (equal t) ts n g (ap form is ∙ form-Eq t) (h m n)

pub arm_neq : (m : Model) (f : Core) (t : Linear) (ts : List Linear) (n : ℕ) (g : Form) → f ≡ c.Neq t → ((k : Model) (j : ℕ) → IsExpansion k (unequal t) ts j g) → IsExpansion m (form f) ts n g
arm_neq m f t ts n g is h = expands_as m (form f) (unequal t) ts n g (ap form is ∙ form-Neq t) (h m n)

pub arm_geq : (m : Model) (f : Core) (t : Linear) (ts : List Linear) (n : ℕ) (g : Form) → f ≡ c.Geq t → ((k : Model) (j : ℕ) → IsExpansion k (at_least t) ts j g) → IsExpansion m (form f) ts n g
arm_geq m f t ts n g is h = expands_as m (form f) (at_least t) ts n g (ap form is ∙ form-Geq t) (h m n)

pub arm_pred : (m : Model) (f : Core) (p : ℕ) (us ws : List Linear) (ts : List Linear) (n : ℕ) (g : Form) → f ≡ c.Pred p us → ws ≡ us → ((j : ℕ) → IsExpansion m (holds p ws) ts j g) → IsExpansion m (form f) ts n g
arm_pred m f p us ws ts n g is same h = expands_as m (form f) (holds p ws) ts n g (ap form is ∙ form-Pred p us ∙ ap (holds p) (sym same)) (h n)

pub arm_not_pred : (m : Model) (f : Core) (p : ℕ) (us ws : List Linear) (ts : List Linear) (n : ℕ) (g : Form) → f ≡ c.NotPred p us → ws ≡ us → ((j : ℕ) → IsExpansion m (fails p ws) ts j g) → IsExpansion m (form f) ts n g
arm_not_pred m f p us ws ts n g is same h = expands_as m (form f) (fails p ws) ts n g (ap form is ∙ form-NotPred p us ∙ ap (fails p) (sym same)) (h n)

pub arm_not_fun : (m : Model) (f : Core) (k : ℕ) (us ws : List Linear) (u : Linear) (ts : List Linear) (n : ℕ) (g : Form) → f ≡ c.NotFun k us u → ws ≡ us → ((j : ℕ) → IsExpansion m (differs k ws u) ts j g) → IsExpansion m (form f) ts n g
arm_not_fun m f k us ws u ts n g is same h = expands_as m (form f) (differs k ws u) ts n g (ap form is ∙ form-NotFun k us u ∙ ap (λ l. differs k l u) (sym same)) (h n)

pub arm_and : (m : Model) (f : Core) (fs ms : List Core) (ts : List Linear) (n : ℕ) (g : Form) → f ≡ c.And fs → ms ≡ fs → IsExpansion m (conjunction (forms_of ms)) ts n g → IsExpansion m (form f) ts n g
arm_and m f fs ms ts n g is same h = expands_as m (form f) (conjunction (forms_of ms)) ts n g (ap form is ∙ form-And fs ∙ ap (λ l. conjunction (forms_of l)) (sym same)) h

pub arm_or : (m : Model) (f : Core) (fs ms : List Core) (ts : List Linear) (n : ℕ) (g : Form) → f ≡ c.Or fs → ms ≡ fs → IsExpansion m (disjunction (forms_of ms)) ts n g → IsExpansion m (form f) ts n g
arm_or m f fs ms ts n g is same h = expands_as m (form f) (disjunction (forms_of ms)) ts n g (ap form is ∙ form-Or fs ∙ ap (λ l. disjunction (forms_of l)) (sym same)) h

pub arm_rest : (m : Model) (f body b : Core) (ts : List Linear) (n : ℕ) (g : Form) → f ≡ c.Forall body → b ≡ body → IsExpansion m (universal (form b)) ts n g → IsExpansion m (form f) ts n g
arm_rest m f body b ts n g is same h = expands_as m (form f) (universal (form b)) ts n g (ap form is ∙ form-Forall body ∙ ap (λ z. universal (form z)) (sym same)) h

-- ---- quantifiers
pub values_more : (ts : List Linear) (t : Linear) (e : List ℤ) → values_of (ts ++ t ∷ []) e ≡ values_of ts e ++ value_of t e ∷ []
values_more ts t e = map-append (λ u. value_of u e) ts (t ∷ [])

pub inner_values : (n : ℕ) (ts : List Linear) (e : List ℤ) (v : ℤ) → AllByRecursion (IsOver n) ts → length e ≡ n → values_of (ts ++ name n ∷ []) (e ++ v ∷ []) ≡ values_of ts e ++ v ∷ []
inner_values n ts e v over len =
    values_more ts (name n) (e ++ v ∷ [])
    ∙ ap (λ vs. vs ++ value_of (name n) (e ++ v ∷ []) ∷ []) (values_extend n (suc n) e (e ++ v ∷ []) ts (extends_more n e v len) (All-from_recursion (IsOver n) ts over))
    ∙ ap (λ z. values_of ts e ++ z ∷ []) (value_of-name n (e ++ v ∷ []) ∙ entry_last n e v len)

overs_more : (n m : ℕ) (ts : List Linear) → n ≤ m → AllByRecursion (IsOver n) ts → AllByRecursion (IsOver m) ts
overs_more n m [] le h = tt
overs_more n m (t ∷ ts) le h = (over_more n m t le h.0, overs_more n m ts le h.1)

overs_with : (n : ℕ) (ts : List Linear) (t : Linear) → AllByRecursion (IsOver n) ts → IsOver n t → AllByRecursion (IsOver n) (ts ++ t ∷ [])
overs_with n [] t h k = (k, tt)
overs_with n (u ∷ ts) t h k = (h.0, overs_with n ts t h.1 k)

pub overs_same : (n : ℕ) (ts us : List Linear) → us ≡ ts → AllByRecursion (IsOver n) ts → AllByRecursion (IsOver n) us
overs_same n ts us is h = subst (AllByRecursion (IsOver n)) (sym is) h

pub inner_over : (n k : ℕ) (ts us vs : List Linear) → vs ≡ us → us ≡ ts ++ name n ∷ [] → k ≡ n + 1 → AllByRecursion (IsOver n) ts → AllByRecursion (IsOver k) vs
inner_over n k ts us vs same all more over =
    subst (AllByRecursion (IsOver k)) (sym (same ∙ all))
    (overs_with k ts (name n) (overs_more n k ts (omega arith) over) (over_name k n (omega arith)))

inner_length : (n k : ℕ) (e : List ℤ) (v : ℤ) → k ≡ n + 1 → length e ≡ n → length (e ++ v ∷ []) ≡ k
inner_length n k e v more len = grow e (v ∷ []) ∙ omega arith
  where
    grow : (e f : List ℤ) → length (e ++ f) ≡ length e + length f
    grow [] f = omega arith
    grow (x ∷ e) f = omega (arith, grow e f)

pub arm_all : (m : Model) (f body b g : Core) (ts us vs : List Linear) (n k : ℕ) (h : Form) → IsExpansion m (form b) vs k (form g) → IsBound (universal (form g)) h → f ≡ c.Forall body → b ≡ body → vs ≡ us → us ≡ ts ++ name n ∷ [] → k ≡ n + 1
    → AllByRecursion (IsOver n) ts → IsExpansion m (form f) ts n h
arm_all m f body b g ts us vs n k h inner bound is same same_vs all more over =
    let with_name : vs ≡ ts ++ name n ∷ [] = same_vs ∙ all in
    let values = λ (e : List ℤ) (v : ℤ) (l : length e ≡ n). ap (λ l. values_of l (e ++ v ∷ [])) with_name ∙ inner_values n ts e v over l in
    expands_as m (form f) (universal (form b)) ts n h (ap form is ∙ form-Forall body ∙ ap (λ z. universal (form z)) (sym same)) (record {
      pure = bound.pure inner.pure;
      there = λ e l x v. subst (FormTruth (meaning_of m) (form b)) (values e v l) (inner.there (e ++ v ∷ []) (inner_length n k e v more l) (bound.there (meaning_of m) e x v));
      back = λ e l x. bound.back (meaning_of m) e (λ v. inner.back (e ++ v ∷ []) (inner_length n k e v more l) (subst (FormTruth (meaning_of m) (form b)) (sym (values e v l)) (x v)));
    })

pub arm_some : (m : Model) (f body b g : Core) (ts us vs : List Linear) (n k : ℕ) (h : Form) → IsExpansion m (form b) vs k (form g) → IsBound (existential (form g)) h → f ≡ c.Exists body → b ≡ body → vs ≡ us → us ≡ ts ++ name n ∷ [] → k ≡ n + 1
    → AllByRecursion (IsOver n) ts → IsExpansion m (form f) ts n h
arm_some m f body b g ts us vs n k h inner bound is same same_vs all more over =
    let with_name : vs ≡ ts ++ name n ∷ [] = same_vs ∙ all in
    let values = λ (e : List ℤ) (v : ℤ) (l : length e ≡ n). ap (λ l. values_of l (e ++ v ∷ [])) with_name ∙ inner_values n ts e v over l in
    expands_as m (form f) (existential (form b)) ts n h (ap form is ∙ form-Exists body ∙ ap (λ z. existential (form z)) (sym same)) (record {
      pure = bound.pure inner.pure;
      there = λ e l x none. bound.there (meaning_of m) e x (λ v t. none v (subst (FormTruth (meaning_of m) (form b)) (values e v l) (inner.there (e ++ v ∷ []) (inner_length n k e v more l) t)));
      back = λ e l x. bound.back (meaning_of m) e (λ none. x (λ v t. none v (inner.back (e ++ v ∷ []) (inner_length n k e v more l) (subst (FormTruth (meaning_of m) (form b)) (sym (values e v l)) t))));
    })

pub read_same : (m : Model) (body : Form) (ts : List Linear) (gs hs : List Guard) → hs ≡ gs → IsRead m body ts gs → IsRead m body ts hs
read_same m body ts gs hs same h = subst (IsRead m body ts) (sym same) h

pub ruleset arms = (read_same, arm_eq, arm_neq, arm_geq, arm_pred, arm_not_pred, arm_not_fun, arm_and, arm_or, arm_rest, arm_all, arm_some, inner_over)
