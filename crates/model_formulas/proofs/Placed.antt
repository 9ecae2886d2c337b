-- Atoms with terms for their names.
use Rattle.std.proofs.Common.{◌≡◌, ℕ, suc, ◌+◌, ◌<◌, ◌≤◌, ℤ, pos, ◌≤ℤ◌, Bool, true, List, [], ◌∷◌, ◌++◌, length, map, All, Result, Ok, refl, sym, ap, ◌∙◌, subst, arith}
use Rattle.std.specs.List.{AllByRecursion}
use Rattle.std.proofs.lemmas.List.{map-append}
use Rattle.std.proofs.lemmas.List.Elements.{All-from_recursion}
use Rattle.linear_term.specs.Linear.{Linear, value_of, name, IsOver}
use Rattle.linear_term.proofs.Totals.{value_of-name}
use Rattle.form_typed.specs.Truth.{Meaning}
use Rattle.formula.specs.Duals.{dual}
use Rattle.formula.specs.Form.{Form, FormTruth, equal, unequal, at_least, holds, fails, differs, conjunction, disjunction, universal, existential, is_pure, values_of}
use Rattle.formula.specs.Made.{Made}
use Rattle.formula.specs.Tree.{form, forms_of}
use Rattle.formula.specs.declared.calculus.Core.{Core}
use Rattle.formula.specs.declared.calculus.Core.TheVariants as c
use Rattle.formula.proofs.Building.{form-Eq, form-Neq, form-Geq, form-Pred, form-NotPred, form-NotFun, form-And, form-Or, form-Forall, form-Exists}
use Rattle.formula.proofs.Extending.{Extends, extends_more, entry_last, over_name, over_more, values_extend}
use Rattle.formula.proofs.Sameness.{pure_dual}
use Rattle.model_table.specs.declared.model.Model.{Model}
use Rattle.model_table.specs.Models.{meaning_of, truth_at, value_at}
use Rattle.model_formulas.specs.declared.choosing.Guard.{Guard}
use Rattle.model_formulas.specs.Choices.{AreChoices}
use Rattle.model_formulas.specs.Expansions.{Tells}
use Rattle.form_closures.specs.Putting.{put_in}
use Rattle.form_closures.proofs.Values.{put_value, put_values}
use Rattle.model_formulas.proofs.Chosen.{made_value}
use Rattle.model_formulas.proofs.Firsts.{negated}
use Rattle.model_formulas.specs.Expanded.{IsExpansion, IsBound}

told : (m : Model) (f : Form) (ts : List Linear) (n : ℕ) (g : Form) (P : List ℤ → Type 0) → Tells g P → ((e : List ℤ) → P e → FormTruth (meaning_of m) f (values_of ts e))
    → ((e : List ℤ) → FormTruth (meaning_of m) f (values_of ts e) → P e) → IsExpansion m f ts n g
told m f ts n g P h to fro = record {
  pure = h.pure;
  there = λ e l t. to e (h.there (meaning_of m) e t);
  back = λ e l t. h.back (meaning_of m) e (fro e t);
}

put_is : (ts : List Linear) (t u : Linear) (e : List ℤ) → u ≡ put_in ts t → value_of u e ≡ value_of t (values_of ts e)
put_is ts t u e is = ap (λ z. value_of z e) is ∙ put_value ts t e

puts_are : (ts us vs : List Linear) (e : List ℤ) → vs ≡ map (put_in ts) us → values_of vs e ≡ values_of us (values_of ts e)
puts_are ts us vs e is = ap (λ l. values_of l e) is ∙ put_values ts us e

pub eq_at : (t u : Linear) (ts : List Linear) (g : Form) → u ≡ put_in ts t → Tells g (λ e. value_of u e ≡ pos 0) → (m : Model) (n : ℕ) → IsExpansion m (equal t) ts n g
eq_at t u ts g put h m n = told m (equal t) ts n g (λ e. value_of u e ≡ pos 0) h (λ e k. sym (put_is ts t u e put) ∙ k) (λ e k. put_is ts t u e put ∙ k)

pub neq_at : (t u : Linear) (ts : List Linear) (g : Form) → u ≡ put_in ts t → Tells g (λ e. ¬ (value_of u e ≡ pos 0)) → (m : Model) (n : ℕ) → IsExpansion m (unequal t) ts n g
neq_at t u ts g put h m n = told m (unequal t) ts n g (λ e. ¬ (value_of u e ≡ pos 0)) h (λ e k z. k (put_is ts t u e put ∙ z)) (λ e k z. k (sym (put_is ts t u e put) ∙ z))

pub geq_at : (t u : Linear) (ts : List Linear) (g : Form) → u ≡ put_in ts t → Tells g (λ e. pos 0 ≤ℤ value_of u e) → (m : Model) (n : ℕ) → IsExpansion m (at_least t) ts n g
geq_at t u ts g put h m n = told m (at_least t) ts n g (λ e. pos 0 ≤ℤ value_of u e) h (λ e k. subst (λ z. pos 0 ≤ℤ z) (put_is ts t u e put) k) (λ e k. subst (λ z. pos 0 ≤ℤ z) (sym (put_is ts t u e put)) k)

pub ruleset equations = (eq_at, neq_at, geq_at)

pub pred_at : (m : Model) (p : ℕ) (us vs xs : List Linear) (ts : List Linear) (g : Form) → vs ≡ map (put_in ts) us → xs ≡ vs → Tells g (λ e. truth_at m.predicates p (values_of xs e) ≡ true) → (n : ℕ) → IsExpansion m (holds p us) ts n g
pred_at m p us vs xs ts g put same h n =
    told m (holds p us) ts n g (λ e. truth_at m.predicates p (values_of xs e) ≡ true) h
    (λ e k. ap (truth_at m.predicates p) (sym (puts_are ts us xs e (same ∙ put))) ∙ k) (λ e k. ap (truth_at m.predicates p) (puts_are ts us xs e (same ∙ put)) ∙ k)

pub not_pred_at : (m : Model) (p : ℕ) (us : List Linear) (ts : List Linear) (g h : Core) → ((j : ℕ) → IsExpansion m (holds p us) ts j (form g)) → Made form (dual (form g)) (Ok h) → (n : ℕ) → IsExpansion m (fails p us) ts n (form h)
not_pred_at m p us ts g h x made n =
    let pure = (x n).pure in
    let turned : form h ≡ (dual (form g)).value = made_value form (dual (form g)) h made in
    record {
      pure = ap is_pure turned ∙ pure_dual (form g) ∙ pure;
      there = λ e l t k. (negated (meaning_of m) g h e made pure).0 t ((x n).back e l k);
      back = λ e l t. (negated (meaning_of m) g h e made pure).1 (λ k. t ((x n).there e l k));
    }

pub ruleset predicates = (pred_at, not_pred_at)

pub fun_at : (m : Model) (k : ℕ) (us vs xs : List Linear) (u v : Linear) (gs hs : List Guard) (ts : List Linear) (g : Form) → vs ≡ map (put_in ts) us → xs ≡ vs → AreChoices gs (λ e. value_at m.functions k (values_of xs e)) → hs ≡ gs → v ≡ put_in ts u
    → ((V : List ℤ → ℤ) → AreChoices hs V → Tells g (λ e. ¬ (V e ≡ value_of v e))) → (n : ℕ) → IsExpansion m (differs k us u) ts n g
fun_at m k us vs xs u v gs hs ts g put same chosen same_gs put_u h n =
    let V : List ℤ → ℤ = λ e. value_at m.functions k (values_of xs e) in
    let one = λ (e : List ℤ). ap (value_at m.functions k) (puts_are ts us xs e (same ∙ put)) in
    told m (differs k us u) ts n g (λ e. ¬ (V e ≡ value_of v e)) (h V (subst (λ l. AreChoices l V) (sym same_gs) chosen))
    (λ e z y. z (one e ∙ y ∙ sym (put_is ts u v e put_u))) (λ e z y. z (sym (one e) ∙ y ∙ put_is ts u v e put_u))

pub ruleset functions = (fun_at)
