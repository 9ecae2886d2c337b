-- The expansion of conjunctions and disjunctions, member by member.
use Rattle.std.proofs.Common.{◌≡◌, ℕ, zero, suc, ◌+◌, ◌<◌, ◌≤◌, ℤ, true, List, [], ◌∷◌, ◌++◌, length, drop, get_or, refl, sym, ap, ◌∙◌, subst, arith}
use Rattle.linear_term.specs.Linear.{Linear}
use Rattle.base_budget.proofs.Charging.{drop-item, drop_all}
use Rattle.form_typed.specs.Truth.{Meaning}
use Rattle.formula.specs.Form.{Form, FormTruth, AreFormsTrue, AreFormsFalse, conjunction, disjunction, no_form, is_pure, are_pure, values_of}
use Rattle.formula.specs.Tree.{form, forms_of}
use Rattle.formula.specs.declared.calculus.Core.{Core}
use Rattle.formula.proofs.Stability.{form_stable}
use Rattle.model_table.specs.declared.model.Model.{Model}
use Rattle.model_table.specs.Models.{meaning_of}
use Rattle.model_formulas.specs.Expansions.{Same}
use Rattle.model_formulas.proofs.Members.{true_append, true_parts, false_append, false_parts, falses_stable, pure_append, pure_one}
use Rattle.model_formulas.specs.Expanded.{IsExpansion}

-- ---- conjunctions
pub record AllLeft (m : Model) (ts : List Linear) (n : ℕ) (all rest out : List Core) : Type 0 where
  pub pure : are_pure (forms_of out) ≡ true
  pub there : (e : List ℤ) → length e ≡ n → AreFormsTrue (meaning_of m) (forms_of out) e → AreFormsTrue (meaning_of m) (forms_of rest) (values_of ts e) → AreFormsTrue (meaning_of m) (forms_of all) (values_of ts e)
  pub back : (e : List ℤ) → length e ≡ n → AreFormsTrue (meaning_of m) (forms_of all) (values_of ts e) → AreFormsTrue (meaning_of m) (forms_of out) e × AreFormsTrue (meaning_of m) (forms_of rest) (values_of ts e)

pub all_begins : (m : Model) (ts : List Linear) (n : ℕ) (fs out : List Core) → out ≡ [] → AllLeft m ts n fs (drop 0 fs) out
all_begins m ts n fs out none = subst (AllLeft m ts n fs fs) (sym none) (record { pure = refl; there = λ e l h k. k; back = λ e l h. (tt, h) })

all_one : (m : Model) (ts : List Linear) (n : ℕ) (all rest out more : List Core) (f g : Core) → IsExpansion m (form f) ts n (form g) → Same n (conjunction (forms_of (out ++ g ∷ []))) (conjunction (forms_of more))
    → AllLeft m ts n all (f ∷ rest) out → AllLeft m ts n all rest more
all_one m ts n all rest out more f g x same h = record {
  pure = same.pure (pure_append out (g ∷ []) h.pure (pure_one g x.pure));
  there = λ e l t k. let p = true_parts (meaning_of m) out (g ∷ []) e (same.there (meaning_of m) e l t) in h.there e l p.0 (x.there e l p.1.0, k);
  back = λ e l t. let p = h.back e l t in (same.back (meaning_of m) e l (true_append (meaning_of m) out (g ∷ []) e p.0 (x.back e l p.1.0, tt)), p.1.1);
}

pub all_goes : (m : Model) (ts : List Linear) (n : ℕ) (fs : List Core) (i : ℕ) (f g : Core) (out more : List Core) → i < length fs → f ≡ get_or fs i f → IsExpansion m (form f) ts n (form g)
    → ((k : ℕ) → Same k (conjunction (forms_of (out ++ g ∷ []))) (conjunction (forms_of more))) → AllLeft m ts n fs (drop i fs) out → AllLeft m ts n fs (drop (i + 1) fs) more
all_goes m ts n fs i f g out more lt is x same h = all_one m ts n fs (drop (i + 1) fs) out more f g x (same n) (subst (λ l. AllLeft m ts n fs l out) (drop-item fs i f lt is) h)

pub all_stops : (m : Model) (ts : List Linear) (n : ℕ) (fs : List Core) (i : ℕ) (f g : Core) (out : List Core) → i < length fs → f ≡ get_or fs i f → IsExpansion m (form f) ts n (form g) → form g ≡ disjunction no_form
    → AllLeft m ts n fs (drop i fs) out → IsExpansion m (conjunction (forms_of fs)) ts n (form g)
all_stops m ts n fs i f g out lt is x bad h =
    let here = subst (λ l. AllLeft m ts n fs l out) (drop-item fs i f lt is) h in
    record {
      pure = x.pure;
      there = λ e l t. absurd (subst (λ z. FormTruth (meaning_of m) z e) bad t tt);
      back = λ e l t. x.back e l (here.back e l t).1.0;
    }

pub all_ends : (m : Model) (ts : List Linear) (n : ℕ) (fs : List Core) (i : ℕ) (out : List Core) (g : Form) → length fs ≤ i → ((k : ℕ) → Same k (conjunction (forms_of out)) g) → AllLeft m ts n fs (drop i fs) out
    → IsExpansion m (conjunction (forms_of fs)) ts n g
all_ends m ts n fs i out g le same h = record {
  pure = (same n).pure h.pure;
  there = λ e l t. h.there e l ((same n).there (meaning_of m) e l t) (subst (λ r. AreFormsTrue (meaning_of m) (forms_of r) (values_of ts e)) (sym (drop_all fs i le)) tt);
  back = λ e l t. (same n).back (meaning_of m) e l (h.back e l t).0;
}

pub ruleset alls = (all_begins, all_goes, all_stops, all_ends)

-- ---- disjunctions
pub record AnyLeft (m : Model) (ts : List Linear) (n : ℕ) (all rest out : List Core) : Type 0 where
  pub pure : are_pure (forms_of out) ≡ true
  pub there : (e : List ℤ) → length e ≡ n → AreFormsFalse (meaning_of m) (forms_of out) e → AreFormsFalse (meaning_of m) (forms_of rest) (values_of ts e) → AreFormsFalse (meaning_of m) (forms_of all) (values_of ts e)
  pub back : (e : List ℤ) → length e ≡ n → AreFormsFalse (meaning_of m) (forms_of all) (values_of ts e) → AreFormsFalse (meaning_of m) (forms_of out) e × AreFormsFalse (meaning_of m) (forms_of rest) (values_of ts e)

pub any_begins : (m : Model) (ts : List Linear) (n : ℕ) (all out : List Core) → out ≡ [] → AnyLeft m ts n all all out
any_begins m ts n all out none = subst (AnyLeft m ts n all all) (sym none) (record { pure = refl; there = λ e l h k. k; back = λ e l h. (tt, h) })

any_one : (m : Model) (ts : List Linear) (n : ℕ) (all rest out more : List Core) (f g : Core) → IsExpansion m (form f) ts n (form g) → Same n (disjunction (forms_of (out ++ g ∷ []))) (disjunction (forms_of more))
    → AnyLeft m ts n all (f ∷ rest) out → AnyLeft m ts n all rest more
any_one m ts n all rest out more f g x same h = record {
  pure = same.pure (pure_append out (g ∷ []) h.pure (pure_one g x.pure));
  there = λ e l none k.
      let p = false_parts (meaning_of m) out (g ∷ []) e (falses_stable (meaning_of m) (forms_of (out ++ g ∷ [])) e (λ z. same.back (meaning_of m) e l z none)) in
      h.there e l p.0 ((λ t. p.1.0 (x.back e l t)), k);
  back = λ e l none.
      let p = h.back e l none in
      (falses_stable (meaning_of m) (forms_of more) e (λ z. same.there (meaning_of m) e l z (false_append (meaning_of m) out (g ∷ []) e p.0 ((λ t. p.1.0 (x.there e l t)), tt))), p.1.1);
}

pub any_goes : (m : Model) (ts : List Linear) (n : ℕ) (all fs : List Core) (i : ℕ) (f g : Core) (out more : List Core) → i < length fs → f ≡ get_or fs i f → IsExpansion m (form f) ts n (form g)
    → ((k : ℕ) → Same k (disjunction (forms_of (out ++ g ∷ []))) (disjunction (forms_of more))) → AnyLeft m ts n all (drop i fs) out → AnyLeft m ts n all (drop (i + 1) fs) more
any_goes m ts n all fs i f g out more lt is x same h = any_one m ts n all (drop (i + 1) fs) out more f g x (same n) (subst (λ l. AnyLeft m ts n all l out) (drop-item fs i f lt is) h)

pub any_stops : (m : Model) (ts : List Linear) (n : ℕ) (all fs : List Core) (i : ℕ) (f g : Core) (out : List Core) → i < length fs → f ≡ get_or fs i f → IsExpansion m (form f) ts n (form g) → form g ≡ conjunction no_form
    → AnyLeft m ts n all (drop i fs) out → IsExpansion m (disjunction (forms_of all)) ts n (form g)
any_stops m ts n all fs i f g out lt is x good h =
    let here = subst (λ l. AnyLeft m ts n all l out) (drop-item fs i f lt is) h in
    record {
      pure = x.pure;
      there = λ e l t none. (here.back e l none).1.0 (x.there e l t);
      back = λ e l t. subst (λ z. FormTruth (meaning_of m) z e) (sym good) tt;
    }

pub any_ends : (m : Model) (ts : List Linear) (n : ℕ) (all fs : List Core) (i : ℕ) (out : List Core) (g : Form) → length fs ≤ i → ((k : ℕ) → Same k (disjunction (forms_of out)) g) → AnyLeft m ts n all (drop i fs) out
    → IsExpansion m (disjunction (forms_of all)) ts n g
any_ends m ts n all fs i out g le same h = record {
  pure = (same n).pure h.pure;
  there = λ e l t none. (same n).there (meaning_of m) e l t (h.back e l none).0;
  back = λ e l t. (same n).back (meaning_of m) e l (λ none. t (h.there e l none (subst (λ r. AreFormsFalse (meaning_of m) (forms_of r) (values_of ts e)) (sym (drop_all fs i le)) tt)));
}

pub ruleset anys = (any_begins, any_goes, any_stops, any_ends)
