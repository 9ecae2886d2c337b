-- What an expansion over no names says.
use Rattle.std.proofs.Common.{◌≡◌, ℕ, zero, suc, ◌+◌, ◌<◌, ◌≤◌, ℤ, pos, Bool, true, false, not, List, [], ◌∷◌, ◌++◌, length, map, take, get_or, refl, sym, ap, ◌∙◌, subst, arith}
use Rattle.std.specs.List.{AllByRecursion}
use Rattle.linear_term.specs.Linear.{Linear, value_of, number, IsOver}
use Rattle.linear_term.proofs.Totals.{value_of-number}
use Rattle.formula.specs.Form.{Form, FormTruth, conjunction, disjunction, no_form, values_of}
use Rattle.formula.proofs.Extending.{over_number}
use Rattle.model_table.specs.declared.model.Model.{Model}
use Rattle.model_table.specs.Models.{meaning_of}
use Rattle.model_formulas.specs.Expanded.{IsExpansion}
use Rattle.model_check.specs.Judged.{Judges, SaysFalse}

pub numbers_more : (xs : List ℤ) (i : ℕ) (out more : List Linear) (t : Linear) → i < length xs → out ≡ map number (take i xs) → t ≡ number (get_or xs i (pos 0)) → more ≡ out ++ t ∷ [] → more ≡ map number (take (i + 1) xs)
numbers_more xs i out more t lt is t_is more_is = more_is ∙ ap (λ l. l ++ t ∷ []) is ∙ ap (λ z. map number (take i xs) ++ z ∷ []) t_is ∙ subst (λ j. map number (take i xs) ++ number (get_or xs i (pos 0)) ∷ [] ≡ map number (take j xs)) one (go xs i lt)
  where
    one : suc i ≡ i + 1
    one = omega arith

    go : (xs : List ℤ) (i : ℕ) → i < length xs → map number (take i xs) ++ number (get_or xs i (pos 0)) ∷ [] ≡ map number (take (suc i) xs)
    go [] i lt = absurd (omega (arith, lt))
    go (x ∷ xs) zero lt = refl
    go (x ∷ xs) (suc i) lt = ap (λ l. number x ∷ l) (go xs i (omega (arith, lt)))

numbers_values : (xs : List ℤ) → values_of (map number xs) [] ≡ xs
numbers_values [] = refl
numbers_values (x ∷ xs) = λ i. value_of-number x [] i ∷ numbers_values xs i

numbers_over : (xs : List ℤ) → AllByRecursion (IsOver 0) (map number xs)
numbers_over [] = tt
numbers_over (x ∷ xs) = (over_number 0 x, numbers_over xs)

pub are_over : (xs : List ℤ) (ts us : List Linear) → ts ≡ map number xs → us ≡ ts → AllByRecursion (IsOver 0) us
are_over xs ts us is same = subst (AllByRecursion (IsOver 0)) (sym (same ∙ is)) (numbers_over xs)

at_none : (m : Model) (f g : Form) (xs : List ℤ) (ts us : List Linear) → ts ≡ map number xs → us ≡ ts → IsExpansion m f us 0 g → (FormTruth (meaning_of m) g [] → FormTruth (meaning_of m) f xs) × (FormTruth (meaning_of m) f xs → FormTruth (meaning_of m) g [])
at_none m f g xs ts us is same h =
    let values : values_of us [] ≡ xs = ap (λ l. values_of l []) (same ∙ is) ∙ numbers_values xs in
    ((λ t. subst (FormTruth (meaning_of m) f) values (h.there [] refl t)), (λ t. h.back [] refl (subst (FormTruth (meaning_of m) f) (sym values) t)))

pub says_true : (m : Model) (f g : Form) (xs : List ℤ) (ts us : List Linear) → ts ≡ map number xs → us ≡ ts → IsExpansion m f us 0 g → g ≡ conjunction no_form → SaysFalse false (meaning_of m) f xs
says_true m f g xs ts us is same h good = record {
  refutes = λ z. absurd (let bad : false ≡ true = z in cc);
  holds = λ z. (at_none m f g xs ts us is same h).0 (subst (λ k. FormTruth (meaning_of m) k []) (sym good) tt);
}

pub says_false : (m : Model) (f g : Form) (xs : List ℤ) (ts us : List Linear) → ts ≡ map number xs → us ≡ ts → IsExpansion m f us 0 g → g ≡ disjunction no_form → SaysFalse true (meaning_of m) f xs
says_false m f g xs ts us is same h bad = record {
  refutes = λ z t. subst (λ k. FormTruth (meaning_of m) k []) bad ((at_none m f g xs ts us is same h).1 t) tt;
  holds = λ z. absurd (let worse : true ≡ false = z in cc);
}

not_true : (b : Bool) → not b ≡ true → b ≡ false
not_true b h = grind arith

not_false : (b : Bool) → not b ≡ false → b ≡ true
not_false b h = grind arith

pub says_so : (m : Model) (f g : Form) (xs : List ℤ) (ts us : List Linear) (b : Bool) → ts ≡ map number xs → us ≡ ts → IsExpansion m f us 0 g → Judges b g → SaysFalse (not b) (meaning_of m) f xs
says_so m f g xs ts us b is same h judged = record {
  refutes = λ z t. judged.bad (not_true b z) (meaning_of m) ((at_none m f g xs ts us is same h).1 t);
  holds = λ z. (at_none m f g xs ts us is same h).0 (judged.good (not_false b z) (meaning_of m));
}

pub ruleset judging = (are_over, says_true, says_false, says_so)
