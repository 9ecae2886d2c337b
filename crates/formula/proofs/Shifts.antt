-- A shifted formula at the longer list.
use Rattle.std.proofs.Common.{◌≡◌, ℕ, zero, suc, ◌+◌, ◌<◌, ◌≤◌, nat_lt, ℤ, pos, ◌+ℤ◌, ◌*ℤ◌, ◌≤ℤ◌, true, List, [], ◌∷◌, ◌++◌, length, map, refl, sym, ap, ◌∙◌, append_assoc, arith}
use Rattle.std.proofs.lemmas.Bool.{ltb-true, ltb-false}
use Rattle.base_integers.specs.Entry.{entry}
use Rattle.base_integers.proofs.Entries.{entry-append_left, entry-append_right}
use Rattle.linear_term.specs.Linear.{Linear, value_of, value_at, total}
use Rattle.linear_term.proofs.Totals.{by_test}
use Rattle.form_typed.specs.Truth.{Meaning}
use Rattle.formula.specs.Form.{Form, Forms, equal, unequal, at_least, holds, fails, differs, conjunction, disjunction, universal, existential, no_form, and_form, FormTruth, AreFormsTrue, AreFormsFalse, values_of}
use Rattle.formula.specs.Shifts.{raised_name, raised, shifted, all_shifted}

-- Shifts.

entry_raised : (a mid b : List ℤ) (x : ℕ) → entry (a ++ (mid ++ b)) (raised_name (length a) (length mid) x) ≡ entry (a ++ b) x
entry_raised a mid b x =
    by_test (λ y. entry (a ++ (mid ++ b)) y ≡ entry (a ++ b) x) (nat_lt x (length a)) x (x + length mid)
    (λ t. let lt : x < length a = ltb-true x (length a) t in entry-append_left a (mid ++ b) x lt ∙ sym (entry-append_left a b x lt))
    (λ t.
    let le : length a ≤ x = ltb-false x (length a) t in
    past a mid b x le)
  where
    past : (a mid b : List ℤ) (x : ℕ) → length a ≤ x → entry (a ++ (mid ++ b)) (x + length mid) ≡ entry (a ++ b) x
    past [] mid b x le =
        let is : x + length mid ≡ length mid + x = omega arith in
        ap (entry (mid ++ b)) is ∙ entry-append_right mid b x
    past (u ∷ a) mid b zero le = absurd (omega arith)
    past (u ∷ a) mid b (suc x) le =
        let is : suc x + length mid ≡ suc (x + length mid) = omega arith in
        ap (entry (u ∷ (a ++ (mid ++ b)))) is ∙ past a mid b x (omega arith)

total_raised : (a mid b : List ℤ) (ps : List (ℕ × ℤ))
    → total (value_at (a ++ (mid ++ b))) (map (λ (p : ℕ × ℤ). (raised_name (length a) (length mid) p.0, p.1)) ps) ≡ total (value_at (a ++ b)) ps
total_raised a mid b [] = refl
total_raised a mid b (p ∷ ps) = λ i. (p.1 *ℤ entry_raised a mid b p.0 i) +ℤ total_raised a mid b ps i

value_raised : (a mid b : List ℤ) (t : Linear) → value_of (raised (length a) (length mid) t) (a ++ (mid ++ b)) ≡ value_of t (a ++ b)
unfolding value_of raised
value_raised a mid b t = ap (λ z. z +ℤ t.constant) (total_raised a mid b t.pairs)

values_raised : (a mid b : List ℤ) (ts : List Linear) → values_of (map (raised (length a) (length mid)) ts) (a ++ (mid ++ b)) ≡ values_of ts (a ++ b)
values_raised a mid b [] = refl
values_raised a mid b (t ∷ ts) = λ i. value_raised a mid b t i ∷ values_raised a mid b ts i

longer : (a mid b : List ℤ) (v : ℤ) → (a ++ (mid ++ b)) ++ v ∷ [] ≡ a ++ (mid ++ (b ++ v ∷ []))
longer a mid b v = append_assoc a (mid ++ b) (v ∷ []) ∙ ap (λ l. a ++ l) (append_assoc mid b (v ∷ []))

mutual
  -- a shifted formula is true at the longer list where the formula is at the list
  pub shifted_is : (w : Meaning) (a mid b : List ℤ) (f : Form) → FormTruth w (shifted (length a) (length mid) f) (a ++ (mid ++ b)) ≡ FormTruth w f (a ++ b)
  shifted_is w a mid b (equal t) = λ i. value_raised a mid b t i ≡ pos 0
  shifted_is w a mid b (unequal t) = λ i. ¬ (value_raised a mid b t i ≡ pos 0)
  shifted_is w a mid b (at_least t) = λ i. pos 0 ≤ℤ value_raised a mid b t i
  shifted_is w a mid b (holds p ts) = λ i. w.truth p (values_raised a mid b ts i) ≡ true
  shifted_is w a mid b (fails p ts) = λ i. ¬ (w.truth p (values_raised a mid b ts i) ≡ true)
  shifted_is w a mid b (differs f ts u) = λ i. ¬ (w.value f (values_raised a mid b ts i) ≡ value_raised a mid b u i)
  shifted_is w a mid b (conjunction fs) = all_shifted_are w a mid b fs
  shifted_is w a mid b (disjunction fs) = λ i. ¬ (none_shifted w a mid b fs i)
  shifted_is w a mid b (universal f) =
      λ i. (v : ℤ) → (ap (FormTruth w (shifted (length a) (length mid) f)) (longer a mid b v) ∙ shifted_is w a mid (b ++ v ∷ []) f ∙ ap (FormTruth w f) (sym (append_assoc a b (v ∷ [])))) i
  shifted_is w a mid b (existential f) =
      λ i. ¬ ((v : ℤ) → ¬ ((ap (FormTruth w (shifted (length a) (length mid) f)) (longer a mid b v) ∙ shifted_is w a mid (b ++ v ∷ []) f ∙ ap (FormTruth w f) (sym (append_assoc a b (v ∷ [])))) i))

  all_shifted_are : (w : Meaning) (a mid b : List ℤ) (fs : Forms) → AreFormsTrue w (all_shifted (length a) (length mid) fs) (a ++ (mid ++ b)) ≡ AreFormsTrue w fs (a ++ b)
  all_shifted_are w a mid b no_form = refl
  all_shifted_are w a mid b (and_form f fs) = λ i. shifted_is w a mid b f i × all_shifted_are w a mid b fs i

  none_shifted : (w : Meaning) (a mid b : List ℤ) (fs : Forms) → AreFormsFalse w (all_shifted (length a) (length mid) fs) (a ++ (mid ++ b)) ≡ AreFormsFalse w fs (a ++ b)
  none_shifted w a mid b no_form = refl
  none_shifted w a mid b (and_form f fs) = λ i. (¬ (shifted_is w a mid b f i)) × none_shifted w a mid b fs i
