-- A quantifier moved inwards says what it said.
use Rattle.std.proofs.Common.{ℕ, suc, ◌≡◌, ◌↔◌, Bool, true, false, cond, List, [], ◌∷◌, ◌++◌, length, length-append, refl, ◌∙◌, arith, ℤ, pos}
use Rattle.linear_term.proofs.Totals.{by_test}
use Rattle.form_typed.specs.Truth.{Meaning}
use Rattle.formula.specs.Form.{Form, Forms, equal, unequal, at_least, holds, fails, differs, conjunction, disjunction, universal, existential, no_form, and_form, FormTruth, AreFormsTrue, AreFormsFalse}
use Rattle.formula.proofs.Stability.{form_stable, forms_stable}
use Rattle.form_miniscope.specs.Lowering.{occurs, occurs_in, freed}
use Rattle.form_miniscope.specs.Miniscope.{bound, outer, beside, over_name, every, all_every, some, all_some, miniscoped, all_miniscoped, scoped_below}
use Rattle.form_miniscope.proofs.Lowering.{freed_is}

through : {A B C : Type 0} → A ↔ B → B ↔ C → A ↔ C
through f g = (λ a. g.0 (f.0 a), λ c. f.1 (g.1 c))

one_more : (e : List ℤ) (v : ℤ) (n : ℕ) → length e ≡ n → length (e ++ v ∷ []) ≡ suc n
one_more e v n len = length-append e (v ∷ []) ∙ omega (arith, len)

none_stable : (w : Meaning) (fs : Forms) (e : List ℤ) → ¬ (¬ (AreFormsFalse w fs e)) → AreFormsFalse w fs e
none_stable w no_form e h = tt
none_stable w (and_form f fs) e h = (λ a. h (λ k. k.0 a), none_stable w fs e (λ n. h (λ k. n k.1)))

-- ---- members with the name and without

-- both ways for the members that are left
abbrev AllSplit : Meaning → ℕ → Forms → List ℤ → ℤ → Type 0
AllSplit w n fs e v = (AreFormsTrue w (bound n fs) (e ++ v ∷ []) × AreFormsTrue w (outer n fs) e) ↔ AreFormsTrue w fs (e ++ v ∷ [])

abbrev NoneSplit : Meaning → ℕ → Forms → List ℤ → ℤ → Type 0
NoneSplit w n fs e v = (AreFormsFalse w (bound n fs) (e ++ v ∷ []) × AreFormsFalse w (outer n fs) e) ↔ AreFormsFalse w fs (e ++ v ∷ [])

all_more : (w : Meaning) (n : ℕ) (f : Form) (fs : Forms) (e : List ℤ) (v : ℤ) → length e ≡ n → AllSplit w n fs e v → (b : Bool) → occurs n f ≡ b
    → (AreFormsTrue w (cond b (and_form f (bound n fs)) (bound n fs)) (e ++ v ∷ []) × AreFormsTrue w (cond b (outer n fs) (and_form (freed n f) (outer n fs))) e) ↔ AreFormsTrue w (and_form f fs) (e ++ v ∷ [])
all_more w n f fs e v len i true is = (λ h. (h.0.0, i.0 (h.0.1, h.1)), λ h. let k = i.1 h.1 in ((h.0, k.0), k.1))
all_more w n f fs e v len i false is = let j = freed_is w n f e v len is in (λ h. (j.0 h.1.0, i.0 (h.0, h.1.1)), λ h. let k = i.1 h.1 in (k.0, (j.1 h.0, k.1)))

all_apart : (w : Meaning) (n : ℕ) (fs : Forms) (e : List ℤ) (v : ℤ) → length e ≡ n → AllSplit w n fs e v
all_apart w n no_form e v len = (λ h. tt, λ h. (tt, tt))
all_apart w n (and_form f fs) e v len = all_more w n f fs e v len (all_apart w n fs e v len) (occurs n f) refl

none_more : (w : Meaning) (n : ℕ) (f : Form) (fs : Forms) (e : List ℤ) (v : ℤ) → length e ≡ n → NoneSplit w n fs e v → (b : Bool) → occurs n f ≡ b
    → (AreFormsFalse w (cond b (and_form f (bound n fs)) (bound n fs)) (e ++ v ∷ []) × AreFormsFalse w (cond b (outer n fs) (and_form (freed n f) (outer n fs))) e) ↔ AreFormsFalse w (and_form f fs) (e ++ v ∷ [])
none_more w n f fs e v len i true is = (λ h. (h.0.0, i.0 (h.0.1, h.1)), λ h. let k = i.1 h.1 in ((h.0, k.0), k.1))
none_more w n f fs e v len i false is =
    let j = freed_is w n f e v len is in (λ h. (λ t. h.1.0 (j.1 t), i.0 (h.0, h.1.1)), λ h. let k = i.1 h.1 in (k.0, (λ t. h.0 (j.0 t), k.1)))

none_apart : (w : Meaning) (n : ℕ) (fs : Forms) (e : List ℤ) (v : ℤ) → length e ≡ n → NoneSplit w n fs e v
none_apart w n no_form e v len = (λ h. tt, λ h. (tt, tt))
none_apart w n (and_form f fs) e v len = none_more w n f fs e v len (none_apart w n fs e v len) (occurs n f) refl

beside_all : (w : Meaning) (g : Form) (fs : Forms) (e : List ℤ) → FormTruth w (beside conjunction g fs) e ↔ (FormTruth w g e × AreFormsTrue w fs e)
beside_all w g no_form e = (λ h. (h, tt), λ h. h.0)
beside_all w g (and_form f fs) e = (λ h. h, λ h. h)

beside_any : (w : Meaning) (g : Form) (fs : Forms) (e : List ℤ) → FormTruth w (beside disjunction g fs) e ↔ (¬ ((¬ (FormTruth w g e)) × AreFormsFalse w fs e))
beside_any w g no_form e = (λ h k. k.0 h, λ h. form_stable w g e (λ k. h (k, tt)))
beside_any w g (and_form f fs) e = (λ h. h, λ h. h)

-- ---- for-all

abbrev Every : Meaning → Form → List ℤ → Type 0
Every w f e = (v : ℤ) → FormTruth w f (e ++ v ∷ [])

every_over : (w : Meaning) (n : ℕ) (f : Form) (e : List ℤ) → length e ≡ n → FormTruth w (over_name universal n f) e ↔ Every w f e
every_over w n f e len = by (occurs n f) refl
  where
    by : (b : Bool) → occurs n f ≡ b → FormTruth w (cond b (universal f) (freed n f)) e ↔ Every w f e
    by true is = (λ h. h, λ h. h)
    by false is = (λ h v. (freed_is w n f e v len is).0 h, λ h. (freed_is w n f e (pos 0) len is).1 (h (pos 0)))

every_any : (w : Meaning) (n : ℕ) (fs : Forms) (e : List ℤ) → length e ≡ n → FormTruth w (beside disjunction (universal (disjunction (bound n fs))) (outer n fs)) e ↔ Every w (disjunction fs) e
every_any w n fs e len =
    through (beside_any w (universal (disjunction (bound n fs))) (outer n fs) e) (
      λ h v none. let two = (none_apart w n fs e v len).1 none in h (λ all. all v two.0, two.1),
      λ h k. k.0 (λ v none. h v ((none_apart w n fs e v len).0 (none, k.1))),
    )

mutual
  every_is : (w : Meaning) (n : ℕ) (f : Form) (e : List ℤ) → length e ≡ n → FormTruth w (every n f) e ↔ Every w f e
  every_is w n (conjunction fs) e len = all_every_are w n fs e len
  every_is w n (disjunction fs) e len =
      by_test (λ z. FormTruth w z e ↔ Every w (disjunction fs) e) (occurs_in n fs) _ (freed n (disjunction fs)) (λ t. every_any w n fs e len)
      (λ t. (λ h v. (freed_is w n (disjunction fs) e v len t).0 h, λ h. (freed_is w n (disjunction fs) e (pos 0) len t).1 (h (pos 0))))
  every_is w n (equal t) e len = every_over w n (equal t) e len
  every_is w n (unequal t) e len = every_over w n (unequal t) e len
  every_is w n (at_least t) e len = every_over w n (at_least t) e len
  every_is w n (holds p ts) e len = every_over w n (holds p ts) e len
  every_is w n (fails p ts) e len = every_over w n (fails p ts) e len
  every_is w n (differs f ts u) e len = every_over w n (differs f ts u) e len
  every_is w n (universal f) e len = every_over w n (universal f) e len
  every_is w n (existential f) e len = every_over w n (existential f) e len

  all_every_are : (w : Meaning) (n : ℕ) (fs : Forms) (e : List ℤ) → length e ≡ n → AreFormsTrue w (all_every n fs) e ↔ ((v : ℤ) → AreFormsTrue w fs (e ++ v ∷ []))
  all_every_are w n no_form e len = (λ h v. tt, λ h. tt)
  all_every_are w n (and_form f fs) e len =
      let i = every_is w n f e len in let j = all_every_are w n fs e len in
      (λ h v. (i.0 h.0 v, j.0 h.1 v), λ h. (i.1 (λ v. (h v).0), j.1 (λ v. (h v).1)))

-- ---- for-some

abbrev Some : Meaning → Form → List ℤ → Type 0
Some w f e = ¬ ((v : ℤ) → ¬ (FormTruth w f (e ++ v ∷ [])))

some_freed : (w : Meaning) (n : ℕ) (f : Form) (e : List ℤ) → length e ≡ n → occurs n f ≡ false → FormTruth w (freed n f) e ↔ Some w f e
some_freed w n f e len is =
    (λ h k. k (pos 0) ((freed_is w n f e (pos 0) len is).0 h), λ h. form_stable w (freed n f) e (λ k. h (λ v t. k ((freed_is w n f e v len is).1 t))))

some_over : (w : Meaning) (n : ℕ) (f : Form) (e : List ℤ) → length e ≡ n → FormTruth w (over_name existential n f) e ↔ Some w f e
some_over w n f e len = by (occurs n f) refl
  where
    by : (b : Bool) → occurs n f ≡ b → FormTruth w (cond b (existential f) (freed n f)) e ↔ Some w f e
    by true is = (λ h. h, λ h. h)
    by false is = some_freed w n f e len is

some_all : (w : Meaning) (n : ℕ) (fs : Forms) (e : List ℤ) → length e ≡ n → FormTruth w (beside conjunction (existential (conjunction (bound n fs))) (outer n fs)) e ↔ Some w (conjunction fs) e
some_all w n fs e len =
    through (beside_all w (existential (conjunction (bound n fs))) (outer n fs) e) (
      λ h k. h.0 (λ v t. k v ((all_apart w n fs e v len).0 (t, h.1))),
      λ h. (λ k. h (λ v t. k v ((all_apart w n fs e v len).1 t).0), forms_stable w (outer n fs) e (λ k. h (λ v t. k ((all_apart w n fs e v len).1 t).1))),
    )

mutual
  some_is : (w : Meaning) (n : ℕ) (f : Form) (e : List ℤ) → length e ≡ n → FormTruth w (some n f) e ↔ Some w f e
  some_is w n (conjunction fs) e len =
      by_test (λ z. FormTruth w z e ↔ Some w (conjunction fs) e) (occurs_in n fs) _ (freed n (conjunction fs)) (λ t. some_all w n fs e len) (λ t. some_freed w n (conjunction fs) e len t)
  some_is w n (disjunction fs) e len =
      let i = all_some_are w n fs e len in
      (λ h k. h (i.1 (λ v. none_stable w fs (e ++ v ∷ []) (k v))), λ h none. h (λ v t. t (i.0 none v)))
  some_is w n (equal t) e len = some_over w n (equal t) e len
  some_is w n (unequal t) e len = some_over w n (unequal t) e len
  some_is w n (at_least t) e len = some_over w n (at_least t) e len
  some_is w n (holds p ts) e len = some_over w n (holds p ts) e len
  some_is w n (fails p ts) e len = some_over w n (fails p ts) e len
  some_is w n (differs f ts u) e len = some_over w n (differs f ts u) e len
  some_is w n (universal f) e len = some_over w n (universal f) e len
  some_is w n (existential f) e len = some_over w n (existential f) e len

  all_some_are : (w : Meaning) (n : ℕ) (fs : Forms) (e : List ℤ) → length e ≡ n → AreFormsFalse w (all_some n fs) e ↔ ((v : ℤ) → AreFormsFalse w fs (e ++ v ∷ []))
  all_some_are w n no_form e len = (λ h v. tt, λ h. tt)
  all_some_are w n (and_form f fs) e len =
      let i = some_is w n f e len in let j = all_some_are w n fs e len in
      (λ h v. (λ t. h.0 (i.1 (λ k. k v t)), j.0 h.1 v), λ h. (λ t. i.0 t (λ v. (h v).0), j.1 (λ v. (h v).1)))

-- ---- the whole formula

mutual
  pub miniscoped_is : (w : Meaning) (n : ℕ) (f : Form) (e : List ℤ) → length e ≡ n → FormTruth w (miniscoped n f) e ↔ FormTruth w f e
  miniscoped_is w n (equal t) e len = (λ h. h, λ h. h)
  miniscoped_is w n (unequal t) e len = (λ h. h, λ h. h)
  miniscoped_is w n (at_least t) e len = (λ h. h, λ h. h)
  miniscoped_is w n (holds p ts) e len = (λ h. h, λ h. h)
  miniscoped_is w n (fails p ts) e len = (λ h. h, λ h. h)
  miniscoped_is w n (differs f ts u) e len = (λ h. h, λ h. h)
  miniscoped_is w n (conjunction fs) e len = (all_miniscoped_are w n fs e len).0
  miniscoped_is w n (disjunction fs) e len = let i = (all_miniscoped_are w n fs e len).1 in (λ h k. h (i.1 k), λ h k. h (i.0 k))
  miniscoped_is w n (universal f) e len =
      through (every_is w n (miniscoped (suc n) f) e len)
      (λ h v. (miniscoped_is w (suc n) f (e ++ v ∷ []) (one_more e v n len)).0 (h v), λ h v. (miniscoped_is w (suc n) f (e ++ v ∷ []) (one_more e v n len)).1 (h v))
  miniscoped_is w n (existential f) e len =
      through (some_is w n (miniscoped (suc n) f) e len)
      (λ h k. h (λ v t. k v ((miniscoped_is w (suc n) f (e ++ v ∷ []) (one_more e v n len)).0 t)), λ h k. h (λ v t. k v ((miniscoped_is w (suc n) f (e ++ v ∷ []) (one_more e v n len)).1 t)))

  all_miniscoped_are : (w : Meaning) (n : ℕ) (fs : Forms) (e : List ℤ) → length e ≡ n
      → (AreFormsTrue w (all_miniscoped n fs) e ↔ AreFormsTrue w fs e) × (AreFormsFalse w (all_miniscoped n fs) e ↔ AreFormsFalse w fs e)
  all_miniscoped_are w n no_form e len = ((λ h. h, λ h. h), (λ h. h, λ h. h))
  all_miniscoped_are w n (and_form f fs) e len =
      let i = miniscoped_is w n f e len in let j = all_miniscoped_are w n fs e len in (
        (λ h. (i.0 h.0, j.0.0 h.1), λ h. (i.1 h.0, j.0.1 h.1)),
        (λ h. (λ t. h.0 (i.1 t), j.1.0 h.1), λ h. (λ t. h.0 (i.0 t), j.1.1 h.1)),
      )

-- ---- below the first for-alls

pub scoped_below_is : (w : Meaning) (n : ℕ) (f : Form) (e : List ℤ) → length e ≡ n → FormTruth w (scoped_below n f) e ↔ FormTruth w f e
scoped_below_is w n (universal f) e len =
    (λ h v. (scoped_below_is w (suc n) f (e ++ v ∷ []) (one_more e v n len)).0 (h v), λ h v. (scoped_below_is w (suc n) f (e ++ v ∷ []) (one_more e v n len)).1 (h v))
scoped_below_is w n f e len = miniscoped_is w n f e len
