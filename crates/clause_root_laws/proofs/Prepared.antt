-- A prepared formula is true where the formula is, and speaks of the same names.
use Rattle.std.proofs.Common.{ℕ, zero, suc, ◌≡◌, ◌+◌, ◌↔◌, ◌&&◌, Bool, true, false, cond, Option, Some, None, List, [], ◌∷◌, ◌++◌, length, length-append, refl, subst, ◌∙◌, arith, ℤ}
use Rattle.linear_term.specs.Linear.{Linear}
use Rattle.form_typed.specs.Truth.{Meaning}
use Rattle.base_budget.specs.Trace.{at, End, done, refused, out_of_range, cut}
use Rattle.formula.specs.Form.{Form, Forms, equal, unequal, at_least, holds, fails, differs, conjunction, disjunction, universal, existential, no_form, and_form, is_pure, FormTruth, AreFormsTrue, AreFormsFalse, IsFormOver, AreFormsOver}
use Rattle.formula.specs.Reduced.{HasReducedTerms, HaveReducedTerms}
use Rattle.formula.specs.Sizes.{depth}
use Rattle.clause_set.specs.declared.literal.Literal.{Literal}
use Rattle.clause_set.specs.Literals.{dnf_truth}
use Rattle.elim_laws.specs.Elimination.{Reflects}
use Rattle.elim_laws.specs.Presburger.{IsPresburger, IsPresburgerTrue}
use Rattle.elim_laws.specs.Whole.{AreOver, IsExact, eliminating}
use Rattle.elim_laws.proofs.Over.{eliminated-over}
use Rattle.elim_laws.proofs.Reduced.{presburger_of}
use Rattle.elim_laws.proofs.Whole.{anywhere, eliminating-exact}
use Rattle.clause_root_laws.specs.Clausal.{dnf_form}
use Rattle.form_naming.specs.Naming.{application, is_pure_but, renamed}
use Rattle.form_naming.proofs.Naming.{found_over, reading_is}
use Rattle.form_naming.proofs.Keeping.{reading_over, renamed_over, renamed_reduced}
use Rattle.clause_root_laws.specs.Prepared.{share, by_end, attempted, attempted_pure, by_application, most_names, unquantified, prepared, all_prepared}
use Rattle.clause_root_laws.proofs.Clausal.{dnf_is, dnf_over, through}

-- ---- one elimination

eliminating-over : (n : ℕ) (f : Form) → IsPresburger f → IsFormOver n f → AreOver n (eliminating n f).value
unfolding eliminating
eliminating-over n f is over = eliminated-over (suc (depth f)) n f (omega arith) is over

reflected : (b : Bool) (P : Type 0) → Reflects b P → (b ≡ true) ↔ P
reflected true P h = (h.yes, λ x. refl)
reflected false P h = (λ e. h.yes e, λ x. absurd (h.no refl x))

-- the formula of an exact normal form is true where the formula is
exact_is : (w : Meaning) (n : ℕ) (f : Form) (d : List (List Literal)) (e : List ℤ) → length e ≡ n → IsPresburger f → IsExact d f n → AreOver n d → FormTruth w (dnf_form n d) e ↔ FormTruth w f e
exact_is w n f d e len proper exact over =
    let any = anywhere w f e proper in
    through (through (dnf_is w n d e len exact.formed over) (reflected (dnf_truth d e) (IsPresburgerTrue f e) (exact.tells e len))) (any.1, any.0)

by_end_is : (w : Meaning) (n : ℕ) (f : Form) (d : List (List Literal)) (left : ℕ) (z : End) (e : List ℤ) → FormTruth w (dnf_form n d) e ↔ FormTruth w f e → FormTruth w (by_end n f d left z).0 e ↔ FormTruth w f e
by_end_is w n f d left (done a) e h = h
by_end_is w n f d left (refused a) e h = (λ t. t, λ t. t)
by_end_is w n f d left (out_of_range ps a) e h = (λ t. t, λ t. t)

by_end_over : (n : ℕ) (f : Form) (d : List (List Literal)) (left : ℕ) (z : End) → IsFormOver n (dnf_form n d) → IsFormOver n f → IsFormOver n (by_end n f d left z).0
by_end_over n f d left (done a) h over = h
by_end_over n f d left (refused a) h over = over
by_end_over n f d left (out_of_range ps a) h over = over

attempted_is : (w : Meaning) (n : ℕ) (f : Form) (left : ℕ) (e : List ℤ) → length e ≡ n → IsPresburger f → IsFormOver n f → FormTruth w (attempted n f left).0 e ↔ FormTruth w f e
unfolding attempted
attempted_is w n f left e len proper over =
    by_end_is w n f (eliminating n f).value left (cut (eliminating n f).events (at (record { budget = share left; spent = 0 }) [])) e
    (exact_is w n f (eliminating n f).value e len proper (eliminating-exact n f proper) (eliminating-over n f proper over))

attempted_over : (n : ℕ) (f : Form) (left : ℕ) → IsPresburger f → IsFormOver n f → IsFormOver n (attempted n f left).0
unfolding attempted
attempted_over n f left proper over =
    by_end_over n f (eliminating n f).value left (cut (eliminating n f).events (at (record { budget = share left; spent = 0 }) []))
    (dnf_over n (eliminating n f).value (eliminating-over n f proper over)) over

-- ---- applications with a name

by_test : (P : Form × ℕ → Type 0) (b : Bool) (x y : Form × ℕ) → (b ≡ true → P x) → P y → P (cond b x y)
by_test P true x y h k = h refl
by_test P false x y h k = k

one_more : (e : List ℤ) (v : ℤ) (n : ℕ) → length e ≡ n → length (e ++ v ∷ []) ≡ suc n
one_more e v n len = length-append e (v ∷ []) ∙ omega (arith, len)

pure_is : (w : Meaning) (n : ℕ) (f : Form) (left : ℕ) (e : List ℤ) → length e ≡ n → HasReducedTerms f → IsFormOver n f → FormTruth w (attempted_pure n f left).0 e ↔ FormTruth w f e
pure_is w n f left e len r o =
    by_test (λ z. FormTruth w z.0 e ↔ FormTruth w f e) (is_pure f) (attempted n f left) (f, left) (λ p. attempted_is w n f left e len (presburger_of f p r) o) (λ t. t, λ t. t)

pure_over : (n : ℕ) (f : Form) (left : ℕ) → HasReducedTerms f → IsFormOver n f → IsFormOver n (attempted_pure n f left).0
pure_over n f left r o = by_test (λ z. IsFormOver n z.0) (is_pure f) (attempted n f left) (f, left) (λ p. attempted_over n f left (presburger_of f p r) o) o

by_found : (P : Form × ℕ → Type 0) (stop : Form × ℕ) (go : ℕ → List Linear → Form × ℕ) (o : Option (ℕ × List Linear)) → P stop → ((g : ℕ) (ss : List Linear) → o ≡ Some (g, ss) → P (go g ss)) → P (by_application stop go o)
by_found P stop go None h k = h
by_found P stop go (Some a) h k = k a.0 a.1 refl

next_over : (n g : ℕ) (ss : List Linear) (f : Form) → IsFormOver n f → IsFormOver (suc n) (renamed n g ss f)
next_over n g ss f o = let up : n + 1 ≡ suc n = omega arith in subst (λ m. IsFormOver m (renamed n g ss f)) up (renamed_over n g ss f o)

unquantified_is : (w : Meaning) (k n : ℕ) (f : Form) (left : ℕ) (e : List ℤ) → length e ≡ n → HasReducedTerms f → IsFormOver n f → FormTruth w (unquantified k n f left).0 e ↔ FormTruth w f e
unquantified_is w zero n f left e len r o = pure_is w n f left e len r o
unquantified_is w (suc k) n f left e len r o =
    by_found (λ z. FormTruth w z.0 e ↔ FormTruth w f e) (attempted_pure n f left) _ (application n f) (pure_is w n f left e len r o)
    (λ g ss is. reading_is w n g ss f (unquantified k (suc n) (renamed n g ss f) left).0 e len (found_over n g ss f is)
    (λ v. unquantified_is w k (suc n) (renamed n g ss f) left (e ++ v ∷ []) (one_more e v n len) (renamed_reduced n g ss f r) (next_over n g ss f o)))

unquantified_over : (k n : ℕ) (f : Form) (left : ℕ) → HasReducedTerms f → IsFormOver n f → IsFormOver n (unquantified k n f left).0
unquantified_over zero n f left r o = pure_over n f left r o
unquantified_over (suc k) n f left r o =
    by_found (λ z. IsFormOver n z.0) (attempted_pure n f left) _ (application n f) (pure_over n f left r o)
    (λ g ss is. let down : suc n ≡ n + 1 = omega arith in
    reading_over n g ss (unquantified k (suc n) (renamed n g ss f) left).0 (found_over n g ss f is)
    (subst (λ m. IsFormOver m (unquantified k (suc n) (renamed n g ss f) left).0) down (unquantified_over k (suc n) (renamed n g ss f) left (renamed_reduced n g ss f r) (next_over n g ss f o))))

-- ---- the whole formula

mutual
  pub prepared_is : (w : Meaning) (b : Bool) (n : ℕ) (f : Form) (left : ℕ) (e : List ℤ) → length e ≡ n → HasReducedTerms f → IsFormOver n f → FormTruth w (prepared b n f left).0 e ↔ FormTruth w f e
  prepared_is w b n (equal t) left e len r o = (λ h. h, λ h. h)
  prepared_is w b n (unequal t) left e len r o = (λ h. h, λ h. h)
  prepared_is w b n (at_least t) left e len r o = (λ h. h, λ h. h)
  prepared_is w b n (holds p ts) left e len r o = (λ h. h, λ h. h)
  prepared_is w b n (fails p ts) left e len r o = (λ h. h, λ h. h)
  prepared_is w b n (differs f ts u) left e len r o = (λ h. h, λ h. h)
  prepared_is w b n (conjunction fs) left e len r o = (all_prepared_are w b n fs left e len r o).0
  prepared_is w b n (disjunction fs) left e len r o =
      let i = (all_prepared_are w b n fs left e len r o).1 in (λ h k. h (i.1 k), λ h k. h (i.0 k))
  prepared_is w b n (universal f) left e len r o =
      by_test (λ z. FormTruth w z.0 e ↔ FormTruth w (universal f) e) (b && is_pure_but n f) _ _
      (λ p. unquantified_is w most_names n (universal f) left e len r o)
      (λ h v. (prepared_is w b (suc n) f left (e ++ v ∷ []) (one_more e v n len) r o).0 (h v), λ h v. (prepared_is w b (suc n) f left (e ++ v ∷ []) (one_more e v n len) r o).1 (h v))
  prepared_is w b n (existential f) left e len r o =
      by_test (λ z. FormTruth w z.0 e ↔ FormTruth w (existential f) e) (is_pure_but n f) _ _
      (λ p. unquantified_is w most_names n (existential f) left e len r o)
      (λ h k. h (λ v t. k v ((prepared_is w true (suc n) f left (e ++ v ∷ []) (one_more e v n len) r o).0 t)), λ h k. h (λ v t. k v ((prepared_is w true (suc n) f left (e ++ v ∷ []) (one_more e v n len) r o).1 t)))

  all_prepared_are : (w : Meaning) (b : Bool) (n : ℕ) (fs : Forms) (left : ℕ) (e : List ℤ) → length e ≡ n → HaveReducedTerms fs → AreFormsOver n fs
      → (AreFormsTrue w (all_prepared b n fs left).0 e ↔ AreFormsTrue w fs e) × (AreFormsFalse w (all_prepared b n fs left).0 e ↔ AreFormsFalse w fs e)
  all_prepared_are w b n no_form left e len r o = ((λ h. h, λ h. h), (λ h. h, λ h. h))
  all_prepared_are w b n (and_form f fs) left e len r o =
      let i = prepared_is w b n f left e len r.0 o.0 in
      let j = all_prepared_are w b n fs (prepared b n f left).1 e len r.1 o.1 in (
        (λ h. (i.0 h.0, j.0.0 h.1), λ h. (i.1 h.0, j.0.1 h.1)),
        (λ h. (λ t. h.0 (i.1 t), j.1.0 h.1), λ h. (λ t. h.0 (i.0 t), j.1.1 h.1)),
      )

mutual
  pub prepared_over : (b : Bool) (n : ℕ) (f : Form) (left : ℕ) → HasReducedTerms f → IsFormOver n f → IsFormOver n (prepared b n f left).0
  prepared_over b n (equal t) left r o = o
  prepared_over b n (unequal t) left r o = o
  prepared_over b n (at_least t) left r o = o
  prepared_over b n (holds p ts) left r o = o
  prepared_over b n (fails p ts) left r o = o
  prepared_over b n (differs f ts u) left r o = o
  prepared_over b n (conjunction fs) left r o = all_prepared_over b n fs left r o
  prepared_over b n (disjunction fs) left r o = all_prepared_over b n fs left r o
  prepared_over b n (universal f) left r o =
      by_test (λ z. IsFormOver n z.0) (b && is_pure_but n f) _ _ (λ p. unquantified_over most_names n (universal f) left r o) (prepared_over b (suc n) f left r o)
  prepared_over b n (existential f) left r o =
      by_test (λ z. IsFormOver n z.0) (is_pure_but n f) _ _ (λ p. unquantified_over most_names n (existential f) left r o) (prepared_over true (suc n) f left r o)

  all_prepared_over : (b : Bool) (n : ℕ) (fs : Forms) (left : ℕ) → HaveReducedTerms fs → AreFormsOver n fs → AreFormsOver n (all_prepared b n fs left).0
  all_prepared_over b n no_form left r o = tt
  all_prepared_over b n (and_form f fs) left r o = (prepared_over b n f left r.0 o.0, all_prepared_over b n fs (prepared b n f left).1 r.1 o.1)
