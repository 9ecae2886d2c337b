-- A formula is true alike at lists that differ at a name alone that it lacks.
use Rattle.std.proofs.Common.{◌≡◌, ◌≢◌, ◌+◌, ◌<◌, ℕ, zero, suc, ℤ, pos, ◌*ℤ◌, neg_ℤ, true, List, [], ◌∷◌, ◌++◌, length, length-append, unsigned_abs, refl, sym, ◌∙◌, ap, subst, arith}
use Rattle.std.specs.Int.{int_min, int_max}
use Rattle.base_integers.specs.Entry.{entry, put}
use Rattle.base_integers.proofs.Entries.{entry-put_other, length-put}
use Rattle.form_typed.specs.Formula.{Formula, Formulas, Expression, Expressions, constant, compares, applies, negation, every, some, implies, iff, for_all, for_some, part, no_formula, and_formula, number, name, call, minus, total, product, choice, absolute, lesser, greater, no_expression, and_expression}
use Rattle.form_typed.specs.Lists.{sum_of}
use Rattle.form_typed.specs.Truth.{Meaning, Truth, AreAllTrue, AreAllFalse, HasValue, HaveValues, IsRelated}
use Rattle.pri_typing.specs.Everywhere.{Property, Everywhere, AllEverywhere, TermEverywhere, TermsEverywhere}
use Rattle.pri_typing.specs.WellFormed.{of_terms}
use Rattle.interpolant.specs.Sides.{IsOtherName, LacksName}

abbrev other : ℕ → Property
other x = of_terms (IsOtherName x)

-- the lists agree at every name but x
record Agree (x : ℕ) (e d : List ℤ) : Type 0 where
  long : length e ≡ length d
  same : (y : ℕ) → x ≢ y → entry e y ≡ entry d y

agree_back : {x : ℕ} {e d : List ℤ} → Agree x e d → Agree x d e
agree_back a = record { long = sym a.long; same = λ y n. sym (a.same y n) }

-- the entries of two lists with one more value after them
entries_more : (e d : List ℤ) (v : ℤ) (y : ℕ) → length e ≡ length d → entry e y ≡ entry d y → entry (e ++ v ∷ []) y ≡ entry (d ++ v ∷ []) y
entries_more [] [] v y l h = refl
entries_more [] (b ∷ d) v y l h = absurd (omega (arith, l))
entries_more (a ∷ e) [] v y l h = absurd (omega (arith, l))
entries_more (a ∷ e) (b ∷ d) v zero l h = h
entries_more (a ∷ e) (b ∷ d) v (suc y) l h = entries_more e d v y (omega (arith, l)) h

agree_more : (x : ℕ) (e d : List ℤ) → Agree x e d → (v : ℤ) → Agree x (e ++ v ∷ []) (d ++ v ∷ [])
agree_more x e d a v = record {
  long = length-append e (v ∷ []) ∙ ap (λ n. n + 1) a.long ∙ sym (length-append d (v ∷ []));
  same = λ y n. entries_more e d v y a.long (a.same y n);
}

mutual
  alike : Unit {1} → (x : ℕ) (w : Meaning) (n : ℕ) (f : Formula) (e d : List ℤ) → Agree x e d → Everywhere (other x) n f → Truth w f e → Truth w f d
  alike u x w n (constant b) e d a h t = t
  alike u x w n (compares r s t) e d a h k =
      alike_value u x w n s e d a h.1 (λ y. HasValue w t e (λ z. IsRelated r y z)) (λ y. HasValue w t d (λ z. IsRelated r y z))
      (λ y. alike_value u x w n t e d a h.2 (λ z. IsRelated r y z) (λ z. IsRelated r y z) (λ z i. i)) k
  alike u x w n (applies p ts) e d a h k = alike_values u x w n ts e d a h.1 (λ ys. w.truth p ys ≡ true) (λ ys. w.truth p ys ≡ true) (λ ys i. i) k
  alike u x w n (negation f) e d a h k = λ t. k (alike u x w n f d e (agree_back a) h.1 t)
  alike u x w n (every fs) e d a h k = all_alike u x w n fs e d a h.1 k
  alike u x w n (some fs) e d a h k = λ t. k (none_alike u x w n fs d e (agree_back a) h.1 t)
  alike u x w n (implies f g) e d a h k = λ t. alike u x w n g e d a h.2 (k (alike u x w n f d e (agree_back a) h.1 t))
  alike u x w n (iff f g) e d a h k = (
    λ t. alike u x w n g e d a h.2 (k.0 (alike u x w n f d e (agree_back a) h.1 t)),
    λ t. alike u x w n f e d a h.1 (k.1 (alike u x w n g d e (agree_back a) h.2 t)),
  )
  alike u x w n (for_all s f) e d a h k = λ v i. alike u x w (suc n) f (e ++ v ∷ []) (d ++ v ∷ []) (agree_more x e d a v) h.1 (k v i)
  alike u x w n (for_some s f) e d a h k = λ t. k (λ v i y. t v i (alike u x w (suc n) f (e ++ v ∷ []) (d ++ v ∷ []) (agree_more x e d a v) h.1 y))
  alike u x w n (part k f) e d a h t = alike u x w n f e d a h.1 t

  all_alike : Unit {1} → (x : ℕ) (w : Meaning) (n : ℕ) (fs : Formulas) (e d : List ℤ) → Agree x e d → AllEverywhere (other x) n fs → AreAllTrue w fs e → AreAllTrue w fs d
  all_alike u x w n no_formula e d a h k = tt {0}
  all_alike u x w n (and_formula f fs) e d a h k = (alike u x w n f e d a h.0 k.0, all_alike u x w n fs e d a h.1 k.1)

  none_alike : Unit {1} → (x : ℕ) (w : Meaning) (n : ℕ) (fs : Formulas) (e d : List ℤ) → Agree x e d → AllEverywhere (other x) n fs → AreAllFalse w fs e → AreAllFalse w fs d
  none_alike u x w n no_formula e d a h k = tt {0}
  none_alike u x w n (and_formula f fs) e d a h k = (λ t. k.0 (alike u x w n f d e (agree_back a) h.0 t), none_alike u x w n fs e d a h.1 k.1)

  alike_value : Unit {1} → (x : ℕ) (w : Meaning) (n : ℕ) (t : Expression) (e d : List ℤ) → Agree x e d → TermEverywhere (other x) n t → (P Q : ℤ → Type 0) → ((y : ℤ) → P y → Q y)
      → HasValue w t e P → HasValue w t d Q
  alike_value u x w n (number v) e d a h P Q m k = m v k
  alike_value u x w n (name y) e d a h P Q m k = m (entry d y) (subst P (a.same y h) k)
  alike_value u x w n (call f ts) e d a h P Q m k = alike_values u x w n ts e d a h.1 (λ ys. P (w.value f ys)) (λ ys. Q (w.value f ys)) (λ ys. m (w.value f ys)) k
  alike_value u x w n (minus t) e d a h P Q m k = alike_value u x w n t e d a h.1 (λ y. P (neg_ℤ y)) (λ y. Q (neg_ℤ y)) (λ y. m (neg_ℤ y)) k
  alike_value u x w n (total ts) e d a h P Q m k = alike_values u x w n ts e d a h.1 (λ ys. P (sum_of ys)) (λ ys. Q (sum_of ys)) (λ ys. m (sum_of ys)) k
  alike_value u x w n (product s t) e d a h P Q m k =
      alike_value u x w n s e d a h.1 (λ y. HasValue w t e (λ z. P (y *ℤ z))) (λ y. HasValue w t d (λ z. Q (y *ℤ z)))
      (λ y. alike_value u x w n t e d a h.2 (λ z. P (y *ℤ z)) (λ z. Q (y *ℤ z)) (λ z. m (y *ℤ z))) k
  alike_value u x w n (choice f s t) e d a h P Q m k = (
    λ g. alike_value u x w n s e d a h.2 P Q m (k.0 (alike u x w n f d e (agree_back a) h.1 g)),
    λ g. alike_value u x w n t e d a h.3 P Q m (k.1 (λ z. g (alike u x w n f e d a h.1 z))),
  )
  alike_value u x w n (absolute t) e d a h P Q m k =
      alike_value u x w n t e d a h.1 (λ y. P (pos (unsigned_abs y))) (λ y. Q (pos (unsigned_abs y))) (λ y. m (pos (unsigned_abs y))) k
  alike_value u x w n (lesser s t) e d a h P Q m k =
      alike_value u x w n s e d a h.1 (λ y. HasValue w t e (λ z. P (int_min y z))) (λ y. HasValue w t d (λ z. Q (int_min y z)))
      (λ y. alike_value u x w n t e d a h.2 (λ z. P (int_min y z)) (λ z. Q (int_min y z)) (λ z. m (int_min y z))) k
  alike_value u x w n (greater s t) e d a h P Q m k =
      alike_value u x w n s e d a h.1 (λ y. HasValue w t e (λ z. P (int_max y z))) (λ y. HasValue w t d (λ z. Q (int_max y z)))
      (λ y. alike_value u x w n t e d a h.2 (λ z. P (int_max y z)) (λ z. Q (int_max y z)) (λ z. m (int_max y z))) k

  alike_values : Unit {1} → (x : ℕ) (w : Meaning) (n : ℕ) (ts : Expressions) (e d : List ℤ) → Agree x e d → TermsEverywhere (other x) n ts → (P Q : List ℤ → Type 0) → ((ys : List ℤ) → P ys → Q ys)
      → HaveValues w ts e P → HaveValues w ts d Q
  alike_values u x w n no_expression e d a h P Q m k = m [] k
  alike_values u x w n (and_expression t ts) e d a h P Q m k =
      alike_value u x w n t e d a h.0 (λ y. HaveValues w ts e (λ ys. P (y ∷ ys))) (λ y. HaveValues w ts d (λ ys. Q (y ∷ ys)))
      (λ y. alike_values u x w n ts e d a h.1 (λ ys. P (y ∷ ys)) (λ ys. Q (y ∷ ys)) (λ ys. m (y ∷ ys))) k

-- a formula that lacks x stays true whatever x becomes
pub put_alike : (x : ℕ) (w : Meaning) (f : Formula) (e : List ℤ) (v : ℤ) → x < length e → LacksName x f → Truth w f e → Truth w f (put e x v)
put_alike x w f e v lt h t =
    alike (tt {1}) x w 0 f e (put e x v) (record { long = sym (length-put e x v lt); same = λ y n. sym (entry-put_other e x y v n) }) h t
