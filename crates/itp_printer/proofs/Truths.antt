-- The plain form of a formula has its truth, in every interpretation.
use Rattle.std.proofs.Common.{◌≡◌, ◌↔◌, ℤ, pos, negsuc, ◌+ℤ◌, ◌*ℤ◌, neg_ℤ, true, false, List, [], ◌∷◌, ◌++◌, refl, sym, subst, unsigned_abs, arith}
use Rattle.std.specs.Int.{int_min, int_max}
use Rattle.std.proofs.lemmas.Bool.{false≢true}
use borrow.Author.Differences.{ints}
use Rattle.form_typed.specs.Formula.{Formula, Formulas, Expression, Expressions, formulas, expressions, constant, compares, applies, negation, every, some, implies, iff, for_all, for_some, part, no_formula, and_formula, number, name, call, minus, total, product, choice, absolute, lesser, greater, no_expression, and_expression}
use Rattle.form_typed.specs.Lists.{sum_of}
use Rattle.form_typed.specs.Truth.{Meaning, Truth, AreAllTrue, AreAllFalse, HasValue, HaveValues, IsRelated}
use Rattle.form_typed.proofs.Values.{value_more}
use Rattle.form_typed.proofs.Stability.{truth_stable}
use Rattle.itp_printer.specs.Plain.{plain, plain_all, plain_term, plain_terms, summed, joined}

-- the values of both terms have the same properties
abbrev Alike : Meaning → Expression → Expression → List ℤ → Type 1
Alike w s t e = (P : ℤ → Type 0) → HasValue w s e P ↔ HasValue w t e P

alike_pair : (w : Meaning) (s t u v : Expression) (e : List ℤ) (R : ℤ → ℤ → Type 0) → Alike w s t e → Alike w u v e
    → HasValue w s e (λ x. HasValue w u e (λ y. R x y)) ↔ HasValue w t e (λ x. HasValue w v e (λ y. R x y))
alike_pair w s t u v e R f g = (
  λ h. (f (λ x. HasValue w v e (λ y. R x y))).0 (value_more w s e (λ x. HasValue w u e (λ y. R x y)) (λ x. HasValue w v e (λ y. R x y)) (λ x k. (g (λ y. R x y)).0 k) h),
  λ h. (f (λ x. HasValue w u e (λ y. R x y))).1 (value_more w t e (λ x. HasValue w v e (λ y. R x y)) (λ x. HasValue w u e (λ y. R x y)) (λ x k. (g (λ y. R x y)).1 k) h),
)

plus_zero : (x : ℤ) → x +ℤ pos 0 ≡ x
plus_zero x = grind (arith, ints)

-- a sum of one
alike_one : (w : Meaning) (t : Expression) (e : List ℤ) (P : ℤ → Type 0) → HasValue w t e P ↔ HasValue w t e (λ x. P (x +ℤ pos 0))
alike_one w t e P = (
  value_more w t e P (λ x. P (x +ℤ pos 0)) (λ x k. subst P (sym (plus_zero x)) k),
  value_more w t e (λ x. P (x +ℤ pos 0)) P (λ x k. subst P (plus_zero x) k),
)

through : {A B C : Type 0} → A ↔ B → B ↔ C → A ↔ C
through f g = (λ a. g.0 (f.0 a), λ c. f.1 (g.1 c))

-- one member before others
pack_every : (w : Meaning) (f : Formula) (fs : Formulas) (e : List ℤ) → Truth w (plain f) e ↔ Truth w f e → AreAllTrue w (formulas (plain_all fs)) e ↔ AreAllTrue w fs e
    → Truth w (joined (constant true) every (plain_all (and_formula f fs))) e ↔ AreAllTrue w (and_formula f fs) e
pack_every w f no_formula e k m = (λ h. (k.0 h, tt), λ h. k.1 h.0)
pack_every w f (and_formula g fs) e k m = (λ h. (k.0 h.0, m.0 h.1), λ h. (k.1 h.0, m.1 h.1))

pack_some : (w : Meaning) (f : Formula) (fs : Formulas) (e : List ℤ) → Truth w (plain f) e ↔ Truth w f e → AreAllFalse w (formulas (plain_all fs)) e ↔ AreAllFalse w fs e
    → Truth w (joined (constant false) some (plain_all (and_formula f fs))) e ↔ (¬ (AreAllFalse w (and_formula f fs) e))
pack_some w f no_formula e k m = (λ h a. a.0 (k.0 h), λ h. k.1 (truth_stable w f e (λ n. h (n, tt))))
pack_some w f (and_formula g fs) e k m = (λ h a. h (λ b. a.0 (k.0 b), m.1 a.1), λ h a. h (λ b. a.0 (k.1 b), m.0 a.1))

pack_values : (w : Meaning) (t : Expression) (ts : Expressions) (e : List ℤ) (P : List ℤ → Type 0) → Alike w (plain_term t) t e
    → ((Q : List ℤ → Type 0) → HaveValues w (expressions (plain_terms ts)) e Q ↔ HaveValues w ts e Q)
    → HaveValues w (expressions (plain_terms (and_expression t ts))) e P ↔ HaveValues w (and_expression t ts) e P
pack_values w t ts e P k m = (
  λ h. (k (λ x. HaveValues w ts e (λ xs. P (x ∷ xs)))).0
      (value_more w (plain_term t) e (λ x. HaveValues w (expressions (plain_terms ts)) e (λ xs. P (x ∷ xs))) (λ x. HaveValues w ts e (λ xs. P (x ∷ xs)))
      (λ x i. (m (λ xs. P (x ∷ xs))).0 i) h),
  λ h. (k (λ x. HaveValues w (expressions (plain_terms ts)) e (λ xs. P (x ∷ xs)))).1
      (value_more w t e (λ x. HaveValues w ts e (λ xs. P (x ∷ xs))) (λ x. HaveValues w (expressions (plain_terms ts)) e (λ xs. P (x ∷ xs)))
      (λ x i. (m (λ xs. P (x ∷ xs))).1 i) h),
)

pack_total : (w : Meaning) (t : Expression) (ts : Expressions) (e : List ℤ) (P : ℤ → Type 0) → Alike w (plain_term t) t e
    → ((Q : List ℤ → Type 0) → HaveValues w (expressions (plain_terms ts)) e Q ↔ HaveValues w ts e Q)
    → HasValue w (summed (plain_terms (and_expression t ts))) e P ↔ HaveValues w (and_expression t ts) e (λ xs. P (sum_of xs))
pack_total w t no_expression e P k m = through (k P) (alike_one w t e P)
pack_total w t (and_expression u ts) e P k m = pack_values w t (and_expression u ts) e (λ xs. P (sum_of xs)) k m

mutual
  pub plain_true : Unit {1} → (w : Meaning) (f : Formula) (e : List ℤ) → Truth w (plain f) e ↔ Truth w f e
  plain_true o w (constant b) e = (λ h. h, λ h. h)
  plain_true o w (compares r s t) e =
      alike_pair w (plain_term s) s (plain_term t) t e (λ x y. IsRelated r x y) (λ P. plain_value w s e P) (λ P. plain_value w t e P)
  plain_true o w (applies k ts) e = plain_values w ts e (λ xs. w.truth k xs ≡ true)
  plain_true o w (negation f) e = let k = plain_true (tt {1}) w f e in (λ h a. h (k.1 a), λ h a. h (k.0 a))
  plain_true o w (every fs) e = plain_every (tt {1}) w fs e
  plain_true o w (some fs) e = plain_some (tt {1}) w fs e
  plain_true o w (implies f g) e = let k = plain_true (tt {1}) w f e in let m = plain_true (tt {1}) w g e in (λ h a. m.0 (h (k.1 a)), λ h a. m.1 (h (k.0 a)))
  plain_true o w (iff f g) e = let k = plain_true (tt {1}) w f e in let m = plain_true (tt {1}) w g e in
      (λ h. (λ a. m.0 (h.0 (k.1 a)), λ b. k.0 (h.1 (m.1 b))), λ h. (λ a. m.1 (h.0 (k.0 a)), λ b. k.1 (h.1 (m.0 b))))
  plain_true o w (for_all s f) e = (λ h v k. (plain_true (tt {1}) w f (e ++ v ∷ [])).0 (h v k), λ h v k. (plain_true (tt {1}) w f (e ++ v ∷ [])).1 (h v k))
  plain_true o w (for_some s f) e = (λ h k. h (λ v i a. k v i ((plain_true (tt {1}) w f (e ++ v ∷ [])).0 a)), λ h k. h (λ v i a. k v i ((plain_true (tt {1}) w f (e ++ v ∷ [])).1 a)))
  plain_true o w (part k f) e = plain_true (tt {1}) w f e

  plain_every : Unit {1} → (w : Meaning) (fs : Formulas) (e : List ℤ) → Truth w (joined (constant true) every (plain_all fs)) e ↔ AreAllTrue w fs e
  plain_every o w no_formula e = (λ h. tt, λ h. refl)
  plain_every o w (and_formula f fs) e = pack_every w f fs e (plain_true (tt {1}) w f e) (plain_all_true (tt {1}) w fs e)

  plain_all_true : Unit {1} → (w : Meaning) (fs : Formulas) (e : List ℤ) → AreAllTrue w (formulas (plain_all fs)) e ↔ AreAllTrue w fs e
  plain_all_true o w no_formula e = (λ h. tt, λ h. tt)
  plain_all_true o w (and_formula f fs) e = let k = plain_true (tt {1}) w f e in let m = plain_all_true (tt {1}) w fs e in (λ h. (k.0 h.0, m.0 h.1), λ h. (k.1 h.0, m.1 h.1))

  plain_some : Unit {1} → (w : Meaning) (fs : Formulas) (e : List ℤ) → Truth w (joined (constant false) some (plain_all fs)) e ↔ ¬ (AreAllFalse w fs e)
  plain_some o w no_formula e = (λ h. absurd (false≢true h), λ h. absurd (h tt))
  plain_some o w (and_formula f fs) e = pack_some w f fs e (plain_true (tt {1}) w f e) (plain_all_false (tt {1}) w fs e)

  plain_all_false : Unit {1} → (w : Meaning) (fs : Formulas) (e : List ℤ) → AreAllFalse w (formulas (plain_all fs)) e ↔ AreAllFalse w fs e
  plain_all_false o w no_formula e = (λ h. tt, λ h. tt)
  plain_all_false o w (and_formula f fs) e = let k = plain_true (tt {1}) w f e in let m = plain_all_false (tt {1}) w fs e in
      (λ h. (λ a. h.0 (k.1 a), m.0 h.1), λ h. (λ a. h.0 (k.0 a), m.1 h.1))

  plain_value : (w : Meaning) (t : Expression) (e : List ℤ) (P : ℤ → Type 0) → HasValue w (plain_term t) e P ↔ HasValue w t e P
  plain_value w (number (pos n)) e P = (λ h. h, λ h. h)
  plain_value w (number (negsuc n)) e P = (λ h. h, λ h. h)
  plain_value w (name x) e P = (λ h. h, λ h. h)
  plain_value w (call f ts) e P = plain_values w ts e (λ xs. P (w.value f xs))
  plain_value w (minus t) e P = plain_value w t e (λ x. P (neg_ℤ x))
  plain_value w (total ts) e P = plain_total w ts e P
  plain_value w (product s t) e P = alike_pair w (plain_term s) s (plain_term t) t e (λ x y. P (x *ℤ y)) (λ Q. plain_value w s e Q) (λ Q. plain_value w t e Q)
  plain_value w (choice f s t) e P = let k = plain_true (tt {1}) w f e in let m = plain_value w s e P in let n = plain_value w t e P in
      (λ h. (λ a. m.0 (h.0 (k.1 a)), λ a. n.0 (h.1 (λ b. a (k.0 b)))), λ h. (λ a. m.1 (h.0 (k.0 a)), λ a. n.1 (h.1 (λ b. a (k.1 b)))))
  plain_value w (absolute t) e P = plain_value w t e (λ x. P (pos (unsigned_abs x)))
  plain_value w (lesser s t) e P = alike_pair w (plain_term s) s (plain_term t) t e (λ x y. P (int_min x y)) (λ Q. plain_value w s e Q) (λ Q. plain_value w t e Q)
  plain_value w (greater s t) e P = alike_pair w (plain_term s) s (plain_term t) t e (λ x y. P (int_max x y)) (λ Q. plain_value w s e Q) (λ Q. plain_value w t e Q)

  plain_total : (w : Meaning) (ts : Expressions) (e : List ℤ) (P : ℤ → Type 0) → HasValue w (summed (plain_terms ts)) e P ↔ HaveValues w ts e (λ xs. P (sum_of xs))
  plain_total w no_expression e P = (λ h. h, λ h. h)
  plain_total w (and_expression t ts) e P = pack_total w t ts e P (λ Q. plain_value w t e Q) (λ Q. plain_values w ts e Q)

  plain_values : (w : Meaning) (ts : Expressions) (e : List ℤ) (P : List ℤ → Type 0) → HaveValues w (expressions (plain_terms ts)) e P ↔ HaveValues w ts e P
  plain_values w no_expression e P = (λ h. h, λ h. h)
  plain_values w (and_expression t ts) e P = pack_values w t ts e P (λ Q. plain_value w t e Q) (λ Q. plain_values w ts e Q)

pub plain_same : (w : Meaning) (f : Formula) (e : List ℤ) → Truth w (plain f) e ↔ Truth w f e
plain_same w f e = plain_true (tt {1}) w f e
