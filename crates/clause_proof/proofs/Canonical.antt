-- A literal in canonical form says what its formula says.
use Rattle.std.proofs.Common.{◌≡◌, ℕ, ◌<◌, ℤ, pos, negsuc, ◌+ℤ◌, ◌*ℤ◌, ◌≤ℤ◌, ◌<ℤ◌, unsigned_abs, int_le, neg_ℤ, Bool, true, false, not, cond, List, [], ◌∷◌, All, refl, sym, ap, ◌∙◌, subst, arith}
use Rattle.std.specs.List.{AllByRecursion}
use Rattle.std.specs.Int.{int_div_euclid}
use Rattle.std.specs.Ordering.{int_eq}
use Rattle.std.proofs.lemmas.Int.{ints}
use Rattle.std.proofs.lemmas.List.Elements.{All-from_recursion, recursion_from_All}
use Rattle.base_integers.specs.Divides.{Divides, divides}
use Rattle.base_integers.proofs.Divisors.{Divides_from_test, test_from_Divides}
use Rattle.base_integers.proofs.Floors.{floor-shifted, floor-shifted_back}
use Rattle.base_integers.proofs.Order.{mul_cancel}
use Rattle.base_integers.proofs.Ring.{add-mul, neg-mul}
use Rattle.linear_term.specs.Linear.{Linear, value_of, total, value_at, number, IsOver}
use Rattle.linear_term.specs.Combination.{combination}
use Rattle.linear_term.proofs.Totals.{value_of-combination, value_of-number, by_test}
use Rattle.linear_term.proofs.Names.{combination-over}
use Rattle.form_typed.specs.Truth.{Meaning}
use Rattle.formula.specs.Form.{Form, FormTruth, equal, unequal, at_least, holds, fails, differs, conjunction, disjunction, universal, existential, no_form, and_form, values_of}
use Rattle.formula.proofs.Stability.{form_stable}
use Rattle.formula.proofs.Extending.{over_number}
use Rattle.clause_proof.specs.Clauses.{Definition, always, at_least_zero, is_zero, predicate, closure, DefinitionTruth, IsSo, IsDefinitionOver}
use Rattle.form_closures.specs.Putting.{put_in}
use Rattle.clause_proof.specs.Atoms.{Signed, plain, negation, other, known, content, divided, quotient, leads_negative, less_one, opposite_less_one, opposite_term, turned_inequality, inequality_by, inequality_literal, turned_equation, equation_by, equation_literal, inner_form, literal_by, literal_of}
use Rattle.clause_proof.proofs.Contents.{quotient_exact, content_positive, content_divides, value_split, value_quotient, bare_value}
use Rattle.form_closures.proofs.Values.{put_value, put_values, put_over, puts_over}

-- each of two follows from the other
pub record Same (A B : Type 0) : Type 0 where
  pub there : A → B
  pub back : B → A

pub both : {A B C : Type 0} → Same A B → Same B C → Same A C
both h k = record { there = λ a. k.there (h.there a); back = λ c. h.back (k.back c) }

-- the literal is as it says
abbrev pub IsSigned : Meaning → List ℤ → Signed → Type 0
IsSigned w e x = IsSo w e x.positive x.definition

pub definition_stable : (w : Meaning) (e : List ℤ) (d : Definition) → ¬ (¬ (DefinitionTruth w e d)) → DefinitionTruth w e d
definition_stable w e always h = tt
definition_stable w e (at_least_zero t) h = form_stable w (at_least t) e h
definition_stable w e (is_zero t) h = form_stable w (equal t) e h
definition_stable w e (predicate p ts) h = form_stable w (holds p ts) e h
definition_stable w e (closure f ts) h = form_stable w f (values_of ts e) h

known_means : {P : Type 0} (w : Meaning) (e : List ℤ) (b : Bool) → (b ≡ true → P) → (P → b ≡ true) → Same (IsSigned w e (known b)) P
known_means w e true f g = record { there = λ u. f refl; back = λ p. tt }
known_means w e false f g = record { there = λ n. absurd (n tt); back = λ p k. let t : false ≡ true = g p in absurd (cc) }

pub other_means : {P : Type 0} (w : Meaning) (e : List ℤ) (b : Bool) (d : Definition) → Same (IsSo w e b d) P → Same (IsSo w e (not b) d) (¬ P)
other_means w e true d h = record { there = λ n p. n (h.back p); back = λ n t. n (h.there t) }
other_means w e false d h = record { there = λ t p. h.back p t; back = λ n. definition_stable w e d (λ k. n (h.there k)) }

-- ---- inequalities
above_turned : (u : Linear) (e : List ℤ) → Same (¬ (pos 0 ≤ℤ value_of (opposite_less_one u) e)) (pos 0 ≤ℤ value_of u e)
above_turned u e =
    let is = value_of-combination (negsuc 0) (pos 1) u (number (negsuc 0)) e in
    let one = value_of-number (negsuc 0) e in
    record { there = λ n. grind (arith, ints, is, one); back = λ h k. grind (arith, ints, is, one) }

turned_means : (w : Meaning) (u : Linear) (e : List ℤ) → Same (IsSigned w e (turned_inequality u)) (pos 0 ≤ℤ value_of u e)
turned_means w u e =
    by_test (λ x. Same (IsSigned w e x) (pos 0 ≤ℤ value_of u e)) (leads_negative u.pairs) (negation (at_least_zero (opposite_less_one u))) (plain (at_least_zero u))
    (λ t. above_turned u e) (λ t. record { there = λ h. h; back = λ h. h })

at_least_as : (x y : ℤ) → x ≡ y → Same (pos 0 ≤ℤ x) (pos 0 ≤ℤ y)
at_least_as x y h = record { there = λ k. subst (λ z. pos 0 ≤ℤ z) h k; back = λ k. subst (λ z. pos 0 ≤ℤ z) (sym h) k }

floored : (x a g : ℤ) → pos 0 <ℤ g → Same (pos 0 ≤ℤ (x +ℤ int_div_euclid a g)) (pos 0 ≤ℤ ((x *ℤ g) +ℤ a))
floored x a g h = record { there = floor-shifted_back x a g h; back = floor-shifted x a g h }

divided_means : (g : ℤ) (t : Linear) (e : List ℤ) → pos 0 <ℤ g → AllByRecursion (λ p. Divides g p.1) t.pairs → Same (pos 0 ≤ℤ value_of (quotient g t) e) (pos 0 ≤ℤ value_of t e)
divided_means g t e h d =
    both (at_least_as (value_of (quotient g t) e) (total (value_at e) (divided g t.pairs) +ℤ int_div_euclid t.constant g) (value_quotient g t e))
    (both (floored (total (value_at e) (divided g t.pairs)) t.constant g h)
    (at_least_as ((total (value_at e) (divided g t.pairs) *ℤ g) +ℤ t.constant) (value_of t e) (sym (value_split g t e h d))))

le_test : (k v : ℤ) → v ≡ k → int_le (pos 0) k ≡ true → pos 0 ≤ℤ v
le_test k v is h = grind (arith, ints)

le_back : (k v : ℤ) → v ≡ k → pos 0 ≤ℤ v → int_le (pos 0) k ≡ true
le_back k v is h = grind (arith, ints)

inequality_by_means : (w : Meaning) (t : Linear) (ps : List (ℕ × ℤ)) (e : List ℤ) → t.pairs ≡ ps → Same (IsSigned w e (inequality_by t ps)) (pos 0 ≤ℤ value_of t e)
inequality_by_means w t [] e is =
    known_means w e (int_le (pos 0) t.constant) (le_test t.constant (value_of t e) (bare_value t e is)) (le_back t.constant (value_of t e) (bare_value t e is))
inequality_by_means w t (p ∷ ps) e is =
    both (turned_means w (quotient (content t.pairs) t) e) (divided_means (content t.pairs) t e (content_positive t.pairs) (content_divides t.pairs))

pub inequality_means : (w : Meaning) (t : Linear) (e : List ℤ) → Same (IsSigned w e (inequality_literal t)) (pos 0 ≤ℤ value_of t e)
inequality_means w t e = inequality_by_means w t t.pairs e refl

-- ---- equations
zero_turned : (u : Linear) (e : List ℤ) → Same (value_of (opposite_term u) e ≡ pos 0) (value_of u e ≡ pos 0)
zero_turned u e =
    let is = value_of-combination (negsuc 0) (pos 0) u (number (pos 0)) e in
    record { there = λ n. omega (arith, ints, is, n); back = λ h. omega (arith, ints, is, h) }

turned_zero : (w : Meaning) (u : Linear) (e : List ℤ) → Same (IsSigned w e (turned_equation u)) (value_of u e ≡ pos 0)
turned_zero w u e =
    by_test (λ x. Same (IsSigned w e x) (value_of u e ≡ pos 0)) (leads_negative u.pairs) (plain (is_zero (opposite_term u))) (plain (is_zero u))
    (λ t. zero_turned u e) (λ t. record { there = λ h. h; back = λ h. h })

value_times : (g : ℤ) (t : Linear) (e : List ℤ) → pos 0 <ℤ g → AllByRecursion (λ p. Divides g p.1) t.pairs → Divides g t.constant → value_of t e ≡ value_of (quotient g t) e *ℤ g
value_times g t e h d c =
    value_split g t e h d ∙ ap (λ z. (total (value_at e) (divided g t.pairs) *ℤ g) +ℤ z) (quotient_exact g t.constant h c)
    ∙ sym (add-mul (total (value_at e) (divided g t.pairs)) (int_div_euclid t.constant g) g) ∙ ap (λ z. z *ℤ g) (sym (value_quotient g t e))

zero_times : (g v x : ℤ) → pos 0 <ℤ g → v ≡ x *ℤ g → Same (x ≡ pos 0) (v ≡ pos 0)
zero_times g v x h is = record {
  there = λ z. is ∙ ap (λ y. y *ℤ g) z ∙ omega (arith, ints);
  back = λ z. mul_cancel x (pos 0) g h (sym is ∙ z ∙ omega (arith, ints));
}

size_positive : (g : ℤ) → pos 0 <ℤ g → pos (unsigned_abs g) ≡ g
size_positive (pos n) h = refl
size_positive (negsuc n) h = absurd (omega (arith, ints))

divides_so : (g z : ℤ) → pos 0 <ℤ g → divides (unsigned_abs g) z ≡ true → Divides g z
divides_so g z h t = subst (λ d. Divides d z) (size_positive g h) (Divides_from_test (unsigned_abs g) z t)

divides_back : (g z : ℤ) → pos 0 <ℤ g → Divides g z → divides (unsigned_abs g) z ≡ true
divides_back g z h d = test_from_Divides (unsigned_abs g) z (subst (λ k. Divides k z) (sym (size_positive g h)) d)

-- where the sum is 0, the divisor of its coefficients divides its constant
zero_divides : (g x c v : ℤ) → v ≡ (x *ℤ g) +ℤ c → v ≡ pos 0 → Divides g c
zero_divides g x c v is z = record { quotient = neg_ℤ x; is = omega (arith, ints, neg-mul x g, is, z) }

no_zero : (w : Meaning) (t : Linear) (e : List ℤ) → divides (unsigned_abs (content t.pairs)) t.constant ≡ false → Same (IsSigned w e (known false)) (value_of t e ≡ pos 0)
no_zero w t e miss = record {
  there = λ n. absurd (n tt);
  back = λ z u.
      let g = content t.pairs in
      let yes_is : divides (unsigned_abs g) t.constant ≡ true
      = divides_back g t.constant (content_positive t.pairs) (zero_divides g (total (value_at e) (divided g t.pairs)) t.constant (value_of t e) (value_split g t e (content_positive t.pairs) (content_divides t.pairs)) z) in
      let wrong : false ≡ true = sym miss ∙ yes_is in absurd (cc);
}

eq_test : (k v : ℤ) → v ≡ k → int_eq k (pos 0) ≡ true → v ≡ pos 0
eq_test k v is h = grind (arith, ints)

eq_back : (k v : ℤ) → v ≡ k → v ≡ pos 0 → int_eq k (pos 0) ≡ true
eq_back k v is h = grind (arith, ints)

equation_by_means : (w : Meaning) (t : Linear) (ps : List (ℕ × ℤ)) (e : List ℤ) → t.pairs ≡ ps → Same (IsSigned w e (equation_by t ps)) (value_of t e ≡ pos 0)
equation_by_means w t [] e is =
    known_means w e (int_eq t.constant (pos 0)) (eq_test t.constant (value_of t e) (bare_value t e is)) (eq_back t.constant (value_of t e) (bare_value t e is))
equation_by_means w t (p ∷ ps) e is =
    let g = content t.pairs in
    let h = content_positive t.pairs in
    by_test (λ x. Same (IsSigned w e x) (value_of t e ≡ pos 0)) (divides (unsigned_abs g) t.constant) (turned_equation (quotient g t)) (known false)
    (λ c. both (turned_zero w (quotient g t) e)
    (zero_times g (value_of t e) (value_of (quotient g t) e) h (value_times g t e h (content_divides t.pairs) (divides_so g t.constant h c))))
    (λ miss. no_zero w t e miss)

pub equation_means : (w : Meaning) (t : Linear) (e : List ℤ) → Same (IsSigned w e (equation_literal t)) (value_of t e ≡ pos 0)
equation_means w t e = equation_by_means w t t.pairs e refl

-- ---- any formula
pub as_types : {A B : Type 0} → A ≡ B → Same A B
as_types h = record { there = λ a. subst (λ X. X) h a; back = λ b. subst (λ X. X) (sym h) b }

pub same_all : {A : Type 0} → Same A A
same_all = record { there = λ a. a; back = λ a. a }

literal_by_means : (w : Meaning) (f : Form) (ts : List Linear) (e : List ℤ) → Same (IsSigned w e (literal_by f ts)) (FormTruth w f (values_of ts e))
literal_by_means w (equal t) ts e = both (equation_means w (put_in ts t) e) (as_types (ap (λ z. z ≡ pos 0) (put_value ts t e)))
literal_by_means w (unequal t) ts e =
    both (other_means w e (equation_literal (put_in ts t)).positive (equation_literal (put_in ts t)).definition (equation_means w (put_in ts t) e))
    (as_types (ap (λ z. ¬ (z ≡ pos 0)) (put_value ts t e)))
literal_by_means w (at_least t) ts e = both (inequality_means w (put_in ts t) e) (as_types (ap (λ z. pos 0 ≤ℤ z) (put_value ts t e)))
literal_by_means w (holds p us) ts e = as_types (ap (λ vs. w.truth p vs ≡ true) (put_values ts us e))
literal_by_means w (fails p us) ts e = as_types (ap (λ vs. ¬ (w.truth p vs ≡ true)) (put_values ts us e))
literal_by_means w (differs p us u) ts e = same_all
literal_by_means w (conjunction no_form) ts e = same_all
literal_by_means w (conjunction (and_form f fs)) ts e = same_all
literal_by_means w (disjunction no_form) ts e = same_all
literal_by_means w (disjunction (and_form f fs)) ts e = same_all
literal_by_means w (universal f) ts e = same_all
literal_by_means w (existential f) ts e = same_all

inner_means : (w : Meaning) (f : Form) (e : List ℤ) → Same (FormTruth w (inner_form f) e) (FormTruth w f e)
inner_means w (equal t) e = same_all
inner_means w (unequal t) e = same_all
inner_means w (at_least t) e = same_all
inner_means w (holds p us) e = same_all
inner_means w (fails p us) e = same_all
inner_means w (differs p us u) e = same_all
inner_means w (conjunction no_form) e = same_all
inner_means w (conjunction (and_form f no_form)) e = both (inner_means w f e) (record { there = λ t. (t, tt); back = λ t. t.0 })
inner_means w (conjunction (and_form f (and_form g fs))) e = same_all
inner_means w (disjunction no_form) e = same_all
inner_means w (disjunction (and_form f no_form)) e = both (inner_means w f e) (record { there = λ t n. n.0 t; back = λ n. form_stable w f e (λ k. n (k, tt)) })
inner_means w (disjunction (and_form f (and_form g fs))) e = same_all
inner_means w (universal f) e = same_all
inner_means w (existential f) e = same_all

pub literal_means : (w : Meaning) (f : Form) (ts : List Linear) (e : List ℤ) → Same (IsSigned w e (literal_of f ts)) (FormTruth w f (values_of ts e))
literal_means w f ts e = both (literal_by_means w (inner_form f) ts e) (inner_means w f (values_of ts e))

-- ---- over constants that are there
pub opposite_over : (n : ℕ) (t : Linear) → IsOver n t → IsOver n (opposite_less_one t)
opposite_over n t h = combination-over n (negsuc 0) (pos 1) t (number (negsuc 0)) h (over_number n (negsuc 0))

pub less_over : (n : ℕ) (t : Linear) → IsOver n t → IsOver n (less_one t)
less_over n t h = combination-over n (pos 1) (pos 1) t (number (negsuc 0)) h (over_number n (negsuc 0))

divided_over : (n : ℕ) (g : ℤ) (ps : List (ℕ × ℤ)) → AllByRecursion (λ (p : ℕ × ℤ). p.0 < n) ps → AllByRecursion (λ (p : ℕ × ℤ). p.0 < n) (divided g ps)
divided_over n g [] h = tt
divided_over n g (p ∷ ps) h = (h.0, divided_over n g ps h.1)

quotient_over : (n : ℕ) (g : ℤ) (t : Linear) → IsOver n t → IsOver n (quotient g t)
quotient_over n g t h =
    All-from_recursion (λ (p : ℕ × ℤ). p.0 < n) (divided g t.pairs) (divided_over n g t.pairs (recursion_from_All (λ (p : ℕ × ℤ). p.0 < n) t.pairs h))

abbrev pub IsSignedOver : ℕ → Signed → Type 0
IsSignedOver n x = IsDefinitionOver n x.definition

turned_inequality_over : (n : ℕ) (u : Linear) → IsOver n u → IsSignedOver n (turned_inequality u)
turned_inequality_over n u h =
    by_test (IsSignedOver n) (leads_negative u.pairs) (negation (at_least_zero (opposite_less_one u))) (plain (at_least_zero u)) (λ t. opposite_over n u h) (λ t. h)

inequality_by_over : (n : ℕ) (t : Linear) (ps : List (ℕ × ℤ)) → IsOver n t → IsSignedOver n (inequality_by t ps)
inequality_by_over n t [] h = tt
inequality_by_over n t (p ∷ ps) h = turned_inequality_over n (quotient (content t.pairs) t) (quotient_over n (content t.pairs) t h)

pub inequality_over : (n : ℕ) (t : Linear) → IsOver n t → IsSignedOver n (inequality_literal t)
inequality_over n t h = inequality_by_over n t t.pairs h

turned_equation_over : (n : ℕ) (u : Linear) → IsOver n u → IsSignedOver n (turned_equation u)
turned_equation_over n u h =
    by_test (IsSignedOver n) (leads_negative u.pairs) (plain (is_zero (opposite_term u))) (plain (is_zero u))
    (λ t. combination-over n (negsuc 0) (pos 0) u (number (pos 0)) h (over_number n (pos 0))) (λ t. h)

equation_by_over : (n : ℕ) (t : Linear) (ps : List (ℕ × ℤ)) → IsOver n t → IsSignedOver n (equation_by t ps)
equation_by_over n t [] h = tt
equation_by_over n t (p ∷ ps) h =
    by_test (IsSignedOver n) (divides (unsigned_abs (content t.pairs)) t.constant) (turned_equation (quotient (content t.pairs) t)) (known false)
    (λ c. turned_equation_over n (quotient (content t.pairs) t) (quotient_over n (content t.pairs) t h)) (λ miss. tt)

pub equation_over : (n : ℕ) (t : Linear) → IsOver n t → IsSignedOver n (equation_literal t)
equation_over n t h = equation_by_over n t t.pairs h

literal_by_over : (n : ℕ) (f : Form) (ts : List Linear) → AllByRecursion (IsOver n) ts → IsSignedOver n (literal_by f ts)
literal_by_over n (equal t) ts h = equation_over n (put_in ts t) (put_over n ts t h)
literal_by_over n (unequal t) ts h = equation_over n (put_in ts t) (put_over n ts t h)
literal_by_over n (at_least t) ts h = inequality_over n (put_in ts t) (put_over n ts t h)
literal_by_over n (holds p us) ts h = puts_over n ts us h
literal_by_over n (fails p us) ts h = puts_over n ts us h
literal_by_over n (differs p us u) ts h = h
literal_by_over n (conjunction no_form) ts h = tt
literal_by_over n (conjunction (and_form f fs)) ts h = h
literal_by_over n (disjunction no_form) ts h = tt
literal_by_over n (disjunction (and_form f fs)) ts h = h
literal_by_over n (universal f) ts h = h
literal_by_over n (existential f) ts h = h

pub literal_over : (n : ℕ) (f : Form) (ts : List Linear) → AllByRecursion (IsOver n) ts → IsSignedOver n (literal_of f ts)
literal_over n f ts h = literal_by_over n (inner_form f) ts h
