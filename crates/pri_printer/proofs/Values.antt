-- The value of the term that a linear term is printed as is its value.
use Rattle.std.proofs.Common.{ℕ, ◌≡◌, Bool, true, false, cond, List, [], ◌∷◌, ◌++◌, map, refl, sym, ap, ◌∙◌, arith, ℤ, pos, negsuc, ◌+ℤ◌, ◌*ℤ◌, neg_ℤ}
use Rattle.std.specs.Prelude.{nat_eq, nat_lt, unsigned_abs, int_lt}
use Rattle.std.specs.Ordering.{int_eq}
use Rattle.std.proofs.lemmas.Bool.{eqb-true}
use Rattle.std.proofs.lemmas.Bool.Decides.{nat_tests, Decides-int_eq}
use borrow.Author.Differences.{ints}
use Rattle.base_integers.specs.Entry.{entry}
use Rattle.linear_term.specs.Linear.{value_of, value_at, total}
use Rattle.form_typed.specs.Formula.{expressions, number, name, minus, product}
use Rattle.form_typed.specs.Truth.{Meaning, HasValue, HaveValues}
use Rattle.form_typed.specs.Lists.{sum_of}
use Rattle.pri_typing.specs.Typing.{signed}
use Rattle.pri_printer.specs.Summands.{Summand, alone, times, SignedSummand, monomial, constant}
use Rattle.pri_printer.specs.Formulas.{summand_value, less_summand, later_part, later, sum_value, term_value}

-- the integer that a summand is
amount : List ℤ → Summand → ℤ
amount e (alone n) = pos n
amount e (times n x) = pos n *ℤ entry e x

signed_amount : List ℤ → SignedSummand → ℤ
signed_amount e a = cond a.0 (neg_ℤ (amount e a.1)) (amount e a.1)

one_times : (n : ℕ) (z : ℤ) → n ≡ 1 → z ≡ pos n *ℤ z
one_times n z h = rw h (omega (arith, ints))

minus_one_times : (n : ℕ) (z : ℤ) → n ≡ 1 → neg_ℤ z ≡ neg_ℤ (pos n *ℤ z)
minus_one_times n z h = ap neg_ℤ (one_times n z h)

minus_times : (n : ℕ) (z : ℤ) → neg_ℤ (pos n) *ℤ z ≡ neg_ℤ (pos n *ℤ z)
minus_times n z = grind (arith, ints)

times_has : (c : Bool) (w : Meaning) (e : List ℤ) (n x : ℕ) (P : ℤ → Type 0) → (c ≡ true → n ≡ 1)
    → HasValue w (cond c (name x) (product (number (pos n)) (name x))) e P ≡ P (pos n *ℤ entry e x)
times_has true w e n x P h = ap P (one_times n (entry e x) (h refl))
times_has false w e n x P h = refl

less_has : (c : Bool) (w : Meaning) (e : List ℤ) (n x : ℕ) (P : ℤ → Type 0) → (c ≡ true → n ≡ 1)
    → HasValue w (cond c (minus (name x)) (product (minus (number (pos n))) (name x))) e P ≡ P (neg_ℤ (pos n *ℤ entry e x))
less_has true w e n x P h = ap P (minus_one_times n (entry e x) (h refl))
less_has false w e n x P h = ap P (minus_times n (entry e x))

summand_has : (w : Meaning) (e : List ℤ) (a : Summand) (P : ℤ → Type 0) → HasValue w (summand_value a) e P ≡ P (amount e a)
unfolding amount
summand_has w e (alone n) P = refl
summand_has w e (times n x) P = times_has (nat_eq n 1) w e n x P (λ h. eqb-true n 1 h)

less_summand_has : (w : Meaning) (e : List ℤ) (a : Summand) (P : ℤ → Type 0) → HasValue w (less_summand a) e P ≡ P (neg_ℤ (amount e a))
unfolding amount
less_summand_has w e (alone n) P = refl
less_summand_has w e (times n x) P = less_has (nat_eq n 1) w e n x P (λ h. eqb-true n 1 h)

first_by : (c : Bool) (w : Meaning) (e : List ℤ) (a : Summand) (P : ℤ → Type 0) → HasValue w (cond c (less_summand a) (summand_value a)) e P ≡ P (cond c (neg_ℤ (amount e a)) (amount e a))
first_by true w e a P = less_summand_has w e a P
first_by false w e a P = summand_has w e a P

later_by : (c : Bool) (w : Meaning) (e : List ℤ) (a : Summand) (P : ℤ → Type 0) → HasValue w (signed c (summand_value a)) e P ≡ P (cond c (neg_ℤ (amount e a)) (amount e a))
later_by true w e a P = summand_has w e a (λ x. P (neg_ℤ x))
later_by false w e a P = summand_has w e a P

later_has : (w : Meaning) (e : List ℤ) (more : List SignedSummand) (P : List ℤ → Type 0)
    → HaveValues w (expressions (map later (map later_part more))) e P ≡ P (map (signed_amount e) more)
unfolding signed_amount
later_has w e [] P = refl
later_has w e (a ∷ more) P =
    later_by a.0 w e a.1 (λ x. HaveValues w (expressions (map later (map later_part more))) e (λ xs. P (x ∷ xs)))
    ∙ later_has w e more (λ xs. P (signed_amount e a ∷ xs))

plus_nothing : (z : ℤ) → z ≡ z +ℤ pos 0
plus_nothing z = omega (arith, ints)

sum_has : (w : Meaning) (e : List ℤ) (a : SignedSummand) (more : List SignedSummand) (P : ℤ → Type 0)
    → HasValue w (sum_value (a ∷ more)) e P ≡ P (sum_of (map (signed_amount e) (a ∷ more)))
unfolding signed_amount
sum_has w e a [] P = first_by a.0 w e a.1 P ∙ ap P (plus_nothing (signed_amount e a))
sum_has w e a (b ∷ more) P =
    first_by a.0 w e a.1 (λ x. HaveValues w (expressions (map later (map later_part (b ∷ more)))) e (λ xs. P (sum_of (x ∷ xs))))
    ∙ later_has w e (b ∷ more) (λ xs. P (sum_of (signed_amount e a ∷ xs)))

not_negative : (n : ℕ) → nat_lt n 0 ≡ false
not_negative n = grind (arith, nat_tests)

size_by : (k z : ℤ) → cond (int_lt k (pos 0)) (neg_ℤ (pos (unsigned_abs k) *ℤ z)) (pos (unsigned_abs k) *ℤ z) ≡ k *ℤ z
size_by (pos n) z = rw (not_negative n) refl
size_by (negsuc n) z = grind (arith, ints)

constant_by : (k : ℤ) → cond (int_lt k (pos 0)) (neg_ℤ (pos (unsigned_abs k))) (pos (unsigned_abs k)) ≡ k
constant_by (pos n) = rw (not_negative n) refl
constant_by (negsuc n) = refl

nothing_plus : (z : ℤ) → z ≡ pos 0 +ℤ z
nothing_plus z = omega (arith, ints)

three : (a b c : ℤ) → a +ℤ (b +ℤ c) ≡ (a +ℤ b) +ℤ c
three a b c = omega (arith, ints)

rest_by : (c : Bool) (e : List ℤ) (k : ℤ) → (c ≡ true → k ≡ pos 0) → sum_of (map (signed_amount e) (cond c [] (constant k ∷ []))) ≡ k
unfolding signed_amount amount
rest_by true e k h = sym (h refl)
rest_by false e k h = ap (λ z. z +ℤ pos 0) (constant_by k) ∙ sym (plus_nothing k)

zero_by : (k : ℤ) → int_eq k (pos 0) ≡ true → k ≡ pos 0
zero_by k h = (Decides-int_eq k (pos 0)).0 h

summands_by : (e : List ℤ) (ps : List (ℕ × ℤ)) (k : ℤ)
    → sum_of (map (signed_amount e) (map monomial ps ++ cond (int_eq k (pos 0)) [] (constant k ∷ []))) ≡ total (value_at e) ps +ℤ k
unfolding signed_amount amount
summands_by e [] k = rest_by (int_eq k (pos 0)) e k (zero_by k) ∙ nothing_plus k
summands_by e (p ∷ ps) k = rw (size_by p.1 (entry e p.0), summands_by e ps k) (three (p.1 *ℤ entry e p.0) (total (value_at e) ps) k)

-- the value of the printed term
pub term_has : (w : Meaning) (e : List ℤ) (pairs : List (ℕ × ℤ)) (k : ℤ) (P : ℤ → Type 0)
    → HasValue w (term_value (record { pairs = pairs; constant = k })) e P ≡ P (value_of (record { pairs = pairs; constant = k }) e)
unfolding value_of signed_amount amount
term_has w e [] k P = sum_has w e (constant k) [] P ∙ ap P (sym (plus_nothing (signed_amount e (constant k))) ∙ constant_by k ∙ nothing_plus k)
term_has w e (p ∷ ps) k P =
    sum_has w e (monomial p) (map monomial ps ++ cond (int_eq k (pos 0)) [] (constant k ∷ [])) P ∙ ap P (summands_by e (p ∷ ps) k)
