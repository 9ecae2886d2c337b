-- Sums over the pairs of a term, of which the coefficient of a name and the value at a list are two.
use Rattle.std.proofs.Common.{◌≡◌, ◌<◌, ℕ, ℤ, pos, ◌+ℤ◌, ◌*ℤ◌, List, [], ◌∷◌, Bool, true, false, cond, nat_eq, nat_lt, refl, ◌∙◌, ap, arith}
use Rattle.std.specs.Ordering.{int_eq}
use Rattle.std.proofs.lemmas.Int.{ints}
use Rattle.std.proofs.lemmas.Bool.Decides.{nat_tests}
use Rattle.base_integers.specs.Entry.{entry}
use Rattle.base_integers.proofs.Ring.{mul-add, add-mul, mul_assoc}
use Rattle.linear_term.specs.Linear.{Linear, total, coef_at, value_at, coef_of, value_of, number, name}
use Rattle.linear_term.specs.Combination.{aligned_right, aligned_behind, aligned, combined, with_pair, combination}
use Rattle.linear_term.specs.declared.merge.Aligned.{Aligned}

-- the two cases of a test
pub by_test : {A : Type 0} (P : A → Type 0) (t : Bool) (x y : A) → (t ≡ true → P x) → (t ≡ false → P y) → P (cond t x y)
by_test P true x y f g = f refl
by_test P false x y f g = g refl

-- the three cases of two names
pub by_names : {A : Type 0} (P : A → Type 0) (a b : ℕ) (x y z : A) → (a < b → P x) → (b < a → P y) → (a ≡ b → P z)
    → P (cond (nat_lt a b) x (cond (nat_lt b a) y z))
by_names P a b x y z less more same =
    by_test P (nat_lt a b) x (cond (nat_lt b a) y z)
    (λ e. less (grind (arith, nat_tests)))
    (λ e. by_test P (nat_lt b a) y z (λ d. more (grind (arith, nat_tests))) (λ d. same (grind (arith, nat_tests))))

-- f keeps the combinations of coefficients
pub record IsAdditive (f : ℕ → ℤ → ℤ) : Type 0 where
  pub sum : (x : ℕ) (m a n b : ℤ) → f x ((m *ℤ a) +ℤ (n *ℤ b)) ≡ (m *ℤ f x a) +ℤ (n *ℤ f x b)
  pub zero : (x : ℕ) → f x (pos 0) ≡ pos 0

pub total-with_pair : (f : ℕ → ℤ → ℤ) → IsAdditive f → (x : ℕ) (k : ℤ) (ps : List (ℕ × ℤ))
    → total f (with_pair x k ps) ≡ f x k +ℤ total f ps
total-with_pair f h x k ps =
    by_test (λ (qs : List (ℕ × ℤ)). total f qs ≡ f x k +ℤ total f ps) (int_eq k (pos 0)) ps ((x, k) ∷ ps)
    (λ e.
    let is : k ≡ pos 0 = grind (arith, ints) in
    let none : f x k ≡ pos 0 = ap (f x) is ∙ h.zero x in
    omega (arith, ints))
    (λ e. refl)

-- ---- the total over a combination
total-right : (f : ℕ → ℤ → ℤ) → IsAdditive f → (m n : ℤ) (qs : List (ℕ × ℤ))
    → total f (combined m n (aligned_right qs)) ≡ n *ℤ total f qs
total-right f h m n [] = omega (arith, ints)
total-right f h m n (q ∷ qs) =
    let first = total-with_pair f h q.0 ((m *ℤ pos 0) +ℤ (n *ℤ q.1)) (combined m n (aligned_right qs)) in
    let none : m *ℤ f q.0 (pos 0) ≡ pos 0 = ap (λ (z : ℤ). m *ℤ z) (h.zero q.0) ∙ omega (arith, ints) in
    omega (arith, ints, first, none, h.sum q.0 m (pos 0) n q.1, total-right f h m n qs, mul-add n (f q.0 q.1) (total f qs))

-- the total over the pair p and what `rest` makes of others, of which t is the total
total-behind : (f : ℕ → ℤ → ℤ) → IsAdditive f → (m n : ℤ) (p : ℕ × ℤ) (rest : List (ℕ × ℤ) → List Aligned) (t : ℤ)
    → ((bs : List (ℕ × ℤ)) → total f (combined m n (rest bs)) ≡ (m *ℤ t) +ℤ (n *ℤ total f bs)) → (qs : List (ℕ × ℤ))
    → total f (combined m n (aligned_behind p rest qs)) ≡ (m *ℤ (f p.0 p.1 +ℤ t)) +ℤ (n *ℤ total f qs)
total-behind f h m n p rest t each [] =
    let first = total-with_pair f h p.0 ((m *ℤ p.1) +ℤ (n *ℤ pos 0)) (combined m n (rest [])) in
    let none : n *ℤ f p.0 (pos 0) ≡ pos 0 = ap (λ (z : ℤ). n *ℤ z) (h.zero p.0) ∙ omega (arith, ints) in
    omega (arith, ints, first, none, h.sum p.0 m p.1 n (pos 0), each [], mul-add m (f p.0 p.1) t)
total-behind f h m n p rest t each (q ∷ qs) =
    by_names (λ (rs : List Aligned). total f (combined m n rs) ≡ (m *ℤ (f p.0 p.1 +ℤ t)) +ℤ (n *ℤ (f q.0 q.1 +ℤ total f qs)))
    p.0 q.0 _ _ _
    (λ _.
    let first = total-with_pair f h p.0 ((m *ℤ p.1) +ℤ (n *ℤ pos 0)) (combined m n (rest (q ∷ qs))) in
    let none : n *ℤ f p.0 (pos 0) ≡ pos 0 = ap (λ (z : ℤ). n *ℤ z) (h.zero p.0) ∙ omega (arith, ints) in
    omega (arith, ints, first, none, h.sum p.0 m p.1 n (pos 0), each (q ∷ qs), mul-add m (f p.0 p.1) t))
    (λ _.
    let first = total-with_pair f h q.0 ((m *ℤ pos 0) +ℤ (n *ℤ q.1)) (combined m n (aligned_behind p rest qs)) in
    let none : m *ℤ f q.0 (pos 0) ≡ pos 0 = ap (λ (z : ℤ). m *ℤ z) (h.zero q.0) ∙ omega (arith, ints) in
    omega (arith, ints, first, none, h.sum q.0 m (pos 0) n q.1, total-behind f h m n p rest t each qs, mul-add n (f q.0 q.1) (total f qs)))
    (λ same.
    let first = total-with_pair f h p.0 ((m *ℤ p.1) +ℤ (n *ℤ q.1)) (combined m n (rest qs)) in
    let at : n *ℤ f p.0 q.1 ≡ n *ℤ f q.0 q.1 = ap (λ (x : ℕ). n *ℤ f x q.1) same in
    omega (arith, ints, first, at, h.sum p.0 m p.1 n q.1, each qs, mul-add m (f p.0 p.1) t, mul-add n (f q.0 q.1) (total f qs)))

pub total-aligned : (f : ℕ → ℤ → ℤ) → IsAdditive f → (m n : ℤ) (ps qs : List (ℕ × ℤ))
    → total f (combined m n (aligned ps qs)) ≡ (m *ℤ total f ps) +ℤ (n *ℤ total f qs)
total-aligned f h m n [] qs = omega (arith, ints, total-right f h m n qs)
total-aligned f h m n (p ∷ ps) qs = total-behind f h m n p (aligned ps) (total f ps) (total-aligned f h m n ps) qs

-- ---- coefficients and values
pub coef_at-additive : (x : ℕ) → IsAdditive (coef_at x)
coef_at-additive x = record {
  sum = λ y m a n b.
      elim (nat_eq y x) as (λ t. cond t ((m *ℤ a) +ℤ (n *ℤ b)) (pos 0) ≡ (m *ℤ cond t a (pos 0)) +ℤ (n *ℤ cond t b (pos 0))) [
        | true ↦ refl
        | false ↦ omega (arith, ints)
      ];
  zero = λ y. elim (nat_eq y x) as (λ t. cond t (pos 0) (pos 0) ≡ pos 0) [ true ↦ refl | false ↦ refl ];
}

pub value_at-additive : (e : List ℤ) → IsAdditive (value_at e)
value_at-additive e = record {
  sum = λ x m a n b. omega (arith, ints, add-mul (m *ℤ a) (n *ℤ b) (entry e x), mul_assoc m a (entry e x), mul_assoc n b (entry e x));
  zero = λ x. omega (arith, ints);
}

pub coef_of-combination : (m n : ℤ) (s t : Linear) (x : ℕ)
    → coef_of (combination m s n t) x ≡ (m *ℤ coef_of s x) +ℤ (n *ℤ coef_of t x)
unfolding coef_of combination
coef_of-combination m n s t x = total-aligned (coef_at x) (coef_at-additive x) m n s.pairs t.pairs

pub value_of-combination : (m n : ℤ) (s t : Linear) (e : List ℤ)
    → value_of (combination m s n t) e ≡ (m *ℤ value_of s e) +ℤ (n *ℤ value_of t e)
unfolding value_of combination
value_of-combination m n s t e =
    omega (
      arith,
      ints,
      total-aligned (value_at e) (value_at-additive e) m n s.pairs t.pairs,
      mul-add m (total (value_at e) s.pairs) s.constant,
      mul-add n (total (value_at e) t.pairs) t.constant,
    )

-- ---- numbers and names
pub value_of-number : (k : ℤ) (e : List ℤ) → value_of (number k) e ≡ k
unfolding value_of
value_of-number k e = omega (arith, ints)

pub value_of-name : (x : ℕ) (e : List ℤ) → value_of (name x) e ≡ entry e x
unfolding value_of
value_of-name x e = omega (arith, ints)

pub coef_of-name : (x : ℕ) → coef_of (name x) x ≡ pos 1
unfolding coef_of
coef_of-name x =
    let same : nat_eq x x ≡ true = grind (arith, nat_tests) in
    rw same refl

pub coef_of-number : (k : ℤ) (x : ℕ) → coef_of (number k) x ≡ pos 0
unfolding coef_of
coef_of-number k x = refl
