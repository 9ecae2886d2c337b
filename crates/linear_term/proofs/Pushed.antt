-- A term with one more monomial after its others is in normal form.
use Rattle.std.proofs.Common.{◌≡◌, ◌+◌, ◌<◌, ◌^◌, ℕ, ℤ, ◌+ℤ◌, ◌*ℤ◌, List, [], ◌∷◌, ◌++◌, sym, ◌∙◌, ap, subst, arith}
use Rattle.std.specs.List.{AllByRecursion}
use Rattle.std.proofs.lemmas.Int.{ints}
use Rattle.std.proofs.lemmas.List.Elements.{All-from_recursion, recursion_from_All}
use Rattle.linear_term.specs.Range.{InRange}
use Rattle.linear_term.specs.Linear.{Linear, total, value_at, value_of, IsRisingFrom, IsCoefficient, IsNormal, IsOver, with_monomial}
use Rattle.base_integers.specs.Entry.{entry}

all_push : (P : (ℕ × ℤ) → Type 0) (ps : List (ℕ × ℤ)) (q : ℕ × ℤ) → AllByRecursion P ps → P q → AllByRecursion P (ps ++ q ∷ [])
all_push P [] q h k = (k, tt)
all_push P (p ∷ ps) q h k = (h.0, all_push P ps q h.1 k)

rising_push : (n : ℕ) (ps : List (ℕ × ℤ)) (q : ℕ × ℤ) → n < q.0 + 1 → IsRisingFrom n ps → AllByRecursion (λ (p : ℕ × ℤ). p.0 < q.0) ps → IsRisingFrom n (ps ++ q ∷ [])
rising_push n [] q lt h below = (lt, tt)
rising_push n (p ∷ ps) q lt h below = (h.0, rising_push (p.0 + 1) ps q (omega (arith, below.0)) h.1 below.1)

pub normal-push : (t : Linear) (x : ℕ) (k : ℤ) → IsNormal t → IsOver x t → IsCoefficient k → x < 2 ^ 32 → IsNormal (with_monomial t x k)
normal-push t x k h over is lt = record {
  rising = rising_push 0 t.pairs (x, k) (omega arith) h.rising (recursion_from_All (λ (p : ℕ × ℤ). p.0 < x) t.pairs over);
  coefficients = All-from_recursion (λ (p : ℕ × ℤ). IsCoefficient p.1) _ (all_push (λ (p : ℕ × ℤ). IsCoefficient p.1) t.pairs (x, k) (recursion_from_All (λ (p : ℕ × ℤ). IsCoefficient p.1) t.pairs h.coefficients) is);
  names = All-from_recursion (λ (p : ℕ × ℤ). p.0 < 2 ^ 32) _ (all_push (λ (p : ℕ × ℤ). p.0 < 2 ^ 32) t.pairs (x, k) (recursion_from_All (λ (p : ℕ × ℤ). p.0 < 2 ^ 32) t.pairs h.names) lt);
  constant = h.constant;
}

-- the same, as `push` has it
pub normal_pushed : (t : Linear) (ps : List (ℕ × ℤ)) (x : ℕ) (k j : ℤ) → j ≡ k → ps ≡ t.pairs ++ (x, j) ∷ [] → IsNormal t → IsOver x t → IsCoefficient k → x < 2 ^ 32
    → IsNormal (record { pairs = ps; constant = t.constant })
normal_pushed t ps x k j same is h over coefficient lt =
    subst (λ qs. IsNormal (record { pairs = qs; constant = t.constant })) (sym (is ∙ ap (λ z. t.pairs ++ (x, z) ∷ []) same)) (normal-push t x k h over coefficient lt)

pub normal-constant : (t : Linear) (k : ℤ) → IsNormal t → InRange k → IsNormal (record { pairs = t.pairs; constant = k })
normal-constant t k h is = record { rising = h.rising; coefficients = h.coefficients; names = h.names; constant = is }

-- the monomial counts in the sum over all
total_push : (f : ℕ → ℤ → ℤ) (ps : List (ℕ × ℤ)) (q : ℕ × ℤ) → total f (ps ++ q ∷ []) ≡ total f ps +ℤ f q.0 q.1
total_push f [] q = omega (arith, ints)
total_push f (p ∷ ps) q = omega (arith, ints, total_push f ps q)

regroup : (a b c : ℤ) → (a +ℤ b) +ℤ c ≡ (a +ℤ c) +ℤ b
regroup a b c = omega (arith, ints)

pub value-push : (t : Linear) (x : ℕ) (k : ℤ) (e : List ℤ) → value_of (with_monomial t x k) e ≡ value_of t e +ℤ (k *ℤ entry e x)
unfolding value_of
value-push t x k e = ap (λ z. z +ℤ t.constant) (total_push (value_at e) t.pairs (x, k)) ∙ regroup (total (value_at e) t.pairs) (k *ℤ entry e x) t.constant

-- the names of a term are below a name after them
pub over-push : (n : ℕ) (t : Linear) (x : ℕ) (k : ℤ) → IsOver n t → x < n → IsOver n (with_monomial t x k)
over-push n t x k h lt =
    All-from_recursion (λ (p : ℕ × ℤ). p.0 < n) _ (all_push (λ (p : ℕ × ℤ). p.0 < n) t.pairs (x, k) (recursion_from_All (λ (p : ℕ × ℤ). p.0 < n) t.pairs h) lt)

pub ruleset pushing = (normal-push, normal-constant)
