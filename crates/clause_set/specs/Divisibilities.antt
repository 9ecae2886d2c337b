-- Elimination rules for divisibilities (Cooper 1972): a negated one is split into its remainders, two become one with
-- the name and one without it, and the last one is solved by a congruence.
use Rattle.std.specs.Prelude.{ℕ, zero, suc, ◌+◌, ◌-◌, ◌*◌, ℤ, pos, neg_ℤ, ◌*ℤ◌, unsigned_abs, cond, List, [], ◌∷◌, length, remove, slice_set, slice_get, Option, Some, None}
use Rattle.linear_term.specs.Linear.{Linear, number, name, coef_of, without}
use Rattle.linear_term.specs.Combination.{combination}
use Rattle.base_budget.specs.Trace.{Traced, just, next, pay, compute, each}
use Rattle.clause_set.specs.declared.literal.Literal.{Literal}
use Rattle.clause_set.specs.declared.literal.Literal.TheVariants.{Eq, Geq, Div, NDiv}
use Rattle.clause_set.specs.Clauses.{clauses_of}
use Rattle.base_budget.specs.Trace.{combining}
use Rattle.clause_set.specs.Names.{has, area, product}
use Rattle.clause_set.specs.Bezout.{Bezout, bezout}

-- the n numbers from k on
abbrev pub numbers_from : ℕ → ℕ → List ℕ
numbers_from k zero = []
numbers_from k (suc n) = k ∷ numbers_from (suc k) n

-- the clause with the remainder −r of t: d divides t + r
abbrev pub with_remainder : ℕ → List Literal → ℤ → Linear → ℕ → Traced (List (List Literal))
with_remainder i c d t r = next (combining (pos 1) t (pos 1) (number (pos r))) (λ s. just (clauses_of (slice_set c i (Div d s) ∷ [])))

abbrev pub apart_at : ℕ → List Literal → Option Literal → Traced (List (List Literal))
apart_at i c (Some (NDiv d t)) = next (pay (1 + (unsigned_abs d - 1) * area (length c) c)) (λ _. each (with_remainder i c d t) (numbers_from 1 (unsigned_abs d - 1)) [])
apart_at i c (Some (Eq t)) = just []
apart_at i c (Some (Geq t)) = just []
apart_at i c (Some (Div d t)) = just []
apart_at i c None = just []

-- the rule at the literal i, that d does not divide t: then d divides t + r for one r from 1 to d − 1
unfoldable pub apart : ℕ → List Literal → Traced (List (List Literal))
apart i c = apart_at i c (slice_get c i)

-- t + k·x
abbrev pub with_name : ℕ → ℤ → Linear → Linear
with_name x k t = combination (pos 1) t k (name x)

-- d1 divides a1·x + t1 and d2 divides a2·x + t2, of which z = bezout(a1·d2, a2·d1): exactly where d1·d2 divides
-- g·x + p·d2·t1 + q·d1·t2, and g divides a2·t1 − a1·t2
abbrev pub merged_by : ℕ → List Literal → Bezout → ℤ → Linear → ℤ → Linear → Traced (List (List Literal))
merged_by x rest z d1 t d2 u =
    next (compute (product z.p d2 ∷ product z.q d1 ∷ []))
    (λ _. next (combining (z.p *ℤ d2) (without t x) (z.q *ℤ d1) (without u x))
    (λ v. next (combining (coef_of u x) (without t x) (neg_ℤ (coef_of t x)) (without u x))
    (λ w. just (clauses_of ((Div (d1 *ℤ d2) (with_name x z.g v) ∷ Div z.g w ∷ rest) ∷ [])))))

abbrev pub merged : ℕ → List Literal → List Literal → ℤ → Linear → ℤ → Linear → Traced (List (List Literal))
merged x c rest d1 t d2 u =
    next (pay (1 + area (length c) c))
    (λ _. next (compute (product (coef_of t x) d2 ∷ product (coef_of u x) d1 ∷ product d1 d2 ∷ []))
    (λ _. merged_by x rest (bezout (coef_of t x *ℤ d2) (coef_of u x *ℤ d1)) d1 t d2 u))

abbrev pub merge_with : ℕ → List Literal → List Literal → ℤ → Linear → Option Literal → Traced (List (List Literal))
merge_with x c rest d1 t (Some (Div d2 u)) = merged x c rest d1 t d2 u
merge_with x c rest d1 t (Some (Eq u)) = just []
merge_with x c rest d1 t (Some (Geq u)) = just []
merge_with x c rest d1 t (Some (NDiv d u)) = just []
merge_with x c rest d1 t None = just []

abbrev pub merge_at : ℕ → List Literal → List Literal → Option Literal → Option Literal → Traced (List (List Literal))
merge_at x c rest (Some (Div d1 t)) second = merge_with x c rest d1 t second
merge_at x c rest (Some (Eq t)) second = just []
merge_at x c rest (Some (Geq t)) second = just []
merge_at x c rest (Some (NDiv d t)) second = just []
merge_at x c rest None second = just []

-- the rule at the literals i and j, i < j, which are divisibilities with x
unfoldable pub merge : ℕ → ℕ → ℕ → List Literal → Traced (List (List Literal))
merge x i j c = merge_at x c (remove (remove c j) i) (slice_get c i) (slice_get c j)

-- a bound a·x + s ≥ 0 at the solutions x = −u·t/g + k·D/g of D divides b·x + t: a·D·k + g·s − a·u·t ≥ 0, with x for k
abbrev pub shifted_bound : ℕ → ℤ → Bezout → Linear → Linear → Traced (List Literal)
shifted_bound x d z t r =
    next (compute (product (coef_of r x) d ∷ product (coef_of r x) z.p ∷ []))
    (λ _. next (combining z.g (without r x) (neg_ℤ (coef_of r x *ℤ z.p)) (without t x))
    (λ v. just (Geq (with_name x (coef_of r x *ℤ d) v) ∷ [])))

abbrev pub shifted : ℕ → ℤ → Bezout → Linear → Literal → Traced (List Literal)
shifted x d z t (Geq r) = cond (has x (Geq r)) (shifted_bound x d z t r) (just (Geq r ∷ []))
shifted x d z t (Eq r) = just (Eq r ∷ [])
shifted x d z t (Div k r) = just (Div k r ∷ [])
shifted x d z t (NDiv k r) = just (NDiv k r ∷ [])

abbrev pub shift_by : ℕ → List Literal → List Literal → ℤ → Bezout → Linear → Traced (List (List Literal))
shift_by x c rest d z t = next (pay (1 + area (length c) c))
    (λ _. next (each (shifted x d z t) rest []) (λ ls. just (clauses_of ((Div z.g (without t x) ∷ ls) ∷ []))))

abbrev pub shift_at : ℕ → List Literal → List Literal → Option Literal → Traced (List (List Literal))
shift_at x c rest (Some (Div d t)) = shift_by x c rest d (bezout (coef_of t x) d) t
shift_at x c rest (Some (Eq t)) = just []
shift_at x c rest (Some (Geq t)) = just []
shift_at x c rest (Some (NDiv d t)) = just []
shift_at x c rest None = just []

-- the rule at the literal i, the only divisibility with x, where no equation and no negated divisibility has x
unfoldable pub shift : ℕ → ℕ → List Literal → Traced (List (List Literal))
shift x i c = shift_at x c (remove c i) (slice_get c i)
