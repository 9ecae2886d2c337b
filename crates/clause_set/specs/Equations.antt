-- Elimination of a name by an equation a·x + s = 0: it holds for some x exactly where |a| divides s, and then
-- |a|·x = −σ·s with the sign σ of a.
use Rattle.std.specs.Prelude.{ℕ, ◌+◌, ℤ, pos, negsuc, neg_ℤ, ◌*ℤ◌, unsigned_abs, cond, int_lt, List, [], ◌∷◌, length, remove, Option, Some, None, slice_get}
use Rattle.linear_term.specs.Linear.{Linear, coef_of, without}
use Rattle.base_budget.specs.Trace.{Traced, just, next, pay, compute, each}
use Rattle.clause_set.specs.declared.literal.Literal.{Literal}
use Rattle.clause_set.specs.declared.literal.Literal.TheVariants.{Eq, Geq, Div, NDiv}
use Rattle.clause_set.specs.Clauses.{clauses_of}
use Rattle.base_budget.specs.Trace.{combining}
use Rattle.clause_set.specs.Names.{has, coefficient, remainder, area, product}

-- the sign σ of a, as 1 or −1
abbrev pub sign_of : ℤ → ℤ
sign_of a = cond (int_lt a (pos 0)) (negsuc 0) (pos 1)

abbrev pub size_of : ℤ → ℤ
size_of a = pos (unsigned_abs a)

-- |a|·(b·x + t) where a·x + s = 0: |a|·t − σ·b·s
abbrev pub solved_term : ℕ → ℤ → Linear → Linear → Traced Linear
solved_term x a s u = combining (size_of a) (without u x) (neg_ℤ (sign_of a *ℤ coef_of u x)) s

-- a literal with x, multiplied by |a|, where a·x + s = 0
abbrev pub solved : ℕ → ℤ → Linear → Literal → Traced (List Literal)
solved x a s (Eq u) = next (solved_term x a s u) (λ t. just (Eq t ∷ []))
solved x a s (Geq u) = next (solved_term x a s u) (λ t. just (Geq t ∷ []))
solved x a s (Div d u) = next (compute (product d (size_of a) ∷ [])) (λ _. next (solved_term x a s u) (λ t. just (Div (d *ℤ size_of a) t ∷ [])))
solved x a s (NDiv d u) = next (compute (product d (size_of a) ∷ [])) (λ _. next (solved_term x a s u) (λ t. just (NDiv (d *ℤ size_of a) t ∷ [])))

-- a literal with x solved, one without x as it is
abbrev pub solved_or_kept : ℕ → ℤ → Linear → Literal → Traced (List Literal)
solved_or_kept x a s l = cond (has x l) (solved x a s l) (just (l ∷ []))

abbrev pub by_equation : ℕ → List Literal → List Literal → Literal → Traced (List (List Literal))
by_equation x c rest l = next (pay (1 + area (length c) c))
    (λ _. next (each (solved_or_kept x (coefficient x l) (remainder x l)) rest [])
    (λ ls. just (clauses_of ((Div (size_of (coefficient x l)) (remainder x l) ∷ ls) ∷ []))))

-- the rule at the literal i of the clause c, which is an equation with x
abbrev pub equation_at : ℕ → ℕ → List Literal → Option Literal → Traced (List (List Literal))
equation_at x i c None = just []
equation_at x i c (Some l) = by_equation x c (remove c i) l

unfoldable pub equation : ℕ → ℕ → List Literal → Traced (List (List Literal))
equation x i c = equation_at x i c (slice_get c i)
