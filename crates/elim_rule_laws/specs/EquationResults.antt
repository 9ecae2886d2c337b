-- What the rules for equations and divisibilities leave of a clause, before it is put into form (Cooper 1972).
use Rattle.std.specs.Prelude.{ℕ, ◌-◌, ℤ, pos, neg_ℤ, ◌*ℤ◌, unsigned_abs, cond, List, [], ◌∷◌, map, remove, slice_set, slice_get, Option, Some, None}
use Rattle.linear_term.specs.Linear.{Linear, number, coef_of, without}
use Rattle.linear_term.specs.Combination.{combination}
use Rattle.clause_set.specs.declared.literal.Literal.{Literal}
use Rattle.clause_set.specs.declared.literal.Literal.TheVariants.{Eq, Geq, Div, NDiv}
use Rattle.clause_set.specs.Names.{has, coefficient, remainder}
use Rattle.clause_set.specs.Bezout.{Bezout, bezout}
use Rattle.clause_set.specs.Equations.{sign_of, size_of}
use Rattle.clause_set.specs.Divisibilities.{numbers_from, with_name}

-- |a|·t − σ·b·s, which is |a|·(b·x + t) where a·x + s = 0
abbrev pub solved_sum : ℕ → ℤ → Linear → Linear → Linear
solved_sum x a s u = combination (size_of a) (without u x) (neg_ℤ (sign_of a *ℤ coef_of u x)) s

-- a literal multiplied by |a|, where a·x + s = 0
abbrev pub scaled_literal : ℕ → ℤ → Linear → Literal → Literal
scaled_literal x a s (Eq u) = Eq (solved_sum x a s u)
scaled_literal x a s (Geq u) = Geq (solved_sum x a s u)
scaled_literal x a s (Div d u) = Div (d *ℤ size_of a) (solved_sum x a s u)
scaled_literal x a s (NDiv d u) = NDiv (d *ℤ size_of a) (solved_sum x a s u)

abbrev pub solved_literal : ℕ → ℤ → Linear → Literal → Literal
solved_literal x a s l = cond (has x l) (scaled_literal x a s l) l

abbrev pub solved_by : ℕ → List Literal → Option Literal → List (List Literal)
solved_by x rest None = []
solved_by x rest (Some l) = (Div (size_of (coefficient x l)) (remainder x l) ∷ map (solved_literal x (coefficient x l) (remainder x l)) rest) ∷ []

-- for the equation a·x + s = 0 at i: |a| divides s, and the other literals with its solution
abbrev pub equation_results : ℕ → ℕ → List Literal → List (List Literal)
equation_results x i c = solved_by x (remove c i) (slice_get c i)

-- t + r
abbrev pub raised : Linear → ℕ → Linear
raised t r = combination (pos 1) t (pos 1) (number (pos r))

abbrev pub split_at : ℕ → List Literal → Option Literal → List (List Literal)
split_at i c (Some (NDiv d t)) = map (λ r. slice_set c i (Div d (raised t r))) (numbers_from 1 (unsigned_abs d - 1))
split_at i c (Some (Eq t)) = []
split_at i c (Some (Geq t)) = []
split_at i c (Some (Div d t)) = []
split_at i c None = []

-- for the literal at i, that d does not divide t: d divides t + r, for each r from 1 to d − 1
abbrev pub apart_results : ℕ → List Literal → List (List Literal)
apart_results i c = split_at i c (slice_get c i)

-- p·d2·t1 + q·d1·t2
abbrev pub merged_term : ℕ → Bezout → ℤ → Linear → ℤ → Linear → Linear
merged_term x z d1 t d2 u = combination (z.p *ℤ d2) (without t x) (z.q *ℤ d1) (without u x)

-- a2·t1 − a1·t2
abbrev pub crossed_term : ℕ → Linear → Linear → Linear
crossed_term x t u = combination (coef_of u x) (without t x) (neg_ℤ (coef_of t x)) (without u x)

-- d1·d2 divides g·x + p·d2·t1 + q·d1·t2, and g divides a2·t1 − a1·t2
abbrev pub merged_with : ℕ → List Literal → Bezout → ℤ → Linear → ℤ → Linear → List Literal
merged_with x rest z d1 t d2 u = Div (d1 *ℤ d2) (with_name x z.g (merged_term x z d1 t d2 u)) ∷ Div z.g (crossed_term x t u) ∷ rest

abbrev pub joined_second : ℕ → List Literal → ℤ → Linear → Option Literal → List (List Literal)
joined_second x rest d1 t (Some (Div d2 u)) = merged_with x rest (bezout (coef_of t x *ℤ d2) (coef_of u x *ℤ d1)) d1 t d2 u ∷ []
joined_second x rest d1 t (Some (Eq u)) = []
joined_second x rest d1 t (Some (Geq u)) = []
joined_second x rest d1 t (Some (NDiv d u)) = []
joined_second x rest d1 t None = []

abbrev pub joined_first : ℕ → List Literal → Option Literal → Option Literal → List (List Literal)
joined_first x rest (Some (Div d1 t)) second = joined_second x rest d1 t second
joined_first x rest (Some (Eq t)) second = []
joined_first x rest (Some (Geq t)) second = []
joined_first x rest (Some (NDiv d t)) second = []
joined_first x rest None second = []

-- for the literals at i and j, that d1 divides a1·x + t1 and d2 divides a2·x + t2: one with x, one without it, and the rest
abbrev pub merge_results : ℕ → ℕ → ℕ → List Literal → List (List Literal)
merge_results x i j c = joined_first x (remove (remove c j) i) (slice_get c i) (slice_get c j)

-- a·D·x + g·s − a·u·t
abbrev pub shifted_term : ℕ → ℤ → Bezout → Linear → Linear → Linear
shifted_term x d z t r = with_name x (coef_of r x *ℤ d) (combination z.g (without r x) (neg_ℤ (coef_of r x *ℤ z.p)) (without t x))

-- a bound at the solutions x = −u·t/g + k·D/g, with x for k
abbrev pub shifted_literal : ℕ → ℤ → Bezout → Linear → Literal → Literal
shifted_literal x d z t (Geq r) = cond (has x (Geq r)) (Geq (shifted_term x d z t r)) (Geq r)
shifted_literal x d z t (Eq r) = Eq r
shifted_literal x d z t (Div k r) = Div k r
shifted_literal x d z t (NDiv k r) = NDiv k r

abbrev pub shifted_with : ℕ → List Literal → ℤ → Bezout → Linear → List Literal
shifted_with x rest d z t = Div z.g (without t x) ∷ map (shifted_literal x d z t) rest

abbrev pub shifted_by : ℕ → List Literal → Option Literal → List (List Literal)
shifted_by x rest (Some (Div d t)) = shifted_with x rest d (bezout (coef_of t x) d) t ∷ []
shifted_by x rest (Some (Eq t)) = []
shifted_by x rest (Some (Geq t)) = []
shifted_by x rest (Some (NDiv d t)) = []
shifted_by x rest None = []

-- for the literal at i, that D divides b·x + t: g divides t, and the bounds at the solutions
abbrev pub shift_results : ℕ → ℕ → List Literal → List (List Literal)
shift_results x i c = shifted_by x (remove c i) (slice_get c i)
