-- Terms for the names of a term.
use Rattle.std.specs.Prelude.{ℕ, zero, suc, ℤ, pos, List, [], ◌∷◌}
use Rattle.linear_term.specs.Linear.{Linear, number}
use Rattle.linear_term.specs.Combination.{combination}

-- the term for the name x; a name without one is 0
abbrev pub term_at : List Linear → ℕ → Linear
term_at [] x = number (pos 0)
term_at (t ∷ ts) zero = t
term_at (t ∷ ts) (suc x) = term_at ts x

-- u, and these monomials with the terms for their names
abbrev pub put_from : List Linear → List (ℕ × ℤ) → Linear → Linear
put_from ts [] u = u
put_from ts (p ∷ ps) u = put_from ts ps (combination (pos 1) u p.1 (term_at ts p.0))

-- the term with the terms ts for its names
abbrev pub put_in : List Linear → Linear → Linear
put_in ts t = put_from ts t.pairs (number t.constant)
