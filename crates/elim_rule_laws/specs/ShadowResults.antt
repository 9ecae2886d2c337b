-- What the rules for inequalities leave of a clause, before it is put into form: one-sided, exact shadow, dark shadow and
-- splinters (Pugh 1992, the Omega test).
use Rattle.std.specs.Prelude.{ℕ, ℤ, pos, negsuc, ◌-ℤ◌, ◌*ℤ◌, List, [], ◌∷◌, ◌++◌, map}
use Rattle.std.specs.List.{flat_map}
use Rattle.linear_term.specs.Linear.{Linear, number}
use Rattle.linear_term.specs.Combination.{combination}
use Rattle.clause_set.specs.declared.literal.Literal.{Literal}
use Rattle.clause_set.specs.declared.literal.Literal.TheVariants.{Eq, Geq}
use Rattle.clause_set.specs.Literals.{term_of}
use Rattle.clause_set.specs.Names.{others, remainder}
use Rattle.clause_set.specs.Divisibilities.{numbers_from}
use Rattle.clause_set.specs.Shadows.{lowers, uppers, factor, greatest_factor, splinter_count}

-- b·α + a·s for a lower bound b·x + s ≥ 0 and an upper bound −a·x + α ≥ 0
abbrev pub shadow_term : ℕ → Literal → Literal → Linear
shadow_term x low up = combination (factor x low) (remainder x up) (factor x up) (remainder x low)

-- b·α + a·s − (a − 1)(b − 1)
abbrev pub dark_term : ℕ → Literal → Literal → Linear
dark_term x low up = combination (pos 1) (shadow_term x low up) (negsuc 0) (number ((factor x up -ℤ pos 1) *ℤ (factor x low -ℤ pos 1)))

-- f ≥ 0 for each pair of a lower and an upper bound
abbrev pub inequalities : (Literal → Literal → Linear) → List Literal → List Literal → List Literal
inequalities f lows ups = flat_map (λ low. map (λ up. Geq (f low up)) ups) lows

-- the clause with b·x + s = i
abbrev pub with_splinter : List Literal → Literal → ℕ → List Literal
with_splinter c low i = c ++ Eq (combination (pos 1) (term_of low) (negsuc 0) (number (pos i))) ∷ []

abbrev pub splinters_of : ℕ → List Literal → ℤ → Literal → List (List Literal)
splinters_of x c a low = map (with_splinter c low) (numbers_from 0 (splinter_count a (factor x low)))

abbrev pub one_sided_results : ℕ → List Literal → List (List Literal)
one_sided_results x c = others x c ∷ []

abbrev pub exact_results : ℕ → List Literal → List (List Literal)
exact_results x c = (others x c ++ inequalities (shadow_term x) (lowers x c) (uppers x c)) ∷ []

abbrev pub dark_results : ℕ → List Literal → List (List Literal)
dark_results x c =
    (others x c ++ inequalities (dark_term x) (lowers x c) (uppers x c))
    ∷ flat_map (splinters_of x c (pos (greatest_factor x (uppers x c)))) (lowers x c)
