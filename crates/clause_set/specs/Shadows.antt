-- Elimination of a name that only inequalities bound (Pugh 1992, the Omega test): the exact shadow, and the dark
-- shadow with its splinters.
use Rattle.std.specs.Prelude.{ℕ, ◌+◌, ◌*◌, ℤ, pos, negsuc, ◌+ℤ◌, ◌-ℤ◌, ◌*ℤ◌, unsigned_abs, List, [], ◌∷◌, ◌++◌, length, filter, max, sum_by}
use Rattle.std.specs.Int.{int_div_euclid}
use Rattle.linear_term.specs.declared.range.Place.{Place}
use Rattle.linear_term.specs.Linear.{Linear, number}
use Rattle.base_budget.specs.Trace.{Traced, just, next, pay, compute, each}
use Rattle.clause_set.specs.declared.literal.Literal.{Literal}
use Rattle.clause_set.specs.declared.literal.Literal.TheVariants.{Eq, Geq}
use Rattle.clause_set.specs.Literals.{term_of}
use Rattle.clause_set.specs.Clauses.{clauses_of}
use Rattle.base_budget.specs.Trace.{combining}
use Rattle.clause_set.specs.Names.{others, coefficient, remainder, area, is_lower, is_upper, product}
use Rattle.clause_set.specs.Divisibilities.{numbers_from}

abbrev pub lowers : ℕ → List Literal → List Literal
lowers x c = filter (is_lower x) c

abbrev pub uppers : ℕ → List Literal → List Literal
uppers x c = filter (is_upper x) c

-- the size of the coefficient of x
abbrev pub factor : ℕ → Literal → ℤ
factor x l = pos (unsigned_abs (coefficient x l))

-- a name bounded on one side alone meets its bounds at some value
unfoldable pub one_sided : ℕ → List Literal → Traced (List (List Literal))
one_sided x c = next (pay (1 + area (length c) c)) (λ _. just (clauses_of (others x c ∷ [])))

-- the real shadow of a lower bound b·x + s and an upper bound −a·x + α: b·α + a·s
abbrev pub shadow : ℕ → Literal → Literal → Traced Linear
shadow x low up = combining (factor x low) (remainder x up) (factor x up) (remainder x low)

abbrev pub exact_pair : ℕ → Literal → Literal → Traced (List Literal)
exact_pair x low up = next (shadow x low up) (λ t. just (Geq t ∷ []))

abbrev pub exact_pairs : ℕ → List Literal → Literal → Traced (List Literal)
exact_pairs x ups low = each (exact_pair x low) ups []

-- how many literals a shadow has: one for each pair of bounds, and those without x
abbrev pub shadow_length : ℕ → List Literal → ℕ
shadow_length x c = length (others x c) + length (lowers x c) * length (uppers x c)

-- the exact shadow: all pairs of bounds, where one of each pair has the coefficient 1 or −1
unfoldable pub exact : ℕ → List Literal → Traced (List (List Literal))
exact x c = next (pay (1 + area (shadow_length x c) c))
    (λ _. next (each (exact_pairs x (uppers x c)) (lowers x c) [])
    (λ ls. just (clauses_of ((others x c ++ ls) ∷ []))))

-- the dark shadow of a pair of bounds: b·α + a·s − (a − 1)(b − 1)
abbrev pub dark_pair : ℕ → Literal → Literal → Traced (List Literal)
dark_pair x low up = next (shadow x low up)
    (λ t. next (compute (product (factor x up -ℤ pos 1) (factor x low -ℤ pos 1) ∷ []))
    (λ _. next (combining (pos 1) t (negsuc 0) (number ((factor x up -ℤ pos 1) *ℤ (factor x low -ℤ pos 1))))
    (λ u. just (Geq u ∷ []))))

abbrev pub dark_pairs : ℕ → List Literal → Literal → Traced (List Literal)
dark_pairs x ups low = each (dark_pair x low) ups []

-- the greatest coefficient among the upper bounds
abbrev pub greatest_factor : ℕ → List Literal → ℕ
greatest_factor x [] = 0
greatest_factor x (l ∷ ls) = max (unsigned_abs (coefficient x l)) (greatest_factor x ls)

-- the splinters of a lower bound b·x + s are those with i from 0 to the floor of (A·b − A − b)/A: this many
abbrev pub splinter_count : ℤ → ℤ → ℕ
splinter_count a b = unsigned_abs (int_div_euclid (((a *ℤ b) -ℤ a) -ℤ b) a +ℤ pos 1)

-- m − k, as a raw number
abbrev pub difference : ℤ → ℤ → Place
difference m k = record { m = pos 1; a = m; n = negsuc 0; b = k }

-- a splinter of the clause: b·x + s = i
abbrev pub splinter : List Literal → Literal → ℕ → Traced (List (List Literal))
splinter c low i = next (combining (pos 1) (term_of low) (negsuc 0) (number (pos i))) (λ u. just ((c ++ (Eq u ∷ [])) ∷ []))

abbrev pub splinters : ℕ → List Literal → ℤ → Literal → Traced (List (List Literal))
splinters x c a low =
    next (compute (product a (factor x low) ∷ difference (a *ℤ factor x low) a ∷ difference ((a *ℤ factor x low) -ℤ a) (factor x low) ∷ []))
    (λ _. each (splinter c low) (numbers_from 0 (splinter_count a (factor x low))) [])

-- the dark shadow, then the splinters of each lower bound
abbrev pub dark_with : ℕ → List Literal → ℤ → Traced (List (List Literal))
dark_with x c a =
    next (pay (1 + area (shadow_length x c) c + sum_by (λ low. splinter_count a (factor x low)) (lowers x c) * area (length c + 1) c))
    (λ _. next (each (dark_pairs x (uppers x c)) (lowers x c) [])
    (λ ls. next (each (splinters x c a) (lowers x c) [])
    (λ cs. just (clauses_of ((others x c ++ ls) ∷ cs)))))

unfoldable pub dark : ℕ → List Literal → Traced (List (List Literal))
dark x c = dark_with x c (pos (greatest_factor x (uppers x c)))
