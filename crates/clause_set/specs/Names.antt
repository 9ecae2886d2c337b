-- The names of a clause, and one of them in its literals.
use Rattle.std.specs.Prelude.{ℕ, ◌+◌, ◌*◌, ℤ, pos, Bool, false, not, ◌&&◌, int_lt, List, length, map, filter}
use Rattle.std.specs.List.{flat_map}
use Rattle.std.specs.Ordering.{nat_cmp}
use Rattle.linear_term.specs.Linear.{Linear, coef_of, mentions, without}
use Rattle.linear_term.specs.declared.range.Place.{Place}
use Rattle.clause_set.specs.declared.literal.Literal.{Literal}
use Rattle.clause_set.specs.declared.literal.Literal.TheVariants.{Eq, Geq, Div, NDiv}
use Rattle.clause_set.specs.Literals.{term_of}
use Rattle.clause_set.specs.Order.{sorted_once}

-- the literal speaks of x
abbrev pub has : ℕ → Literal → Bool
has x l = mentions (term_of l) x

-- the literals without x
abbrev pub others : ℕ → List Literal → List Literal
others x c = filter (λ l. not (has x l)) c

-- the literal's coefficient of x, and its term without x
abbrev pub coefficient : ℕ → Literal → ℤ
coefficient x l = coef_of (term_of l) x

abbrev pub remainder : ℕ → Literal → Linear
remainder x l = without (term_of l) x

-- the distinct names of a clause
abbrev pub names_of : List Literal → List ℕ
names_of c = sorted_once nat_cmp (flat_map (λ l. map (λ p. p.0) (term_of l).pairs) c)

-- n literals, each with a place for each name of c
abbrev pub area : ℕ → List Literal → ℕ
area n c = n * (1 + length (names_of c))

-- literals of each kind with x
abbrev pub is_equation : ℕ → Literal → Bool
is_equation x (Eq t) = mentions t x
is_equation x (Geq t) = false
is_equation x (Div d t) = false
is_equation x (NDiv d t) = false

abbrev pub is_bound : ℕ → Literal → Bool
is_bound x (Eq t) = false
is_bound x (Geq t) = mentions t x
is_bound x (Div d t) = false
is_bound x (NDiv d t) = false

abbrev pub is_divisibility : ℕ → Literal → Bool
is_divisibility x (Eq t) = false
is_divisibility x (Geq t) = false
is_divisibility x (Div d t) = mentions t x
is_divisibility x (NDiv d t) = false

abbrev pub is_indivisibility : ℕ → Literal → Bool
is_indivisibility x (Eq t) = false
is_indivisibility x (Geq t) = false
is_indivisibility x (Div d t) = false
is_indivisibility x (NDiv d t) = mentions t x

-- bounds of x from below and from above
abbrev pub is_lower : ℕ → Literal → Bool
is_lower x l = is_bound x l && int_lt (pos 0) (coefficient x l)

abbrev pub is_upper : ℕ → Literal → Bool
is_upper x l = is_bound x l && int_lt (coefficient x l) (pos 0)

-- the product m·a, as a raw number
abbrev pub product : ℤ → ℤ → Place
product m a = record { m = m; a = a; n = pos 0; b = pos 0 }
