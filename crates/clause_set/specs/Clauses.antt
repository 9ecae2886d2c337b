-- The normal form of a conjunction of literals, in which each linear form has one interval.
use Rattle.std.specs.Prelude.{ℕ, ℤ, pos, neg_ℤ, ◌+ℤ◌, Bool, true, false, cond, int_lt, List, [], ◌∷◌, map, Option, Some, None}
use Rattle.std.specs.List.{list_any, flat_map}
use Rattle.std.specs.Int.{int_min}
use Rattle.std.specs.Ordering.{int_eq, is_eq}
use Rattle.std.specs.Cmp.Lexicographic.{slice_cmp}
use Rattle.linear_term.specs.Order.{pair_cmp}
use Rattle.linear_term.specs.Linear.{Linear}
use Rattle.clause_set.specs.declared.literal.Literal.{Literal}
use Rattle.clause_set.specs.declared.literal.Literal.TheVariants.{Eq, Geq, Div, NDiv}
use Rattle.clause_set.specs.declared.literal.Norm.{Norm}
use Rattle.clause_set.specs.declared.literal.Norm.TheVariants as norm
use Rattle.clause_set.specs.Normal.{negated, turned, normal_of}
use Rattle.clause_set.specs.Order.{literal_cmp, sorted_once}

-- p and q are the same coefficients
abbrev pub same_pairs : List (ℕ × ℤ) → List (ℕ × ℤ) → Bool
same_pairs p q = is_eq (slice_cmp pair_cmp p q)

-- the lesser of two bounds, where there are any
abbrev pub least : Option ℤ → Option ℤ → Option ℤ
least None k = k
least (Some j) None = Some j
least (Some j) (Some k) = Some (int_min j k)

-- the number k of which the literal says p + k ≥ 0
abbrev pub slack_of : Literal → List (ℕ × ℤ) → Option ℤ
slack_of (Eq t) p = cond (same_pairs t.pairs p) (Some t.constant) (cond (same_pairs t.pairs (negated p)) (Some (neg_ℤ t.constant)) None)
slack_of (Geq t) p = cond (same_pairs t.pairs p) (Some t.constant) None
slack_of (Div d t) p = None
slack_of (NDiv d t) p = None

-- the least number k of which one of the literals says p + k ≥ 0: their lower bound of p is −k
abbrev pub slack : List Literal → List (ℕ × ℤ) → Option ℤ
slack [] p = None
slack (l ∷ ls) p = least (slack_of l p) (slack ls p)

-- the difference of an upper and a lower bound
abbrev pub bounds_apart : Option ℤ → Option ℤ → Option ℤ
bounds_apart None k = None
bounds_apart (Some j) None = None
bounds_apart (Some j) (Some k) = Some (j +ℤ k)

-- the upper less the lower bound that the literals set to p, where both are there
abbrev pub extent : List Literal → List (ℕ × ℤ) → Option ℤ
extent ls p = bounds_apart (slack ls p) (slack ls (negated p))

abbrev pub is_negative : Option ℤ → Bool
is_negative None = false
is_negative (Some k) = int_lt k (pos 0)

abbrev pub is_zero : Option ℤ → Bool
is_zero None = false
is_zero (Some k) = int_eq k (pos 0)

-- no value lies between the bounds of the literal's coefficients
abbrev pub is_void : List Literal → Literal → Bool
is_void ls (Eq t) = is_negative (extent ls t.pairs)
is_void ls (Geq t) = is_negative (extent ls t.pairs)
is_void ls (Div d t) = false
is_void ls (NDiv d t) = false

-- the term with the constant k, if there is one
abbrev pub with_constant : Option ℤ → Linear → Linear
with_constant None t = t
with_constant (Some k) t = record { pairs = t.pairs; constant = k }

-- a bound as the tightest one of the literals, as an equation where its form has one value alone
abbrev pub tightened : List Literal → Literal → Literal
tightened ls (Eq t) = Eq t
tightened ls (Geq t) =
    let s = with_constant (slack ls t.pairs) t in cond (is_zero (extent ls t.pairs)) (Eq (turned s)) (Geq s)
tightened ls (Div d t) = Div d t
tightened ls (NDiv d t) = NDiv d t

-- the conjunction of normal literals: none where a form has no value, else the tightened literals, sorted, each once
unfoldable pub compact : List Literal → Option (List Literal)
compact ls = cond (list_any (is_void ls) ls) None (Some (sorted_once literal_cmp (map (tightened ls) ls)))

abbrev pub is_false : Norm → Bool
is_false norm.True = false
is_false norm.False = true
is_false (norm.Lit l) = false

abbrev pub literals_of : Norm → List Literal
literals_of norm.True = []
literals_of norm.False = []
literals_of (norm.Lit l) = l ∷ []

-- the clause of a conjunction of literals: none where it is found to be false
unfoldable pub clause_of : List Literal → Option (List Literal)
clause_of ls =
    cond (list_any (λ l. is_false (normal_of l)) ls) None (compact (flat_map (λ l. literals_of (normal_of l)) ls))

-- the clauses of conjunctions, without those that are found to be false
abbrev pub found : Option (List Literal) → List (List Literal)
found None = []
found (Some c) = c ∷ []

abbrev pub clauses_of : List (List Literal) → List (List Literal)
clauses_of cs = flat_map (λ c. found (clause_of c)) cs
