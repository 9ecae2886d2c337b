-- Operations on disjunctions of clauses, with their charges.
use Rattle.std.specs.Prelude.{◌+◌, ◌*◌, ℤ, pos, negsuc, Bool, false, true, not, ◌&&◌, ◌||◌, int_le, List, [], ◌∷◌, ◌++◌, length, filter, Option, Some, None}
use Rattle.std.specs.List.{list_all, list_any, flat_map}
use Rattle.linear_term.specs.Linear.{number}
use Rattle.base_budget.specs.Trace.{Traced, just, next, pay, combining, each}
use Rattle.clause_set.specs.declared.literal.Literal.{Literal}
use Rattle.clause_set.specs.declared.literal.Literal.TheVariants.{Eq, Geq, Div, NDiv}
use Rattle.clause_set.specs.Order.{is_literal, clause_cmp, sorted_once}
use Rattle.clause_set.specs.Clauses.{slack, clause_of, found, clauses_of}
use Rattle.clause_set.specs.Weight.{clause_weight, weight}

-- the bound k is at most the constant
abbrev pub is_within : Option ℤ → ℤ → Bool
is_within None k = false
is_within (Some j) k = int_le j k

-- the literal is a bound that follows from the bounds of the clause c
abbrev pub follows : List Literal → Literal → Bool
follows c (Eq t) = false
follows c (Geq t) = is_within (slack c t.pairs) t.constant
follows c (Div d t) = false
follows c (NDiv d t) = false

-- the literal is in c, or is a bound that follows from those of c
abbrev pub is_implied : List Literal → Literal → Bool
is_implied c l = list_any (is_literal l) c || follows c l

-- the clause d covers the clause c: each literal of d is in c, or is a bound that follows from those of c
abbrev pub covers : List Literal → List Literal → Bool
covers d c = list_all (is_implied c) d

-- d covers c, and is not covered by it
abbrev pub outdoes : List Literal → List Literal → Bool
outdoes d c = covers d c && not (covers c d)

-- another one of the clauses covers c
abbrev pub is_covered : List (List Literal) → List Literal → Bool
is_covered cs c = list_any (λ d. outdoes d c) cs

-- the clauses that no other one covers
abbrev pub uncovered : List (List Literal) → List (List Literal)
uncovered cs = filter (λ c. not (is_covered cs c)) cs

-- the clauses sorted, each once, without those that another one covers
unfoldable pub tidied : List (List Literal) → List (List Literal)
tidied cs = uncovered (sorted_once clause_cmp cs)

-- tidying n clauses charges n·n
abbrev pub tidying : List (List Literal) → Traced (List (List Literal))
tidying cs = next (pay (length cs * length cs)) (λ _. just (tidied cs))

-- the conjunctions of c with each clause of d, without false ones
abbrev pub joined_with : List Literal → List (List Literal) → List (List Literal)
joined_with c d = flat_map (λ e. found (clause_of (c ++ e))) d

-- the conjunctions of each clause of a with each of b, those of a outermost, without false ones
abbrev pub joined : List (List Literal) → List (List Literal) → List (List Literal)
joined a b = flat_map (λ c. joined_with c b) a

-- the conjunction of a and b
abbrev pub conjunction : List (List Literal) → List (List Literal) → Traced (List (List Literal))
conjunction a b = next (pay (1 + length b * weight a + length a * weight b)) (λ _. tidying (joined a b))

-- the disjunction of a and b
abbrev pub disjunction : List (List Literal) → List (List Literal) → Traced (List (List Literal))
disjunction a b = next (pay (1 + weight a + weight b)) (λ _. tidying (a ++ b))

-- divisibility by d and its negation change places
abbrev pub denied_literal : Literal → Literal
denied_literal (Eq t) = Eq t
denied_literal (Geq t) = Geq t
denied_literal (Div d t) = NDiv d t
denied_literal (NDiv d t) = Div d t

abbrev pub denied_clauses : Literal → Traced (List (List Literal))
denied_clauses l = just (clauses_of ((denied_literal l ∷ []) ∷ []))

-- the negation of a literal, as clauses: t < 0 is −t − 1 ≥ 0, and t ≠ 0 is t < 0 or t − 1 ≥ 0
abbrev pub negated_literal : Literal → Traced (List (List Literal))
negated_literal (Eq t) = next (combining (negsuc 0) t (pos 1) (number (negsuc 0)))
    (λ below. next (combining (pos 1) t (pos 1) (number (negsuc 0)))
    (λ above. just (clauses_of ((Geq below ∷ []) ∷ (Geq above ∷ []) ∷ []))))
negated_literal (Geq t) = next (combining (negsuc 0) t (pos 1) (number (negsuc 0))) (λ below. just (clauses_of ((Geq below ∷ []) ∷ [])))
negated_literal (Div d t) = denied_clauses (Div d t)
negated_literal (NDiv d t) = denied_clauses (NDiv d t)

-- the negation of a clause
abbrev pub negated_clause : List Literal → Traced (List (List Literal))
negated_clause c = next (pay (1 + 2 * clause_weight c)) (λ _. each negated_literal c [])

-- the negations of the clauses, joined by "and" to what is in out
abbrev pub negated_clauses : List (List Literal) → List (List Literal) → Traced (List (List Literal))
negated_clauses [] out = just out
negated_clauses (c ∷ cs) out = next (negated_clause c) (λ n. next (conjunction out n) (λ both. negated_clauses cs both))

-- the disjunction that is true
abbrev pub top : List (List Literal)
top = [] ∷ []

-- the disjunction has one clause, without literals
abbrev pub is_top : List (List Literal) → Bool
is_top ([] ∷ []) = true
is_top d = false

-- the negation of d
abbrev pub negation : List (List Literal) → Traced (List (List Literal))
negation d = negated_clauses d top
