-- The elimination rules by their entries in a log: which applies, what it does, and which comes first.
use Rattle.std.specs.Prelude.{ℕ, ◌+◌, ◌*◌, Bool, false, not, ◌&&◌, ◌||◌, cond, nat_eq, nat_lt, unsigned_abs, List, [], ◌∷◌, drop, position, count_by, Option, Some, None, slice_get}
use Rattle.std.specs.List.{list_all, list_any}
use Rattle.std.specs.Option.{option_map}
use Rattle.base_budget.specs.Trace.{Traced, just, next, pay}
use Rattle.base_budget.specs.declared.log.Entry.{Entry}
use Rattle.base_budget.specs.declared.log.Entry.TheVariants.{Equation, Apart, Merge, Shift, OneSided, Exact, Dark}
use Rattle.clause_set.specs.declared.literal.Literal.{Literal}
use Rattle.clause_set.specs.Names.{has, coefficient, is_equation, is_bound, is_divisibility, is_indivisibility, is_lower, is_upper}
use Rattle.clause_set.specs.Equations.{equation}
use Rattle.clause_set.specs.Divisibilities.{apart, merge, shift}
use Rattle.clause_set.specs.Shadows.{one_sided, exact, dark, lowers, uppers}

-- the literal passes the test, if there is one
abbrev pub passes : (Literal → Bool) → Option Literal → Bool
passes test None = false
passes test (Some l) = test l

-- each literal with x is an inequality, and one is
abbrev pub is_bounded : ℕ → List Literal → Bool
is_bounded x c = list_any (has x) c && list_all (λ l. not (has x l) || is_bound x l) c

abbrev pub has_unit : ℕ → Literal → Bool
has_unit x l = nat_eq (unsigned_abs (coefficient x l)) 1

-- bounds on both sides, of which those from below or those from above all have a coefficient of size 1
abbrev pub is_two_sided : ℕ → List Literal → Bool
is_two_sided x c = is_bounded x c && (list_any (is_lower x) c && list_any (is_upper x) c)

abbrev pub is_exact : ℕ → List Literal → Bool
is_exact x c = is_two_sided x c && (list_all (has_unit x) (lowers x c) || list_all (has_unit x) (uppers x c))

abbrev pub is_one_sided : ℕ → List Literal → Bool
is_one_sided x c = is_bounded x c && not (is_two_sided x c)

-- the only divisibility with x, where no equation and no negated divisibility has x
abbrev pub is_only_divisibility : ℕ → List Literal → Bool
is_only_divisibility x c =
    nat_eq (count_by (is_divisibility x) c) 1 && not (list_any (λ l. is_equation x l || is_indivisibility x l) c)

-- the rule of the entry applies to x in the clause c
unfoldable pub applies : ℕ → List Literal → Entry → Bool
applies x c (Equation i) = passes (is_equation x) (slice_get c i)
applies x c (Apart i) = passes (is_indivisibility x) (slice_get c i)
applies x c (Merge i j) = nat_lt i j && (passes (is_divisibility x) (slice_get c i) && passes (is_divisibility x) (slice_get c j))
applies x c (Shift i) = passes (is_divisibility x) (slice_get c i) && is_only_divisibility x c
applies x c OneSided = is_one_sided x c
applies x c Exact = is_exact x c
applies x c Dark = is_two_sided x c

-- the work of the rule, whose value is the clauses that it leaves
unfoldable pub rule : ℕ → List Literal → Entry → Traced (List (List Literal))
rule x c (Equation i) = equation x i c
rule x c (Apart i) = apart i c
rule x c (Merge i j) = merge x i j c
rule x c (Shift i) = shift x i c
rule x c OneSided = one_sided x c
rule x c Exact = exact x c
rule x c Dark = dark x c

-- a clause without x stays, at the charge 1
abbrev pub unused : List Literal → Traced (List (List Literal))
unused c = next (pay 1) (λ _. just (c ∷ []))

-- no equation of the clause has a smaller coefficient of x than the equation l
abbrev pub is_least_equation : ℕ → List Literal → Literal → Bool
is_least_equation x c l =
    is_equation x l && list_all (λ m. not (is_equation x m && nat_lt (unsigned_abs (coefficient x m)) (unsigned_abs (coefficient x l)))) c

-- the first of two entries that is there
abbrev pub first_of : Option Entry → Option Entry → Option Entry
first_of None e = e
first_of (Some e) f = Some e

-- the divisibility with x after the one at i
abbrev pub merge_behind : ℕ → List Literal → ℕ → Option Entry
merge_behind x c i = option_map (λ j. Merge i (i + 1 + j)) (position (is_divisibility x) (drop (i + 1) c))

abbrev pub first_merge : ℕ → List Literal → Option ℕ → Option Entry
first_merge x c None = None
first_merge x c (Some i) = merge_behind x c i

abbrev pub when : Bool → Entry → Option Entry
when b e = cond b (Some e) None

-- the rule that comes first: the equation with the least coefficient, the first negated divisibility, the first two
-- divisibilities, the only one, bounds on one side, the exact shadow, the dark shadow; none where c is without x
unfoldable pub first_rule : ℕ → List Literal → Option Entry
first_rule x c =
    first_of (option_map (λ i. Equation i) (position (is_least_equation x c) c))
    (first_of (option_map (λ i. Apart i) (position (is_indivisibility x) c))
    (first_of (first_merge x c (position (is_divisibility x) c))
    (first_of (option_map (λ i. Shift i) (position (is_divisibility x) c))
    (first_of (when (is_one_sided x c) OneSided)
    (first_of (when (is_exact x c) Exact) (when (is_two_sided x c) Dark))))))

-- how far the clause is from being without x: each rule takes it to clauses that are nearer
unfoldable pub measure : ℕ → List Literal → ℕ
measure x c =
    cond (list_any (has x) c)
    (cond (list_any (is_equation x) c) 1 (2 + 2 * count_by (is_indivisibility x) c + count_by (is_divisibility x) c))
    0
