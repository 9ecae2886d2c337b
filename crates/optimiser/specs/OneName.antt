-- Where a clause that speaks of one name j alone begins to be true.
use Rattle.std.specs.Prelude.{ℕ, zero, suc, ◌+◌, ◌-ℤ◌, ℤ, pos, cond, List, [], ◌∷◌, length, position, Option, Some, None}
use Rattle.std.specs.Int.{int_rem_euclid}
use Rattle.std.specs.List.{list_any}
use Rattle.linear_term.specs.declared.range.Place.{Place}
use Rattle.base_budget.specs.Trace.{Traced, just, next, pay}
use Rattle.base_budget.specs.declared.log.Entry.{Entry}
use Rattle.clause_set.specs.declared.literal.Literal.{Literal}
use Rattle.clause_set.specs.Names.{area, is_equation}
use Rattle.clause_set.specs.Rules.{rule, measure}
use Rattle.solve_laws.specs.Nearest.{is_at_most}
use Rattle.solve_laws.specs.Candidates.{class_of, computed, first_split, lower, root_at, upper}
use Rattle.optimiser.specs.declared.floor.Floor.{Floor}
use Rattle.optimiser.specs.declared.floor.Floor.TheVariants.{Nowhere, At, Unbounded}
use Rattle.optimiser.specs.Floors.{lower_of, floor_when, first_floor}

-- the lowest of the floors of several clauses and of `out`
abbrev pub floors : (List Literal → Traced Floor) → List (List Literal) → Floor → Traced Floor
floors f [] out = just out
floors f (c ∷ cs) out = next (f c) (λ g. floors f cs (lower_of out g))

-- with an equation j + k = 0: −k, if the other literals are true there
abbrev pub floor_at_root : ℕ → List Literal → Traced Floor
floor_at_root j c = next (root_at j c (position (is_equation j) c)) (λ vs. just (first_floor vs))

-- a bound, and how far the next number of the class r modulo m is
abbrev pub up_to_class : ℤ → ℤ → ℤ → Place
up_to_class m r lo = record { m = pos 1; a = lo; n = pos 1; b = int_rem_euclid (r -ℤ lo) m }

-- with bounds and at most one divisibility: without a lower bound it has no floor, and no residue is computed; else the floor is the least
-- number of the class from the bound on, if the upper bound allows it
abbrev pub floor_from : ℕ → List Literal → Option ℤ → Traced Floor
floor_from j c None = just Unbounded
floor_from j c (Some lo) = next (class_of j c) (λ z. next (computed (up_to_class z.modulus z.residue lo)) (λ v. just (floor_when (is_at_most v (upper j c)) v)))

-- negated divisibilities are split and divisibilities are joined first
abbrev pub floor_by : (List Literal → Traced Floor) → ℕ → List Literal → Option Entry → Traced Floor
floor_by f j c None = floor_from j c (lower j c)
floor_by f j c (Some e) = next (rule j c e) (λ cs. floors f cs Nowhere)

abbrev pub floor_of : (List Literal → Traced Floor) → ℕ → List Literal → Traced Floor
floor_of f j c = cond (list_any (is_equation j) c) (floor_at_root j c) (floor_by f j c (first_split j c))

-- at most n splits deep
abbrev pub floor_within : ℕ → ℕ → List Literal → Traced Floor
floor_within zero j c = just Nowhere
floor_within (suc n) j c = floor_of (floor_within n j) j c

unfoldable pub clause_floor : ℕ → List Literal → Traced Floor
clause_floor j c = floor_within (suc (measure j c)) j c

-- a clause that an elimination left is charged once
abbrev pub charged_floor : ℕ → List Literal → Traced Floor
charged_floor j c = next (pay (1 + area (length c) c)) (λ _. clause_floor j c)

-- where a disjunction that speaks of j alone begins to be true
unfoldable pub dnf_floor : ℕ → List (List Literal) → Traced Floor
dnf_floor j d = floors (charged_floor j) d Nowhere
