-- The candidates for the value of a name j in a clause that speaks of j alone.
use Rattle.std.specs.Prelude.{◌≡◌, ℕ, zero, suc, ◌+◌, ◌<ℤ◌, ◌⊎◌, ℤ, pos, negsuc, neg_ℤ, ◌+ℤ◌, ◌-ℤ◌, ◌*ℤ◌, cond, List, [], ◌∷◌, ◌++◌, map, length, remove, position, Option, Some, None, slice_get}
use Rattle.std.specs.Int.{int_rem_euclid}
use Rattle.std.specs.List.{list_any}
use Rattle.std.specs.Option.{option_map}
use Rattle.base_integers.specs.Entry.{put}
use Rattle.base_integers.specs.Gcd.{gcd}
use Rattle.linear_term.specs.declared.range.Place.{Place}
use Rattle.linear_term.specs.Linear.{Linear, coef_of}
use Rattle.base_budget.specs.Trace.{Traced, raw, just, step, next, pay, compute, each}
use Rattle.base_budget.specs.declared.log.Entry.{Entry}
use Rattle.base_budget.specs.declared.log.Entry.TheVariants.{Apart}
use Rattle.clause_set.specs.declared.literal.Literal.{Literal}
use Rattle.clause_set.specs.declared.literal.Literal.TheVariants.{Eq, Geq, Div, NDiv}
use Rattle.clause_set.specs.Literals.{term_of, clause_truth}
use Rattle.clause_set.specs.Clauses.{slack}
use Rattle.clause_set.specs.Names.{area, coefficient, is_equation, is_divisibility, is_indivisibility, product}
use Rattle.clause_set.specs.Bezout.{bezout}
use Rattle.clause_set.specs.Rules.{rule, measure, first_of, first_merge}
use Rattle.solve_laws.specs.Nearest.{not_below_zero, below_zero, is_at_most, is_at_least, when}

-- the term is b·j + k, for some b that is not 0
abbrev pub IsSingle : ℕ → ℤ → Linear → Type 0
IsSingle j b t = t.pairs ≡ (j, b) ∷ []

-- a literal in form that speaks of j alone: j + k = 0; j + k ≥ 0 or −j + k ≥ 0; d divides b·j + k, or does not, for
-- positive b and d without a common divisor
abbrev pub IsAlone : ℕ → Literal → Type 0
IsAlone j (Eq t) = IsSingle j (pos 1) t
IsAlone j (Geq t) = IsSingle j (pos 1) t ⊎ IsSingle j (negsuc 0) t
IsAlone j (Div d t) = (b : ℤ) × (IsSingle j b t) × (pos 0 <ℤ b) × (pos 0 <ℤ d) × (gcd b d ≡ pos 1)
IsAlone j (NDiv d t) = (b : ℤ) × (IsSingle j b t) × (pos 0 <ℤ b) × (pos 0 <ℤ d) × (gcd b d ≡ pos 1)

-- ---- with an equation j + k = 0: −k, if the other literals are true there
-- b·v + k, as a raw number
abbrev pub value_number : ℕ → ℤ → Literal → Place
value_number j v l = record { m = coefficient j l; a = v; n = pos 1; b = (term_of l).constant }

abbrev pub root : ℕ → ℤ → List Literal → Traced (List ℤ)
root j v rest = next (compute (map (value_number j v) rest)) (λ _. just (when (clause_truth rest (put [] j v)) v))

abbrev pub root_of : ℕ → List Literal → Option Literal → Traced (List ℤ)
root_of j rest None = just []
root_of j rest (Some l) = root j (neg_ℤ (term_of l).constant) rest

abbrev pub root_at : ℕ → List Literal → Option ℕ → Traced (List ℤ)
root_at j c None = just []
root_at j c (Some i) = root_of j (remove c i) (slice_get c i)

-- ---- without one: two numbers of a residue class between two bounds
-- the class of the residue r modulo m
pub record Class : Type 0 where
  pub modulus : ℤ
  pub residue : ℤ

-- d divides b·j + k exactly where j is −u·k modulo d, where u·b is 1 modulo d
abbrev pub solutions : ℕ → ℤ → Linear → Traced Class
solutions j d t =
    let u = (bezout (coef_of t j) d).p in
    next (compute (product u t.constant ∷ [])) (λ _. just (record { modulus = d; residue = int_rem_euclid (neg_ℤ (u *ℤ t.constant)) d }))

-- the class that the first divisibility allows, all integers where there is none
abbrev pub class_of : ℕ → List Literal → Traced Class
class_of j [] = just (record { modulus = pos 1; residue = pos 0 })
class_of j (Div d t ∷ ls) = solutions j d t
class_of j (Eq t ∷ ls) = class_of j ls
class_of j (Geq t ∷ ls) = class_of j ls
class_of j (NDiv d t ∷ ls) = class_of j ls

-- the bounds of j
abbrev pub lower : ℕ → List Literal → Option ℤ
lower j c = option_map neg_ℤ (slack c ((j, pos 1) ∷ []))

abbrev pub upper : ℕ → List Literal → Option ℤ
upper j c = slack c ((j, negsuc 0) ∷ [])

-- the number m·a + n·b, computed
unfoldable pub computed : Place → Traced ℤ
computed p = step (raw (p ∷ [])) ((p.m *ℤ p.a) +ℤ (p.n *ℤ p.b))

-- a bound, and how far the next number of the class is
abbrev pub up_from : ℤ → ℤ → Option ℤ → Place
up_from m r lo = record { m = pos 1; a = not_below_zero lo; n = pos 1; b = int_rem_euclid (r -ℤ not_below_zero lo) m }

abbrev pub down_from : ℤ → ℤ → Option ℤ → Place
down_from m r hi = record { m = pos 1; a = below_zero hi; n = negsuc 0; b = int_rem_euclid (below_zero hi -ℤ r) m }

-- the two numbers of the class r modulo m, those of them that are between the bounds
abbrev pub two_between : ℤ → ℤ → Option ℤ → Option ℤ → Traced (List ℤ)
two_between m r lo hi = next (computed (up_from m r lo))
    (λ up. next (computed (down_from m r hi)) (λ down. just (when (is_at_most up hi) up ++ when (is_at_least down lo) down)))

abbrev pub bounded : ℕ → List Literal → Traced (List ℤ)
bounded j c = next (class_of j c) (λ z. two_between z.modulus z.residue (lower j c) (upper j c))

-- ---- any clause: negated divisibilities are split and divisibilities are joined first
-- the first negated divisibility, else the first two divisibilities
abbrev pub first_split : ℕ → List Literal → Option Entry
first_split j c = first_of (option_map (λ i. Apart i) (position (is_indivisibility j) c)) (first_merge j c (position (is_divisibility j) c))

abbrev pub split_by : (List Literal → Traced (List ℤ)) → ℕ → List Literal → Option Entry → Traced (List ℤ)
split_by f j c None = bounded j c
split_by f j c (Some e) = next (rule j c e) (λ cs. each f cs [])

abbrev pub candidates_of : (List Literal → Traced (List ℤ)) → ℕ → List Literal → Traced (List ℤ)
candidates_of f j c = cond (list_any (is_equation j) c) (root_at j c (position (is_equation j) c)) (split_by f j c (first_split j c))

-- at most n splits deep
abbrev pub candidates_within : ℕ → ℕ → List Literal → Traced (List ℤ)
candidates_within zero j c = just []
candidates_within (suc n) j c = candidates_of (candidates_within n j) j c

unfoldable pub candidates : ℕ → List Literal → Traced (List ℤ)
candidates j c = candidates_within (suc (measure j c)) j c

-- a clause that an elimination left is charged once
abbrev pub charged_candidates : ℕ → List Literal → Traced (List ℤ)
charged_candidates j c = next (pay (1 + area (length c) c)) (λ _. candidates j c)
