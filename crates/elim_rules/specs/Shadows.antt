-- The shadow of a pair of bounds, real or dark, and those of all pairs, with their raw numbers.
use Rattle.std.specs.Prelude.{ℕ, ◌+◌, ◌*◌, ℤ, pos, negsuc, ◌-ℤ◌, ◌*ℤ◌, List, [], ◌∷◌, length, sum_by}
use Rattle.linear_term.specs.Linear.{Linear, number}
use Rattle.base_budget.specs.Trace.{Traced, just, next, compute, each}
use Rattle.clause_set.specs.declared.literal.Literal.{Literal}
use Rattle.clause_set.specs.declared.literal.Literal.TheVariants.{Geq}
use Rattle.clause_set.specs.Names.{area, product}
use Rattle.base_budget.specs.Trace.{combining}
use Rattle.clause_set.specs.Shadows.{lowers, factor, shadow_length, exact_pair, dark_pair, splinter_count}
use Rattle.elim_rules.specs.declared.shadow.Shadow.{Shadow}
use Rattle.elim_rules.specs.declared.shadow.Shadow.TheVariants.{Real, Dark}

-- t − (a − 1)(b − 1) ≥ 0, after its numbers
abbrev pub lowered : Linear → ℤ → ℤ → Traced (List Literal)
lowered t a b =
    next (compute (product (a -ℤ pos 1) (b -ℤ pos 1) ∷ []))
    (λ _. next (combining (pos 1) t (negsuc 0) (number ((a -ℤ pos 1) *ℤ (b -ℤ pos 1)))) (λ u. just (Geq u ∷ [])))

-- the shadow of a lower and an upper bound
abbrev pub pair_of : Shadow → ℕ → Literal → Literal → Traced (List Literal)
pair_of Real x = exact_pair x
pair_of Dark x = dark_pair x

-- the shadows of a lower bound with each upper bound
abbrev pub row_of : Shadow → ℕ → List Literal → Literal → Traced (List Literal)
row_of kind x ups low = each (pair_of kind x low) ups []

-- the charge of the dark shadow and its splinters, where a is the greatest coefficient of the upper bounds
abbrev pub dark_charge : ℕ → List Literal → ℤ → ℕ
dark_charge x c a = 1 + area (shadow_length x c) c + sum_by (λ low. splinter_count a (factor x low)) (lowers x c) * area (length c + 1) c
