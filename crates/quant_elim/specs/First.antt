-- The rule that comes first for a clause, with its entry in the log, and how far clauses are from being without a name.
use Rattle.std.specs.Prelude.{ℕ, List, [], ◌∷◌, Option, Some, None, max}
use Rattle.base_budget.specs.declared.log.Entry.{Entry}
use Rattle.base_budget.specs.declared.log.Entry.TheVariants as entry
use Rattle.base_budget.specs.Trace.{Traced, just, next}
use Rattle.clause_set.specs.declared.literal.Literal.{Literal}
use Rattle.clause_set.specs.Rules.{rule, first_rule, measure}
use Rattle.omega_elim.specs.Projection.{bounds_entry}
use Rattle.quant_elim.specs.declared.choice.Choice.{Choice}
use Rattle.quant_elim.specs.declared.choice.Choice.TheVariants.{Equation, Apart, Merge, Shift, Bounds}

-- the entry of a choice of the code
abbrev pub entry_of : ℕ → List Literal → Choice → Entry
entry_of x c (Equation i) = entry.Equation i
entry_of x c (Apart i) = entry.Apart i
entry_of x c (Merge i j) = entry.Merge i j
entry_of x c (Shift i) = entry.Shift i
entry_of x c Bounds = bounds_entry x c

-- the work of the rule of an entry, if there is one, with the entry
abbrev pub rule_with_entry : ℕ → List Literal → Option Entry → Traced (Option (Entry × List (List Literal)))
rule_with_entry x c None = just None
rule_with_entry x c (Some e) = next (rule x c e) (λ rs. just (Some (e, rs)))

-- the rule that comes first, and what it leaves; none where c is without x
unfoldable pub first_row : ℕ → List Literal → Traced (Option (Entry × List (List Literal)))
first_row x c = rule_with_entry x c (first_rule x c)

-- the greatest measure of some clauses
abbrev pub farthest : ℕ → List (List Literal) → ℕ
farthest x [] = 0
farthest x (c ∷ cs) = max (measure x c) (farthest x cs)
