-- The table of a leaf: a row for each member that asks for one.
use Rattle.std.specs.Prelude.{ℕ, ℤ, pos, List, [], ◌∷◌}
use Rattle.std.specs.Ordering.{nat_cmp, int_cmp, on, then_cmp}
use Rattle.std.specs.declared.cmp.Ordering.{Ordering}
use Rattle.std.specs.Cmp.Lexicographic.{slice_cmp}
use Rattle.base_integers.specs.Entry.{entry}
use Rattle.linear_term.specs.Linear.{Linear}
use Rattle.base_budget.specs.Trace.{Traced, just, next, each}
use Rattle.clause_set.specs.Order.{sorted_once}
use Rattle.form_typed.specs.declared.world.Table.{Table}
use Rattle.form_typed.specs.declared.world.TruthRow.{TruthRow}
use Rattle.form_typed.specs.declared.world.ValueRow.{ValueRow}
use Rattle.formula.specs.Form.{Form, fails, differs}
use Rattle.solve_laws.specs.Candidates.{computed}
use Rattle.model_trees.specs.Walk.{Stop}

-- the sum of the pairs' values at e, from a sum on, pair by pair
abbrev pub summed : List ℤ → List (ℕ × ℤ) → ℤ → Traced ℤ
summed e [] sum = just sum
summed e (p ∷ ps) sum = next (computed (record { m = p.1; a = entry e p.0; n = pos 1; b = sum })) (summed e ps)

-- the value of the term at e
abbrev pub evaluated : List ℤ → Linear → Traced ℤ
evaluated e t = summed e t.pairs t.constant

abbrev pub one_value : List ℤ → Linear → Traced (List ℤ)
one_value e t = next (evaluated e t) (λ v. just (v ∷ []))

abbrev pub all_evaluated : List ℤ → List Linear → Traced (List ℤ)
all_evaluated e ts = each (one_value e) ts []

-- the predicate p is true at the values of the terms
abbrev pub asked_truth : List ℤ → ℕ → List Linear → Traced (List TruthRow)
asked_truth e p ts = next (all_evaluated e ts) (λ xs. just (record { id = p; at = xs } ∷ []))

-- the function f has the value of u at the values of the terms
abbrev pub asked_value : List ℤ → ℕ → List Linear → Linear → Traced (List ValueRow)
asked_value e f ts u = next (all_evaluated e ts) (λ xs. next (evaluated e u) (λ v. just (record { id = f; at = xs; value = v } ∷ [])))

-- a negated predicate is false where the predicate is true
abbrev pub truth_row : List ℤ → Form → Traced (List TruthRow)
truth_row e (fails p ts) = asked_truth e p ts
truth_row e _ = just []

-- a function differs from a value nowhere but where it has another one
abbrev pub value_row : List ℤ → Form → Traced (List ValueRow)
value_row e (differs f ts u) = asked_value e f ts u
value_row e _ = just []

-- rows compare by the number of the symbol, then by the arguments
abbrev pub truth_cmp : TruthRow → TruthRow → Ordering
truth_cmp = then_cmp (on (λ r. r.id) nat_cmp) (on (λ r. r.at) (slice_cmp int_cmp))

abbrev pub value_cmp : ValueRow → ValueRow → Ordering
value_cmp = then_cmp (on (λ r. r.id) nat_cmp) (on (λ r. r.at) (slice_cmp int_cmp))

-- the rows that the members ask for at the values, in their order, each once
abbrev pub table_at : Stop → Traced Table
table_at s =
    next (each (λ m. truth_row s.values m.formula) s.members []) (λ ts. next (each (λ m. value_row s.values m.formula) s.members [])
    (λ vs. just (record { truths = sorted_once truth_cmp ts; values = sorted_once value_cmp vs })))
