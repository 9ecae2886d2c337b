-- A name out of a clause that only bounds it, by the first rule that applies.
use Rattle.std.specs.Prelude.{ℕ, cond, List}
use Rattle.base_budget.specs.Trace.{Traced, just, next}
use Rattle.base_budget.specs.declared.log.Entry.{Entry}
use Rattle.base_budget.specs.declared.log.Entry.TheVariants.{OneSided, Exact, Dark}
use Rattle.clause_set.specs.declared.literal.Literal.{Literal}
use Rattle.clause_set.specs.Rules.{is_one_sided, is_exact, rule}

-- the first of one-sided, exact and dark that applies where inequalities alone bound x
abbrev pub bounds_entry : ℕ → List Literal → Entry
bounds_entry x c = cond (is_one_sided x c) OneSided (cond (is_exact x c) Exact Dark)

-- the work of a rule, with its entry
abbrev pub with_entry : Entry → Traced (List (List Literal)) → Traced (Entry × List (List Literal))
with_entry entry work = next work (λ cs. just (entry, cs))

-- the first rule that applies, and what it leaves
abbrev pub projection : ℕ → List Literal → Traced (Entry × List (List Literal))
projection x c = with_entry (bounds_entry x c) (rule x c (bounds_entry x c))
