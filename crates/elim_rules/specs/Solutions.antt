-- The solution of an equation a·x + s = 0 for x, and its rule beside the other literals.
use Rattle.std.specs.Prelude.{ℕ, ◌≢◌, pos, List, [], ◌∷◌}
use Rattle.linear_term.specs.Range.{InRange}
use Rattle.base_budget.specs.Trace.{Traced, just, next, each}
use Rattle.clause_set.specs.declared.literal.Literal.{Literal}
use Rattle.clause_set.specs.declared.literal.Literal.TheVariants.{Div}
use Rattle.clause_set.specs.Clauses.{clauses_of}
use Rattle.clause_set.specs.Equations.{size_of, solved_or_kept}
use Rattle.clause_set.specs.Names.{coefficient, remainder}
use Rattle.elim_rules.specs.declared.equation.Solution.{Solution}

-- a is in the range, and not 0
pub record HasCoefficient (q : Solution) : Type 0 where
  pub in_range : InRange q.a
  pub not_zero : q.a ≢ pos 0

-- the rule at the equation l, after its charge
abbrev pub solved_beside : ℕ → List Literal → Literal → Traced (List (List Literal))
solved_beside x rest l = next (each (solved_or_kept x (coefficient x l) (remainder x l)) rest [])
    (λ ls. just (clauses_of ((Div (size_of (coefficient x l)) (remainder x l) ∷ ls) ∷ [])))
