-- How the work for a term comes out.
use Rattle.std.specs.Prelude.{ℕ, List, [], length, codes}
use Rattle.linear_term.specs.Linear.{Linear}
use Rattle.base_budget.specs.Trace.{End, Funds, Traced, at, cut, done, refused, out_of_range}
use Rattle.clause_set.specs.declared.literal.Literal.{Literal}
use Rattle.form_typed.specs.Formula.{Expression}
use Rattle.pri_typing.specs.declared.problem.Problem.{Problem}
use Rattle.base_answers.specs.Answer.{Answer, unknown_answer}
use Rattle.optimiser.specs.Least.{Minimum, minimising}
use Rattle.job_least.specs.Leasts.{constraint_of, minimum_answer, objective_of}

-- what is said of the least value; or the budget ends, or a number leaves the range
pub data Outcome : Type 0 where
  said : Minimum → Outcome
  out_of_steps : Outcome
  overflows : Outcome

-- work that ends so, with what comes of its value and of what is left in the purse
abbrev pub ended_with : {A : Type 0} → (A → Funds → Outcome) → A → End → Outcome
ended_with f v (done a) = f v a.funds
ended_with f v (refused a) = out_of_steps
ended_with f v (out_of_range numbers a) = overflows

-- what comes of work with a purse
abbrev pub outcome_of : {A : Type 0} → (A → Funds → Outcome) → Traced A → Funds → Outcome
outcome_of f work funds = ended_with f work.value (cut work.events (at funds []))

-- the search for the least value over a constraint
abbrev pub minimum_outcome : Problem → Linear → List (List Literal) → Funds → Outcome
minimum_outcome p t d = outcome_of (λ m funds. said m) (minimising (length p.existentials) d t)

-- the elimination, then that search
abbrev pub constraint_outcome : Problem → Linear → Funds → Outcome
constraint_outcome p t = outcome_of (minimum_outcome p t) (constraint_of p)

-- first the term is computed; all with one purse
abbrev pub least_outcome : ℕ → Expression → Problem → Outcome
least_outcome budget x p = outcome_of (constraint_outcome p) (objective_of p x) (record { budget = budget; spent = 0 })

-- the answer that tells an outcome
abbrev pub outcome_answer : Problem → Outcome → Answer
outcome_answer p (said m) = minimum_answer p m
outcome_answer p out_of_steps = unknown_answer (codes "steps")
outcome_answer p overflows = unknown_answer (codes "overflow")
