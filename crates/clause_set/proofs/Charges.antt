-- The lemmas of charged work for operations on clauses.
use Rattle.std.proofs.Common.{◌≡◌, List, [], ◌∷◌, ◌++◌, refl, ap}
use Rattle.std.proofs.lemmas.List.{append-nil}
use Rattle.base_budget.proofs.Charging.{charging, working, looping}
use Rattle.clause_set.specs.declared.literal.Literal.{Literal}
use Rattle.clause_set.specs.Order.{sorted_once}
use Rattle.clause_set.specs.Clauses.{compact, clause_of, found, clauses_of}
use Rattle.clause_set.specs.Dnfs.{top}

-- the clause of no literals is the true one
pub no_literals : found (clause_of []) ≡ top
unfolding clause_of compact sorted_once
no_literals = refl

pub clauses_of-two : (b c : List Literal) → clauses_of (b ∷ []) ++ clauses_of (c ∷ []) ≡ clauses_of (b ∷ c ∷ [])
clauses_of-two b c = ap (λ z. z ++ clauses_of (c ∷ [])) (append-nil (found (clause_of b)))

pub ruleset charges = (charging)

pub ruleset clauses_of_two = (clauses_of-two)

pub ruleset works = (working)

pub ruleset loops = (looping)
