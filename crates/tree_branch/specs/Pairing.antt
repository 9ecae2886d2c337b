-- How large the closing formula of a sequent is, read off its members before the numbers of its terms are computed.
use Rattle.std.specs.Prelude.{ℕ, ◌+◌, cond, List, [], ◌∷◌, length}
use Rattle.linear_term.specs.Linear.{Linear}
use Rattle.formula.specs.Form.{Form, is_pure, holds, fails, differs}
use Rattle.formula.specs.Sizes.{size}
use Rattle.sequent.specs.Sequent.{Member, Sequent}
use Rattle.pred_unify.specs.Pairs.{alike}

-- what g gives of each, together
abbrev pub sum_of : {A : Type 0} → (A → ℕ) → List A → ℕ
sum_of g [] = 0
sum_of g (x ∷ xs) = g x + sum_of g xs

-- a negated predicate with a formula: an equation for each argument, where that is the predicate
abbrev pub predicate_pair_size : ℕ → List Linear → Form → ℕ
predicate_pair_size p ss (holds q ts) = cond (alike p ss q ts) (1 + length ss) 0
predicate_pair_size p ss _ = 0

-- a function's value with a formula: the same and one inequation, where that is a value of the function
abbrev pub function_pair_size : ℕ → List Linear → Form → ℕ
function_pair_size f ss (differs g ts v) = cond (alike f ss g ts) (2 + length ss) 0
function_pair_size f ss _ = 0

-- the pairs of a member's formula with the predicates among ms
abbrev pub with_predicates_size : List Member → Form → ℕ
with_predicates_size ms (fails p ss) = sum_of (λ m. predicate_pair_size p ss m.formula) ms
with_predicates_size ms _ = 0

-- the pairs of a member's formula with the values of functions among ms
abbrev pub with_functions_size : List Member → Form → ℕ
with_functions_size ms (differs f ss u) = sum_of (λ m. function_pair_size f ss m.formula) ms
with_functions_size ms _ = 0

-- the pairs of each function's value with each later one
abbrev pub function_pairs_size : List Member → ℕ
function_pairs_size [] = 0
function_pairs_size (m ∷ ms) = with_functions_size ms m.formula + function_pairs_size ms

-- the size of a member's formula, if that is pure
abbrev pub pure_size : Member → ℕ
pure_size m = cond (is_pure m.formula) (size m.formula) 0

-- the pure members and the pairs, and the disjunction that they are the members of
abbrev pub closing_size : Sequent → ℕ
closing_size s = 1 + (sum_of pure_size s.members + (sum_of (λ m. with_predicates_size s.members m.formula) s.members + function_pairs_size s.members))
