-- What the commands of a script declare, define and assert, and when its assertions before a `check-sat` are satisfied.
use Rattle.std.specs.Prelude.{◌≡◌, ◌↔◌, ℕ, zero, suc, ℤ, List, [], ◌∷◌, ◌++◌, map, length}
use Rattle.std.specs.List.{All}
use Rattle.form_typed.specs.Formula.{Formula, formulas, negation, every}
use Rattle.form_typed.specs.Truth.{Meaning, Truth}
use Rattle.smt_terms.specs.declared.operator.Sort.{Sort}
use Rattle.smt_terms.specs.declared.operator.Sort.TheVariants as sort
use Rattle.smt_terms.specs.Term.{PlacedTerm}
use Rattle.smt_terms.specs.Evaluation.{Globals, constant_of, function_of, predicate_of, defined_by, IsTrue}
use Rattle.smt_terms.specs.Translation.{asserted}

-- a command that has an effect
pub data Command : Type 0 where
  -- a symbol with this many arguments of the sort Int
  declare : List ℕ → ℕ → Sort → Command
  -- a function of these arguments by a term
  define : List ℕ → List (List ℕ) → Sort → PlacedTerm → Command
  claim : PlacedTerm → Command
  check : Command

-- an asserted term, with the symbols before it
pub record Claim : Type 0 where
  pub globals : Globals
  pub term : PlacedTerm

-- a declared symbol with the number of its arguments
pub record Declared : Type 0 where
  pub text : List ℕ
  pub arity : ℕ

-- what commands came to: the symbols, the last one first; the Int constants, the functions and the predicates, in the order of
-- their declarations; and what was asserted, in order
pub record State : Type 0 where
  pub globals : Globals
  pub constants : List (List ℕ)
  pub functions : List Declared
  pub predicates : List Declared
  pub claims : List Claim

abbrev pub start : State
start = record { globals = []; constants = []; functions = []; predicates = []; claims = [] }

-- after a declaration: an Int constant, a function with arguments, or a predicate, which may have none
abbrev pub after_declaration : State → List ℕ → ℕ → Sort → State
after_declaration s x zero sort.Int = record s { globals = (x, constant_of (length s.constants)) ∷ s.globals; constants = s.constants ++ x ∷ [] }
after_declaration s x (suc n) sort.Int =
    record s { globals = (x, function_of (length s.functions)) ∷ s.globals; functions = s.functions ++ (record { text = x; arity = suc n }) ∷ [] }
after_declaration s x n sort.Bool =
    record s { globals = (x, predicate_of (length s.predicates)) ∷ s.globals; predicates = s.predicates ++ (record { text = x; arity = n }) ∷ [] }

-- after a command
abbrev pub after : State → Command → State
after s (declare x n k) = after_declaration s x n k
after s (define x xs k t) = record s { globals = (x, defined_by xs t) ∷ s.globals }
after s (claim t) = record s { claims = s.claims ++ (record { globals = s.globals; term = t }) ∷ [] }
after s check = s

-- what the commands before each `check-sat` came to, from a state on
abbrev pub checks_from : State → List Command → List State
checks_from s [] = []
checks_from s (declare x n k ∷ cs) = checks_from (after s (declare x n k)) cs
checks_from s (define x xs k t ∷ cs) = checks_from (after s (define x xs k t)) cs
checks_from s (claim t ∷ cs) = checks_from (after s (claim t)) cs
checks_from s (check ∷ cs) = s ∷ checks_from s cs

-- the checks of a script
abbrev pub checks : List Command → List State
checks = checks_from start

-- all assertions are true in the interpretation, at these integers of the Int constants
abbrev pub IsSatisfied : Meaning → List ℤ → State → Type 0
IsSatisfied w u s = All (λ c. IsTrue w u c.globals c.term) s.claims

-- what the assertions become, over the constants of the check
abbrev pub claims_said : State → List Formula
claims_said s = map (λ c. asserted c.globals (length s.constants) c.term) s.claims

-- the formula of a check: the negation of the conjunction of all assertions
abbrev pub refutation : State → Formula
refutation s = negation (every (formulas (claims_said s)))

-- the formula of a check is true exactly where its assertions are not all true, and false exactly where they are
pub record CheckLaw (s : State) : Type 0 where
  pub true_where : (w : Meaning) (u : List ℤ) → length u ≡ length s.constants → Truth w (refutation s) u ↔ ¬ (IsSatisfied w u s)
  pub false_where : (w : Meaning) (u : List ℤ) → length u ≡ length s.constants → (¬ (Truth w (refutation s) u)) ↔ IsSatisfied w u s
