-- The commands that are made for a function that is defined by an equation (SMT-LIB 2.6, section 4.2.3). What is made has the
-- offset of the definition; what is taken over keeps its own.
use Rattle.std.specs.Prelude.{ℕ, List, [], ◌∷◌, map, codes, Option, Some, None}
use Rattle.smt_lists.specs.Expressions.{Expr, exprs, list}
use Rattle.smt_commands.specs.Commands.{Symbol, members_of, symbol_of}
use Rattle.smt_shorthand.specs.Resolving.{symbol_at}

abbrev pub first_in : Expr → Option (List Expr) → Expr
first_in e (Some (x ∷ es)) = x
first_in e _ = e

-- the first member of a list; anything else itself
abbrev pub first_of : Expr → Expr
first_of e = first_in e (members_of e)

abbrev pub second_in : Expr → Option (List Expr) → Expr
second_in e (Some (x ∷ s ∷ es)) = s
second_in e _ = e

-- the second member of a list; anything else itself
abbrev pub second_of : Expr → Expr
second_of e = second_in e (members_of e)

abbrev pub variable_in : List Expr → Option Symbol
variable_in (x ∷ s ∷ []) = symbol_of x
variable_in _ = None

-- the name of a variable, where it is a list of a name and of what stands for its sort
abbrev pub variable_of : Option (List Expr) → Option Symbol
variable_of None = None
variable_of (Some es) = variable_in es

-- the declaration of a function
abbrev pub declaration : ℕ → Expr → List Expr → Expr → Expr
declaration at f vs r = list at (exprs (symbol_at at (codes "declare-fun") ∷ f ∷ list at (exprs (map second_of vs)) ∷ r ∷ []))

-- the function at its variables
abbrev pub use_of : ℕ → Expr → List Expr → Expr
use_of at f [] = f
use_of at f (v ∷ vs) = list at (exprs (f ∷ map first_of (v ∷ vs)))

-- its equation
abbrev pub equation : ℕ → Expr → List Expr → Expr → Expr
equation at f vs t = list at (exprs (symbol_at at (codes "=") ∷ use_of at f vs ∷ t ∷ []))

-- its equation for all arguments; the variables stand in this list
abbrev pub claim : ℕ → Expr → Expr → List Expr → Expr → Expr
claim at f l [] t = equation at f [] t
claim at f l (v ∷ vs) t = list at (exprs (symbol_at at (codes "forall") ∷ l ∷ equation at f (v ∷ vs) t ∷ []))

-- the assertion of its equation
abbrev pub assertion : ℕ → Expr → Expr → List Expr → Expr → Expr
assertion at f l vs t = list at (exprs (symbol_at at (codes "assert") ∷ claim at f l vs t ∷ []))
