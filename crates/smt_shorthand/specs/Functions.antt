-- Scripts without `define-fun-rec` and `define-funs-rec` (SMT-LIB 2.6, section 4.2.3): each function is declared, and its
-- equation is asserted for all arguments.
use Rattle.std.specs.Prelude.{ℕ, ◌||◌, ◌++◌, Bool, true, false, List, [], ◌∷◌, codes, Option, Some, None, if◌then◌else◌}
use Rattle.std.specs.List.{list_any}
use Rattle.base_texts.specs.Texts.{is_among, with_text}
use Rattle.smt_lists.specs.Expressions.{Expr, expr, place_of}
use Rattle.smt_commands.specs.Commands.{Symbol, members_of, symbol_of}
use Rattle.smt_shorthand.specs.declared.functions.Function.{Function}
use Rattle.smt_shorthand.specs.Equations.{assertion, declaration, variable_of}
use Rattle.smt_shorthand.specs.Defining.{begins_with}

-- the declaration of a function, and the assertion of its equation
pub record Made : Type 0 where
  pub declaration : Expr
  pub assertion : Expr

-- those of the code
abbrev pub made : Function → Made
made f = record { declaration = expr f.declaration; assertion = expr f.assertion }

abbrev pub name_after : List (List ℕ) → Option Symbol → Option (List (List ℕ))
name_after seen None = None
name_after seen (Some x) = if is_among x.text seen then None else Some (seen ++ x.text ∷ [])

-- variables of different names, none of them one of these
abbrev pub are_new : List (List ℕ) → List Expr → Bool
are_new seen [] = true
are_new seen (v ∷ vs) = elim (name_after seen (variable_of (members_of v))) [
  | None ↦ false
  | Some more ↦ are_new more vs
]

-- variables of different names, so that the name of a function and `=` mean beside them what they mean elsewhere
abbrev pub are_proper : List ℕ → List Expr → Bool
are_proper f vs = are_new (with_text (codes "=") (f ∷ [])) vs

abbrev pub function_signed : ℕ → Expr → Expr → Expr → Expr → Option Symbol → Option (List Expr) → Option Made
function_signed at f l r t (Some x) (Some vs) =
    if are_proper x.text vs then Some (record { declaration = declaration at f vs r; assertion = assertion at f l vs t }) else None
function_signed at f l r t _ _ = None

-- the function of a name, variables in a list, a sort and a term
abbrev pub function_by : ℕ → Expr → Expr → Expr → Expr → Option Made
function_by at f l r t = function_signed at f l r t (symbol_of f) (members_of l)

-- the function of a signature and its term
abbrev pub function_in : ℕ → Option (List Expr) → Expr → Option Made
function_in at (Some (f ∷ l ∷ r ∷ [])) t = function_by at f l r t
function_in at _ t = None

-- the functions of signatures and their terms, one for each: all declarations, and then all assertions, after these
abbrev pub functions_from : ℕ → List Expr → List Expr → List Expr → List Expr → Option (List Expr)
functions_from at ds cs [] [] = Some (ds ++ cs)
functions_from at ds cs [] (t ∷ ts) = None
functions_from at ds cs (s ∷ ss) [] = None
functions_from at ds cs (s ∷ ss) (t ∷ ts) = elim (function_in at (members_of s) t) [
  | None ↦ None
  | Some m ↦ functions_from at (ds ++ m.declaration ∷ []) (cs ++ m.assertion ∷ []) ss ts
]

-- the same of one signature at least
abbrev pub functions_by : ℕ → Option (List Expr) → Option (List Expr) → Option (List Expr)
functions_by at (Some (s ∷ ss)) (Some ts) = functions_from at [] [] (s ∷ ss) ts
functions_by at _ _ = None

abbrev pub commands_by : Option Made → Option (List Expr)
commands_by None = None
commands_by (Some m) = Some (m.declaration ∷ m.assertion ∷ [])

-- the commands that a `define-fun-rec` of these members is short for
abbrev pub one_in : ℕ → List Expr → Option (List Expr)
one_in at (w ∷ f ∷ l ∷ r ∷ t ∷ []) = commands_by (function_by at f l r t)
one_in at _ = None

-- the commands that a `define-funs-rec` of these members is short for
abbrev pub several_in : ℕ → List Expr → Option (List Expr)
several_in at (w ∷ ss ∷ ts ∷ []) = functions_by at (members_of ss) (members_of ts)
several_in at _ = None

abbrev pub functions_among : ℕ → Option (List Expr) → Option (List Expr)
functions_among at None = None
functions_among at (Some es) =
    if begins_with (codes "define-fun-rec") (Some es) then one_in at es else
    (if begins_with (codes "define-funs-rec") (Some es) then several_in at es else
    None)

-- the commands that a recursive definition is short for
abbrev pub functions_of : Expr → Option (List Expr)
functions_of e = functions_among (place_of e) (members_of e)

abbrev pub or_itself : Expr → Option (List Expr) → List Expr
or_itself e None = e ∷ []
or_itself e (Some es) = es

-- the commands that a command is short for; the command itself, where it is short for none
abbrev pub written : Expr → List Expr
written e = or_itself e (functions_of e)

abbrev pub written_from : List Expr → List Expr
written_from [] = []
written_from (e ∷ es) = written e ++ written_from es

-- the command begins as a recursive definition
abbrev pub defines_function : Expr → Bool
defines_function e = begins_with (codes "define-fun-rec") (members_of e) || begins_with (codes "define-funs-rec") (members_of e)

-- the commands of a script with each recursive definition written out; the script itself, where there is none
abbrev pub functions_written_out : List Expr → List Expr
functions_written_out es = if list_any defines_function es then written_from es else es
