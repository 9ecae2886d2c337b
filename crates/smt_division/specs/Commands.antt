-- Commands without division: the terms of `assert`, of definitions and of `check-sat-assuming`. At the top of a term that is
-- surely a formula its quotients are closed. A definition of another sort whose term speaks of quotients at its top is left, and so
-- is each other command.
use Rattle.std.specs.Prelude.{ℕ, ◌||◌, Bool, true, false, List, [], ◌∷◌, map, codes, Option, Some, None, if◌then◌else◌}
use Rattle.base_texts.specs.Texts.{is_text, is_among}
use Rattle.smt_lists.specs.declared.tree.AtomKind.{AtomKind}
use Rattle.smt_lists.specs.declared.tree.AtomKind.TheVariants as k
use Rattle.smt_lists.specs.Expressions.{Expr, Exprs, atom, list, no_expr, and_expr, exprs, place_of}
use Rattle.smt_division.specs.declared.commands.Task.{Task}
use Rattle.smt_division.specs.declared.commands.Task.TheVariants as task
use Rattle.smt_division.specs.Divisors.{text_of}
use Rattle.smt_division.specs.Forms.{bind_operators, is_word}
use Rattle.smt_division.specs.Terms.{Reduct, closed, closed_all, reduct}

-- the symbols with which division is written
abbrev pub is_division : List ℕ → Bool
is_division x = is_among x (codes "div" ∷ codes "mod" ∷ codes "divisible" ∷ [])

abbrev pub division_in : AtomKind → Bool
division_in (k.Symbol text) = is_division text
division_in _ = false

abbrev mutual
  -- division stands in an expression
  pub mentions : Expr → Bool
  mentions (atom a) = division_in a.kind
  mentions (list at es) = any_mentions es

  pub any_mentions : Exprs → Bool
  any_mentions no_expr = false
  any_mentions (and_expr e es) = mentions e || any_mentions es

-- what a symbol at the head of a command asks for
abbrev pub task_named : List ℕ → Task
task_named x =
    if is_text x (codes "assert") then task.Assert else
    (if is_text x (codes "check-sat-assuming") then task.Assume else
    (if is_text x (codes "define-const") then task.Constant else
    (if is_text x (codes "define-fun") then task.Function else task.Other)))

abbrev pub task_by : Option (List ℕ) → Task
task_by None = task.Other
task_by (Some x) = task_named x

-- what the head of a command asks for
abbrev pub task_of : Expr → Task
task_of h = task_by (text_of h)

abbrev pub formula_of : Expr → Expr
formula_of t = closed (place_of t) (reduct t)

-- the term without division, where it speaks of no quotient
abbrev pub term_by : Expr → Expr → List Expr → Expr
term_by t u [] = u
term_by t u (x ∷ xs) = t

-- the term of a definition of this sort
abbrev pub term_of : Expr → Expr → Expr
term_of s t = if is_word (codes "Bool") s then formula_of t else term_by t (reduct t).term (reduct t).variables

-- the same under these arguments, none of which may be named as an operator
abbrev pub body_of : Expr → Expr → Expr → Expr
body_of (atom a) s t = t
body_of (list b xs) s t = if bind_operators xs then t else term_of s t

-- a command of this task, with these after its word
abbrev pub undivided_by : Task → ℕ → Expr → Exprs → Expr
undivided_by task.Assert at h (and_expr t no_expr) = list at (exprs (h ∷ formula_of t ∷ []))
undivided_by task.Assume at h (and_expr (list b ts) no_expr) = list at (exprs (h ∷ list b (exprs (closed_all ts)) ∷ []))
undivided_by task.Constant at h (and_expr x (and_expr s (and_expr t no_expr))) = list at (exprs (h ∷ x ∷ s ∷ term_of s t ∷ []))
undivided_by task.Function at h (and_expr f (and_expr xs (and_expr s (and_expr t no_expr)))) = list at (exprs (h ∷ f ∷ xs ∷ s ∷ body_of xs s t ∷ []))
undivided_by w at h es = list at (and_expr h es)

abbrev pub undivided_list : Expr → Expr
undivided_list (list at (and_expr h es)) = undivided_by (task_of h) at h es
undivided_list e = e

-- a command without division
abbrev pub undivided : Expr → Expr
undivided e = if mentions e then undivided_list e else e

-- a script without division, command by command
abbrev pub undivided_script : List Expr → List Expr
undivided_script = map undivided
