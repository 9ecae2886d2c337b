-- The defined sorts that are in force, by assertion levels, and the commands that define them (SMT-LIB 2.6, section 4.2.3).
use Rattle.std.specs.Prelude.{ℕ, ◌-◌, ◌+◌, ◌^◌, ◌||◌, not, Bool, false, List, [], ◌∷◌, ◌++◌, length, min, nat_le, codes, Option, Some, None, if◌then◌else◌}
use Rattle.std.specs.List.{filter}
use Rattle.base_texts.specs.Texts.{is_text, is_among}
use Rattle.smt_lists.specs.Expressions.{Expr}
use Rattle.smt_commands.specs.Commands.{CommandForm, Symbol, is_some, members_of, pop, push, reset, symbol_of}
use Rattle.smt_shorthand.specs.declared.sorts.DefinedSort.{DefinedSort}
use Rattle.smt_shorthand.specs.declared.table.SortTable.{SortTable}
use Rattle.smt_shorthand.specs.Sorts.{sense_of, sort_named}

-- the sorts that were defined at this level or below
abbrev pub kept : ℕ → List DefinedSort → List DefinedSort
kept level sorts = filter (λ d. nat_le d.level level) sorts

abbrev pub with_sort : SortTable → DefinedSort → SortTable
with_sort t d = record { level = t.level; sorts = t.sorts ++ d ∷ [] }

-- no level open, and no sort
abbrev pub no_sorts : SortTable
no_sorts = record { level = 0; sorts = [] }

-- The table after a command. From 2^128 − 1 levels on no more are counted; a script may open far fewer.
abbrev pub after : SortTable → Option CommandForm → SortTable
after t (Some (push n)) = record { level = min (t.level + n) (2 ^ 128 - 1); sorts = t.sorts }
after t (Some (pop n)) = record { level = t.level - n; sorts = kept (t.level - n) t.sorts }
after t (Some reset) = no_sorts
after t _ = t

-- the symbol of this text
abbrev pub is_word : List ℕ → Option Symbol → Bool
is_word text None = false
is_word text (Some x) = is_text x.text text

-- a sort may be defined by this name: it is not Int, not Bool, and not in force
abbrev pub is_free : SortTable → List ℕ → Bool
is_free t x = if is_text x (codes "Int") || is_text x (codes "Bool") then false else not (is_some (sort_named x t.sorts))

abbrev pub parameter_after : List (List ℕ) → Option Symbol → Option (List (List ℕ))
parameter_after names None = None
parameter_after names (Some x) = if is_among x.text names then None else Some (names ++ x.text ∷ [])

-- the names of parameters, after these: symbols, and different
abbrev pub parameters_in : List (List ℕ) → List Expr → Option (List (List ℕ))
parameters_in names [] = Some names
parameters_in names (e ∷ es) = elim (parameter_after names (symbol_of e)) [
  | None ↦ None
  | Some more ↦ parameters_in more es
]

abbrev pub sort_by : SortTable → List ℕ → Expr → Option (List (List ℕ)) → Option DefinedSort
sort_by t x s None = None
sort_by t x s (Some ps) = Some (record { text = x; arity = length ps; sense = sense_of t.sorts ps s; level = t.level })

-- the sort of a name, of parameters, and of what it is short for
abbrev pub definition_by : SortTable → Option Symbol → Option (List Expr) → Expr → Option DefinedSort
definition_by t (Some x) (Some ps) s = if is_free t x.text then sort_by t x.text s (parameters_in [] ps) else None
definition_by t _ _ s = None

-- the sort that the command of these members defines, where it is a `define-sort` of a new name
abbrev pub definition_in : SortTable → List Expr → Option DefinedSort
definition_in t (w ∷ x ∷ ps ∷ s ∷ []) = if is_word (codes "define-sort") (symbol_of w) then definition_by t (symbol_of x) (members_of ps) s else None
definition_in t _ = None

abbrev pub definition_among : SortTable → Option (List Expr) → Option DefinedSort
definition_among t None = None
definition_among t (Some es) = definition_in t es

-- the same of an S-expression
abbrev pub definition_of : SortTable → Expr → Option DefinedSort
definition_of t e = definition_among t (members_of e)
