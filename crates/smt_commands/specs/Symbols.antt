-- The symbols that the commands of a script declare and define, in order.
use Rattle.std.specs.Prelude.{ℕ, ◌||◌, not, Bool, true, false, List, [], ◌∷◌, ◌++◌, length, map, count_by, codes, Option, Some, None, if◌then◌else◌}
use Rattle.std.specs.List.{find}
use Rattle.base_texts.specs.Texts.{is_text, is_among}
use Rattle.smt_lists.specs.Expressions.{Expr}
use Rattle.smt_commands.specs.declared.table.Entry.{Entry}
use Rattle.smt_terms.specs.declared.operator.Sort.{Sort}
use Rattle.smt_terms.specs.declared.operator.Sort.TheVariants as sort
use Rattle.smt_terms.specs.Operators.{operator_of}
use Rattle.smt_commands.specs.Commands.{Symbol, symbol_of, CommandForm, declare, define, is_some}

-- the sort of a name
abbrev pub sort_named : List ℕ → Option Sort
sort_named text = if is_text text (codes "Int") then Some sort.Int else (if is_text text (codes "Bool") then Some sort.Bool else None)

abbrev pub sort_behind : Option Symbol → Option Sort
sort_behind None = None
sort_behind (Some x) = sort_named x.text

-- the sort that an S-expression is
abbrev pub sort_of : Expr → Option Sort
sort_of e = sort_behind (symbol_of e)

-- Int where there is no sort, which is refused
abbrev pub or_int : Option Sort → Sort
or_int None = sort.Int
or_int (Some s) = s

abbrev pub entry : Symbol → List Expr → Expr → Bool → Entry
entry x arguments s defined = record { text = x.text; arity = length arguments; sort = or_int (sort_of s); defined = defined }

-- the symbols after a command
abbrev pub after : List Entry → CommandForm → List Entry
after table (declare x sorts s) = table ++ entry x sorts s false ∷ []
after table (define f arguments s t) = table ++ entry f arguments s true ∷ []
after table _ = table

-- the texts of symbols
abbrev pub texts_of : List Entry → List (List ℕ)
texts_of = map (λ e. e.text)

-- some symbol has this text
abbrev pub is_known : List ℕ → List Entry → Bool
is_known text table = is_among text (texts_of table)

-- the first symbol with this text
abbrev pub entry_of : List ℕ → List Entry → Option Entry
entry_of text table = find (λ e. is_text text e.text) table

-- how many symbols are declared, defined ones not counted
abbrev pub declared_number : List Entry → ℕ
declared_number table = count_by (λ e. not e.defined) table

-- the operators of the theory Ints that terms may not use
abbrev pub is_unlisted : List ℕ → Bool
is_unlisted text = is_among text (codes "div" ∷ codes "mod" ∷ [])

-- the name of an operator of the theories Core and Ints
abbrev pub is_reserved : List ℕ → Bool
is_reserved text = is_some (operator_of text) || is_unlisted text

-- the text may not be declared or defined: an operator, or a symbol that is known
abbrev pub is_taken : List ℕ → List Entry → Bool
is_taken text table = is_reserved text || is_known text table
