-- Where sorts and terms stand in the commands of a script and in terms (SMT-LIB 2.6, sections 3.6 and 3.9).
use Rattle.std.specs.Prelude.{ℕ, ◌||◌, List, codes, Option, Some, None, if◌then◌else◌}
use Rattle.base_texts.specs.Texts.{is_text}
use Rattle.smt_lists.specs.Expressions.{Expr}
use Rattle.smt_commands.specs.Commands.{Symbol, symbol_of}
use Rattle.smt_shorthand.specs.declared.places.Part.{Part}
use Rattle.smt_shorthand.specs.declared.places.Part.TheVariants as part
use Rattle.smt_shorthand.specs.declared.places.Row.{Row}
use Rattle.smt_shorthand.specs.declared.places.Row.TheVariants as row

-- a term
abbrev pub term : Part
term = part.Members row.Term

-- what the first member of a list is
abbrev pub first : Row → Part
first row.Term = term
first row.Terms = term
first row.OneTerm = term
first row.Sorts = part.Sort
first row.Sort = part.Sort
first row.SortTerm = part.Sort
first row.Variables = part.Members row.NameSort
first row.Bindings = part.Members row.NameTerm
first row.Signatures = part.Members row.NameVariablesSort
first row.ListOfTerms = part.Members row.Terms
first row.SortsSort = part.Members row.Sorts
first row.VariablesSort = part.Members row.Variables
first row.VariablesSortTerm = part.Members row.Variables
first row.VariablesTerm = part.Members row.Variables
first row.BindingsTerm = part.Members row.Bindings
first row.SignaturesTerms = part.Members row.Signatures
first _ = part.Other

-- what stands after the word of a command
abbrev pub after_named : List ℕ → Row
after_named x =
    if is_text x (codes "assert") then row.OneTerm else
    (if is_text x (codes "declare-const") then row.NameSort else
    (if is_text x (codes "declare-fun") then row.NameSortsSort else
    (if is_text x (codes "define-const") then row.NameSortTerm else
    (if is_text x (codes "define-fun") || is_text x (codes "define-fun-rec") then row.NameVariablesSortTerm else
    (if is_text x (codes "define-funs-rec") then row.SignaturesTerms else
    (if is_text x (codes "check-sat-assuming") then row.ListOfTerms else
    row.Others))))))

abbrev pub after_word_by : Option Symbol → Row
after_word_by None = row.Others
after_word_by (Some x) = after_named x.text

abbrev pub after_word : Expr → Row
after_word e = after_word_by (symbol_of e)

-- what stands after the head of a term
abbrev pub after_headed : List ℕ → Row
after_headed x =
    if is_text x (codes "let") then row.BindingsTerm else
    (if is_text x (codes "forall") || is_text x (codes "exists") then row.VariablesTerm else
    (if is_text x (codes "!") then row.OneTerm else
    row.Terms))

abbrev pub after_head_by : Option Symbol → Row
after_head_by None = row.Terms
after_head_by (Some x) = after_headed x.text

abbrev pub after_head : Expr → Row
after_head e = after_head_by (symbol_of e)

-- what the members after the first one are
abbrev pub behind : Row → Expr → Row
behind row.Command e = after_word e
behind row.Term e = after_head e
behind row.Others e = row.Others
behind row.Sort e = row.Others
behind row.OneTerm e = row.Others
behind row.ListOfTerms e = row.Others
behind row.NameSort e = row.Sort
behind row.SortsSort e = row.Sort
behind row.VariablesSort e = row.Sort
behind row.NameTerm e = row.OneTerm
behind row.SortTerm e = row.OneTerm
behind row.VariablesTerm e = row.OneTerm
behind row.BindingsTerm e = row.OneTerm
behind row.NameSortsSort e = row.SortsSort
behind row.NameVariablesSort e = row.VariablesSort
behind row.NameSortTerm e = row.SortTerm
behind row.VariablesSortTerm e = row.SortTerm
behind row.NameVariablesSortTerm e = row.VariablesSortTerm
behind row.SignaturesTerms e = row.ListOfTerms
behind r e = r
