-- The faults and the sorts of the forms of terms, by their parts.
use Rattle.std.specs.Prelude.{ℕ, List, ◌++◌, Option, Some}
use Rattle.smt_commands.specs.declared.refusal.ScriptRefusal.{ScriptRefusal}
use Rattle.smt_commands.specs.declared.table.Entry.{Entry}
use Rattle.smt_commands.specs.Symbols.{entry_of}
use Rattle.smt_terms.specs.declared.operator.Sort.{Sort}
use Rattle.smt_terms.specs.declared.operator.Sort.TheVariants as sort
use Rattle.smt_terms.specs.declared.operator.Operator.{Operator}
use Rattle.smt_terms.specs.declared.term.Name.{Name}
use Rattle.smt_terms.specs.declared.term.Variable.{Variable}
use Rattle.smt_terms.specs.Term.{PlacedTerm, PlacedTerms, count, first_byte}
use Rattle.smt_terms.specs.Operators.{found, operator_of}
use Rattle.smt_terms.specs.Evaluation.{texts_of}
use Rattle.smt_typing.specs.declared.operators.Need.{Need}
use Rattle.smt_typing.specs.declared.operators.Need.TheVariants as need
use Rattle.smt_typing.specs.Sorts.{Sorts, sorts_in, term_sort, use_sort, variables}
use Rattle.smt_typing.specs.Faults.{alike_faults, arity_faults, branch_faults, each_faults, faults, kind_faults, product_faults, takes, use_faults, use_wants, variable_faults, wants}

-- the faults of arguments that need to have these sorts
abbrev pub argument_faults : List Entry → Sorts → Need → PlacedTerms → List ScriptRefusal
argument_faults g b n ts = elim n [
  | need.Each want ↦ each_faults g b want ts
  | need.Alike ↦ alike_faults g b ts
  | need.Branches ↦ branch_faults g b ts
]

-- the faults of a symbol at its arguments
abbrev pub used_faults : List Entry → Sorts → Name → PlacedTerms → List ScriptRefusal
used_faults g b x ts = use_faults (found x.text b) (operator_of x.text) (entry_of x.text g) x ts
    ++ argument_faults g b (use_wants (found x.text b) (operator_of x.text) (entry_of x.text g)) ts

-- its sort
abbrev pub used_sort : List Entry → Sorts → Name → PlacedTerms → Option Sort
used_sort g b x ts = use_sort (found x.text b) (operator_of x.text) (entry_of x.text g) (count ts) (sorts_in g b ts)

-- the faults of an operator, whose name is at this offset, at its arguments
abbrev pub operator_faults : List Entry → Sorts → Operator → ℕ → PlacedTerms → List ScriptRefusal
operator_faults g b o at ts = (arity_faults (takes o (count ts)) at ++ product_faults o at ts) ++ argument_faults g b (wants o) ts

-- the faults of a quantifier with these variables
abbrev pub quantifier_faults : List Entry → Sorts → List Variable → PlacedTerm → List ScriptRefusal
quantifier_faults g b xs t =
    variable_faults xs ++ (faults g (variables (texts_of xs) b) t ++ kind_faults (Some sort.Bool) (term_sort g (variables (texts_of xs) b) t) (first_byte t))
