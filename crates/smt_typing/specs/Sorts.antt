-- The sorts of terms (SMT-LIB 2.6, section 5.2, with the theories Core and Ints). A term with a fault may have none.
use Rattle.std.specs.Prelude.{ℕ, List, [], ◌∷◌, map, Option, Some, None, nat_eq, if◌then◌else◌}
use Rattle.smt_commands.specs.declared.table.Entry.{Entry}
use Rattle.smt_commands.specs.Symbols.{entry_of}
use Rattle.smt_terms.specs.declared.operator.Sort.{Sort}
use Rattle.smt_terms.specs.declared.operator.Sort.TheVariants as sort
use Rattle.smt_terms.specs.declared.operator.Operator.{Operator}
use Rattle.smt_terms.specs.declared.operator.Operator.TheVariants as op
use Rattle.smt_terms.specs.Term.{PlacedTerm, PlacedTerms, Bindings, number, large, used, let_in, quantified, annotated, ill, no_phrase, and_phrase, no_binding, and_binding, count}
use Rattle.smt_terms.specs.Operators.{found, operator_of}
use Rattle.smt_terms.specs.Evaluation.{with_names, names_of}

-- the bound names where a term stands with their sorts, the innermost first
abbrev pub Sorts : Type 0
Sorts = List (List ℕ × Option Sort)

-- the first of several sorts, and the second; none where there are fewer
abbrev pub first_of : List (Option Sort) → Option Sort
first_of [] = None
first_of (s ∷ ss) = s

abbrev pub second_of : List (Option Sort) → Option Sort
second_of [] = None
second_of (s ∷ ss) = first_of ss

-- the sort of an operator at this many arguments, the second of which has this sort
abbrev pub operator_sort : Operator → ℕ → Option Sort → Option Sort
operator_sort op.Choose n s = if nat_eq n 3 then s else None
operator_sort op.Plus n s = Some sort.Int
operator_sort op.Minus n s = Some sort.Int
operator_sort op.Times n s = Some sort.Int
operator_sort op.Abs n s = Some sort.Int
operator_sort _ n s = Some sort.Bool

abbrev pub given_sort : Option Entry → Option Sort
given_sort (Some e) = Some e.sort
given_sort None = None

-- the sort of a symbol at arguments of these sorts: a bound name, else an operator, else a symbol of the script
abbrev pub use_sort : Option (Option Sort) → Option Operator → Option Entry → ℕ → List (Option Sort) → Option Sort
use_sort (Some s) o e n ss = s
use_sort None (Some o) e n ss = operator_sort o n (second_of ss)
use_sort None None e n ss = given_sort e

-- names of the sort Int, put before those around them
abbrev pub variables : List (List ℕ) → Sorts → Sorts
variables xs b = with_names xs (map (λ x. Some sort.Int) xs) b

abbrev mutual
  -- the sort of a term after these symbols, where these names are bound
  pub term_sort : List Entry → Sorts → PlacedTerm → Option Sort
  term_sort g b (number _ n) = Some sort.Int
  term_sort g b (large _) = Some sort.Int
  term_sort g b (used _ x ts) = use_sort (found x.text b) (operator_of x.text) (entry_of x.text g) (count ts) (sorts_in g b ts)
  term_sort g b (let_in _ bs t) = term_sort g (with_names (names_of bs) (bound_sorts g b bs) b) t
  term_sort g b (quantified _ all xs t) = Some sort.Bool
  term_sort g b (annotated _ t) = term_sort g b t
  term_sort g b (ill _) = None

  -- the sorts of several terms
  pub sorts_in : List Entry → Sorts → PlacedTerms → List (Option Sort)
  sorts_in g b no_phrase = []
  sorts_in g b (and_phrase t ts) = term_sort g b t ∷ sorts_in g b ts

  -- the sorts of the terms that a `let` binds
  pub bound_sorts : List Entry → Sorts → Bindings → List (Option Sort)
  bound_sorts g b no_binding = []
  bound_sorts g b (and_binding x t bs) = term_sort g b t ∷ bound_sorts g b bs
