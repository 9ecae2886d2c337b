-- Everything for which a term is refused.
use Rattle.std.specs.Prelude.{ℕ, suc, Bool, true, false, not, ◌&&◌, ◌||◌, List, [], ◌∷◌, ◌++◌, Option, Some, None, nat_eq, nat_le, nat_lt, if◌then◌else◌, codes}
use Rattle.base_texts.specs.Texts.{is_text, is_among}
use Rattle.smt_lists.specs.Expressions.{Expr}
use Rattle.smt_commands.specs.declared.refusal.ScriptRefusal.{ScriptRefusal}
use Rattle.smt_commands.specs.declared.refusal.ScriptRefusal.TheVariants as r
use Rattle.smt_commands.specs.declared.table.Entry.{Entry}
use Rattle.smt_commands.specs.Symbols.{entry_of, is_unlisted}
use Rattle.smt_terms.specs.declared.operator.Sort.{Sort}
use Rattle.smt_terms.specs.declared.operator.Sort.TheVariants as sort
use Rattle.smt_terms.specs.declared.operator.Operator.{Operator}
use Rattle.smt_terms.specs.declared.operator.Operator.TheVariants as op
use Rattle.smt_terms.specs.declared.term.Name.{Name}
use Rattle.smt_terms.specs.declared.term.Variable.{Variable}
use Rattle.smt_terms.specs.Term.{PlacedTerm, PlacedTerms, Bindings, number, large, used, let_in, quantified, annotated, ill, no_phrase, and_phrase, no_binding, and_binding, first_byte, count}
use Rattle.smt_terms.specs.Operators.{found, operator_of}
use Rattle.smt_terms.specs.Evaluation.{with_names, names_of, texts_of}
use Rattle.smt_typing.specs.declared.operators.Need.{Need}
use Rattle.smt_typing.specs.declared.operators.Need.TheVariants as w
use Rattle.smt_typing.specs.Reading.{phrase_of, variables_of}
use Rattle.smt_typing.specs.Sorts.{Sorts, bound_sorts, term_sort, variables}

-- one sort is needed where a term of the other stands, whose first byte is there; none asks for nothing, and a term without sort has other faults
abbrev pub kind_faults : Option Sort → Option Sort → ℕ → List ScriptRefusal
kind_faults (Some sort.Int) (Some sort.Bool) at = r.Kind at ∷ []
kind_faults (Some sort.Bool) (Some sort.Int) at = r.Kind at ∷ []
kind_faults _ _ at = []

-- whether an operator takes this many arguments
abbrev pub takes : Operator → ℕ → Bool
takes (op.Truth b) n = nat_eq n 0
takes op.Not n = nat_eq n 1
takes op.Abs n = nat_eq n 1
takes op.Choose n = nat_eq n 3
takes op.And n = nat_le 1 n
takes op.Or n = nat_le 1 n
takes op.Plus n = nat_le 1 n
takes op.Minus n = nat_le 1 n
takes _ n = nat_le 2 n

-- the sorts that the arguments of an operator need to have
abbrev pub wants : Operator → Need
wants (op.Truth b) = w.Each None
wants op.Not = w.Each (Some sort.Bool)
wants op.And = w.Each (Some sort.Bool)
wants op.Or = w.Each (Some sort.Bool)
wants op.Xor = w.Each (Some sort.Bool)
wants op.Implies = w.Each (Some sort.Bool)
wants op.Equal = w.Alike
wants op.Distinct = w.Alike
wants op.Choose = w.Branches
wants _ = w.Each (Some sort.Int)

-- those of the arguments of a symbol of the script, or of one that is none
abbrev pub symbol_wants : Option Entry → Need
symbol_wants (Some e) = w.Each (Some sort.Int)
symbol_wants None = w.Each None

abbrev pub use_wants : Option (Option Sort) → Option Operator → Option Entry → Need
use_wants (Some s) o e = w.Each None
use_wants None (Some o) e = wants o
use_wants None None e = symbol_wants e

-- the names with which a term may be built of numerals
abbrev pub is_sign : List ℕ → Bool
is_sign x = is_among x (codes "+" ∷ codes "-" ∷ codes "*" ∷ [])

abbrev mutual
  -- built of numerals, and of `+`, `-` and `*` at one argument or more, as the term is written
  pub is_numeral : PlacedTerm → Bool
  is_numeral (number _ n) = true
  is_numeral (large _) = true
  is_numeral (used _ x ts) = is_sign x.text && nat_le 1 (count ts) && are_numerals ts
  is_numeral _ = false

  pub are_numerals : PlacedTerms → Bool
  are_numerals no_phrase = true
  are_numerals (and_phrase t ts) = is_numeral t && are_numerals ts

-- how many are not built so
abbrev pub others : PlacedTerms → ℕ
others no_phrase = 0
others (and_phrase t ts) = if is_numeral t then others ts else suc (others ts)

-- two arguments of a `*` are not built of numerals
abbrev pub product_faults : Operator → ℕ → PlacedTerms → List ScriptRefusal
product_faults op.Times at ts = if nat_lt 1 (others ts) then r.NonLinear at ∷ [] else []
product_faults _ at ts = []

abbrev pub arity_faults : Bool → ℕ → List ScriptRefusal
arity_faults fits at = if fits then [] else r.Arity at ∷ []

-- a symbol of the script at this many arguments, or one that is none
abbrev pub symbol_faults : Option Entry → List ℕ → ℕ → ℕ → List ScriptRefusal
symbol_faults (Some e) x at n = arity_faults (nat_eq n e.arity) at
symbol_faults None x at n = if is_unlisted x then r.Profile at ∷ [] else r.Undeclared at ∷ []

-- the faults of the symbol of a use itself: a bound name, else an operator, else a symbol of the script
abbrev pub use_faults : Option (Option Sort) → Option Operator → Option Entry → Name → PlacedTerms → List ScriptRefusal
use_faults (Some s) o e x ts = arity_faults (nat_eq (count ts) 0) x.at
use_faults None (Some o) e x ts = arity_faults (takes o (count ts)) x.at ++ product_faults o x.at ts
use_faults None None e x ts = symbol_faults e x.text x.at (count ts)

abbrev pub ill_faults : Option ℕ → List ScriptRefusal
ill_faults (Some at) = r.Profile at ∷ []
ill_faults None = []

-- what stands for the sort of a variable is not Int
abbrev pub variable_faults : List Variable → List ScriptRefusal
variable_faults [] = []
variable_faults (x ∷ xs) = ill_faults x.ill ++ variable_faults xs

abbrev mutual
  -- the faults of a term after these symbols, where these names are bound
  pub faults : List Entry → Sorts → PlacedTerm → List ScriptRefusal
  faults g b (number _ n) = []
  faults g b (large at) = r.Literal at ∷ []
  faults g b (used _ x ts) = use_faults (found x.text b) (operator_of x.text) (entry_of x.text g) x ts ++ (elim (use_wants (found x.text b) (operator_of x.text) (entry_of x.text g)) [
    | w.Each want ↦ each_faults g b want ts
    | w.Alike ↦ alike_faults g b ts
    | w.Branches ↦ branch_faults g b ts
  ])
  faults g b (let_in _ bs t) = bound_faults g b bs ++ faults g (with_names (names_of bs) (bound_sorts g b bs) b) t
  faults g b (quantified _ all xs t) =
      variable_faults xs ++ (faults g (variables (texts_of xs) b) t ++ kind_faults (Some sort.Bool) (term_sort g (variables (texts_of xs) b) t) (first_byte t))
  faults g b (annotated _ t) = faults g b t
  faults g b (ill at) = r.Profile at ∷ []

  -- those of arguments that each need this sort
  pub each_faults : List Entry → Sorts → Option Sort → PlacedTerms → List ScriptRefusal
  each_faults g b want no_phrase = []
  each_faults g b want (and_phrase t ts) = (faults g b t ++ kind_faults want (term_sort g b t) (first_byte t)) ++ each_faults g b want ts

  -- those of arguments that need the sort of the first
  pub alike_faults : List Entry → Sorts → PlacedTerms → List ScriptRefusal
  alike_faults g b no_phrase = []
  alike_faults g b (and_phrase t ts) = faults g b t ++ each_faults g b (term_sort g b t) ts

  -- those of a condition and of branches that need the sort of the first branch
  pub branch_faults : List Entry → Sorts → PlacedTerms → List ScriptRefusal
  branch_faults g b no_phrase = []
  branch_faults g b (and_phrase c ts) = (faults g b c ++ kind_faults (Some sort.Bool) (term_sort g b c) (first_byte c)) ++ alike_faults g b ts

  -- those of the terms that a `let` binds, which stand outside it
  pub bound_faults : List Entry → Sorts → Bindings → List ScriptRefusal
  bound_faults g b no_binding = []
  bound_faults g b (and_binding x t bs) = faults g b t ++ bound_faults g b bs

-- the faults of a term of which this sort is needed
abbrev pub term_faults : List Entry → Sorts → Option Sort → PlacedTerm → List ScriptRefusal
term_faults g b want t = faults g b t ++ kind_faults want (term_sort g b t) (first_byte t)

abbrev mutual
  -- whether a term uses a symbol: it stands there where nothing binds it; nothing stands in what is no term
  pub uses : List ℕ → PlacedTerm → Bool
  uses f (number _ n) = false
  uses f (large _) = false
  uses f (used _ x ts) = is_text f x.text || any_uses f ts
  uses f (let_in _ bs t) = bound_uses f bs || (not (is_among f (names_of bs)) && uses f t)
  uses f (quantified _ all xs t) = not (is_among f (texts_of xs)) && uses f t
  uses f (annotated _ t) = uses f t
  uses f (ill _) = false

  pub any_uses : List ℕ → PlacedTerms → Bool
  any_uses f no_phrase = false
  any_uses f (and_phrase t ts) = uses f t || any_uses f ts

  pub bound_uses : List ℕ → Bindings → Bool
  bound_uses f no_binding = false
  bound_uses f (and_binding x t bs) = uses f t || bound_uses f bs

-- the names of the arguments of a definition
abbrev pub names_by : Option (List Variable) → List (List ℕ)
names_by None = []
names_by (Some xs) = texts_of xs

abbrev pub names_in : List Expr → List (List ℕ)
names_in arguments = names_by (variables_of arguments)

-- the faults of an S-expression as a term, with the arguments of a definition bound around it
abbrev pub script_faults : List Entry → List Expr → Option Sort → Expr → List ScriptRefusal
script_faults table arguments want e = term_faults table (variables (names_in arguments) []) want (phrase_of e)

-- whether an S-expression as a term uses a symbol that no argument of a definition hides
abbrev pub script_uses : List ℕ → List Expr → Expr → Bool
script_uses text arguments e = not (is_among text (names_in arguments)) && uses text (phrase_of e)
