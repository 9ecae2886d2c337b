-- The formula or the term of a problem that a term of SMT-LIB is written out to, with `let` and `define-fun` replaced by what
-- they bind. A bound variable is the name after those around it, so what a name is replaced by depends on the number of
-- names where it is used: it is a function of that number.
use Rattle.std.specs.Prelude.{ℕ, suc, pos, Bool, true, false, List, length, nat_eq, [], ◌∷◌, map, Option, Some, None, if◌then◌else◌}
use Rattle.form_typed.specs.declared.typed.Relation.{Relation}
use Rattle.form_typed.specs.declared.typed.Relation.TheVariants as relation
use Rattle.form_typed.specs.declared.typed.Sort.TheVariants as sort
use Rattle.form_typed.specs.Formula as logic
use Rattle.form_typed.specs.Formula.{Formula, Expression, formulas, expressions}
use Rattle.base_texts.specs.Texts.{is_text}
use Rattle.smt_terms.specs.declared.operator.Operator.{Operator}
use Rattle.smt_terms.specs.declared.operator.Operator.TheVariants as op
use Rattle.smt_terms.specs.Term.{PlacedTerm, PlacedTerms, Bindings, number, large, used, let_in, quantified, annotated, ill, no_phrase, and_phrase, no_binding, and_binding}
use Rattle.smt_terms.specs.Operators.{found, operator_of, neighbours, pairs}
use Rattle.smt_terms.specs.Evaluation.{with_names, names_of, texts_of, Meant, constant_of, function_of, predicate_of, defined_by, Globals}

-- what a term becomes: a formula or a term of the problem
pub data Said : Type 0 where
  a_formula : Formula → Said
  a_term : Expression → Said

-- the formula; a term counts as false
abbrev pub formula_in : Said → Formula
formula_in (a_formula f) = f
formula_in (a_term t) = logic.constant false

-- the term; a formula counts as 0
abbrev pub term_in : Said → Expression
term_in (a_formula f) = logic.number (pos 0)
term_in (a_term t) = t

-- The conjunction of several; of one the formula itself.
abbrev pub joined : List Formula → Formula
joined [] = logic.every (formulas [])
joined (f ∷ []) = f
joined (f ∷ (g ∷ fs)) = logic.every (formulas (f ∷ (g ∷ fs)))

-- `xor` to the left
abbrev pub either_said : Formula → List Formula → Formula
either_said f [] = f
either_said f (g ∷ gs) = either_said (logic.negation (logic.iff f g)) gs

-- `=>` to the right
abbrev pub implied_said : List Formula → Formula
implied_said [] = logic.every (formulas [])
implied_said (f ∷ []) = f
implied_said (f ∷ (g ∷ gs)) = logic.implies f (implied_said (g ∷ gs))

-- products to the left
abbrev pub multiplied : Expression → List Expression → Expression
multiplied s [] = s
multiplied s (t ∷ ts) = multiplied (logic.product s t) ts

-- the first without the others; of one the negative
abbrev pub subtracted : List Expression → Expression
subtracted [] = logic.total (expressions [])
subtracted (t ∷ []) = logic.minus t
subtracted (s ∷ (t ∷ ts)) = logic.total (expressions (s ∷ map logic.minus (t ∷ ts)))

-- two are equal: two terms, or two formulas
abbrev pub equal_said : Said → Said → Formula
equal_said (a_term s) (a_term t) = logic.compares relation.Eq s t
equal_said (a_formula f) (a_formula g) = logic.iff f g
equal_said _ _ = logic.constant false

-- two are different
abbrev pub unequal_said : Said → Said → Formula
unequal_said (a_term s) (a_term t) = logic.compares relation.Neq s t
unequal_said (a_formula f) (a_formula g) = logic.negation (logic.iff f g)
unequal_said _ _ = logic.constant true

abbrev pub compared_said : Relation → Said → Said → Formula
compared_said r s t = logic.compares r (term_in s) (term_in t)

-- of two the one where the condition is true, else the other
abbrev pub chosen_said : Formula → Said → Said → Said
chosen_said c (a_term s) t = a_term (logic.choice c s (term_in t))
chosen_said c (a_formula f) g = a_formula (logic.every (formulas (logic.implies c f ∷ logic.some (formulas (c ∷ formula_in g ∷ [])) ∷ [])))

-- an operator at what its arguments become; one that joins several is, at one argument, that argument
abbrev pub operated : Operator → List Said → Said
operated (op.Truth b) ss = a_formula (logic.constant b)
operated op.Not (s ∷ ss) = a_formula (logic.negation (formula_in s))
operated op.And (s ∷ []) = s
operated op.And ss = a_formula (logic.every (formulas (map formula_in ss)))
operated op.Or (s ∷ []) = s
operated op.Or ss = a_formula (logic.some (formulas (map formula_in ss)))
operated op.Xor (s ∷ []) = s
operated op.Xor (s ∷ ss) = a_formula (either_said (formula_in s) (map formula_in ss))
operated op.Implies (s ∷ []) = s
operated op.Implies ss = a_formula (implied_said (map formula_in ss))
operated op.Equal ss = a_formula (joined (neighbours equal_said ss))
operated op.Distinct ss = a_formula (joined (pairs unequal_said ss))
operated op.Choose (c ∷ (s ∷ (t ∷ ss))) = chosen_said (formula_in c) s t
operated (op.Compare r) ss = a_formula (joined (neighbours (compared_said r) ss))
operated op.Plus (s ∷ []) = s
operated op.Plus ss = a_term (logic.total (expressions (map term_in ss)))
operated op.Minus ss = a_term (subtracted (map term_in ss))
operated op.Times (s ∷ []) = s
operated op.Times (s ∷ ss) = a_term (multiplied (term_in s) (map term_in ss))
operated op.Abs (s ∷ ss) = a_term (logic.absolute (term_in s))
operated _ _ = a_formula (logic.constant false)

-- what a name is replaced by, where this many names are around its use
abbrev pub Standing : Type 0
Standing = ℕ → Said

-- the bound names where a term stands, with what replaces them, the innermost first
abbrev pub Replacements : Type 0
Replacements = List (List ℕ × Standing)

-- what several are where this many names are around
abbrev pub at_depth : ℕ → List Standing → List Said
at_depth n = map (λ s. s n)

-- what the symbols of a script become at what their arguments are replaced by
abbrev pub Writer : Type 0
Writer = List ℕ → List Standing → Standing

-- a symbol at its arguments: a bound name, else an operator, else a symbol of the script
abbrev pub use_said : Writer → Option Standing → Option Operator → List ℕ → List Standing → Standing
use_said W (Some s) o x ss n = s n
use_said W None (Some o) x ss n = operated o (at_depth n ss)
use_said W None None x ss n = W x ss n

-- the variable that is the name of this number
abbrev pub variable : ℕ → Standing
variable x n = a_term (logic.name x)

-- a quantifier for each name, in order
abbrev pub bound_said : Bool → List (List ℕ) → (Replacements → ℕ → Formula) → Replacements → ℕ → Formula
bound_said all [] body b n = body b n
bound_said true (x ∷ xs) body b n = logic.for_all sort.Int (bound_said true xs body ((x, variable n) ∷ b) (suc n))
bound_said false (x ∷ xs) body b n = logic.for_some sort.Int (bound_said false xs body ((x, variable n) ∷ b) (suc n))

abbrev mutual
  -- what a term becomes where this many names are around
  pub said : Writer → Replacements → PlacedTerm → ℕ → Said
  said W b (number _ k) n = a_term (logic.number k)
  said W b (large _) n = a_formula (logic.constant false)
  said W b (used _ x ts) n = use_said W (found x.text b) (operator_of x.text) x.text (all_said W b ts) n
  said W b (let_in _ bs t) n = said W (with_names (names_of bs) (bindings_said W b bs) b) t n
  said W b (quantified _ all xs t) n = a_formula (bound_said all (texts_of xs) (λ c m. formula_in (said W c t m)) b n)
  said W b (annotated _ t) n = said W b t n
  said W b (ill _) n = a_formula (logic.constant false)

  -- what each of several becomes
  pub all_said : Writer → Replacements → PlacedTerms → List Standing
  all_said W b no_phrase = []
  all_said W b (and_phrase t ts) = said W b t ∷ all_said W b ts

  -- what each term of a `let` becomes
  pub bindings_said : Writer → Replacements → Bindings → List Standing
  bindings_said W b no_binding = []
  bindings_said W b (and_binding x t bs) = said W b t ∷ bindings_said W b bs

-- The symbols of a script.

-- a symbol that is declared or defined so, after the symbols before it
abbrev pub meant_said : Writer → Meant → List Standing → Standing
meant_said W (constant_of k) ss n = a_term (logic.name k)
meant_said W (function_of k) ss n = a_term (logic.call k (expressions (map term_in (at_depth n ss))))
meant_said W (predicate_of k) ss n = a_formula (logic.applies k (expressions (map term_in (at_depth n ss))))
meant_said W (defined_by xs t) ss n = if nat_eq (length ss) (length xs) then said W (with_names xs ss []) t n else a_formula (logic.constant false)

abbrev pub symbol_said : Globals → Writer
symbol_said [] x ss n = a_formula (logic.constant false)
symbol_said (g ∷ gs) x ss n = if is_text x g.0 then meant_said (symbol_said gs) g.1 ss n else symbol_said gs x ss n

-- the formula that an asserted term becomes, where this many constants are declared
abbrev pub asserted : Globals → ℕ → PlacedTerm → Formula
asserted gs n t = formula_in (said (symbol_said gs) [] t n)
