-- Formulas and terms as trees of the logic, and the tree that a typed formula or term of the code is. All that is
-- defined and proved of truth speaks of these trees.
use Rattle.std.specs.Prelude.{ℕ, ℤ, Bool, List, [], ◌∷◌, map}
use Rattle.form_typed.specs.declared.typed.Relation.{Relation}
use Rattle.form_typed.specs.declared.typed.Sort.{Sort}
use Rattle.form_typed.specs.declared.typed.Typed.{Typed}
use Rattle.form_typed.specs.declared.typed.TypedTerm.{TypedTerm}
use Rattle.form_typed.specs.declared.typed.Typed.TheOpen as o
use Rattle.form_typed.specs.declared.typed.Typed.TheOpen.{Typed-F, TypedTerm-F}
use Rattle.form_typed.specs.declared.typed.Typed.TheFolds.{fold-Typed, fold-TypedTerm}

mutual
  -- a formula of first-order integer arithmetic with predicates and functions, names by number
  pub data Formula : Type 0 where
    constant : Bool → Formula
    compares : Relation → Expression → Expression → Formula
    applies : ℕ → Expressions → Formula
    negation : Formula → Formula
    every : Formulas → Formula
    some : Formulas → Formula
    implies : Formula → Formula → Formula
    iff : Formula → Formula → Formula
    for_all : Sort → Formula → Formula
    for_some : Sort → Formula → Formula
    part : ℕ → Formula → Formula

  -- a list of formulas
  pub data Formulas : Type 0 where
    no_formula : Formulas
    and_formula : Formula → Formulas → Formulas

  -- a term of integer arithmetic with functions
  pub data Expression : Type 0 where
    number : ℤ → Expression
    name : ℕ → Expression
    call : ℕ → Expressions → Expression
    minus : Expression → Expression
    total : Expressions → Expression
    product : Expression → Expression → Expression
    choice : Formula → Expression → Expression → Expression
    absolute : Expression → Expression
    lesser : Expression → Expression → Expression
    greater : Expression → Expression → Expression

  -- a list of terms
  pub data Expressions : Type 0 where
    no_expression : Expressions
    and_expression : Expression → Expressions → Expressions

-- the formulas of a list, in order
abbrev pub formulas : List Formula → Formulas
formulas [] = no_formula
formulas (f ∷ fs) = and_formula f (formulas fs)

-- the terms of a list, in order
abbrev pub expressions : List Expression → Expressions
expressions [] = no_expression
expressions (t ∷ ts) = and_expression t (expressions ts)

abbrev pub formula_step : Typed-F Formula Expression → Formula
formula_step (o.Truth b) = constant b
formula_step (o.Rel r s t) = compares r s t
formula_step (o.Pred p ts) = applies p (expressions ts)
formula_step (o.Not f) = negation f
formula_step (o.And fs) = every (formulas fs)
formula_step (o.Or fs) = some (formulas fs)
formula_step (o.Implies f g) = implies f g
formula_step (o.Iff f g) = iff f g
formula_step (o.Forall s f) = for_all s f
formula_step (o.Exists s f) = for_some s f
formula_step (o.Part k f) = part k f

abbrev pub expression_step : TypedTerm-F Formula Expression → Expression
expression_step (o.Number n) = number n
expression_step (o.Name x) = name x
expression_step (o.Apply f ts) = call f (expressions ts)
expression_step (o.Minus t) = minus t
expression_step (o.Sum ts) = total (expressions ts)
expression_step (o.Product s t) = product s t
expression_step (o.If f s t) = choice f s t
expression_step (o.Abs t) = absolute t
expression_step (o.Min s t) = lesser s t
expression_step (o.Max s t) = greater s t

-- the formula that a typed formula of the code is
abbrev pub formula : Typed → Formula
formula = fold-Typed Formula Expression formula_step expression_step

-- the term that a typed term of the code is
abbrev pub expression : TypedTerm → Expression
expression = fold-TypedTerm Formula Expression formula_step expression_step

-- the formulas that a list of typed formulas is
abbrev pub formulas_of : List Typed → Formulas
formulas_of fs = formulas (map formula fs)

-- the terms that a list of typed terms is
abbrev pub expressions_of : List TypedTerm → Expressions
expressions_of ts = expressions (map expression ts)
