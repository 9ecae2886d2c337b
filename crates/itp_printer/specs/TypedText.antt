-- The text of a formula over the symbols of a problem, each operand of which stands in parentheses, below d quantifiers.
use Rattle.std.specs.Prelude.{ℕ, suc, ◌-◌, Bool, true, false, cond, nat_lt, List, [], ◌∷◌, ◌++◌, map, length, slice_index_or, codes}
use Rattle.std.specs.Fmt.{signed_decimal}
use Rattle.form_typed.specs.Formula.{Formula, Formulas, Expression, Expressions, constant, compares, applies, negation, every, some, implies, iff, for_all, for_some, part, no_formula, and_formula, number, name, call, minus, total, product, choice, absolute, lesser, greater, no_expression, and_expression}
use Rattle.form_typed.specs.declared.typed.Relation.{Relation}
use Rattle.form_typed.specs.declared.typed.Relation.TheVariants as relation
use Rattle.form_typed.specs.declared.typed.Sort.{Sort}
use Rattle.form_typed.specs.declared.typed.Sort.TheVariants.{Int, Nat, Range}
use Rattle.pri_typing.specs.declared.problem.Problem.{Problem}
use Rattle.pri_typing.specs.declared.problem.Symbol.{Symbol}
use Rattle.pri_printer.specs.Printed.{constants_of}
use Rattle.itp_printer.specs.Text.{grouped, joined_text, applied_text}
use Rattle.itp_printer.specs.Variables.{variable_text}

-- `true` or `false`
abbrev pub truth_text : Bool → List ℕ
truth_text true = codes "true"
truth_text false = codes "false"

-- the sign of a relation, between blanks
abbrev pub relation_text : Relation → List ℕ
relation_text relation.Eq = codes " = "
relation_text relation.Neq = codes " != "
relation_text relation.Lt = codes " < "
relation_text relation.Leq = codes " <= "
relation_text relation.Gt = codes " > "
relation_text relation.Geq = codes " >= "

-- the command of a quantifier: true for all, false for some
abbrev pub quantifier_text : Bool → List ℕ
quantifier_text true = codes "\\forall"
quantifier_text false = codes "\\exists"

-- `int`, `nat` or `int[a, b]`
abbrev pub sort_text : Sort → List ℕ
sort_text Int = codes "int"
sort_text Nat = codes "nat"
sort_text (Range a b) = codes "int[" ++ (signed_decimal a ++ (codes ", " ++ (signed_decimal b ++ codes "]")))

-- `\forall int v; (A)`, or the same with `\exists` or another type
abbrev pub bound_text : Bool → Sort → List ℕ → List ℕ → List ℕ
bound_text all s v body = quantifier_text all ++ (codes " " ++ (sort_text s ++ (codes " " ++ (v ++ (codes "; " ++ grouped body)))))

-- a constant, or a variable by the number of quantifiers around that which binds it
abbrev pub name_text : Problem → ℕ → List ℕ
name_text p x = cond (nat_lt x (length (constants_of p))) (slice_index_or (constants_of p) x []) (variable_text p (x - length (constants_of p)))

-- the symbol of this number
abbrev pub symbol_text : List Symbol → ℕ → List ℕ
symbol_text symbols k = slice_index_or (map (λ y. y.name) symbols) k []

abbrev mutual
  -- a formula below d quantifiers
  pub formula_text : Problem → ℕ → Formula → List ℕ
  formula_text p d (constant b) = truth_text b
  formula_text p d (compares r s t) = term_text p d s ++ (relation_text r ++ term_text p d t)
  formula_text p d (applies k ts) = applied_text (symbol_text p.predicates k) (term_texts p d ts)
  formula_text p d (negation f) = codes "!" ++ grouped (formula_text p d f)
  formula_text p d (every fs) = joined_text (codes "true") (codes " & ") (formula_texts p d fs)
  formula_text p d (some fs) = joined_text (codes "false") (codes " | ") (formula_texts p d fs)
  formula_text p d (implies f g) = grouped (formula_text p d f) ++ (codes " -> " ++ grouped (formula_text p d g))
  formula_text p d (iff f g) = grouped (formula_text p d f) ++ (codes " <-> " ++ grouped (formula_text p d g))
  formula_text p d (for_all s f) = bound_text true s (variable_text p d) (formula_text p (suc d) f)
  formula_text p d (for_some s f) = bound_text false s (variable_text p d) (formula_text p (suc d) f)
  formula_text p d (part k f) = formula_text p d f

  -- several formulas
  pub formula_texts : Problem → ℕ → Formulas → List (List ℕ)
  formula_texts p d no_formula = []
  formula_texts p d (and_formula f fs) = formula_text p d f ∷ formula_texts p d fs

  -- a term below d quantifiers
  pub term_text : Problem → ℕ → Expression → List ℕ
  term_text p d (number v) = signed_decimal v
  term_text p d (name x) = name_text p x
  term_text p d (call k ts) = applied_text (symbol_text p.functions k) (term_texts p d ts)
  term_text p d (minus t) = codes "-" ++ grouped (term_text p d t)
  term_text p d (total ts) = joined_text (codes "0") (codes " + ") (term_texts p d ts)
  term_text p d (product s t) = grouped (term_text p d s) ++ (codes "*" ++ grouped (term_text p d t))
  term_text p d (choice f s t) =
      codes "\\if " ++ (grouped (formula_text p d f) ++ (codes " \\then " ++ (grouped (term_text p d s) ++ (codes " \\else " ++ grouped (term_text p d t)))))
  term_text p d (absolute t) = codes "\\abs" ++ grouped (term_text p d t)
  term_text p d (lesser s t) = codes "\\min" ++ grouped (term_text p d s ++ (codes ", " ++ term_text p d t))
  term_text p d (greater s t) = codes "\\max" ++ grouped (term_text p d s ++ (codes ", " ++ term_text p d t))

  -- several terms
  pub term_texts : Problem → ℕ → Expressions → List (List ℕ)
  term_texts p d no_expression = []
  term_texts p d (and_expression t ts) = term_text p d t ∷ term_texts p d ts
