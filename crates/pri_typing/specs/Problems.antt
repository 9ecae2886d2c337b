-- What a problem means (Rümmer, A constraint sequent calculus for first-order logic with linear integer arithmetic, 2008):
-- the existential constants are chosen first, then the interpretation, then the universal constants.
use Rattle.std.specs.Prelude.{ℕ, ◌+◌, ◌≡◌, ◌⊎◌, ◌<◌, ◌≤◌, ℤ, Bool, true, false, List, [], ◌++◌, length, map, nat_eq, if◌then◌else◌}
use Rattle.std.specs.List.{filter, list_any}
use Rattle.std.specs.Bool.{beq}
use Rattle.pri_tokens.specs.Lexemes.{lexemes_of}
use Rattle.pri_reader.specs.declared.tree.Expr.{Expr}
use Rattle.pri_reader.specs.Grammar.{Setting, Derives, whole}
use Rattle.form_typed.specs.Formula.{Formula, Formulas, Expression, Expressions, formula, formulas, constant, compares, applies, negation, every, some, implies, iff, for_all, for_some, part, no_formula, and_formula, number, name, call, minus, total, product, choice, absolute, lesser, greater, no_expression, and_expression}
use Rattle.form_typed.specs.Truth.{Meaning, Truth}
use Rattle.form_typed.specs.Sorts.{AreValuesOf}
use Rattle.form_typed.specs.Table.{meaning_of}
use Rattle.form_typed.specs.declared.world.Table.{Table}
use Rattle.model_table.specs.declared.model.Model.{Model}
use Rattle.model_table.specs.Models as models
use Rattle.pri_typing.specs.declared.problem.Problem.{Problem}
use Rattle.pri_typing.specs.declared.declaration.Kind.{Kind}
use Rattle.pri_typing.specs.declared.declaration.Kind.TheVariants.{Existential, Universal, Function, Predicate}
use Rattle.pri_typing.specs.declared.declaration.Declaration.{Declaration}
use Rattle.pri_typing.specs.declared.scope.Category.TheVariants as category
use Rattle.pri_typing.specs.Phrase.{phrase, first_token}
use Rattle.pri_typing.specs.Scope.{Scope}
use Rattle.pri_typing.specs.Faults.{faults}
use Rattle.pri_typing.specs.Typing.{says}
use Rattle.pri_typing.specs.Everywhere.{Everywhere}
use Rattle.pri_typing.specs.WellFormed.{SignedFormula, components_of}

-- Truth of a problem.

-- The formula is true in an interpretation at these values of the existential constants, whatever the universal constants are.
pub record IsTrueAt (w : Meaning) (p : Problem) (f : Formula) (e : List ℤ) : Type 0 where
  pub many : length e ≡ length p.existentials
  pub is : (u : List ℤ) → length u ≡ length p.universals → Truth w f (e ++ u)

-- The problem holds in an interpretation at values of its existential constants: each is a value of its constant's type, and
-- the formula is true there whatever values of their types the universal constants have.
pub record Holds (w : Meaning) (p : Problem) (e : List ℤ) : Type 0 where
  pub many : length e ≡ length p.existentials
  pub typed : AreValuesOf p.existential_types e
  pub is : (u : List ℤ) → length u ≡ length p.universals → AreValuesOf p.universal_types u → Truth w (formula p.formula) (e ++ u)

-- a finite interpretation: a table, or a model, in which each symbol has a default
pub data Finite : Type 0 where
  by_table : Table → Finite
  by_model : Model → Finite

abbrev pub finite_meaning : Finite → Meaning
finite_meaning (by_table t) = meaning_of t
finite_meaning (by_model m) = models.meaning_of m

-- a finite interpretation, and values of the universal constants, each of its constant's type, at which the formula is not true
pub record IsRefutedAt (p : Problem) (e : List ℤ) : Type 0 where
  pub interpretation : Finite
  pub universals : List ℤ
  pub fit : length universals ≡ length p.universals
  pub typed : AreValuesOf p.universal_types universals
  pub fails : ¬ (Truth (finite_meaning interpretation) (formula p.formula) (e ++ universals))

-- the problem fails whatever values of their types the existential constants have
abbrev pub IsRefuted : Problem → Type 0
IsRefuted p = (e : List ℤ) → length e ≡ length p.existentials → AreValuesOf p.existential_types e → IsRefutedAt p e

-- What a part assumes: the two sides between which an interpolant stands (Craig, Three uses of the Herbrand-Gentzen theorem
-- in relating model theory and proof theory, 1957).

-- what a component assumes: with minus its formula, with plus the negation of it
abbrev pub assumed : SignedFormula → Formula
assumed c = if c.plus then negation c.what else c.what

-- the component is a part whose number is in this set
abbrev pub is_part_in : List ℕ → Formula → Bool
is_part_in set (part k f) = list_any (nat_eq k) set
is_part_in set _ = false

-- what a set of parts assumes: the conjunction of what its components assume, in the order of the file
abbrev pub assumed_by : Problem → List ℕ → Formula
assumed_by p set = every (formulas (map assumed (filter (λ c. is_part_in set c.what) (components_of p))))

-- a component is true whatever the parts say: `true` with plus, or `false` with minus
abbrev pub is_plainly_true : SignedFormula → Bool
is_plainly_true c = elim c.what [ constant b ↦ beq b c.plus | _ ↦ false ]

-- some component is
abbrev pub IsPlainlyValid : Problem → Type 0
IsPlainlyValid p = list_any is_plainly_true (components_of p) ≡ true

-- Applications.

abbrev pub IsNoPredicate : ℕ → Formula → Type 0
IsNoPredicate n (applies p ts) = ⊥
IsNoPredicate n _ = Unit {0}

abbrev pub IsNoCall : ℕ → Expression → Type 0
IsNoCall n (call f ts) = ⊥
IsNoCall n _ = Unit {0}

-- without applications
abbrev pub IsWithoutApplication : Formula → Type 0
IsWithoutApplication = Everywhere (record { of_formula = IsNoPredicate; of_term = IsNoCall }) 0

-- the problem has no application
abbrev pub IsPure : Problem → Type 0
IsPure p = IsWithoutApplication (formula p.formula)

-- the sign of an occurrence
pub data Sign : Type 0 where
  plus : Sign
  minus_sign : Sign
  both : Sign

abbrev pub turned : Sign → Sign
turned plus = minus_sign
turned minus_sign = plus
turned both = both

abbrev mutual
  -- Where the formula stands with this sign, each quantifier with an application in its body is a for-all with plus or a
  -- for-some with minus. A negation and the left side of an implication turn the sign; the sides of an equivalence and
  -- the condition of a term have both.
  pub IsUniversalAt : Sign → Formula → Type 0
  IsUniversalAt sign (constant b) = Unit {0}
  IsUniversalAt sign (compares r s t) = IsTermUniversal s × IsTermUniversal t
  IsUniversalAt sign (applies p ts) = AreTermsUniversal ts
  IsUniversalAt sign (negation f) = IsUniversalAt (turned sign) f
  IsUniversalAt sign (every fs) = AreUniversalAt sign fs
  IsUniversalAt sign (some fs) = AreUniversalAt sign fs
  IsUniversalAt sign (implies f g) = IsUniversalAt (turned sign) f × IsUniversalAt sign g
  IsUniversalAt sign (iff f g) = IsUniversalAt both f × IsUniversalAt both g
  IsUniversalAt sign (for_all s f) = ((sign ≡ plus) ⊎ IsWithoutApplication f) × IsUniversalAt sign f
  IsUniversalAt sign (for_some s f) = ((sign ≡ minus_sign) ⊎ IsWithoutApplication f) × IsUniversalAt sign f
  IsUniversalAt sign (part k f) = IsUniversalAt sign f

  pub AreUniversalAt : Sign → Formulas → Type 0
  AreUniversalAt sign no_formula = Unit {0}
  AreUniversalAt sign (and_formula f fs) = IsUniversalAt sign f × AreUniversalAt sign fs

  pub IsTermUniversal : Expression → Type 0
  IsTermUniversal (number v) = Unit {0}
  IsTermUniversal (name x) = Unit {0}
  IsTermUniversal (call f ts) = AreTermsUniversal ts
  IsTermUniversal (minus t) = IsTermUniversal t
  IsTermUniversal (total ts) = AreTermsUniversal ts
  IsTermUniversal (product s t) = IsTermUniversal s × IsTermUniversal t
  IsTermUniversal (choice f s t) = IsUniversalAt both f × IsTermUniversal s × IsTermUniversal t
  IsTermUniversal (absolute t) = IsTermUniversal t
  IsTermUniversal (lesser s t) = IsTermUniversal s × IsTermUniversal t
  IsTermUniversal (greater s t) = IsTermUniversal s × IsTermUniversal t

  pub AreTermsUniversal : Expressions → Type 0
  AreTermsUniversal no_expression = Unit {0}
  AreTermsUniversal (and_expression t ts) = IsTermUniversal t × AreTermsUniversal ts

-- no quantifier over an application asks for a witness
abbrev pub IsUniversal : Problem → Type 0
IsUniversal p = IsUniversalAt plus (formula p.formula)

-- a name is below m or, as that of a bound variable, at n or above
abbrev pub IsNameIn : ℕ → ℕ → Expression → Type 0
IsNameIn m n (name x) = (x < m) ⊎ (n ≤ x)
IsNameIn m n (call f ts) = ⊥
IsNameIn m n _ = Unit {0}

-- of the problem's symbols the formula speaks of existential constants alone
abbrev pub SpeaksOfExistentials : Problem → Formula → Type 0
SpeaksOfExistentials p = Everywhere (record { of_formula = IsNoPredicate; of_term = λ depth. IsNameIn (length p.existentials) (length p.existentials + length p.universals) }) 0

-- What a text says.

abbrev pub unplaced : Kind → List ℕ → Declaration
unplaced kind text = record { at = 0; text = text; kind = kind }

-- where the symbols of the problem are declared, and nothing is bound
abbrev pub scope_of_problem : Problem → Scope
scope_of_problem p = record {
  declared = map (unplaced Existential) p.existentials ++ map (unplaced Universal) p.universals
      ++ map (λ y. unplaced (Function y.arity) y.name) p.functions ++ map (λ y. unplaced (Predicate y.arity) y.name) p.predicates;
  parts = p.parts;
  bound = [];
}

-- a text without limits on numerals and levels: what a text says does not depend on the file that it stands in
abbrev pub text_setting : List ℕ → Setting
text_setting text = record { bytes = text; small = λ rest n. true; shallow = λ rest n. true }

-- The text is derived as a formula and, with the symbols of the problem declared, types as this one.
pub record Says (text : List ℕ) (p : Problem) (said : Formula) : Type 0 where
  pub expression : Expr
  pub derived : Derives (text_setting text) 0 whole expression (lexemes_of text) []
  pub typed : faults (scope_of_problem p) category.Formula (first_token (phrase expression)) (phrase expression) ≡ []
  pub is : says (scope_of_problem p) (phrase expression) ≡ said
