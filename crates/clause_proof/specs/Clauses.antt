-- Variables, what they stand for, clauses over them, and when these are true.
use Rattle.std.specs.Prelude.{◌≡◌, ℕ, ◌<◌, ℤ, pos, ◌≤ℤ◌, Bool, true, false, List, length, Option, None, Some}
use Rattle.std.specs.List.{AllByRecursion, slice_get}
use Rattle.linear_term.specs.Linear.{Linear, value_of, name, IsOver}
use Rattle.form_typed.specs.Truth.{Meaning}
use Rattle.formula.specs.Form.{Form, FormTruth, values_of}
use Rattle.clause_proof.specs.declared.line.Application.{Application}
use Rattle.clause_proof.specs.declared.line.Literal.{Literal}

-- what a variable stands for: truth, an atom over the constants, or a formula with a term for each of its names
pub data Definition : Type 0 where
  always : Definition
  at_least_zero : Linear → Definition
  is_zero : Linear → Definition
  predicate : ℕ → List Linear → Definition
  closure : Form → List Linear → Definition

-- it is true at the constants e
abbrev pub DefinitionTruth : Meaning → List ℤ → Definition → Type 0
DefinitionTruth w e always = Unit {0}
DefinitionTruth w e (at_least_zero t) = pos 0 ≤ℤ value_of t e
DefinitionTruth w e (is_zero t) = value_of t e ≡ pos 0
DefinitionTruth w e (predicate p ts) = w.truth p (values_of ts e) ≡ true
DefinitionTruth w e (closure f ts) = FormTruth w f (values_of ts e)

-- the constant is the value of the function at the terms
abbrev pub IsApplicationTrue : Meaning → List ℤ → Application → Type 0
IsApplicationTrue w e a = w.value a.function (values_of a.terms e) ≡ value_of (name a.constant) e

-- what a proof has made so far: what the variables stand for; clauses, of which some are deleted; applications; and how many constants
pub record State : Type 0 where
  pub definitions : List Definition
  pub clauses : List (Option (List Literal))
  pub applications : List Application
  pub count : ℕ

-- it is true, or is false, at the constants e
abbrev pub IsSo : Meaning → List ℤ → Bool → Definition → Type 0
IsSo w e true d = DefinitionTruth w e d
IsSo w e false d = ¬ (DefinitionTruth w e d)

-- the same of a variable that may be missing: then neither holds, so that a literal stays true when variables are added
abbrev pub IsFoundSo : Meaning → List ℤ → Bool → Option Definition → Type 0
IsFoundSo w e b None = ⊥
IsFoundSo w e b (Some d) = IsSo w e b d

abbrev pub LiteralTruth : Meaning → List ℤ → List Definition → Literal → Type 0
LiteralTruth w e ds l = IsFoundSo w e l.positive (slice_get ds l.variable)

-- every literal is false
abbrev pub AreLiteralsFalse : Meaning → List ℤ → List Definition → List Literal → Type 0
AreLiteralsFalse w e ds ls = AllByRecursion (λ l. ¬ (LiteralTruth w e ds l)) ls

-- a clause is true where not all of its literals are false (the stable form)
abbrev pub ClauseTruth : Meaning → List ℤ → List Definition → List Literal → Type 0
ClauseTruth w e ds c = ¬ (AreLiteralsFalse w e ds c)

-- a deleted clause says nothing
abbrev pub IsKeptTrue : Meaning → List ℤ → List Definition → Option (List Literal) → Type 0
IsKeptTrue w e ds None = Unit {0}
IsKeptTrue w e ds (Some c) = ClauseTruth w e ds c

-- the applications have these values, and the clauses are true
pub record AreTrue (w : Meaning) (e : List ℤ) (s : State) : Type 0 where
  pub applications : AllByRecursion (IsApplicationTrue w e) s.applications
  pub clauses : AllByRecursion (IsKeptTrue w e s.definitions) s.clauses

-- at no values of the constants are all true
abbrev pub AreClausesRefuted : Meaning → State → Type 0
AreClausesRefuted w s = (e : List ℤ) → length e ≡ s.count → AreTrue w e s → ⊥

-- the terms are over the first n constants
abbrev pub IsDefinitionOver : ℕ → Definition → Type 0
IsDefinitionOver n always = Unit {0}
IsDefinitionOver n (at_least_zero t) = IsOver n t
IsDefinitionOver n (is_zero t) = IsOver n t
IsDefinitionOver n (predicate p ts) = AllByRecursion (IsOver n) ts
IsDefinitionOver n (closure f ts) = AllByRecursion (IsOver n) ts

pub record IsApplicationOver (n : ℕ) (a : Application) : Type 0 where
  pub terms : AllByRecursion (IsOver n) a.terms
  pub constant : a.constant < n

-- all that is there is over the constants that are there
pub record IsFormedState (s : State) : Type 0 where
  pub definitions : AllByRecursion (IsDefinitionOver s.count) s.definitions
  pub applications : AllByRecursion (IsApplicationOver s.count) s.applications
