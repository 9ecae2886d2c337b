-- The formula that stands between the sides of a cut of a problem with predicates and functions, and the two obligations that say so.
use Rattle.std.specs.Prelude.{◌≡◌, ◌<◌, ℕ, Bool, true, false, [], ◌∷◌}
use Rattle.form_typed.specs.declared.typed.Typed.{Typed}
use Rattle.form_typed.specs.Formula.{Formula, formula, formulas, constant, every, implies}
use Rattle.form_typed.specs.Truth.{Meaning, Truth}
use Rattle.base_budget.specs.Trace.{Traced}
use Rattle.pri_typing.specs.declared.problem.Problem.{Problem}
use Rattle.pri_typing.specs.WellFormed.{IsWellFormed}
use Rattle.pri_printer.specs.Printed.{dnf_formula}
use Rattle.formula.specs.Form.{Form}
use Rattle.elim_laws.specs.Whole.{AreOver}
use Rattle.form_encoding.specs.Occurrences.{occurs}
use Rattle.form_encoding.specs.Problems.{constants, over_constants}
use Rattle.form_encoding.specs.Root.{root}
use Rattle.function_encoding.specs.declared.answer.Encoded.{Encoded}
use Rattle.pri_problem.specs.Encoded.{IsEncoded}
use Rattle.itp_sides.specs.Closing.{strongest_formula, weakest_formula}
use Rattle.itp_sides.specs.Sides.{Case, arithmetic, Stands, first_itself, second_denied, case_of, cut_of, first_side, other_side}
use Rattle.itp_sides.specs.Symbols.{uses}
use Rattle.itp_printer.specs.Replaced.{with_formula}
use Rattle.pred_interpolant.specs.declared.fault.MiddleFormula.{MiddleFormula}
use Rattle.pred_interpolant.specs.declared.fault.MiddleFormula.TheVariants.{Arithmetic, General}

-- the formula that is meant: of a normal form the one that its text says
abbrev pub said : Problem → MiddleFormula → Formula
said p (Arithmetic d) = dnf_formula p d
said p (General f) = formula f

-- what the first `at` sets of the cut with this number assume, and what the others do
abbrev pub first : Problem → ℕ → ℕ → Formula
first p cut at = first_side p (cut_of p cut) at

abbrev pub second : Problem → ℕ → ℕ → Formula
second p cut at = other_side p (cut_of p cut) at

-- it is of the form that the case asks for: some normal form, the first side with its own constants under "some value", or the
-- negation of the second with its own constants under "every value"
abbrev pub IsOfCase : Problem → Formula → Formula → MiddleFormula → Case → Type 0
IsOfCase p f g (Arithmetic d) arithmetic = Unit {0}
IsOfCase p f g (General h) first_itself = formula h ≡ strongest_formula p f g
IsOfCase p f g (General h) second_denied = formula h ≡ weakest_formula p f g
IsOfCase p f g _ _ = ⊥

-- a normal form over the constants of the problem, or a formula over its symbols
abbrev pub IsOverProblem : Problem → MiddleFormula → Type 0
IsOverProblem p (Arithmetic d) = AreOver (constants p) d
IsOverProblem p (General f) = IsWellFormed (with_formula p f)

-- the formula speaks of those constants, predicates and functions alone that both others speak of
pub record Shares (p : Problem) (f between g : Formula) : Type 0 where
  pub names : (x : ℕ) → x < constants p → occurs x between ≡ true → (occurs x f ≡ true) × (occurs x g ≡ true)
  pub symbols : (a : Bool × ℕ) → uses between a ≡ true → (uses f a ≡ true) × (uses g a ≡ true)

-- The formula is what the case asks for, over the problem; it is the strongest condition between the sides, or the weakest where the
-- second side is denied, in every interpretation; and it speaks of what both sides speak of.
pub record IsFound (p : Problem) (cut at : ℕ) (m : MiddleFormula) : Type 0 where
  pub of_case : IsOfCase p (first p cut at) (second p cut at) m (case_of p (cut_of p cut) at)
  pub over : IsOverProblem p m
  pub stands : (w : Meaning) → Stands w p (cut_of p cut) at (Truth w (said p m))
  pub shares : Shares p (first p cut at) (said p m) (second p cut at)

-- The obligations.

-- the second formula follows from the first
abbrev pub follows : Formula → Formula → Formula
follows f g = implies f g

-- the two formulas contradict each other
abbrev pub contradicts : Formula → Formula → Formula
contradicts f g = implies (every (formulas (f ∷ g ∷ []))) (constant false)

-- the formula follows from the first side
abbrev pub below : Problem → ℕ → ℕ → MiddleFormula → Formula
below p cut at m = follows (first p cut at) (said p m)

-- it contradicts the second
abbrev pub above : Problem → ℕ → ℕ → MiddleFormula → Formula
above p cut at m = contradicts (said p m) (second p cut at)

-- a formula over the constants of the problem, encoded as that of a problem is
abbrev pub obligation_root : Problem → Formula → Traced Form
obligation_root p f = root p.existential_types p.universal_types (over_constants p f)

-- the encoding, in code, of the problem with this formula
pub record IsObligation (p : Problem) (f : Formula) (e : Encoded) : Type 0 where
  pub typed : Typed
  pub is : formula typed ≡ f
  pub formed : IsWellFormed (with_formula p typed)
  pub encoded : IsEncoded (with_formula p typed) e
