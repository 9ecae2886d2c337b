-- What the lines of `\interpolant` blocks mean.
use Rattle.std.specs.Prelude.{◌≡◌, ◌≢◌, ◌↔◌, ℕ, ℤ, List, [], ◌∷◌, Option, Some, None}
use Rattle.form_typed.specs.Formula.{Formula}
use Rattle.form_typed.specs.Truth.{Meaning, Truth}
use Rattle.pri_typing.specs.declared.problem.Problem.{Problem}
use Rattle.pri_typing.specs.Problems.{IsPlainlyValid, Says}
use Rattle.itp_sides.specs.Between.{AreTyped, Contradict, Leads}
use Rattle.pred_interpolant.specs.Middle.{Shares}
use Rattle.pri_lines.specs.Constraint.{interpolant_line}
use Rattle.itp_lines.specs.Blocks.{unknown_line}
use Rattle.itp_lines.specs.Proved.{AreObligationsProved}
use Rattle.itp_lines.specs.Seams.{Seam, before, behind, next_seam, seams, set_behind}

-- The formula stands between the others, at values of the constants' types: it follows from the first; it contradicts the second
-- where the first does; and it speaks of those constants, predicates and functions alone that stand in both.
pub record Between (w : Meaning) (p : Problem) (first between second : Formula) : Type 0 where
  pub follows : (e : List ℤ) → AreTyped p e → Truth w first e → Truth w between e
  pub contradicts : Contradict w p first second → Contradict w p between second
  pub shares : Shares p first between second

-- A formula with the same truth has a proof of each obligation: that it follows from what is assumed before a seam, and that it
-- contradicts what is assumed after it.
pub record IsProvedAs (w : Meaning) (p : Problem) (s : Seam) (formula : Formula) : Type 0 where
  pub made : Formula
  pub same : (e : List ℤ) → Truth w formula e ↔ Truth w made e
  pub proved : AreObligationsProved p s made

-- The printed x is this formula, and it stands between what is assumed before a seam and what after it; where no component of the
-- problem is plainly true, it is never true together with the latter; and where the problem has predicates or functions, that it
-- stands between the two is proved.
pub record Interpolates (w : Meaning) (p : Problem) (s : Seam) (x : List ℕ) (formula : Formula) : Type 0 where
  pub says : Says x p formula
  pub between : Between w p (before p s) formula (behind p s)
  pub apart : ¬ (IsPlainlyValid p) → Contradict w p formula (behind p s)
  pub proved : p.first_application ≢ None → IsProvedAs w p s formula

-- the line of a seam prints a formula, or says that none is known
abbrev pub TellsSeam : Meaning → Problem → Seam → List ℕ → Option Formula → Type 0
TellsSeam w p s text (Some f) = (x : List ℕ) × (text ≡ interpolant_line x) × Interpolates w p s x f
TellsSeam w p s text None = (cause : List ℕ) × (text ≡ unknown_line cause)

-- a line for each seam, in their order, with what it prints
abbrev pub AreTold : Meaning → Problem → List Seam → List (List ℕ) → List (Option Formula) → Type 0
AreTold w p [] [] [] = Unit {0}
AreTold w p (s ∷ ss) (text ∷ texts) (f ∷ fs) = TellsSeam w p s text f × AreTold w p ss texts fs
AreTold w p _ _ _ = ⊥

-- Of the lines of two seams that both print a formula: where the second is the next of the same block, its formula is true wherever
-- the other one and what the set between them assumes are.
abbrev pub Follows : Meaning → Problem → Seam → Seam → Option Formula → Option Formula → Type 0
Follows w p s t (Some f) (Some g) = t ≡ next_seam s → Leads w p (Truth w f) (set_behind p s) (Truth w g)
Follows w p s t _ _ = Unit {0}

-- so it is of each two neighbours
abbrev pub IsSequence : Meaning → Problem → List Seam → List (Option Formula) → Type 0
IsSequence w p (s ∷ t ∷ ss) (f ∷ g ∷ fs) = Follows w p s t f g × IsSequence w p (t ∷ ss) (g ∷ fs)
IsSequence w p _ _ = Unit {0}

-- The lines of all blocks of a problem: each prints an interpolant, or says that none is known, and those of a block follow from one
-- another with the sets between them.
pub record AreInterpolantLines (w : Meaning) (p : Problem) (lines : List (List ℕ)) : Type 0 where
  pub formulas : List (Option Formula)
  pub told : AreTold w p (seams p.cuts) lines formulas
  pub sequence : IsSequence w p (seams p.cuts) formulas
