-- What the formula between two sides and the trees of its obligations mean.
use Rattle.std.specs.Prelude.{List, [], ℤ}
use Rattle.form_typed.specs.Formula.{Formula}
use Rattle.form_typed.specs.Truth.{Meaning, Truth}
use Rattle.pri_typing.specs.declared.problem.Problem.{Problem}
use Rattle.formula.specs.Tree.{form}
use Rattle.proof_tree.specs.Proves.{Proves}
use Rattle.proof_tree.specs.Views.{proof_of}
use Rattle.proof_tree.specs.declared.run.Verdict.TheVariants as verdict
use Rattle.itp_sides.specs.Between.{AreTyped, Contradict}
use Rattle.pred_interpolant.specs.Middle.{Shares}
use Rattle.itp_lines.specs.declared.proved.Proved.{Proved}

-- The formula stands between the others: at values of the constants' types where the first is true it is; it and the second are never
-- true together; and it speaks of those constants, predicates and functions alone that both speak of.
pub record Separates (w : Meaning) (p : Problem) (first between second : Formula) : Type 0 where
  pub follows : (e : List ℤ) → AreTyped p e → Truth w first e → Truth w between e
  pub contradicts : Contradict w p between second
  pub shares : Shares p first between second

-- the tree proves that the encoded formula, without existential constants, is valid
abbrev pub IsProved : Proved → Type 0
IsProved m = Proves (form m.encoded.root) m.encoded.constants (proof_of m.tree.root) m.tree.conclusion m.tree.charges (verdict.Valid [])
