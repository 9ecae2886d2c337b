-- The proofs after a printed interpolant of a problem with predicates or functions.
use Rattle.std.specs.Prelude.{ℕ, List, [], length}
use Rattle.form_typed.specs.Formula.{Formula}
use Rattle.pri_typing.specs.declared.problem.Problem.{Problem}
use Rattle.proof_tree.specs.declared.node.Conclusion.{Conclusion}
use Rattle.proof_tree.specs.declared.run.Verdict.TheVariants as verdict
use Rattle.proof_tree.specs.Proof.{Proof}
use Rattle.proof_tree.specs.Proves.{Proves}
use Rattle.pred_interpolant.specs.Middle.{contradicts, follows, obligation_root}
use Rattle.itp_lines.specs.Seams.{Seam, before, behind}

-- a tree proves that the formula, over the symbols of the problem, is valid
pub record HasProvingTree (p : Problem) (f : Formula) : Type 0 where
  pub tree : Proof
  pub conclusion : Conclusion
  pub charges : ℕ
  pub proves : Proves (obligation_root p f).value (length p.existentials) tree conclusion charges (verdict.Valid [])

-- one tree proves that the formula follows from what is assumed before a seam, and one that it contradicts what is assumed after it
pub record AreObligationsProved (p : Problem) (s : Seam) (f : Formula) : Type 0 where
  pub below : HasProvingTree p (follows (before p s) f)
  pub above : HasProvingTree p (contradicts f (behind p s))
