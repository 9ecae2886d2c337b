-- The constraint of a canonical tree is in form, and speaks of the constants of its sequent alone.
use Rattle.std.proofs.Common.{◌≡◌, ℕ, Some}
use Rattle.sequent.specs.Sequent.{Sequent, IsFormedSequent}
use Rattle.solve_laws.specs.Solutions.{IsGiven}
use Rattle.proof_tree.specs.Proof.{Proof, given}
use Rattle.proof_tree.specs.Reduced.{IsReducedSequent}
use Rattle.proof_tree.proofs.Given.{node_given}
use Rattle.search.specs.Building.{built}
use Rattle.search.proofs.Retracing.{retraced}

pub built-given : (limit left n : ℕ) (s : Sequent) (x : Proof) → IsFormedSequent s → IsReducedSequent s → (built limit left n s).value ≡ Some x → IsGiven s.count (given x)
built-given limit left n s x formed reduced e = node_given s x formed reduced (retraced limit left n s x e).gives
