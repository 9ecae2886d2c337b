-- What a file that holds a proof shows.
use Rattle.std.proofs.Common.{ℕ, ℤ, ◌≡◌, List, length, Bool, true, false, cond, nat_eq}
use Rattle.form_typed.specs.Truth.{Meaning}
use Rattle.formula.specs.Form.{Form, FormTruth, IsFormOver}
use Rattle.formula.specs.Reduced.{HasReducedTerms}
use Rattle.form_miniscope.specs.Miniscope.{scoped_below}
use Rattle.form_miniscope.proofs.Miniscope.{scoped_below_is}
use Rattle.form_miniscope.proofs.Over.{scoped_below_over}
use Rattle.clause_root_laws.specs.Prepared.{prepared}
use Rattle.clause_root_laws.proofs.Prepared.{prepared_is}
use Rattle.clause_proof.proofs.Sound.{proof_shows}
use Rattle.clause_file.specs.Roots.{prepared_root}
use Rattle.clause_file.specs.Verdicts.{HoldsClauseProof}
use Rattle.clause_file.proofs.Reducing.{scoped_below_reduced}

-- a prepared root is true where the formula is
root_is : (w : Meaning) (n : ℕ) (f : Form) (steps : ℕ) (e : List ℤ) (b : Bool) → length e ≡ n → IsFormOver n f → HasReducedTerms f → FormTruth w (cond b f (prepared false n (scoped_below n f) steps).0) e → FormTruth w f e
root_is w n f steps e true len o r t = t
root_is w n f steps e false len o r t =
    (scoped_below_is w n f e len).0 ((prepared_is w false n (scoped_below n f) steps e len (scoped_below_reduced n f r) (scoped_below_over n f o)).0 t)

pub proof_means : (w : Meaning) (f : Form) (n : ℕ) (file : List ℕ) (vs : List ℤ) → IsFormOver n f → HasReducedTerms f → HoldsClauseProof f n file vs → FormTruth w f vs
proof_means w f n file vs o r p =
    root_is w n f p.head.prepared vs (nat_eq p.head.prepared 0) p.count o r (proof_shows w (prepared_root n f p.head.prepared) vs p.head.root p.lines p.proves)
