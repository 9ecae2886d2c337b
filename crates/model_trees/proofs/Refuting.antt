-- The table of the leaf where the walk ends refutes the sequent where it began.
use Rattle.std.proofs.Common.{◌≡◌, ℤ, false, List, length, sym, subst}
use Rattle.form_typed.specs.Truth.{Meaning}
use Rattle.clause_set.specs.Literals.{dnf_truth}
use Rattle.sequent.specs.Sequent.{Sequent, AreFalse, IsFormedSequent}
use Rattle.pred_unify.specs.Leaf.{table_of}
use Rattle.proof_tree.specs.Gives.{Gives}
use Rattle.proof_tree.specs.Proof.{Proof, given}
use Rattle.proof_tree.specs.Reduced.{IsReducedSequent}
use Rattle.model_trees.specs.Open.{IsOpen}
use Rattle.model_trees.specs.Refutes.{IsRefutedBy, RefutesSequent}
use Rattle.form_typed.specs.Table.{meaning_of}
use Rattle.model_trees.specs.Rows.{table_at}
use Rattle.model_trees.specs.Walk.{walk}
use Rattle.model_trees.proofs.Reaching.{reached}
use Rattle.model_trees.proofs.Tables.{table_is}

pub walk_refutes : (s : Sequent) (x : Proof) (v : List ℤ) → IsFormedSequent s → IsReducedSequent s → Gives s x → IsOpen s x → length v ≡ s.count → dnf_truth (given x) v ≡ false → RefutesSequent s v (walk s x v)
walk_refutes s x v formed reduced gives op len bad =
    let e = reached s x v formed reduced gives op len bad in
    let same : meaning_of (table_at e.stop).value ≡ table_of (e.stop).members (e.stop).values = table_is e.stop e.formed e.fails in
    record {
      stop = e.stop;
      is = e.is;
      more = e.more;
      values = e.values;
      leaf = subst (λ (w : Meaning). AreFalse w (e.stop).values (e.stop).members) (sym same) e.fails;
      root = subst (λ (w : Meaning). AreFalse w v s.members) (sym same) (e.back (table_of (e.stop).members (e.stop).values) e.fails);
    }

-- an open tree is tight
pub tight : (s : Sequent) (x : Proof) (v : List ℤ) → IsFormedSequent s → IsReducedSequent s → Gives s x → IsOpen s x → length v ≡ s.count → dnf_truth (given x) v ≡ false → IsRefutedBy s v
tight s x v formed reduced gives op len bad =
    let r = walk_refutes s x v formed reduced gives op len bad in
    record { table = (table_at r.stop).value; fails = r.root }
