-- What it means that a proof is accepted.
use Rattle.std.proofs.Common.{◌≡◌, ℕ, subst}
use Rattle.formula.specs.Form.{Form, IsFormOver, is_pure}
use Rattle.formula.specs.Reduced.{HasReducedTerms}
use Rattle.proof_tree.specs.declared.node.Conclusion.{Conclusion}
use Rattle.proof_tree.specs.declared.run.Verdict.{Verdict}
use Rattle.proof_tree.specs.Proof.{Proof}
use Rattle.proof_tree.specs.Proves.{Proves, is_root_rule, rule_of}
use Rattle.proof_tree.proofs.Proving.{proves_invalid, proves_valid, root_covers, root_exact}
use Rattle.tree_checker.specs.Answering.{IsAccepted}
use Rattle.tree_checker.specs.Faults.{accepted, checked}
use Rattle.tree_checker.proofs.Accepting.{accepts_proofs}
use Rattle.tree_checker.proofs.Entered.{first_true, second_true}

pub accepted_means : (f : Form) (n : ℕ) (x : Proof) (c : Conclusion) (charges : ℕ) (v : Verdict) → IsFormOver n f → HasReducedTerms f → checked f n x c charges ≡ accepted v → IsAccepted f n x v
accepted_means f n x c charges v over reduced h =
    let p = (accepts_proofs f n x c charges v).0 h in
    record {
      covers = root_covers f n x over reduced p.tree;
      exact = λ both. root_exact f n x over reduced (first_true (is_pure f) (is_root_rule (rule_of x)) both) (second_true (is_pure f) (is_root_rule (rule_of x)) both) p.tree;
      valid = λ vs is. proves_valid f n x c charges vs reduced (subst (Proves f n x c charges) is p);
      invalid = λ is. proves_invalid f n x c charges over reduced (subst (Proves f n x c charges) is p);
    }
