-- What a check of a proof answers: what the proof proves, or the first thing that is wrong with it.
use Rattle.std.specs.Prelude.{ℕ, List, [], Option, Some, None}
use Rattle.linear_term.specs.declared.range.Place.{Place}
use Rattle.base_budget.specs.Followed.{after_notes}
use Rattle.base_budget.specs.Trace.{Mark, At, at, End, done, refused, out_of_range, cut, Traced}
use Rattle.formula.specs.Form.{Form}
use Rattle.proof_tree.specs.declared.node.Conclusion.{Conclusion}
use Rattle.proof_tree.specs.declared.run.Verdict.{Verdict}
use Rattle.proof_tree.specs.Proof.{Proof}
use Rattle.proof_tree.specs.Proves.{proof_walk}
use Rattle.tree_checker.specs.Hand.{at_node}

-- a verdict, or a node that is wrong, or where a charge passes the charges of the proof, or where numbers leave the range
pub data Check : Type 0 where
  accepted : Verdict → Check
  wrong : ℕ → Check
  too_costly : ℕ → Check
  leaves : ℕ → List Place → Check

-- the node at hand after these notes
abbrev pub at_hand : List Mark → ℕ
at_hand ms = after_notes at_node 0 ms

-- the first fault of a walk with this value and this end
abbrev pub first_fault : Option Verdict → End → Check
first_fault (Some v) (done a) = accepted v
first_fault None (done a) = wrong (at_hand a.marks)
first_fault o (refused a) = too_costly (at_hand a.marks)
first_fault o (out_of_range ps a) = leaves (at_hand a.marks) ps

abbrev pub fault_of : Traced (Option Verdict) → At → Check
fault_of w a = first_fault w.value (cut w.events a)

-- the check of a proof, with its charges, of a formula over n names
abbrev pub checked : Form → ℕ → Proof → Conclusion → ℕ → Check
checked f n x c charges = fault_of (proof_walk f n x c) (at (record { budget = charges; spent = 0 }) [])
