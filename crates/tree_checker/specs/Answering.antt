-- What a check of a proof answers, and what it means that a proof is accepted.
use Rattle.std.specs.Prelude.{◌≡◌, ℕ, ℤ, true, false, ◌&&◌, List, length, Contains, Option, Some, None, Result, Ok, Err}
use Rattle.linear_term.specs.declared.range.Place.{Place}
use Rattle.linear_term.specs.Range.{stays}
use Rattle.form_typed.specs.Truth.{Meaning}
use Rattle.base_budget.specs.declared.fault.StepFault.{StepFault}
use Rattle.base_budget.specs.declared.fault.StepFault.TheVariants as step_fault
use Rattle.base_budget.specs.Followed.{Followed}
use Rattle.base_budget.specs.Trace.{Funds, enter, next, note}
use Rattle.clause_set.specs.declared.literal.Literal.{Literal}
use Rattle.clause_set.specs.Literals.{dnf_truth}
use Rattle.formula.specs.Form.{Form, FormTruth, is_pure}
use Rattle.sequent.specs.declared.member.Pick.{Pick}
use Rattle.proof_tree.specs.declared.node.Conclusion.{Conclusion}
use Rattle.proof_tree.specs.declared.run.Verdict.{Verdict}
use Rattle.proof_tree.specs.declared.run.Verdict.TheVariants.{Valid, Invalid}
use Rattle.proof_tree.specs.Proof.{Proof, given}
use Rattle.proof_tree.specs.Proves.{concluded, is_root_rule, proof_walk, rule_of}
use Rattle.tree_checker.specs.declared.checking.Checked as code
use Rattle.tree_checker.specs.declared.checking.CheckFault.{CheckFault}
use Rattle.tree_checker.specs.declared.checking.CheckFault.TheVariants.{Node, Range, Cost, Memory}
use Rattle.tree_checker.specs.declared.course.Course.{Course}
use Rattle.tree_checker.specs.Faults.{accepted, checked, leaves, too_costly, wrong}
use Rattle.tree_checker.specs.Hand.{at_node}
use Rattle.tree_checker.specs.Walking.{IfGiven}

-- the verdict of what was accepted
abbrev pub verdict_in : Option code.Checked → Option Verdict
verdict_in None = None
verdict_in (Some k) = Some k.verdict

abbrev pub verdicts : Result (Option code.Checked) StepFault → Result (Option Verdict) StepFault
verdicts (Ok o) = Ok (verdict_in o)
verdicts (Err e) = Err e

-- the conclusion c was checked for the constraint d of a root with the rule p
pub record HasConcluded (f : Form) (n : ℕ) (p : Pick) (c : Conclusion) (d : List (List Literal)) (old : Funds) (from : Course) (r : Result (Option code.Checked) StepFault) (new : Funds) (to : Course) : Type 0 where
  pub work : Followed at_node (next (note (enter from.nodes)) (λ _. concluded f n p c d)) old from.hand (verdicts r) new to.hand
  pub accepts : IfGiven r (λ k. (k.constraint ≡ d) × (k.exact ≡ (is_pure f && is_root_rule p)))

-- the whole proof was checked, with the conclusion
pub record HasChecked (f : Form) (n : ℕ) (x : Proof) (c : Conclusion) (old : Funds) (hand : ℕ) (r : Result (Option code.Checked) StepFault) (new : Funds) (to : Course) : Type 0 where
  pub work : Followed at_node (proof_walk f n x c) old hand (verdicts r) new to.hand
  pub accepts : IfGiven r (λ k. (k.constraint ≡ given x) × (k.exact ≡ (is_pure f && is_root_rule (rule_of x))))

-- the answer, with the node at hand
abbrev pub answer_at : ℕ → Result (Option code.Checked) StepFault → Result code.Checked CheckFault
answer_at n (Ok (Some k)) = Ok k
answer_at n (Ok None) = Err (Node n)
answer_at n (Err step_fault.Steps) = Err (Cost n)
answer_at n (Err (step_fault.Overflow p)) = Err (Range n p)
answer_at n (Err step_fault.Memory) = Err Memory

-- the answer is that of the check: the verdict with the constraint of the root, and whether that is exact; or the first thing
-- that is wrong
abbrev pub ChecksAs : Form → ℕ → Proof → Conclusion → ℕ → Result code.Checked CheckFault → Type 0
ChecksAs f n x c charges (Ok k) = (checked f n x c charges ≡ accepted k.verdict) × (k.constraint ≡ given x) × (k.exact ≡ (is_pure f && is_root_rule (rule_of x)))
ChecksAs f n x c charges (Err (Node m)) = checked f n x c charges ≡ wrong m
ChecksAs f n x c charges (Err (Cost m)) = checked f n x c charges ≡ too_costly m
ChecksAs f n x c charges (Err (Range m p)) = (ps : List Place) × (checked f n x c charges ≡ leaves m ps) × Contains ps p × (stays p ≡ false)
ChecksAs f n x c charges (Err Memory) = Unit {0}

-- what it means that a proof of a formula over n names is accepted with this verdict: wherever the constraint of its root is true
-- the formula is, in every interpretation, and where the constraint is exact it is true nowhere else; the values of a solution
-- satisfy the constraint; and a formula that is invalid is false everywhere
pub record IsAccepted (f : Form) (n : ℕ) (x : Proof) (v : Verdict) : Type 0 where
  pub covers : (w : Meaning) (e : List ℤ) → length e ≡ n → dnf_truth (given x) e ≡ true → FormTruth w f e
  pub exact : (is_pure f && is_root_rule (rule_of x)) ≡ true → (w : Meaning) (e : List ℤ) → length e ≡ n → dnf_truth (given x) e ≡ false → ¬ (FormTruth w f e)
  pub valid : (vs : List ℤ) → v ≡ Valid vs → (length vs ≡ n) × (dnf_truth (given x) vs ≡ true)
  pub invalid : v ≡ Invalid → (w : Meaning) (e : List ℤ) → length e ≡ n → ¬ (FormTruth w f e)
