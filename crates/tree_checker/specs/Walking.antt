-- What the walk over the lines of a proof has done.
use Rattle.std.specs.Prelude.{◌≡◌, ℕ, ◌+◌, ◌<◌, ◌≤◌, ◌^◌, Bool, true, false, List, [], Option, Some, None, Result, Ok, Err}
use Rattle.base_budget.specs.declared.fault.StepFault.{StepFault}
use Rattle.base_budget.specs.declared.log.ElimLog.{ElimLog}
use Rattle.base_budget.specs.declared.log.Entry.{Entry}
use Rattle.base_budget.specs.Followed.{Followed}
use Rattle.base_budget.specs.Trace.{Funds}
use Rattle.clause_set.specs.declared.literal.Literal.{Literal}
use Rattle.sequent.specs.declared.member.Pick.{Pick}
use Rattle.sequent.specs.Sequent.{Sequent}
use Rattle.proof_tree.specs.Proof.{Proof, Proofs, given, all_given}
use Rattle.proof_tree.specs.Walk.{all_walked, left_at, nodes_in, nodes_in_all, walked}
use Rattle.tree_checker.specs.declared.course.Course.{Course}
use Rattle.tree_checker.specs.Hand.{at_node}

-- p of what came out, if anything did
abbrev pub IfGiven : {A : Type 0} → Result (Option A) StepFault → (A → Type 0) → Type 0
IfGiven (Ok (Some a)) p = p a
IfGiven (Ok None) p = Unit {0}
IfGiven (Err e) p = Unit {0}

-- every node that was entered is paid, and this many charges fit 32 bits
pub record IsPaid (c : Course) (p : Funds) : Type 0 where
  pub nodes : c.nodes ≤ p.spent
  pub within : p.spent ≤ p.budget
  pub budget : p.budget < 2 ^ 32

-- the log of a node, where its rule eliminates; no entries where it does not
abbrev pub IsLogOf : Bool → ElimLog → List Entry → Type 0
IsLogOf true log es = log.entries ≡ es
IsLogOf false log es = es ≡ []

-- the walk went over the proof x of s as far as the result says: where a constraint came out it is that of x, the nodes of x
-- are counted, and what holds after x holds
pub record HasWalked (s : Sequent) (x : Proof) (Behind : Type 0) (old : Funds) (from : Course) (r : Result (Option (List (List Literal))) StepFault) (new : Funds) (to : Course) : Type 0 where
  pub work : Followed at_node (walked from.nodes s x) old from.hand r new to.hand
  pub behind : IfGiven r (λ d. (d ≡ given x) × (to.nodes ≡ from.nodes + nodes_in x) × Behind)

-- the same of the proofs of a node's premises
pub record HaveWalked (ss : List Sequent) (xs : Proofs) (Behind : Type 0) (old : Funds) (from : Course) (r : Result (Option (List (List (List Literal)))) StepFault) (new : Funds) (to : Course) : Type 0 where
  pub work : Followed at_node (all_walked from.nodes ss xs []) old from.hand r new to.hand
  pub behind : IfGiven r (λ ds. (ds ≡ all_given xs) × (to.nodes ≡ from.nodes + nodes_in_all xs) × Behind)

-- the node n was left with the constraint d, made of those of its premises
pub record HasLeft (n : ℕ) (s : Sequent) (p : Pick) (es : List Entry) (d : List (List Literal)) (ds : List (List (List Literal))) (Behind : Type 0) (old : Funds) (from : Course) (r : Result (Option (List (List Literal))) StepFault) (new : Funds)
    (to : Course) : Type 0 where
  pub work : Followed at_node (left_at n s p es d ds) old from.hand r new to.hand
  pub behind : IfGiven r (λ c. (c ≡ d) × Behind)
