-- Which trees are open: no rule could be taken any more at their leaves, and none of them was the rule for `some`.
use Rattle.std.specs.Prelude.{◌≡◌, ℕ, ℤ, true, false, List, [], ◌∷◌, length}
use Rattle.std.specs.List.{AllByRecursion}
use Rattle.clause_set.specs.Literals.{dnf_truth}
use Rattle.formula.specs.Form.{Form, is_pure}
use Rattle.sequent.specs.declared.member.Pick.{Pick}
use Rattle.sequent.specs.declared.member.Pick.TheVariants as pick
use Rattle.sequent.specs.Leaf.{is_leaf}
use Rattle.sequent.specs.Sequent.{Sequent}
use Rattle.sequent.specs.Rules.{premises_of}
use Rattle.proof_tree.specs.Gives.{Gives}
use Rattle.proof_tree.specs.Proof.{Proof, Proofs, node, no_proof, and_proof, given}
use Rattle.proof_tree.specs.Proves.{start}

-- the rule is not gamma; where it closes, each member is pure, or an application or the negation of one
abbrev pub IsOpenAt : Sequent → Pick → Type 0
IsOpenAt s (pick.Trivial i) = Unit {0}
IsOpenAt s (pick.Alpha i) = Unit {0}
IsOpenAt s (pick.Delta i) = Unit {0}
IsOpenAt s (pick.Beta i) = Unit {0}
IsOpenAt s (pick.Gamma i) = ⊥
IsOpenAt s pick.Close = AllByRecursion (λ m. is_leaf m.formula ≡ true) s.members

abbrev mutual
  -- each node is so
  pub IsOpen : Sequent → Proof → Type 0
  IsOpen s (node p ns log d) = IsOpenAt s p × AreOpen (premises_of s p) ns

  pub AreOpen : List Sequent → Proofs → Type 0
  AreOpen [] ns = Unit {0}
  AreOpen (s ∷ ss) no_proof = Unit {0}
  AreOpen (s ∷ ss) (and_proof n ns) = IsOpen s n × AreOpen ss ns

-- an open tree of the formula f over n names gives its constraint, has no gamma node, and leaves nothing to do where it closes
pub record IsOpenTree (f : Form) (n : ℕ) (x : Proof) : Type 0 where
  pub gives : Gives (start f n) x
  pub is : IsOpen (start f n) x

-- The tree of the formula f over n names is open, and its constraint is false everywhere; f has an application.
pub record IsSaturatedTree (f : Form) (n : ℕ) (x : Proof) : Type 0 where
  pub tree : IsOpenTree f n x
  pub application : is_pure f ≡ false
  pub nowhere : (e : List ℤ) → length e ≡ n → dnf_truth (given x) e ≡ false
