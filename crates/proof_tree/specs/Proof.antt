-- Proof trees.
use Rattle.std.specs.Prelude.{List, [], ◌∷◌}
use Rattle.base_budget.specs.declared.log.Entry.{Entry}
use Rattle.clause_set.specs.declared.literal.Literal.{Literal}
use Rattle.sequent.specs.declared.member.Pick.{Pick}

mutual
  -- a rule, the proofs of its premises, the log of what it eliminates, and its constraint
  pub data Proof : Type 0 where
    node : Pick → Proofs → List Entry → List (List Literal) → Proof

  pub data Proofs : Type 0 where
    no_proof : Proofs
    and_proof : Proof → Proofs → Proofs

-- the constraint of the root
abbrev pub given : Proof → List (List Literal)
given (node p ns log d) = d

abbrev pub all_given : Proofs → List (List (List Literal))
all_given no_proof = []
all_given (and_proof n ns) = given n ∷ all_given ns

-- the proofs of a list, in order
abbrev pub proofs : List Proof → Proofs
proofs [] = no_proof
proofs (n ∷ ns) = and_proof n (proofs ns)
