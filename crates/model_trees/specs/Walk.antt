-- The walk through an open tree, from values at which its constraint is false to a leaf and to values of all its constants.
use Rattle.std.specs.Prelude.{ℕ, suc, ℤ, pos, neg_ℤ, List, [], ◌∷◌, Option, Some, None}
use Rattle.linear_term.specs.Linear.{Linear}
use Rattle.base_budget.specs.Trace.{Traced, just, next}
use Rattle.clause_set.specs.declared.literal.Literal.{Literal}
use Rattle.clause_set.specs.declared.literal.Literal.TheVariants.{Eq}
use Rattle.clause_set.specs.Clauses.{clauses_of}
use Rattle.clause_set.specs.Dnfs.{conjunction, negation, tidied}
use Rattle.sequent.specs.declared.member.Pick.TheVariants as pick
use Rattle.sequent.specs.Sequent.{Member, Sequent}
use Rattle.sequent.specs.Rules.{premises_of}
use Rattle.solve_laws.specs.Solutions.{solving}
use Rattle.proof_tree.specs.Proof.{Proof, Proofs, node, no_proof, and_proof, given, all_given}
use Rattle.proof_tree.specs.Rules.{first_given}
use Rattle.proof_tree.specs.Walk.{on_some}

-- where a walk ends: the values of all constants, and the members of the leaf
pub record Stop : Type 0 where
  pub values : List ℤ
  pub members : List Member

-- x − v
abbrev pub apart : ℕ → ℤ → Linear
apart x v = record { pairs = (x, pos 1) ∷ []; constant = neg_ℤ v }

-- the names from j on have these values
abbrev pub equations_from : ℕ → List ℤ → List Literal
equations_from j [] = []
equations_from j (v ∷ vs) = Eq (apart j v) ∷ equations_from (suc j) vs

-- the clauses that a node gives, in form
abbrev pub read : List (List Literal) → List (List Literal)
read d = tidied (clauses_of d)

-- the point v: each name has its value there
abbrev pub point : List ℤ → List (List Literal)
point v = read (equations_from 0 v ∷ [])

-- the best values of n names at which d is false, the first of them v
abbrev pub denied : ℕ → List (List Literal) → List ℤ → Traced (Option (List ℤ))
denied n d v = next (negation (read d)) (λ c. next (conjunction c (point v)) (λ both. solving n both))

-- the n values v, if d is true there
abbrev pub affirmed : ℕ → List (List Literal) → List ℤ → Traced (Option (List ℤ))
affirmed n d v = next (conjunction (read d) (point v)) (λ both. solving n both)

-- the first work where nothing was found, else the second
abbrev pub where_none : {A B : Type 0} → Traced B → Traced B → Option A → Traced B
where_none first second None = first
where_none first second (Some a) = second

abbrev mutual
  -- The walk from a node of the sequent s with the values v of its constants: at alpha on to the child; at delta with a value of
  -- the new constant at which the child's constraint is false; at beta on to the first child whose constraint is false; at close
  -- it is over. None where there is no way on.
  pub walk : Sequent → Proof → List ℤ → Traced (Option Stop)
  walk s (node (pick.Trivial i) ns log d) v = just None
  walk s (node (pick.Alpha i) ns log d) v = walk_first (premises_of s (pick.Alpha i)) ns v
  walk s (node (pick.Delta i) ns log d) v = next (denied (suc s.count) (first_given (all_given ns)) v) (on_some (λ u. walk_first (premises_of s (pick.Delta i)) ns u))
  walk s (node (pick.Beta i) ns log d) v = walk_false s.count (premises_of s (pick.Beta i)) ns v
  walk s (node (pick.Gamma i) ns log d) v = just None
  walk s (node pick.Close ns log d) v = just (Some (record { values = v; members = s.members }))

  pub walk_first : List Sequent → Proofs → List ℤ → Traced (Option Stop)
  walk_first [] ns v = just None
  walk_first (s ∷ ss) no_proof v = just None
  walk_first (s ∷ ss) (and_proof x xs) v = walk s x v

  pub walk_false : ℕ → List Sequent → Proofs → List ℤ → Traced (Option Stop)
  walk_false n [] ns v = just None
  walk_false n (s ∷ ss) no_proof v = just None
  walk_false n (s ∷ ss) (and_proof x xs) v = next (affirmed n (given x) v) (where_none (walk s x v) (walk_false n ss xs v))
