-- The canonical tree of a sequent: on each branch the first rule that fits, depth first, with the charges of its nodes.
use Rattle.std.specs.Prelude.{ℕ, zero, suc, ◌+◌, List, [], ◌∷◌, ◌++◌, map, Option, Some, None}
use Rattle.base_budget.specs.Trace.{Traced, just, next, pay, note, enter, back}
use Rattle.clause_set.specs.declared.literal.Literal.{Literal}
use Rattle.clause_set.specs.Dnfs.{top}
use Rattle.elim_laws.specs.Elimination.{exists_name, for_all_name}
use Rattle.elim_laws.specs.Logs.{entries_of}
use Rattle.elim_laws.specs.Whole.{eliminating}
use Rattle.sequent.specs.declared.member.Pick.{Pick}
use Rattle.sequent.specs.declared.member.Pick.TheVariants as pick
use Rattle.sequent.specs.Rules.{picked, premises_of}
use Rattle.sequent.specs.Sequent.{Sequent}
use Rattle.pred_unify.specs.Pairs.{closing_of}
use Rattle.proof_tree.specs.Proof.{Proof, node, given, proofs}
use Rattle.proof_tree.specs.Rules.{conjoined, first_given}
use Rattle.proof_tree.specs.Walk.{fee, in_new_log, nodes_in, on_some}

-- the constraint of a rule, made of those of its premises by the elimination rules that come first
abbrev pub canonical_constraint : Sequent → Pick → List (List (List Literal)) → Traced (List (List Literal))
canonical_constraint s (pick.Trivial i) ds = just top
canonical_constraint s (pick.Alpha i) ds = just (first_given ds)
canonical_constraint s (pick.Delta i) ds = for_all_name s.count (first_given ds)
canonical_constraint s (pick.Beta i) ds = conjoined ds top
canonical_constraint s (pick.Gamma i) ds = exists_name s.count (first_given ds)
canonical_constraint s pick.Close ds = next (closing_of s) (λ f. eliminating s.count f)

-- f of each sequent, the first with the number n, after the trees in out
abbrev pub all_built : (ℕ → Sequent → Traced (Option Proof)) → ℕ → List Sequent → List Proof → Traced (Option (List Proof))
all_built f n [] out = just (Some out)
all_built f n (s ∷ ss) out = next (f n s) (on_some (λ x. all_built f (n + nodes_in x) ss (out ++ x ∷ [])))

-- the node, once its premises have trees
abbrev pub finished : ℕ → Sequent → Pick → List Proof → Traced (Option Proof)
finished n s p xs =
    next (note (back n)) (λ _. next (in_new_log (canonical_constraint s p (map given xs)))
    (λ d. just (Some (node p (proofs xs) (entries_of (canonical_constraint s p (map given xs)).events) d))))

-- the node with the number n and this rule, by what builds the trees of its premises
abbrev pub entered : (ℕ → Sequent → Traced (Option Proof)) → ℕ → Sequent → Pick → Traced (Option Proof)
entered f n s p = next (note (enter n)) (λ _. next (pay (fee s p)) (λ _. next (all_built f (n + 1) (premises_of s p) []) (on_some (finished n s p))))

-- the canonical tree at a limit on the uses of gamma, whose root has the number n; none where a branch has more than `left`
-- nodes
unfoldable pub built : ℕ → ℕ → ℕ → Sequent → Traced (Option Proof)
built limit zero n s = just None
built limit (suc left) n s = entered (built limit left) n s (picked limit s.members)
