-- The canonical run for a formula without predicates and functions: one node, then the values of its constraint.
use Rattle.std.specs.Prelude.{ℕ, ℤ, List, [], Option, Some, None}
use Rattle.base_budget.specs.Trace.{Traced, just, next, note, pay, round, enter, back}
use Rattle.clause_set.specs.declared.literal.Literal.{Literal}
use Rattle.elim_laws.specs.Logs.{entries_of}
use Rattle.elim_laws.specs.Whole.{names_out}
use Rattle.formula.specs.Form.{Form}
use Rattle.sequent.specs.declared.member.Pick.{Pick}
use Rattle.sequent.specs.Rules.{picked}
use Rattle.sequent.specs.Sequent.{Sequent}
use Rattle.solve_laws.specs.Solutions.{solving}
use Rattle.proof_tree.specs.Proof.{Proof, node, no_proof}
use Rattle.proof_tree.specs.Proves.{start}
use Rattle.proof_tree.specs.Walk.{fee, in_new_log}
use Rattle.search.specs.Building.{canonical_constraint}
use Rattle.search.specs.Run.{RunAnswer, valid, invalid}

-- a node without premises that gives d
abbrev pub leaf : Sequent → Pick → List (List Literal) → Proof
leaf s p d = node p no_proof (entries_of (canonical_constraint s p []).events) d

-- what the solution of its constraint answers
abbrev pub answer_of : ℕ → Sequent → Pick → List (List Literal) → Option (List ℤ) → RunAnswer
answer_of n s p d (Some vs) = valid vs (leaf s p d)
answer_of n s p d None = invalid (entries_of (names_out n d).events) (leaf s p d)

-- the values of the constraint d
abbrev pub solved : ℕ → Sequent → Pick → List (List Literal) → Traced RunAnswer
solved n s p d = next (in_new_log (solving n d)) (λ a. just (answer_of n s p d a))

abbrev pub at_root : ℕ → Sequent → Pick → Traced RunAnswer
at_root n s p =
    next (note (enter 0)) (λ _. next (pay (fee s p)) (λ _. next (note (back 0)) (λ _. next (in_new_log (canonical_constraint s p [])) (solved n s p))))

-- the run on a pure formula over n names
abbrev pub pure_run : Form → ℕ → Traced RunAnswer
pure_run f n = next (note (round 0)) (λ _. at_root n (start f n) (picked 0 (start f n).members))
