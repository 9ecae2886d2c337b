-- Which proofs prove: the tree gives its constraint, and the conclusion follows from that.
use Rattle.std.specs.Prelude.{◌≡◌, ℕ, suc, ◌≤◌, ℤ, Bool, true, false, cond, ◌&&◌, nat_eq, List, [], ◌∷◌, length, Option, Some, None}
use Rattle.std.specs.List.{list_all}
use Rattle.linear_term.specs.Range.{is_in_range}
use Rattle.base_budget.specs.declared.log.Entry.{Entry}
use Rattle.base_budget.specs.Runs.{total, raw_stay}
use Rattle.base_budget.specs.Trace.{Traced, just, next, note, enter, each}
use Rattle.clause_set.specs.declared.literal.Literal.{Literal}
use Rattle.clause_set.specs.Dnfs.{tidied, top}
use Rattle.formula.specs.Form.{Form, is_pure}
use Rattle.elim_laws.specs.Logs.{by_whole_log, names_by_log}
use Rattle.sequent.specs.declared.member.Pick.{Pick}
use Rattle.sequent.specs.declared.member.Pick.TheVariants as pick
use Rattle.sequent.specs.Sequent.{Sequent, member, sequent}
use Rattle.solve_laws.specs.Solutions.{valued_clause}
use Rattle.proof_tree.specs.declared.node.Conclusion.{Conclusion}
use Rattle.proof_tree.specs.declared.node.Conclusion.TheVariants.{Solution, Nothing}
use Rattle.proof_tree.specs.declared.run.Verdict.{Verdict}
use Rattle.proof_tree.specs.declared.run.Verdict.TheVariants.{Valid, Invalid}
use Rattle.proof_tree.specs.Gives.{Gives}
use Rattle.proof_tree.specs.Proof.{Proof, node, given}
use Rattle.proof_tree.specs.Walk.{is_same, nodes_in, on_some, walked}

-- the values of the names from j on, put into d one after another
abbrev pub values_put : ℕ → List ℤ → List (List Literal) → Traced (List (List Literal))
values_put j [] d = just d
values_put j (v ∷ vs) d = next (each (valued_clause j v) d []) (λ cs. values_put (suc j) vs (tidied cs))

-- the verdict, where b
abbrev pub verdict_if : Bool → Verdict → Option Verdict
verdict_if true v = Some v
verdict_if false v = None

-- a tree whose root is closed at once, or trivial: no rule that forgets anything stands above the leaf
abbrev pub is_root_rule : Pick → Bool
is_root_rule (pick.Trivial i) = true
is_root_rule pick.Close = true
is_root_rule _ = false

-- what follows from the constraint d of a formula f over n names, whose root takes the rule p: n values in the range that
-- make it true, or a log that takes all names out and leaves false
abbrev pub concluded : Form → ℕ → Pick → Conclusion → List (List Literal) → Traced (Option Verdict)
concluded f n p (Solution vs) d = cond (nat_eq (length vs) n && list_all is_in_range vs) (next (values_put 0 vs d) (λ r. just (verdict_if (is_same r top) (Valid vs)))) (just None)
concluded f n p (Nothing log) d =
    cond (is_pure f && is_root_rule p) (next (by_whole_log (names_by_log n d) log.entries) (on_some (λ r. just (verdict_if (is_same r []) Invalid)))) (just None)

abbrev pub rule_of : Proof → Pick
rule_of (node p ns log d) = p

-- the sequent of the formula f over n names
abbrev pub start : Form → ℕ → Sequent
start f n = sequent (member f n 0 ∷ []) n

-- the walk over a proof: its tree, and then the conclusion, which has the number after the last node
abbrev pub proof_walk : Form → ℕ → Proof → Conclusion → Traced (Option Verdict)
proof_walk f n x c = next (walked 0 (start f n) x) (on_some (λ d. next (note (enter (nodes_in x))) (λ _. concluded f n (rule_of x) c d)))

-- the tree and the conclusion prove v of the formula f over n names: the tree gives its constraint, v follows from that, the
-- walk charges no more than these charges, and no number that it computes leaves the range
pub record Proves (f : Form) (n : ℕ) (x : Proof) (c : Conclusion) (charges : ℕ) (v : Verdict) : Type 0 where
  pub tree : Gives (start f n) x
  pub conclusion : (concluded f n (rule_of x) c (given x)).value ≡ Some v
  pub within : total (proof_walk f n x c).events ≤ charges
  pub stay : raw_stay (proof_walk f n x c).events ≡ true
