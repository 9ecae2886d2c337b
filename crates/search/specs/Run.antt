-- The canonical run: rounds with a rising limit on the uses of gamma, and how it ends.
use Rattle.std.specs.Prelude.{◌≡◌, ℕ, zero, suc, ◌<◌, ◌≤◌, ℤ, Bool, false, cond, ◌||◌, List, [], ◌∷◌, Option, Some, None}
use Rattle.std.specs.List.{list_any}
use Rattle.base_budget.specs.declared.log.Entry.{Entry}
use Rattle.base_budget.specs.Ending.{ending}
use Rattle.base_budget.specs.Trace.{Funds, round, at, Traced, just, next, note}
use Rattle.formula.specs.Form.{Form, is_pure}
use Rattle.elim_laws.specs.Logs.{entries_of}
use Rattle.elim_laws.specs.Whole.{names_out}
use Rattle.sequent.specs.Leaf.{is_open}
use Rattle.sequent.specs.Rules.{premises_of}
use Rattle.sequent.specs.Sequent.{Sequent}
use Rattle.solve_laws.specs.Solutions.{solving}
use Rattle.base_limits.specs.Limits.{branch_limit}
use Rattle.proof_tree.specs.Proof.{Proof, Proofs, node, no_proof, and_proof, given}
use Rattle.proof_tree.specs.Proves.{start}
use Rattle.proof_tree.specs.Walk.{in_new_log}
use Rattle.search.specs.Building.{built}

-- what a run that is not cut answers: values that satisfy the constraint of a tree; the log that takes all names out of it,
-- where nothing does, of a pure formula or of another one; or that a branch is too long
pub data RunAnswer : Type 0 where
  valid : List ℤ → Proof → RunAnswer
  invalid : List Entry → Proof → RunAnswer
  saturated : List Entry → Proof → RunAnswer
  too_long : RunAnswer

abbrev mutual
  -- some leaf of the tree has a member "some" with an application, on which gamma could be used once more
  pub has_open_leaf : Sequent → Proof → Bool
  has_open_leaf s (node p no_proof log d) = list_any (λ m. is_open m.formula) s.members
  has_open_leaf s (node p (and_proof x xs) log d) = have_open_leaf (premises_of s p) (and_proof x xs)

  pub have_open_leaf : List Sequent → Proofs → Bool
  have_open_leaf [] xs = false
  have_open_leaf (s ∷ ss) no_proof = false
  have_open_leaf (s ∷ ss) (and_proof x xs) = has_open_leaf s x || have_open_leaf ss xs

-- what the solution of the constraint of a round's tree answers; none where a further round is to come
abbrev pub concluded : Form → ℕ → Proof → Option (List ℤ) → Option RunAnswer
concluded f n x (Some vs) = Some (valid vs x)
concluded f n x None =
    cond (is_pure f) (Some (invalid (entries_of (names_out n (given x)).events) x))
    (cond (has_open_leaf (start f n) x) None (Some (saturated (entries_of (names_out n (given x)).events) x)))

abbrev pub judged : Form → ℕ → Option Proof → Traced (Option RunAnswer)
judged f n None = just (Some too_long)
judged f n (Some x) = next (in_new_log (solving n (given x))) (λ a. just (concluded f n x a))

-- the round with the limit k for a formula over n names, and what it answers
abbrev pub one_round : Form → ℕ → ℕ → Traced (Option RunAnswer)
one_round f n k = next (note (round k)) (λ _. next (built k branch_limit 0 (start f n)) (judged f n))

-- the answer, or else the further work
abbrev pub or_further : {A : Type 0} → Traced A → Option A → Traced A
or_further further (Some a) = just a
or_further further None = further

-- at most m rounds, the first with the limit k
abbrev pub rounds : Form → ℕ → ℕ → ℕ → Traced RunAnswer
rounds f n zero k = just too_long
rounds f n (suc m) k = next (one_round f n k) (or_further (rounds f n m (suc k)))

-- the canonical run with this budget: one round more than it can pay for
unfoldable pub canonical_run : Form → ℕ → ℕ → Traced RunAnswer
canonical_run f n budget = rounds f n (suc budget) 0

-- the end of the canonical run is that of any number of rounds above the budget
abbrev pub OneEnd : Type 0
OneEnd = (f : Form) (n : ℕ) (g : Funds) (m : ℕ) → g.spent ≤ g.budget → g.budget < m → ending (rounds f n m 0) (at g []) ≡ ending (canonical_run f n g.budget) (at g [])
