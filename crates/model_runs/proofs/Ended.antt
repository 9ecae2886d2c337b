-- A run that ends saturated has an open tree whose constraint is false everywhere, with few levels.
use Rattle.std.proofs.Common.{◌≡◌, ℕ, zero, suc, ℤ, Bool, true, false, cond, List, [], Option, Some, None, refl, subst}
use Rattle.base_budget.specs.Trace.{Funds, At, at, End, done, refused, out_of_range, cut, Traced, just, step, next}
use Rattle.base_budget.specs.declared.log.Entry.{Entry}
use Rattle.elim_laws.specs.Logs.{entries_of}
use Rattle.elim_laws.specs.Whole.{names_out}
use Rattle.formula.specs.Form.{Form, IsFormOver, is_pure}
use Rattle.formula.specs.Reduced.{HasReducedTerms}
use Rattle.sequent.proofs.Forming.{start_formed}
use Rattle.solve_laws.specs.Solutions.{IsGiven, solving}
use Rattle.solve_laws.proofs.Solving.{solving-none}
use Rattle.base_limits.specs.Limits.{branch_limit}
use Rattle.proof_tree.specs.Proof.{Proof, given}
use Rattle.proof_tree.specs.Proves.{start}
use Rattle.search.specs.Building.{built}
use Rattle.base_budget.specs.Ending.{ended, ending, ends_with}
use Rattle.search.specs.Run.{RunAnswer, valid, invalid, saturated, too_long, canonical_run, concluded, has_open_leaf, judged, one_round, or_further, rounds}
use Rattle.search.proofs.Given.{built-given}
use Rattle.search.proofs.Retracing.{retraced}
use Rattle.model_trees.specs.Levels.{IsWithinLevels}
use Rattle.model_trees.specs.Open.{IsSaturatedTree}
use Rattle.model_runs.proofs.Levels.{built_levels}
use Rattle.model_runs.proofs.Picked.{built_open}

-- what is said of an answer, and of a round
abbrev Says : Form → ℕ → RunAnswer → Type 0
Says f n (valid vs x) = Unit {0}
Says f n (invalid log x) = Unit {0}
Says f n (saturated log x) = IsSaturatedTree f n x × IsWithinLevels branch_limit x
Says f n too_long = Unit {0}

abbrev RoundSays : Form → ℕ → Option RunAnswer → Type 0
RoundSays f n None = Unit {0}
RoundSays f n (Some a) = Says f n a

concluded_says : (f : Form) (n k : ℕ) (x : Proof) → IsFormOver n f → HasReducedTerms f → (built k branch_limit 0 (start f n)).value ≡ Some x → (a : Option (List ℤ)) → (solving n (given x)).value ≡ a → RoundSays f n (concluded f n x a)
concluded_says f n k x over red e (Some vs) is = tt
concluded_says f n k x over red e None is = by (is_pure f) (has_open_leaf (start f n) x) refl refl
  where
    by : (b o : Bool) → is_pure f ≡ b → has_open_leaf (start f n) x ≡ o
        → RoundSays f n (cond b (Some (invalid (entries_of (names_out n (given x)).events) x)) (cond o None (Some (saturated (entries_of (names_out n (given x)).events) x))))
    by true o p q = tt
    by false true p q = tt
    by false false p q =
        let g = (retraced k branch_limit 0 (start f n) x e).gives in
        let i : IsGiven n (given x) = built-given k branch_limit 0 (start f n) x (start_formed f n over) (red, tt) e in
        let sat : IsSaturatedTree f n x = record { tree = record { gives = g; is = built_open k branch_limit 0 (start f n) x e q }; application = p; nowhere = λ u len. (solving-none n (given x) i).0 is u len } in
        (sat, built_levels k branch_limit 0 (start f n) x e)

judged_says : (f : Form) (n k : ℕ) → IsFormOver n f → HasReducedTerms f → (o : Option Proof) → (built k branch_limit 0 (start f n)).value ≡ o → RoundSays f n (judged f n o).value
unfolding next just step
judged_says f n k over red None e = tt
judged_says f n k over red (Some x) e = concluded_says f n k x over red e (solving n (given x)).value refl

round_says : (f : Form) (n k : ℕ) → IsFormOver n f → HasReducedTerms f → RoundSays f n (one_round f n k).value
unfolding next just step
round_says f n k over red = judged_says f n k over red (built k branch_limit 0 (start f n)).value refl

further_says : (f : Form) (n : ℕ) (further : Traced RunAnswer) (o : Option RunAnswer) → RoundSays f n o → Says f n further.value → Says f n (or_further further o).value
unfolding just
further_says f n further (Some a) h k = h
further_says f n further None h k = k

rounds_say : (f : Form) (n m k : ℕ) → IsFormOver n f → HasReducedTerms f → Says f n (rounds f n m k).value
unfolding next just
rounds_say f n zero k over red = tt
rounds_say f n (suc m) k over red = further_says f n (rounds f n m (suc k)) (one_round f n k).value (round_says f n k over red) (rounds_say f n m (suc k) over red)

run_says : (f : Form) (n budget : ℕ) → IsFormOver n f → HasReducedTerms f → Says f n (canonical_run f n budget).value
unfolding canonical_run
run_says f n budget over red = rounds_say f n (suc budget) 0 over red

ended_value : {A : Type 0} (v a : A) (e : End) (b : At) → ended v e ≡ ends_with a b → v ≡ a
ended_value v a (done c) b h = cc
ended_value v a (refused c) b h = absurd (cc)
ended_value v a (out_of_range ps c) b h = absurd (cc)

-- what is so of the tree of a run that ends saturated
pub saturated_says : (f : Form) (n : ℕ) (g : Funds) (log : List Entry) (x : Proof) (b : At) → IsFormOver n f → HasReducedTerms f → ending (canonical_run f n g.budget) (at g []) ≡ ends_with (saturated log x) b → IsSaturatedTree f n x × IsWithinLevels branch_limit x
saturated_says f n g log x b over red h =
    subst (Says f n) (ended_value (canonical_run f n g.budget).value (saturated log x) (cut (canonical_run f n g.budget).events (at g [])) b h) (run_says f n g.budget over red)
