-- The canonical run of the code, and the values that it finds.
use Rattle.std.proofs.Common.{◌≡◌, ◌∙◌, ℕ, ℤ, Bool, true, false, List, [], length, Option, None, Some, MatchOption, Result, Ok, Err, IfOk, refl, sym, ap, subst}
use Rattle.base_budget.specs.Ending.{Ending, ending, ends_with, out_of_steps, overflows}
use Rattle.base_budget.specs.Runs.{raw_stay}
use Rattle.base_budget.specs.Trace.{Funds, at}
use Rattle.form_encoding.specs.Problems.{is_large, problem_root}
use Rattle.formula.specs.Form.{Form}
use Rattle.formula.specs.Tree.{form}
use Rattle.function_encoding.specs.declared.answer.Encoded.{Encoded}
use Rattle.job_values.specs.Values.{AreFalseValues, EndsValid, IsDenied}
use Rattle.job_values.proofs.Denied.{same_denied}
use Rattle.model_runs.specs.Ends.{run_end}
use Rattle.linear_term.specs.declared.range.Memory.{Memory}
use Rattle.pri_problem.specs.Encoded.{Fits, IsEncoded, IsLarge, LeavesRange}
use Rattle.pri_problem.specs.Reads.{AreSame}
use Rattle.pri_problem.proofs.Encoded.{fits_same, root_same}
use Rattle.pri_typing.specs.declared.problem.Problem.{Problem}
use Rattle.proof_tree.specs.declared.run.Why.TheVariants as why
use Rattle.search.specs.Outcomes.{DecidesAs, EndsAs, bare}
use Rattle.search.specs.Run as run
use Rattle.search.specs.Run.{canonical_run}
use Rattle.search.specs.declared.judge.Decided.{Decided}
use Rattle.search.specs.declared.judge.Decided.TheVariants as decided
use Rattle.search.specs.declared.judge.Outcome.{Outcome}
use Rattle.search.specs.declared.judge.Outcome.TheVariants.{Valid, Invalid, Saturated, Unknown}

abbrev pub start : ℕ → Funds
start budget = record { budget = budget; spent = 0 }

-- the run of the code is that of the problem
run_is : (budget : ℕ) (p : Problem) (e : Encoded) → IsEncoded p e → ending (canonical_run (form e.root) e.constants budget) (at (start budget) []) ≡ run_end budget p
run_is budget p e h =
    let from : Form → ℕ → Ending run.RunAnswer = λ f n. ending (canonical_run f n budget) (at (start budget) []) in
    ap (λ f. from f e.constants) h.root ∙ ap (from (problem_root p).value) h.constants

-- what a decision says of the values
abbrev pub TellsValues : ℕ → Problem → Decided → Type 0
TellsValues budget p (decided.Valid d vs) = EndsValid budget p vs
TellsValues budget p (decided.Invalid d) = (vs : List ℤ) → ¬ (EndsValid budget p vs)
TellsValues budget p (decided.Saturated d) = (vs : List ℤ) → ¬ (EndsValid budget p vs)
TellsValues budget p (decided.Unknown y r) = (vs : List ℤ) → ¬ (EndsValid budget p vs)

outcome_tells : (budget : ℕ) (p : Problem) (e : Encoded) → IsEncoded p e → (o : Outcome) (new : Funds) → EndsAs (form e.root) e.constants (start budget) (Ok o) new → TellsValues budget p (bare o)
outcome_tells budget p e h (Valid d vs t) new k = record { tree = k.1; stands = at new k.0; ends = sym (run_is budget p e h) ∙ k.2 }
outcome_tells budget p e h (Invalid d t) new k = λ vs g. let bad : ends_with (run.valid vs g.tree) g.stands ≡ ends_with (run.invalid (k.1).entries k.2) (at new k.0) = sym g.ends ∙ sym (run_is budget p e h) ∙ k.3 in absurd cc
outcome_tells budget p e h (Saturated d t) new k = λ vs g. let bad : ends_with (run.valid vs g.tree) g.stands ≡ ends_with (run.saturated (k.1).entries k.2) (at new k.0) = sym g.ends ∙ sym (run_is budget p e h) ∙ k.3 in absurd cc
outcome_tells budget p e h (Unknown why.Branch r) new k = λ vs g. let bad : ends_with (run.valid vs g.tree) g.stands ≡ ends_with run.too_long (at new k.0) = sym g.ends ∙ sym (run_is budget p e h) ∙ k.1 in absurd cc
outcome_tells budget p e h (Unknown why.Steps r) new k = λ vs g. let bad : ends_with (run.valid vs g.tree) g.stands ≡ out_of_steps (at new k.0) = sym g.ends ∙ sym (run_is budget p e h) ∙ k.1 in absurd cc
outcome_tells budget p e h (Unknown (why.Overflow place) r) new k = λ vs g. let bad : ends_with (run.valid vs g.tree) g.stands ≡ overflows k.1 (at new k.0) = sym g.ends ∙ sym (run_is budget p e h) ∙ k.2 in absurd cc

pub decision_tells : (budget : ℕ) (p : Problem) (e : Encoded) → IsEncoded p e → (mid new : Funds) (d q : Decided) → mid ≡ start budget → DecidesAs (form e.root) e.constants mid (Ok d) new → d ≡ q → TellsValues budget p q
decision_tells budget p e h mid new d q from k is = subst (TellsValues budget p) is (by (subst (λ g. DecidesAs (form e.root) e.constants g (Ok d) new) from k))
  where
    by : DecidesAs (form e.root) e.constants (start budget) (Ok d) new → TellsValues budget p d
    by (Ok o, k, e') = let same : d ≡ bare o = cc in subst (TellsValues budget p) (sym same) (outcome_tells budget p e h o new k)
    by (Err m, k, e') = absurd cc

-- the run is that of any negation
same_end : (budget : ℕ) (q r : Problem) → AreSame q r → run_end budget q ≡ run_end budget r
same_end budget q r same =
    let from : Form → ℕ → Ending run.RunAnswer = λ f n. ending (canonical_run f n budget) (at (start budget) []) in
    ap (λ t. from t.value (length q.existentials)) (root_same q r same) ∙ ap (λ names. from (problem_root r).value (length names)) same.existentials

pub never_here : (budget : ℕ) (p q : Problem) (vs : List ℤ) → IsDenied p q → (Fits q → ¬ (EndsValid budget q vs)) → ¬ (AreFalseValues budget p vs)
never_here budget p q vs h never k =
    let same = same_denied p k.other q k.is h in
    never (fits_same k.other q same k.fits) (record { tree = k.found.tree; stands = k.found.stands; ends = sym (same_end budget k.other q same) ∙ k.found.ends })

not_both : (b : Bool) → b ≡ true → b ≡ false → ⊥
not_both true h k = cc
not_both false h k = cc

-- a problem without an encoding does not fit
pub large_unfit : (p : Problem) → IsLarge p → ¬ (Fits p)
large_unfit p large fits = not_both (is_large (problem_root p).value) large fits.0

pub ranged_unfit : (p : Problem) → LeavesRange p → ¬ (Fits p)
ranged_unfit p leaves fits = not_both (raw_stay (problem_root p).events) fits.1 leaves.1

-- what is found of an encoded problem, and of one without an encoding
pub encoded_found : (budget : ℕ) (p : Problem) → Fits p → (r : Result (Option (List ℤ)) Memory) → IfOk r (λ found. MatchOption found ((vs : List ℤ) → ¬ (EndsValid budget p vs)) (EndsValid budget p))
    → IfOk r (λ found. MatchOption found ((vs : List ℤ) → Fits p → ¬ (EndsValid budget p vs)) (λ vs. Fits p × EndsValid budget p vs))
encoded_found budget p fits (Ok (Some vs)) h = (fits, h)
encoded_found budget p fits (Ok None) h = λ vs _. h vs
encoded_found budget p fits (Err m) h = tt

pub unencoded_found : (budget : ℕ) (p : Problem) (r : Result (Option (List ℤ)) Memory) → IfOk r (λ found. (found ≡ None) × ¬ (Fits p))
    → IfOk r (λ found. MatchOption found ((vs : List ℤ) → Fits p → ¬ (EndsValid budget p vs)) (λ vs. Fits p × EndsValid budget p vs))
unencoded_found budget p (Ok (Some vs)) h = absurd cc
unencoded_found budget p (Ok None) h = λ vs fits. absurd (h.1 fits)
unencoded_found budget p (Err m) h = tt

-- what is found of the negation
pub negation_found : (budget : ℕ) (p q : Problem) → IsDenied p q → (r : Result (Option (List ℤ)) Memory) → IfOk r (λ found. MatchOption found ((vs : List ℤ) → Fits q → ¬ (EndsValid budget q vs)) (λ vs. Fits q × EndsValid budget q vs))
    → IfOk r (λ found. MatchOption found ((vs : List ℤ) → ¬ (AreFalseValues budget p vs)) (AreFalseValues budget p))
negation_found budget p q is (Ok (Some vs)) h = record { other = q; is = is; fits = h.0; found = h.1 }
negation_found budget p q is (Ok None) h = λ vs. never_here budget p q vs is (h vs)
negation_found budget p q is (Err m) h = tt
