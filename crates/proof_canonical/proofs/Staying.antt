-- Where the raw numbers of a run stay in the range, those of the walk over its tree do.
use Rattle.std.proofs.Common.{◌≡◌, ℕ, true, ◌&&◌, List, [], ◌∷◌, ◌++◌, ◌∙◌, ap, Option, Some}
use Rattle.linear_term.specs.Range.{all_stay}
use Rattle.base_budget.specs.Runs.{raw_stay}
use Rattle.base_budget.specs.Trace.{Event, charge, raw, mark, step, next, note, enter}
use Rattle.clause_set.specs.declared.literal.Literal.{Literal}
use Rattle.formula.specs.Form.{Form}
use Rattle.base_limits.specs.Limits.{branch_limit}
use Rattle.proof_tree.specs.declared.node.Conclusion.{Conclusion}
use Rattle.proof_tree.specs.declared.run.Verdict.{Verdict}
use Rattle.proof_tree.specs.Proof.{Proof, given}
use Rattle.proof_tree.specs.Proves.{concluded, proof_walk, rule_of, start}
use Rattle.proof_tree.specs.Walk.{nodes_in, on_some, walked}
use Rattle.proof_tree.proofs.Walking.{gives_walked}
use Rattle.base_budget.specs.Trace.{Traced}
use Rattle.search.specs.Building.{built}
use Rattle.search.proofs.Retracing.{retraced}
use Rattle.solve_laws.proofs.Parts.{both_true}

pub stay_both : (xs ys : List Event) → raw_stay xs ≡ true → raw_stay ys ≡ true → raw_stay (xs ++ ys) ≡ true
stay_both [] ys h k = k
stay_both (charge n ∷ xs) ys h k = stay_both xs ys h k
stay_both (mark m ∷ xs) ys h k = stay_both xs ys h k
stay_both (raw ps ∷ xs) ys h k =
    let b = both_true (all_stay ps) (raw_stay xs) h in
    ap (λ z. z && raw_stay (xs ++ ys)) b.0 ∙ stay_both xs ys b.1 k

-- the walk over a tree that was built, where building it and what it concludes stay in the range
pub walk_stays : (f : Form) (n k : ℕ) (x : Proof) (c : Conclusion) → (built k branch_limit 0 (start f n)).value ≡ Some x → raw_stay (built k branch_limit 0 (start f n)).events ≡ true
    → raw_stay (concluded f n (rule_of x) c (given x)).events ≡ true → raw_stay (proof_walk f n x c).events ≡ true
unfolding next step
walk_stays f n k x c e tree end =
    let r = retraced k branch_limit 0 (start f n) x e in
    let then : List (List Literal) → Traced (Option Verdict) = (λ d. next (note (enter (nodes_in x))) (λ _. concluded f n (rule_of x) c d)) in
    let value : (walked 0 (start f n) x).value ≡ Some (given x) = gives_walked x 0 (start f n) r.gives in
    stay_both (walked 0 (start f n) x).events (on_some then (walked 0 (start f n) x).value).events (ap raw_stay r.events ∙ tree) (ap (λ o. raw_stay (on_some then o).events) value ∙ end)
