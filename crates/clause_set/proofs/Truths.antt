-- The answers of charged operations on disjunctions are true where the definitions of their work say so.
use Rattle.std.proofs.Common.{◌≡◌, ℤ, Bool, not, ◌&&◌, ◌||◌, List, Result, Ok, Err, IfOk, ◌∙◌, ap}
use Rattle.base_budget.specs.declared.fault.StepFault.{StepFault}
use Rattle.base_budget.specs.Trace.{At, Traced, just, step, next}
use Rattle.base_budget.specs.Work.{ChargedAt}
use Rattle.base_budget.proofs.Charging.{charged_value}
use Rattle.clause_set.specs.declared.literal.Literal.{Literal}
use Rattle.clause_set.specs.Literals.{AreLiterals, dnf_truth}
use Rattle.clause_set.specs.Dnfs.{conjunction, disjunction, negation, tidied, tidying}
use Rattle.clause_set.proofs.Covers.{tidied-truth}
use Rattle.clause_set.proofs.Operations.{and-truth, or-truth}
use Rattle.clause_set.proofs.Reduced.{negation-truth}

-- where the work's value is true, there is what the call answers
answer-truth : (m : Traced (List (List Literal))) (f : List ℤ → Bool) {a b : At} (r : Result (List (List Literal)) StepFault) → ((e : List ℤ) → dnf_truth m.value e ≡ f e)
    → ChargedAt m a r b → IfOk r (λ d. (e : List ℤ) → dnf_truth d e ≡ f e)
answer-truth m f (Ok v) k h = λ e. ap (λ d. dnf_truth d e) (charged_value h) ∙ k e
answer-truth m f (Err x) k h = tt

pub and-answer : (a b : List (List Literal)) (r : Result (List (List Literal)) StepFault) {old new : At} → AreLiterals a → AreLiterals b
    → ChargedAt (conjunction a b) old r new → IfOk r (λ d. (e : List ℤ) → dnf_truth d e ≡ (dnf_truth a e && dnf_truth b e))
and-answer a b r h k c = answer-truth (conjunction a b) (λ e. dnf_truth a e && dnf_truth b e) r (λ e. and-truth a b e h k) c

pub not-answer : (a : List (List Literal)) (r : Result (List (List Literal)) StepFault) {old new : At} → AreLiterals a
    → ChargedAt (negation a) old r new → IfOk r (λ d. (e : List ℤ) → dnf_truth d e ≡ not (dnf_truth a e))
not-answer a r h c = answer-truth (negation a) (λ e. not (dnf_truth a e)) r (λ e. negation-truth a e h) c

pub tidy-answer : (cs d : List (List Literal)) (e : List ℤ) → d ≡ tidied cs → dnf_truth d e ≡ dnf_truth cs e
tidy-answer cs d e is = ap (λ z. dnf_truth z e) is ∙ tidied-truth cs e

pub or-answer : (a b : List (List Literal)) (r : Result (List (List Literal)) StepFault) {old new : At}
    → ChargedAt (disjunction a b) old r new → IfOk r (λ d. (e : List ℤ) → dnf_truth d e ≡ (dnf_truth a e || dnf_truth b e))
or-answer a b r c = answer-truth (disjunction a b) (λ e. dnf_truth a e || dnf_truth b e) r (or-truth a b) c

tidying-truth : (cs : List (List Literal)) (e : List ℤ) → dnf_truth (tidying cs).value e ≡ dnf_truth cs e
unfolding next just step
tidying-truth cs e = tidied-truth cs e

pub tidying-answer : (cs : List (List Literal)) (r : Result (List (List Literal)) StepFault) {old new : At}
    → ChargedAt (tidying cs) old r new → IfOk r (λ d. (e : List ℤ) → dnf_truth d e ≡ dnf_truth cs e)
tidying-answer cs r c = answer-truth (tidying cs) (λ e. dnf_truth cs e) r (tidying-truth cs) c

pub ruleset answers = (and-answer, not-answer, tidy-answer, tidying-answer, or-answer)
