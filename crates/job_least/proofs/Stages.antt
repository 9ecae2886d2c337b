-- From what the code did to the row of the answer.
use Rattle.std.proofs.Common.{◌≡◌, ℕ, true, List, [], length, Result, Ok, Err, IfOk, refl, sym, ap, ◌∙◌, subst, codes}
use Rattle.linear_term.specs.Linear.{Linear, IsOver}
use Rattle.linear_term.specs.declared.range.Memory.{Memory}
use Rattle.linear_term.specs.declared.range.Place.{Place}
use Rattle.base_budget.specs.Trace.{At, Funds, Traced, at}
use Rattle.base_budget.specs.Work.{ChargedAt, Logged, Worked, marks_of}
use Rattle.base_budget.specs.declared.fault.ElimFault.{ElimFault}
use Rattle.base_budget.specs.declared.fault.ElimFault.TheVariants as fault
use Rattle.base_budget.specs.declared.fault.StepFault.{StepFault}
use Rattle.base_budget.specs.declared.fault.StepFault.TheVariants as step_fault
use Rattle.base_budget.specs.declared.log.ElimLog.{ElimLog}
use Rattle.clause_set.specs.declared.literal.Literal.{Literal}
use Rattle.formula.specs.Form.{IsFormOver, is_pure}
use Rattle.formula.specs.Tree.{form}
use Rattle.elim_laws.specs.Whole.{AreOver, eliminating}
use Rattle.form_typed.specs.Formula.{Expression}
use Rattle.pri_typing.specs.declared.problem.Problem.{Problem}
use Rattle.pri_typing.specs.Problems.{IsPure}
use Rattle.form_encoding.specs.Plain.{IsPlain, linear_of}
use Rattle.form_encoding.specs.Problems.{problem_root}
use Rattle.form_encoding.specs.Root.{names_from}
use Rattle.function_encoding.specs.declared.answer.Encoded.{Encoded}
use Rattle.optimiser.specs.Least.{Minimum}
use Rattle.job_least.proofs.Terms.{over_all}
use Rattle.optimiser.specs.Answers.{Minimises}
use Rattle.pri_problem.specs.Encoded.{AnswersEncoded, IsEncoded}
use Rattle.base_answers.specs.Answer.{Answer, answer_of, unknown_answer}
use Rattle.base_answers.specs.declared.output.Output.{Output}
use Rattle.job_least.specs.Objective.{IsObjective}
use Rattle.job_least.specs.Leasts.{AnswersLeast, AnswersObjective, AnswersWork, IsToldCut, constraint_of, gives, objective_of, overflow, stated, steps}

pub gave : {A : Type 0} (IsAnswer : A → Funds → Answer → Type 0) (work : Traced A) (old : Funds) (v : A) (stands : At) → ChargedAt work (at old []) (Ok v) stands → (r : Result Output Memory)
    → IfOk r (λ o. IsAnswer v stands.funds (answer_of o)) → IfOk r (λ o. AnswersWork IsAnswer work old (answer_of o))
gave IsAnswer work old v stands k (Ok o) h =
    let did = k.ok v refl in gives stands did.1.end (subst (λ z. IsAnswer z stands.funds (answer_of o)) did.0 h)
gave IsAnswer work old v stands k (Err m) h = tt

pub ran_out : {A : Type 0} (IsAnswer : A → Funds → Answer → Type 0) (work : Traced A) (old : Funds) (stands : At) → ChargedAt work (at old []) (Err step_fault.Steps) stands → (r : Result Output Memory)
    → IfOk r (λ o. answer_of o ≡ unknown_answer (codes "steps")) → IfOk r (λ o. AnswersWork IsAnswer work old (answer_of o))
ran_out IsAnswer work old stands k (Ok o) h = steps stands (k.steps refl).end h
ran_out IsAnswer work old stands k (Err m) h = tt

pub left : {A : Type 0} (IsAnswer : A → Funds → Answer → Type 0) (work : Traced A) (old : Funds) (p : Place) (stands : At) → ChargedAt work (at old []) (Err (step_fault.Overflow p)) stands → (r : Result Output Memory)
    → IfOk r (λ o. answer_of o ≡ unknown_answer (codes "overflow")) → IfOk r (λ o. AnswersWork IsAnswer work old (answer_of o))
left IsAnswer work old p stands k (Ok o) h = let out = k.overflow p refl in overflow out.numbers stands out.end h
left IsAnswer work old p stands k (Err m) h = tt

-- ---- a fault that is told

-- the search for the least value was cut
pub cut_minimum : (IsAnswer : Minimum → Funds → Answer → Type 0) (work : Traced Minimum) (old new : Funds) (f : ElimFault) → Minimises work old (Err f) new → (r : Result Output Memory)
    → IfOk r (λ o. IsToldCut f (answer_of o)) → IfOk r (λ o. AnswersWork IsAnswer work old (answer_of o))
cut_minimum IsAnswer work old new (fault.Steps log) k r h = ran_out IsAnswer work old (at new k.notes) k.charged r h
cut_minimum IsAnswer work old new (fault.Overflow log place) k r h = left IsAnswer work old place (at new k.notes) k.charged r h
cut_minimum IsAnswer work old new fault.Memory k (Ok o) h = absurd h
cut_minimum IsAnswer work old new fault.Memory k (Err m) h = tt

-- the elimination was cut
pub cut_elimination : (IsAnswer : List (List Literal) → Funds → Answer → Type 0) (work : Traced (List (List Literal))) (old new : Funds) (f : ElimFault) → Logged work old (Err f) new → (r : Result Output Memory)
    → IfOk r (λ o. IsToldCut f (answer_of o)) → IfOk r (λ o. AnswersWork IsAnswer work old (answer_of o))
cut_elimination IsAnswer work old new (fault.Steps log) k r h = ran_out IsAnswer work old (at new (marks_of log)) k r h
cut_elimination IsAnswer work old new (fault.Overflow log place) k r h = left IsAnswer work old place (at new (marks_of log)) k r h
cut_elimination IsAnswer work old new fault.Memory k (Ok o) h = absurd h
cut_elimination IsAnswer work old new fault.Memory k (Err m) h = tt

-- ---- the work of the code is that of the problem

-- the elimination of an encoded problem
work_is : (p : Problem) (e : Encoded) → IsEncoded p e → eliminating e.constants (form e.root) ≡ constraint_of p
work_is p e h = ap (λ f. eliminating e.constants f) h.root ∙ ap (λ n. eliminating n (problem_root p).value) h.constants

pub constraint_work : (p : Problem) (e : Encoded) → IsEncoded p e → (old start new : Funds) → old ≡ start → (r : Result (List (List Literal) × ElimLog) ElimFault)
    → Logged (eliminating e.constants (form e.root)) old r new → Logged (constraint_of p) start r new
constraint_work p e h old start new is r k = subst (λ f. Logged (constraint_of p) f r new) is (subst (λ w. Logged w old r new) (work_is p e h) k)

pub constraint_over : (p : Problem) (e : Encoded) (d : List (List Literal)) → IsEncoded p e → IsPure p
    → (is_pure (form e.root) ≡ true → IsFormOver e.constants (form e.root) → AreOver e.constants d) → AreOver (length p.existentials) d
constraint_over p e d h without over =
    subst (λ n. AreOver n d) h.constants (over (h.pure.1 without) (subst (λ n. IsFormOver n (form e.root)) (sym h.constants) h.over))

-- the term, over the names of an encoded problem
pub objective_work : (p : Problem) (e : Encoded) (x : Expression) (r : Result Linear StepFault) → IsEncoded p e → Worked (linear_of (names_from 0 e.constants) x) r → Worked (objective_of p x) r
objective_work p e x r h k = subst (λ n. Worked (linear_of (names_from 0 n) x) r) h.constants k

pub objective_over : (p : Problem) (x : Expression) (t : Linear) → IsPlain x → Worked (objective_of p x) (Ok t) → IsOver (length p.existentials) t
objective_over p x t plain k = subst (IsOver (length p.existentials)) (sym ((k.each (at (record { budget = 0; spent = 0 }) [])).ok t refl).0) (over_all (length p.existentials) x plain)

-- ---- the answer to the text of a term

pub stated_so : (text : List ℕ) (budget : ℕ) (p : Problem) (x : Expression) → IsObjective p text x → (r : Result Output Memory)
    → IfOk r (λ o. AnswersEncoded (AnswersLeast budget x) p (answer_of o)) → IfOk r (λ o. AnswersObjective text budget p (answer_of o))
stated_so text budget p x h (Ok o) k = stated x h k
stated_so text budget p x h (Err m) k = tt
