-- What the elimination of the code is for the problem.
use Rattle.std.proofs.Common.{codes, Result, IfOk, ◌≡◌, ℕ, List, [], length, Ok, Err, refl, sym, ◌∙◌, ap}
use Rattle.linear_term.specs.declared.range.Place.{Place}
use Rattle.base_budget.specs.Trace.{Traced, Funds, At, at}
use Rattle.base_budget.specs.Work.{Logged, marks_of}
use Rattle.base_budget.specs.declared.fault.ElimFault.TheVariants as fault
use Rattle.base_budget.specs.declared.log.ElimLog.{ElimLog}
use Rattle.clause_set.specs.declared.literal.Literal.{Literal}
use Rattle.formula.specs.Tree.{form}
use Rattle.elim_laws.specs.Whole.{eliminating}
use Rattle.base_budget.specs.Ending.{Ending, ending, ended, ends_with, out_of_steps, overflows}
use Rattle.form_encoding.specs.Problems.{problem_root}
use Rattle.function_encoding.specs.declared.answer.Encoded.{Encoded}
use Rattle.pri_typing.specs.declared.problem.Problem.{Problem}
use Rattle.pri_problem.specs.Encoded.{IsEncoded}
use Rattle.linear_term.specs.declared.range.Memory.{Memory}
use Rattle.base_answers.specs.Answer.{answer_of, unknown_answer}
use Rattle.base_answers.specs.declared.output.Output.{Output}
use Rattle.job_elim.specs.Eliminated.{AnswersElimEnd, steps, overflow, elimination_end}

-- ---- the elimination of the code is that of the problem

abbrev start : ℕ → Funds
start budget = record { budget = budget; spent = 0 }

-- the elimination of an encoded problem
abbrev pub work_of : Encoded → Traced (List (List Literal))
work_of e = eliminating e.constants (form e.root)

work_is : (p : Problem) (e : Encoded) → IsEncoded p e → work_of e ≡ eliminating (length p.existentials) (problem_root p).value
work_is p e h = ap (λ f. eliminating e.constants f) h.root ∙ ap (λ n. eliminating n (problem_root p).value) h.constants

end_from : (budget : ℕ) (p : Problem) (e : Encoded) → IsEncoded p e → (old : Funds) → old ≡ start budget → ending (work_of e) (at old []) ≡ elimination_end budget p
end_from budget p e h old from = ap (λ f. ending (work_of e) (at f [])) from ∙ ap (λ w. ending w (at (start budget) [])) (work_is p e h)

pub made_value : (budget : ℕ) (p : Problem) (e : Encoded) → IsEncoded p e → (d : List (List Literal)) (log : ElimLog) (old new : Funds) → old ≡ start budget → Logged (work_of e) old (Ok (d, log)) new
    → d ≡ (eliminating (length p.existentials) (problem_root p).value).value
made_value budget p e h d log old new from k = (k.ok d refl).0 ∙ ap (λ w. w.value) (work_is p e h)

pub ends_made : (budget : ℕ) (p : Problem) (e : Encoded) → IsEncoded p e → (d : List (List Literal)) (log : ElimLog) (old new : Funds) → old ≡ start budget → Logged (work_of e) old (Ok (d, log)) new
    → elimination_end budget p ≡ ends_with d (at new (marks_of log))
ends_made budget p e h d log old new from k =
    sym (end_from budget p e h old from) ∙ ap (ended (work_of e).value) (k.ok d refl).1.end ∙ ap (λ v. ends_with v (at new (marks_of log))) (sym (k.ok d refl).0)

pub ends_out_of_steps : (budget : ℕ) (p : Problem) (e : Encoded) → IsEncoded p e → (log : ElimLog) (old new : Funds) → old ≡ start budget → Logged (work_of e) old (Err (fault.Steps log)) new
    → elimination_end budget p ≡ out_of_steps (at new (marks_of log))
ends_out_of_steps budget p e h log old new from k = sym (end_from budget p e h old from) ∙ ap (ended (work_of e).value) (k.steps refl).end

pub ends_out_of_range : (budget : ℕ) (p : Problem) (e : Encoded) → IsEncoded p e → (log : ElimLog) (place : Place) (old new : Funds) → old ≡ start budget → Logged (work_of e) old (Err (fault.Overflow log place)) new
    → (numbers : List Place) × (elimination_end budget p ≡ overflows numbers (at new (marks_of log)))
ends_out_of_range budget p e h log place old new from k = let out = k.overflow place refl in (out.numbers, sym (end_from budget p e h old from) ∙ ap (ended (work_of e).value) out.end)

-- ---- what is told of an elimination that was cut

pub steps_so : (p : Problem) (end : Ending (List (List Literal))) (stands : At) → end ≡ out_of_steps stands → (r : Result Output Memory) → IfOk r (λ o. answer_of o ≡ unknown_answer (codes "steps"))
    → IfOk r (λ o. AnswersElimEnd p end (answer_of o))
steps_so p end stands is (Ok o) k = steps stands is k
steps_so p end stands is (Err m) k = tt

pub overflow_so : (p : Problem) (end : Ending (List (List Literal))) (stands : At) → (numbers : List Place) × (end ≡ overflows numbers stands) → (r : Result Output Memory)
    → IfOk r (λ o. answer_of o ≡ unknown_answer (codes "overflow")) → IfOk r (λ o. AnswersElimEnd p end (answer_of o))
overflow_so p end stands is (Ok o) k = overflow is.0 stands is.1 k
overflow_so p end stands is (Err m) k = tt
