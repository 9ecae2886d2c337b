-- A file has at most one answer of `elim`, and it has a status of answers.
use Rattle.std.proofs.Common.{◌≡◌, ℕ, List, [], length, None, refl, sym, ◌∙◌, ap, subst, codes}
use Rattle.base_budget.specs.Trace.{at}
use Rattle.clause_set.specs.declared.literal.Literal.{Literal}
use Rattle.formula.specs.Form.{Form}
use Rattle.elim_laws.specs.Whole.{eliminating}
use Rattle.base_budget.specs.Ending.{Ending, ending, ends_with, out_of_steps, overflows}
use Rattle.pri_typing.specs.declared.problem.Problem.{Problem}
use Rattle.pri_printer.specs.Printed.{dnf_text}
use Rattle.form_encoding.specs.Problems.{problem_root}
use Rattle.base_answers.specs.Answer.{Answer, unknown_answer, IsAnswerStatus}
use Rattle.pri_lines.proofs.Printed.{text_same}
use Rattle.pri_problem.specs.Reads.{AreSame}
use Rattle.pri_problem.specs.Answers.{Poses, refused, posed}
use Rattle.pri_problem.specs.Encoded.{AnswersEncoded, AnswersPure, Fits, impure, pure, large, leaves, runs}
use Rattle.pri_problem.proofs.Answering.{one_of_file, posed_answered}
use Rattle.pri_problem.proofs.Encoded.{fitting_answered, one_of_encoded, one_of_pure, pure_answered, root_same, same_encoded, same_pure}
use Rattle.job_elim.specs.Eliminated.{AnswersElimEnd, made, steps, overflow, made_answer, elimination_end, AnswersElimination, IsEliminated}

-- the answer to each end
abbrev pub end_answer : Problem → Ending (List (List Literal)) → Answer
end_answer p (ends_with d stands) = made_answer (dnf_text p d)
end_answer p (out_of_steps stands) = unknown_answer (codes "steps")
end_answer p (overflows numbers stands) = unknown_answer (codes "overflow")

-- an answer is that of the end
pub by_end : (p : Problem) (end : Ending (List (List Literal))) (a : Answer) → AnswersElimEnd p end a → a ≡ end_answer p end
by_end p end a (made d stands x is printed e) = e ∙ ap made_answer printed.text ∙ sym (ap (end_answer p) is)
by_end p end a (steps stands is e) = e ∙ sym (ap (end_answer p) is)
by_end p end a (overflow numbers stands is e) = e ∙ sym (ap (end_answer p) is)

one_of_end : (p : Problem) (end : Ending (List (List Literal))) (a b : Answer) → AnswersElimEnd p end a → AnswersElimEnd p end b → a ≡ b
one_of_end p end a b h k = by_end p end a h ∙ sym (by_end p end b k)

same_end : (p q : Problem) (end : Ending (List (List Literal))) (a : Answer) → AreSame p q → AnswersElimEnd p end a → AnswersElimEnd q end a
same_end p q end a same (made d stands x is printed e) = made d stands x is (text_same p q d x same printed) e
same_end p q end a same (steps stands is e) = steps stands is e
same_end p q end a same (overflow numbers stands is e) = overflow numbers stands is e

elimination_end_same : (budget : ℕ) (p q : Problem) → AreSame p q → elimination_end budget p ≡ elimination_end budget q
elimination_end_same budget p q same =
    let from : Form → ℕ → Ending (List (List Literal)) = λ f n. ending (eliminating n f) (at (record { budget = budget; spent = 0 }) []) in
    ap (λ w. from w.value (length p.existentials)) (root_same p q same) ∙ ap (λ names. from (problem_root q).value (length names)) same.existentials

same_elimination : (budget : ℕ) (p q : Problem) (a : Answer) → AreSame p q → AnswersElimination budget p a → AnswersElimination budget q a
same_elimination budget p q a same h = subst (λ end. AnswersElimEnd q end a) (elimination_end_same budget p q same) (same_end p q (elimination_end budget p) a same h)

one_elimination : (budget : ℕ) (p : Problem) (a b : Answer) → AnswersElimination budget p a → AnswersElimination budget p b → a ≡ b
one_elimination budget p = one_of_end p (elimination_end budget p)

same_problem : (budget : ℕ) (p q : Problem) (a : Answer) → AreSame p q → AnswersPure (AnswersEncoded (AnswersElimination budget)) p a → AnswersPure (AnswersEncoded (AnswersElimination budget)) q a
same_problem budget = same_pure (AnswersEncoded (AnswersElimination budget)) (same_encoded (AnswersElimination budget) (same_elimination budget))

pub one_answer : (budget : ℕ) (bytes : List ℕ) (a b : Answer) → IsEliminated budget bytes a → IsEliminated budget bytes b → a ≡ b
one_answer budget = one_of_file (AnswersPure (AnswersEncoded (AnswersElimination budget))) (same_problem budget)
    (one_of_pure (AnswersEncoded (AnswersElimination budget)) (one_of_encoded (AnswersElimination budget) (one_elimination budget)))

-- the answer to the bytes of a problem without applications whose encoding fits is that of its elimination
pub elimination_answered : (budget : ℕ) (bytes : List ℕ) (a : Answer) (p : Problem) → IsEliminated budget bytes a → Poses bytes p → p.first_application ≡ None → Fits p → AnswersElimination budget p a
elimination_answered budget bytes a p eliminated poses none =
    fitting_answered (AnswersElimination budget) p a (pure_answered (AnswersEncoded (AnswersElimination budget)) p a
    (posed_answered (AnswersPure (AnswersEncoded (AnswersElimination budget))) (same_problem budget) bytes a p eliminated poses) none)

-- ---- its status

end_status : (p : Problem) (end : Ending (List (List Literal))) (a : Answer) → AnswersElimEnd p end a → IsAnswerStatus a.status
end_status p end a (made d stands x is printed e) = subst (λ b. IsAnswerStatus b.status) (sym e) refl
end_status p end a (steps stands is e) = subst (λ b. IsAnswerStatus b.status) (sym e) refl
end_status p end a (overflow numbers stands is e) = subst (λ b. IsAnswerStatus b.status) (sym e) refl

pub eliminated_status : (budget : ℕ) (bytes : List ℕ) (a : Answer) → IsEliminated budget bytes a → IsAnswerStatus a.status
eliminated_status budget bytes a (refused r h e) = subst (λ b. IsAnswerStatus b.status) (sym e) refl
eliminated_status budget bytes a (posed p h (impure at k e)) = subst (λ b. IsAnswerStatus b.status) (sym e) refl
eliminated_status budget bytes a (posed p h (pure k (large l e))) = subst (λ b. IsAnswerStatus b.status) (sym e) refl
eliminated_status budget bytes a (posed p h (pure k (leaves l e))) = subst (λ b. IsAnswerStatus b.status) (sym e) refl
eliminated_status budget bytes a (posed p h (pure k (runs f r))) = end_status p (elimination_end budget p) a r
