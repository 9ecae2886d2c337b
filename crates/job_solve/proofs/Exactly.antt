-- A file has at most one answer of `solve`, and it has a status of answers.
use Rattle.std.proofs.Common.{◌≡◌, ◌≢◌, ℕ, ℤ, List, [], ◌∷◌, ◌++◌, length, Option, Some, None, refl, sym, ◌∙◌, ap, subst, codes}
use Rattle.std.specs.List.{concat}
use Rattle.base_budget.specs.Runs.{total}
use Rattle.base_budget.specs.Trace.{Funds, at}
use Rattle.formula.specs.Form.{Form}
use Rattle.proof_tree.specs.declared.node.Conclusion.{Conclusion}
use Rattle.proof_tree.specs.declared.node.Conclusion.TheVariants.{Solution, Nothing}
use Rattle.proof_tree.specs.Proof.{Proof, given}
use Rattle.proof_tree.specs.Proves.{proof_walk}
use Rattle.search.specs.Run as run
use Rattle.base_budget.specs.Ending.{Ending, ending, ends_with, out_of_steps, overflows}
use Rattle.search.specs.Run.{canonical_run}
use Rattle.pri_typing.specs.declared.problem.Problem.{Problem}
use Rattle.pri_printer.specs.Printed.{dnf_text}
use Rattle.pri_printer.specs.Text.{listed_text, value_texts}
use Rattle.form_encoding.specs.Problems.{problem_root}
use Rattle.base_answers.specs.Answer.{Answer, line, says_line, unknown_answer, IsAnswerStatus}
use Rattle.pri_lines.specs.Constraint.{constraint_line}
use Rattle.pri_lines.proofs.Printed.{text_same}
use Rattle.pri_problem.specs.Reads.{AreSame}
use Rattle.pri_problem.specs.Answers.{Poses, refused, posed}
use Rattle.pri_problem.specs.Encoded.{AnswersEncoded, Fits, large, leaves, runs}
use Rattle.pri_problem.proofs.Answering.{one_of_file, posed_answered}
use Rattle.pri_problem.proofs.Encoded.{fitting_answered, one_of_encoded, root_same, same_encoded}
use Rattle.itp_lines.specs.Seams.{seams}
use Rattle.itp_lines.proofs.Listing.{lines_are, same_list, seam_lines}
use Rattle.base_answers.specs.declared.form.ProofForm.{ProofForm}
use Rattle.job_solve.specs.Proved.{AnswersRunAs, IsProofPart, IsSolvedAs, PrintsEnd, PrintsProof, charges_of, extended}
use Rattle.job_solve.proofs.Saturated.{saturated_answer, saturated_by, saturated_same, saturated_status}
use Rattle.job_solve.specs.Solved.{closed_answer, valid_answer, AnswersEnd, closed, valid, invalid, saturated, branch, steps, overflow, run_end, AnswersRun, IsSolved}

-- ---- one answer to each end

-- the answer where values were found, for these names of existential constants, by a run that left the purse so
abbrev pub found_answer : Problem → List (List ℕ) → Proof → List ℤ → Funds → Answer
found_answer p [] x vs left = closed_answer (concat (seam_lines p (seams p.cuts) left))
found_answer p (name ∷ names) x vs left = valid_answer p (dnf_text p (given x)) vs

-- the answer to each end
abbrev pub end_answer : Problem → Ending run.RunAnswer → Answer
end_answer p (ends_with (run.valid vs x) stands) = found_answer p p.existentials x vs stands.funds
end_answer p (ends_with (run.invalid log x) stands) = says_line 1 (codes "INVALID")
end_answer p (ends_with (run.saturated log x) stands) = saturated_answer p x stands.funds
end_answer p (ends_with run.too_long stands) = unknown_answer (codes "branch")
end_answer p (out_of_steps stands) = unknown_answer (codes "steps")
end_answer p (overflows numbers stands) = unknown_answer (codes "overflow")

found_some : (p : Problem) (x : Proof) (vs : List ℤ) (left : Funds) (names : List (List ℕ)) → names ≢ [] → valid_answer p (dnf_text p (given x)) vs ≡ found_answer p names x vs left
found_some p x vs left [] some = absurd (some refl)
found_some p x vs left (name ∷ names) some = refl

-- an answer is that of the end
pub by_end : (p : Problem) (end : Ending run.RunAnswer) (a : Answer) → AnswersEnd p end a → a ≡ end_answer p end
by_end p end a (closed vs x stands text is none told e) =
    e ∙ ap closed_answer (told.whole ∙ ap concat (lines_are p (seams p.cuts) stands.funds told.lines told.are))
    ∙ sym (ap (end_answer p) is ∙ ap (λ names. found_answer p names x vs stands.funds) none)
by_end p end a (valid vs x stands text is some printed e) =
    e ∙ ap (λ t. valid_answer p t vs) printed.text ∙ found_some p x vs stands.funds p.existentials some ∙ sym (ap (end_answer p) is)
by_end p end a (invalid log x stands is e) = e ∙ sym (ap (end_answer p) is)
by_end p end a (saturated log x stands is told) = saturated_by p x stands.funds a told ∙ sym (ap (end_answer p) is)
by_end p end a (branch stands is e) = e ∙ sym (ap (end_answer p) is)
by_end p end a (steps stands is e) = e ∙ sym (ap (end_answer p) is)
by_end p end a (overflow numbers stands is e) = e ∙ sym (ap (end_answer p) is)

one_of_end : (p : Problem) (end : Ending run.RunAnswer) (a b : Answer) → AnswersEnd p end a → AnswersEnd p end b → a ≡ b
one_of_end p end a b h k = by_end p end a h ∙ sym (by_end p end b k)

-- ---- the same for the same problem

valid_answer_same : (p q : Problem) (text : List ℕ) (vs : List ℤ) → AreSame p q → valid_answer p text vs ≡ valid_answer q text vs
valid_answer_same p q text vs same =
    ap (λ names. record { status = 0; text = line (codes "VALID") ++ (constraint_line text ++ line (codes "solution: " ++ listed_text (value_texts names vs))) }) same.existentials

same_end : (p q : Problem) (end : Ending run.RunAnswer) (a : Answer) → AreSame p q → AnswersEnd p end a → AnswersEnd q end a
same_end p q end a same (closed vs x stands text is none told e) =
    closed vs x stands text is (sym same.existentials ∙ none) (record { lines = told.lines; are = same_list p q same stands.funds told.lines told.are; whole = told.whole }) e
same_end p q end a same (valid vs x stands text is some printed e) =
    valid vs x stands text is (λ none. some (same.existentials ∙ none)) (text_same p q (given x) text same printed) (e ∙ valid_answer_same p q text vs same)
same_end p q end a same (invalid log x stands is e) = invalid log x stands is e
same_end p q end a same (saturated log x stands is told) = saturated log x stands is (saturated_same p q x stands.funds a same told)
same_end p q end a same (branch stands is e) = branch stands is e
same_end p q end a same (steps stands is e) = steps stands is e
same_end p q end a same (overflow numbers stands is e) = overflow numbers stands is e

run_end_same : (budget : ℕ) (p q : Problem) → AreSame p q → run_end budget p ≡ run_end budget q
run_end_same budget p q same =
    let from : Form → ℕ → Ending run.RunAnswer = λ f n. ending (canonical_run f n budget) (at (record { budget = budget; spent = 0 }) []) in
    ap (λ w. from w.value (length p.existentials)) (root_same p q same) ∙ ap (λ names. from (problem_root q).value (length names)) same.existentials

same_run : (budget : ℕ) (p q : Problem) (a : Answer) → AreSame p q → AnswersRun budget p a → AnswersRun budget q a
same_run budget p q a same h = subst (λ end. AnswersEnd q end a) (run_end_same budget p q same) (same_end p q (run_end budget p) a same h)

-- ---- one answer

pub one_answer : (budget : ℕ) (bytes : List ℕ) (a b : Answer) → IsSolved budget bytes a → IsSolved budget bytes b → a ≡ b
one_answer budget = one_of_file (AnswersEncoded (AnswersRun budget)) (same_encoded (AnswersRun budget) (same_run budget)) (one_of_encoded (AnswersRun budget) (λ p. one_of_end p (run_end budget p)))

-- the answer to the bytes of a problem whose encoding fits is that of its run
pub run_answered : (budget : ℕ) (bytes : List ℕ) (a : Answer) (p : Problem) → IsSolved budget bytes a → Poses bytes p → Fits p → AnswersRun budget p a
run_answered budget bytes a p solved poses =
    fitting_answered (AnswersRun budget) p a (posed_answered (AnswersEncoded (AnswersRun budget)) (same_encoded (AnswersRun budget) (same_run budget)) bytes a p solved poses)

-- ---- its status

end_status : (p : Problem) (end : Ending run.RunAnswer) (a : Answer) → AnswersEnd p end a → IsAnswerStatus a.status
end_status p end a (closed vs x stands text is none told e) = subst (λ b. IsAnswerStatus b.status) (sym e) refl
end_status p end a (valid vs x stands text is some printed e) = subst (λ b. IsAnswerStatus b.status) (sym e) refl
end_status p end a (invalid log x stands is e) = subst (λ b. IsAnswerStatus b.status) (sym e) refl
end_status p end a (saturated log x stands is told) = saturated_status p x stands.funds a told
end_status p end a (branch stands is e) = subst (λ b. IsAnswerStatus b.status) (sym e) refl
end_status p end a (steps stands is e) = subst (λ b. IsAnswerStatus b.status) (sym e) refl
end_status p end a (overflow numbers stands is e) = subst (λ b. IsAnswerStatus b.status) (sym e) refl

pub solved_status : (budget : ℕ) (bytes : List ℕ) (a : Answer) → IsSolved budget bytes a → IsAnswerStatus a.status
solved_status budget bytes a (refused r h e) = subst (λ b. IsAnswerStatus b.status) (sym e) refl
solved_status budget bytes a (posed p h (large l e)) = subst (λ b. IsAnswerStatus b.status) (sym e) refl
solved_status budget bytes a (posed p h (leaves l e)) = subst (λ b. IsAnswerStatus b.status) (sym e) refl
solved_status budget bytes a (posed p h (runs f k)) = end_status p (run_end budget p) a k

-- ---- with the proof

one_text : (form : ProofForm) (n : ℕ) (x : Proof) (c : Conclusion) (a b : List ℕ) → PrintsProof form n x c a → PrintsProof form n x c b → a ≡ b
one_text form n x c a b h k = h.line ∙ ap (λ t. line (codes "proof:") ++ t) (h.is ∙ sym k.is) ∙ sym k.line

one_part : (form : ProofForm) (p : Problem) (end : Ending run.RunAnswer) (a b : List ℕ) → PrintsEnd form p end a → PrintsEnd form p end b → a ≡ b
one_part form p (ends_with (run.valid vs x) stands) a b h k = one_text form (charges_of p x (Solution vs)) x (Solution vs) a b h k
one_part form p (ends_with (run.invalid log x) stands) a b h k =
    one_text form (charges_of p x (Nothing (record { entries = log }))) x (Nothing (record { entries = log })) a b h k
one_part form p (ends_with (run.saturated log x) stands) a b h k = h ∙ sym k
one_part form p (ends_with run.too_long stands) a b h k = h ∙ sym k
one_part form p (out_of_steps stands) a b h k = h ∙ sym k
one_part form p (overflows numbers stands) a b h k = h ∙ sym k

one_asked : (asked : Option ProofForm) (p : Problem) (end : Ending run.RunAnswer) (a b : List ℕ) → IsProofPart asked p end a → IsProofPart asked p end b → a ≡ b
one_asked (Some form) p end a b h k = one_part form p end a b h k
one_asked None p end a b h k = h ∙ sym k

one_as : (asked : Option ProofForm) (budget : ℕ) (p : Problem) (a b : Answer) → AnswersRunAs asked budget p a → AnswersRunAs asked budget p b → a ≡ b
one_as asked budget p a b h k =
    h.whole ∙ ap (λ z. extended z h.part) (one_of_end p (run_end budget p) h.plain k.plain h.answers k.answers)
    ∙ ap (extended k.plain) (one_asked asked p (run_end budget p) h.part k.part h.is_part k.is_part) ∙ sym k.whole

charges_same : (p q : Problem) (x : Proof) (c : Conclusion) → AreSame p q → charges_of p x c ≡ charges_of q x c
charges_same p q x c same =
    let of : Form → ℕ → ℕ = λ f n. total (proof_walk f n x c).events in
    ap (λ w. of w.value (length p.existentials)) (root_same p q same) ∙ ap (λ names. of (problem_root q).value (length names)) same.existentials

part_same : (form : ProofForm) (p q : Problem) (end : Ending run.RunAnswer) (part : List ℕ) → AreSame p q → PrintsEnd form p end part → PrintsEnd form q end part
part_same form p q (ends_with (run.valid vs x) stands) part same h = subst (λ n. PrintsProof form n x (Solution vs) part) (charges_same p q x (Solution vs) same) h
part_same form p q (ends_with (run.invalid log x) stands) part same h =
    let c : Conclusion = Nothing (record { entries = log }) in subst (λ n. PrintsProof form n x c part) (charges_same p q x c same) h
part_same form p q (ends_with (run.saturated log x) stands) part same h = h
part_same form p q (ends_with run.too_long stands) part same h = h
part_same form p q (out_of_steps stands) part same h = h
part_same form p q (overflows numbers stands) part same h = h

asked_same : (asked : Option ProofForm) (p q : Problem) (end : Ending run.RunAnswer) (part : List ℕ) → AreSame p q → IsProofPart asked p end part → IsProofPart asked q end part
asked_same (Some form) p q end part same h = part_same form p q end part same h
asked_same None p q end part same h = h

same_as : (asked : Option ProofForm) (budget : ℕ) (p q : Problem) (a : Answer) → AreSame p q → AnswersRunAs asked budget p a → AnswersRunAs asked budget q a
same_as asked budget p q a same h = record {
  plain = h.plain;
  answers = same_run budget p q h.plain same h.answers;
  part = h.part;
  is_part = subst (λ end. IsProofPart asked q end h.part) (run_end_same budget p q same) (asked_same asked p q (run_end budget p) h.part same h.is_part);
  whole = h.whole;
}

-- a file has at most one answer with its proof
pub one_answer_as : (asked : Option ProofForm) (budget : ℕ) (bytes : List ℕ) (a b : Answer) → IsSolvedAs asked budget bytes a → IsSolvedAs asked budget bytes b → a ≡ b
one_answer_as asked budget =
    one_of_file (AnswersEncoded (AnswersRunAs asked budget)) (same_encoded (AnswersRunAs asked budget) (same_as asked budget)) (one_of_encoded (AnswersRunAs asked budget) (one_as asked budget))
