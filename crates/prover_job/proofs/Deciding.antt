-- The output of `solve` as a file that holds a proof.
use Rattle.std.proofs.Common.{ℕ, ℤ, ◌≡◌, ◌∙◌, ◌⊎◌, inl, inr, Some, Bool, true, false, List, [], ◌++◌, refl, sym, ap, subst, codes}
use Rattle.std.proofs.lemmas.List.{append_cancel_left}
use Rattle.base_answers.specs.Answer.{Answer, line}
use Rattle.base_answers.specs.declared.form.ProofForm.{ProofForm}
use Rattle.job_check.specs.Checked.{IsChecked}
use Rattle.job_check.specs.Exactly.{IsCutAnswer}
use Rattle.job_decide.specs.Decided.{IsDecidedAs, canonical, nowhere, proved as by_clauses, refuted as by_model}
use Rattle.job_decide.specs.Shown.{AnswersShown, AreShownLines, nothing, values}
use Rattle.job_decide.proofs.Showing.{invalid_plain, run_alone, unshown}
use Rattle.job_solve.specs.Proved.{IsImpure, ProvesInvalid, extended}
use Rattle.job_solve.proofs.Exactly.{one_answer}
use Rattle.job_solve.proofs.Printing.{parted}
use Rattle.job_values.specs.Values.{no_model}
use Rattle.model_printer.specs.Models.{model_text}
use Rattle.pri_problem.specs.Answers.{Poses, PosesOne, posed, refused}
use Rattle.pri_problem.specs.Encoded.{Fits, large, leaves, runs}
use Rattle.pri_problem.proofs.Bytes.{reads_formed, reads_identifiers}
use Rattle.pri_problem.proofs.Cuts.{poses_cuttable}
use Rattle.pri_typing.specs.declared.problem.Problem.{Problem}
use Rattle.proof_tree.specs.declared.run.Verdict.TheVariants.{Invalid}
use Rattle.prover_job.specs.Runs as words
use Rattle.prover_job.proofs.Lines.{IsOfLines, inner_word, one_more}
use Rattle.prover_job.proofs.Output.{HasProof, has_proof, its_proof, output_accepted, proved_accepted, refuted_by_model, so_or_cut, status_of, text_of, whole_accepted}
use Rattle.prover_job.proofs.ValueLines.{values_lines}

-- an answer of the canonical run, with values or without
canonical_output : (form : ProofForm) (shows : Bool) (budget : ℕ) (bytes : List ℕ) (p : Problem) (a b : Answer) → Poses bytes p → Fits p → AnswersShown shows (Some form) budget p a → HasProof bytes a → IsChecked a.text bytes b → b.status ≡ 0
canonical_output form shows budget bytes p a b h f k good is = by k.shown
  where
    one_not_zero : a.status ≡ 1 → HasProof bytes a → ¬ (PosesOne bytes IsImpure)
    one_not_zero one (inl z) = let bad : 0 ≡ 1 = sym z ∙ one in absurd cc
    one_not_zero one (inr g) = g.1

    by : AreShownLines shows budget p k.plain k.lines → b.status ≡ 0
    by (nothing none empty) = output_accepted form budget bytes a b (posed p h (runs f (unshown shows (Some form) budget p a k empty))) good is
    by (values vs here found told) =
        let formed = reads_formed bytes p h.reads in
        let plain = invalid_plain budget p k.plain formed ((poses_cuttable bytes p h).pure.0 here.pure) k.answers here.invalid in
        let s = parted (Some form) budget bytes (extended k.plain k.part) (posed p h (runs f (run_alone shows (Some form) budget p a k))) in
        let text : line (codes "INVALID") ++ model_text p vs no_model ≡ k.plain.text ++ k.lines = sym (λ i. (plain i).text ++ told i) in
        let passed = one_more (codes "INVALID") (model_text p vs no_model) (record { inner = inner_word (codes "INVALID") refl; other = refl }) (values_lines p vs (reads_identifiers bytes p h.reads)) in
        let same : s.plain ≡ k.plain = one_answer budget bytes s.plain k.plain s.solved (posed p h (runs f k.answers)) in
        let same_part : s.part ≡ k.part = append_cancel_left k.plain.text s.part k.part (ap (λ (q : Answer). q.text ++ s.part) (sym same) ∙ sym (ap text_of s.whole)) in
        let proof = its_proof form bytes k.part (subst (ProvesInvalid form bytes) same_part (s.invalid form refl (ap status_of same ∙ here.invalid))) (one_not_zero (ap status_of k.whole ∙ here.invalid) good) in
        whole_accepted form bytes (k.plain.text ++ k.lines) k.part Invalid (subst IsOfLines text passed) proof b (subst (λ t. IsChecked t bytes b) (ap text_of k.whole) is)

pub decided_output : (form : ProofForm) (calculus shows : Bool) (budget : ℕ) (bytes : List ℕ) (a b : Answer) → IsDecidedAs calculus shows (Some form) budget bytes a → words.HasProof calculus budget bytes a → IsChecked a.text bytes b
    → (b.status ≡ 0) ⊎ ((calculus ≡ false) × IsCutAnswer b)
decided_output form calculus shows budget bytes a b (refused r h e) good is = inl (output_accepted form budget bytes a b (refused r h e) (has_proof calculus budget bytes a good) is)
decided_output form calculus shows budget bytes a b (posed p h (large l e)) good is = inl (output_accepted form budget bytes a b (posed p h (large l e)) (has_proof calculus budget bytes a good) is)
decided_output form calculus shows budget bytes a b (posed p h (leaves l e)) good is = inl (output_accepted form budget bytes a b (posed p h (leaves l e)) (has_proof calculus budget bytes a good) is)
decided_output form calculus shows budget bytes a b (posed p h (runs f (canonical k))) good is = inl (canonical_output form shows budget bytes p a b h f k (has_proof calculus budget bytes a good) is)
decided_output form calculus shows budget bytes a b (posed p h (runs f (by_clauses off k))) good is = so_or_cut off (proved_accepted form budget bytes p a b h f k is)
decided_output form calculus shows budget bytes a b (posed p h (runs f (by_model off k))) good is =
    absurd (refuted_by_model calculus budget bytes a off (ap status_of k.whole) (p, h, (f, k.left_open, (k.model, k.universals, k.is))) good)
decided_output form calculus shows budget bytes a b (posed p h (runs f (nowhere off none k))) good is = absurd cc
