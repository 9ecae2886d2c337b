-- What is put for a file with its proof, as a proof's file.
use Rattle.std.proofs.Common.{ℕ, ◌≡◌, ◌≤◌, ◌∙◌, ◌⊎◌, inl, inr, Some, Bool, false, List, length, sym, ap, subst, arith}
use Rattle.base_answers.specs.Answer.{Answer}
use Rattle.base_answers.specs.Files.{AnswersBytes, AnswersSource, most_of_file, most_of_proof, too_long, within}
use Rattle.base_answers.specs.declared.form.ProofForm.{ProofForm}
use Rattle.job_check.specs.Checked.{IsChecked}
use Rattle.job_check.specs.Exactly.{IsCutAnswer}
use Rattle.job_decide.specs.Decided.{IsDecidedAs}
use Rattle.prover_job.specs.Runs.{AnswersWithProof, HasProof}
use Rattle.prover_job.proofs.Deciding.{decided_output}

abbrev status_of : Answer → ℕ
status_of a = a.status

-- an answer to files that are not too long is that of a check
checked_there : (proof file : List ℕ) (b : Answer) → length file ≤ most_of_file → length proof ≤ most_of_proof → AnswersSource most_of_file (AnswersWithProof (Some proof)) (Some file) b → IsChecked proof file b
checked_there proof file b small few s = by_file s.bytes s.whole s.is
  where
    by_proof : (bytes own : List ℕ) → bytes ≡ proof → own ≡ file → AnswersBytes most_of_proof (λ x. IsChecked x own) bytes b → IsChecked proof file b
    by_proof bytes own is same (too_long l e) = absurd (omega (arith, l, few, ap length is))
    by_proof bytes own is same (within l k) = subst (λ z. IsChecked proof z b) same (subst (λ z. IsChecked z own b) is k)

    by_file : (bytes : List ℕ) → bytes ≡ file → AnswersBytes most_of_file (AnswersWithProof (Some proof)) bytes b → IsChecked proof file b
    by_file bytes is (too_long l e) = absurd (omega (arith, l, small, ap length is))
    by_file bytes is (within l k) = by_proof k.bytes bytes k.whole is k.is

pub accepted : (form : ProofForm) (calculus shows : Bool) (budget : ℕ) (file : List ℕ) (a b : Answer) → AnswersSource most_of_file (IsDecidedAs calculus shows (Some form) budget) (Some file) a
    → HasProof calculus budget file a → length a.text ≤ most_of_proof → AnswersSource most_of_file (AnswersWithProof (Some a.text)) (Some file) b → (b.status ≡ 0) ⊎ ((calculus ≡ false) × IsCutAnswer b)
accepted form calculus shows budget file a b solved known short checked = by_size solved.bytes solved.whole solved.is known
  where
    by_size : (bytes : List ℕ) → bytes ≡ file → AnswersBytes most_of_file (IsDecidedAs calculus shows (Some form) budget) bytes a → HasProof calculus budget file a → (b.status ≡ 0) ⊎ ((calculus ≡ false) × IsCutAnswer b)
    by_size bytes is (too_long l e) (inl z) = let bad = sym z ∙ ap status_of e in absurd cc
    by_size bytes is (too_long l e) (inr z) = let bad = sym z.0 ∙ ap status_of e in absurd cc
    by_size bytes is (within l h) so =
        let small : length file ≤ most_of_file = subst (λ z. length z ≤ most_of_file) is l in
        decided_output form calculus shows budget file a b (subst (λ z. IsDecidedAs calculus shows (Some form) budget z a) is h) so (checked_there a.text file b small short checked)
