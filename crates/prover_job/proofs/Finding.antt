-- The output of `find` as a file that holds a proof.
use Rattle.std.proofs.Common.{ℕ, ℤ, ◌≡◌, ◌∙◌, ◌⊎◌, inl, true, List, [], ◌∷◌, ◌++◌, length, refl, sym, ap, subst, codes}
use Rattle.base_answers.specs.Answer.{Answer}
use Rattle.base_answers.specs.declared.form.ProofForm.TheVariants.{Whole}
use Rattle.clause_file.specs.Verdicts.{HoldsClauseProof}
use Rattle.form_encoding.specs.Problems.{problem_root}
use Rattle.job_check.specs.Checked.{IsChecked}
use Rattle.job_check.specs.Exactly.{IsCutAnswer}
use Rattle.job_check.proofs.Exactly.{decided}
use Rattle.job_find.specs.Found.{IsFoundIn, found_answer, found_line, nowhere, run, values}
use Rattle.job_seeking.specs.Sought.{IsClauseFileAt}
use Rattle.pri_printer.specs.Printed.{solution_text}
use Rattle.pri_problem.specs.Answers.{Poses, posed, refused}
use Rattle.pri_problem.specs.Encoded.{Fits, large, leaves, runs}
use Rattle.pri_problem.proofs.Bytes.{reads_identifiers}
use Rattle.pri_typing.specs.WellFormed.{HasIdentifiers}
use Rattle.pri_typing.specs.declared.problem.Problem.{Problem}
use Rattle.proof_file.specs.Body.{body}
use Rattle.prover_job.proofs.Lines.{IsOfLines, inner_word, one_alone, part_after}
use Rattle.prover_job.proofs.Output.{output_accepted, solution_passed, status_of, text_of}

-- the line before the proof
found_lines : (p : Problem) (vs : List ℤ) (names : List (List ℕ)) → HasIdentifiers p → IsOfLines (found_line names p vs)
found_lines p vs [] h = one_alone (codes "VALID") (record { inner = inner_word (codes "VALID") refl; other = refl })
found_lines p vs (x ∷ names) h = one_alone (codes "solution: " ++ solution_text p vs) (solution_passed p vs h)

-- after it, the file that is printed is the part that holds the proof
values_accepted : (bytes : List ℕ) (p : Problem) (vs : List ℤ) (text file : List ℕ) → Poses bytes p → Fits p → IsOfLines text → IsClauseFileAt p vs file → (b : Answer)
    → IsChecked (text ++ (codes "proof:\n" ++ file)) bytes b → (b.status ≡ 0) ⊎ IsCutAnswer b
values_accepted bytes p vs text file poses fits lines h b is =
    let whole = text ++ (codes "proof:\n" ++ file) in
    let same : body whole ≡ body file = part_after text file lines ∙ sym h.own in
    let held : HoldsClauseProof (problem_root p).value (length p.existentials) whole vs = record {
      head = h.holds.head;
      lines = h.holds.lines;
      is_text = h.holds.is_text;
      is = same ∙ h.holds.is;
      values = h.holds.values;
      count = h.holds.count;
      proves = h.holds.proves;
    } in
    (decided whole bytes b p is poses fits).clauses (record { values = vs; holds = held })

pub found_output : (budget : ℕ) (bytes : List ℕ) (a b : Answer) → IsFoundIn true budget bytes a → a.status ≡ 0 → IsChecked a.text bytes b → (b.status ≡ 0) ⊎ IsCutAnswer b
found_output budget bytes a b (refused r h e) z is = let bad = sym z ∙ ap status_of e in absurd cc
found_output budget bytes a b (posed p h (large l e)) z is = let bad = sym z ∙ ap status_of e in absurd cc
found_output budget bytes a b (posed p h (leaves l e)) z is = let bad = sym z ∙ ap status_of e in absurd cc
found_output budget bytes a b (posed p h (runs f (values vs file k e))) z is =
    values_accepted bytes p vs (found_answer p vs).text file h f (found_lines p vs p.existentials (reads_identifiers bytes p h.reads)) k b (subst (λ t. IsChecked t bytes b) (ap text_of e) is)
found_output budget bytes a b (posed p h (runs f (nowhere k e))) z is = let bad = sym z ∙ ap status_of e in absurd cc
found_output budget bytes a b (posed p h (runs f (run k))) z is = inl (output_accepted Whole budget bytes a b (posed p h (runs f k)) (inl z) is)
