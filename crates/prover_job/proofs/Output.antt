-- The whole output of `solve --proof` and of `solve --short` is accepted as a proof's file.
use Rattle.std.proofs.Common.{ℕ, ℤ, ◌≡◌, ◌≢◌, ◌∙◌, ◌⊎◌, inl, inr, Some, Bool, true, false, List, [], ◌∷◌, ◌++◌, length, refl, sym, ap, subst, codes}
use Rattle.std.specs.List.{concat}
use Rattle.base_budget.specs.declared.log.Entry.{Entry}
use Rattle.base_budget.specs.Trace.{At, Funds}
use Rattle.proof_tree.specs.Proof.{Proof}
use Rattle.proof_tree.specs.declared.run.Verdict.{Verdict}
use Rattle.proof_tree.specs.declared.run.Verdict.TheVariants.{Valid, Invalid}
use Rattle.proof_file.specs.Body.{body}
use Rattle.proof_grammar.specs.Shaped.{IsTextOfProof}
use Rattle.clause_set.specs.declared.literal.Literal.{Literal}
use Rattle.pri_typing.specs.declared.problem.Problem.{Problem}
use Rattle.pri_typing.specs.WellFormed.{HasIdentifiers}
use Rattle.base_answers.specs.Answer.{Answer}
use Rattle.pri_lines.specs.Constraint.{IsTextOf}
use Rattle.pri_lines.specs.Lines.{solution_line, valued_lines}
use Rattle.pri_printer.specs.Printed.{solution_text}
use Rattle.itp_sides.specs.Sides.{Case, arithmetic, first_itself, second_denied, none}
use Rattle.job_solve.specs.Blocks.{AreLines, IsBlocksText, IsSeamLine, IsTextBy, found, unknown}
use Rattle.job_solve.specs.Ends.{Cause, steps as steps_cause, overflow as overflow_cause, symbols, branch as branch_cause, large as large_cause, plain, cause_text, formula_by, seam_case, seam_run}
use Rattle.job_solve.specs.Seams.{Seam, seams}
use Rattle.pri_problem.specs.Answers.{Poses, PosesOne, refused, posed}
use Rattle.pri_problem.specs.Encoded.{Fits, large, leaves, runs}
use Rattle.pri_problem.proofs.Bytes.{reads_identifiers}
use Rattle.search.specs.Run as run
use Rattle.base_budget.specs.Ending.{ends_with}
use Rattle.job_solve.specs.Explained.{AnswersSaturated}
use Rattle.clause_file.specs.Verdicts.{HoldsClauseProof}
use Rattle.form_encoding.specs.Problems.{problem_root}
use Rattle.job_clauses.specs.Judged.{IsClauseFile}
use Rattle.job_decide.specs.Causes.{IsRefutedByModel}
use Rattle.job_decide.specs.Decided.{AnswersProved}
use Rattle.prover_job.specs.Runs as words
use Rattle.job_solve.specs.Proved.{IsImpure, IsParted, IsSolvedAs, PrintsProofOf, ProvesInvalid}
use Rattle.base_answers.specs.declared.form.ProofForm.{ProofForm}
use Rattle.job_solve.specs.Solved.{AnswersEnd, IsSolved, closed, closed_answer, valid, invalid, saturated, branch, steps as cut_by_steps, overflow as out_of_range, run_end}
use Rattle.job_solve.proofs.Printing.{impure_is, parted}
use Rattle.job_solve.proofs.Saturated.{one_or_two}
use Rattle.job_check.specs.Checked.{IsChecked}
use Rattle.job_check.specs.Exactly.{IsCutAnswer}
use Rattle.job_check.proofs.Exactly.{decided}
use Rattle.prover_job.proofs.Lines.{AreInner, IsOfLines, IsPassed, inner_append, inner_word, no_lines, one_alone, one_more, part_after}
use Rattle.prover_job.proofs.Printed.{dnf_inner, solution_inner}
use Rattle.prover_job.proofs.TypedInner.{formula_inner}

abbrev pub status_of : Answer → ℕ
status_of a = a.status

abbrev pub text_of : Answer → List ℕ
text_of a = a.text

-- ---- the lines before the proof

constraint_passed : (p : Problem) (x : List ℕ) (d : List (List Literal)) → HasIdentifiers p → IsTextOf p d x → IsPassed (codes "constraint: " ++ x)
constraint_passed p x d h t = record {
  inner = inner_append (codes "constraint: ") x (inner_word (codes "constraint: ") refl) (subst AreInner (sym t.text) (dnf_inner p d h));
  other = refl;
}

pub solution_passed : (p : Problem) (vs : List ℤ) → HasIdentifiers p → IsPassed (codes "solution: " ++ solution_text p vs)
solution_passed p vs h = record { inner = inner_append (codes "solution: ") (solution_text p vs) (inner_word (codes "solution: ") refl) (solution_inner p vs h); other = refl }

-- the lines of causes
unknown_passed : (c : Cause) → IsPassed (codes "interpolant unknown: " ++ cause_text c)
unknown_passed steps_cause = record { inner = inner_word (codes "interpolant unknown: steps") refl; other = refl }
unknown_passed overflow_cause = record { inner = inner_word (codes "interpolant unknown: overflow") refl; other = refl }
unknown_passed symbols = record { inner = inner_word (codes "interpolant unknown: symbols") refl; other = refl }
unknown_passed branch_cause = record { inner = inner_word (codes "interpolant unknown: branch") refl; other = refl }
unknown_passed large_cause = record { inner = inner_word (codes "interpolant unknown: large") refl; other = refl }
unknown_passed plain = record { inner = inner_word (codes "interpolant unknown: plain") refl; other = refl }

-- the text of an interpolant has no line feed
text_inner : (p : Problem) (b : Seam) (c : Case) (x : List ℕ) → HasIdentifiers p → IsTextBy p b c x → AreInner x
text_inner p b arithmetic x h t = subst AreInner (sym t.text) (dnf_inner p (seam_run p b).value h)
text_inner p b first_itself x h t = subst AreInner (sym t.text) (formula_inner p 0 (formula_by p b first_itself) h)
text_inner p b second_denied x h t = subst AreInner (sym t.text) (formula_inner p 0 (formula_by p b second_denied) h)
text_inner p b none x h t = absurd t

seam_line : (p : Problem) (b : Seam) (old : Funds) (text rest : List ℕ) → HasIdentifiers p → IsSeamLine p b old text → IsOfLines rest → IsOfLines (text ++ rest)
seam_line p b old text rest h (found left x is printed e proved) k =
    subst (λ t. IsOfLines (t ++ rest)) (sym e) (one_more (codes "interpolant: " ++ x) rest
    (record { inner = inner_append (codes "interpolant: ") x (inner_word (codes "interpolant: ") refl) (text_inner p b (seam_case p b) x h printed); other = refl }) k)
seam_line p b old text rest h (unknown c left is e) k =
    subst (λ t. IsOfLines (t ++ rest)) (sym e) (one_more (codes "interpolant unknown: " ++ cause_text c) rest (unknown_passed c) k)

seam_lines : (p : Problem) (bs : List Seam) (old : Funds) (lines : List (List ℕ)) → HasIdentifiers p → AreLines p bs old lines → IsOfLines (concat lines)
seam_lines p [] old [] h are = no_lines
seam_lines p [] old (text ∷ lines) h are = absurd are
seam_lines p (b ∷ bs) old [] h are = absurd are
seam_lines p (b ∷ bs) old (text ∷ lines) h are = seam_line p b old text (concat lines) h are.0 (seam_lines p bs _ lines h are.1)

-- the answer has a proof after it: the problem is valid, or it is invalid and has neither predicates nor functions
abbrev pub HasProof : List ℕ → Answer → Type 0
HasProof bytes a = (a.status ≡ 0) ⊎ ((a.status ≡ 1) × ¬ (PosesOne bytes IsImpure))

neither : (bytes : List ℕ) (a : Answer) (s : ℕ) → a.status ≡ s → s ≢ 0 → s ≢ 1 → HasProof bytes a → ⊥
neither bytes a s e zero one (inl h) = zero (sym e ∙ h)
neither bytes a s e zero one (inr h) = one (sym e ∙ h.0)

-- the lines of a valid problem without existential constants
closed_lines : (bytes : List ℕ) (p : Problem) (left : Funds) (blocks : List ℕ) → Poses bytes p → IsBlocksText p left blocks → IsOfLines (closed_answer blocks).text
closed_lines bytes p left blocks poses told =
    one_more (codes "VALID") blocks (record { inner = inner_word (codes "VALID") refl; other = refl })
    (subst IsOfLines (sym told.whole) (seam_lines p (seams p.cuts) left told.lines (reads_identifiers bytes p poses.reads) told.are))

-- that of a saturated run has none
no_proof : (budget : ℕ) (bytes : List ℕ) (p : Problem) (log : List Entry) (x : Proof) (stands : At) (a : Answer) → Poses bytes p → run_end budget p ≡ ends_with (run.saturated log x) stands → AnswersSaturated p x stands.funds a → HasProof bytes a → ⊥
no_proof budget bytes p log x stands a poses is told (inl z) = not_valid (one_or_two p x stands.funds a told) z
  where
    not_valid : {n : ℕ} → (n ≡ 1) ⊎ (n ≡ 2) → n ≡ 0 → ⊥
    not_valid (inl h) z = cc
    not_valid (inr h) z = cc
no_proof budget bytes p log x stands a poses is told (inr h) = h.1 (p, poses, impure_is budget bytes p log x stands poses is)

end_lines : (budget : ℕ) (bytes : List ℕ) (p : Problem) (a : Answer) → Poses bytes p → AnswersEnd p (run_end budget p) a → HasProof bytes a → IsOfLines a.text
end_lines budget bytes p a poses (closed vs x stands lines is empty told e) good =
    subst IsOfLines (sym (ap text_of e)) (closed_lines bytes p stands.funds lines poses told)
end_lines budget bytes p a poses (valid vs x stands text is some printed e) good =
    let h = reads_identifiers bytes p poses.reads in
    subst IsOfLines (sym (ap text_of e))
    (one_more (codes "VALID") (valued_lines p text vs) (record { inner = inner_word (codes "VALID") refl; other = refl })
    (one_more (codes "constraint: " ++ text) (solution_line p vs) (constraint_passed p text _ h printed) (one_alone (codes "solution: " ++ solution_text p vs) (solution_passed p vs h))))
end_lines budget bytes p a poses (invalid log x stands is e) good = subst IsOfLines (sym (ap text_of e)) (one_alone (codes "INVALID") (record { inner = inner_word (codes "INVALID") refl; other = refl }))
end_lines budget bytes p a poses (saturated log x stands is told) good = absurd (no_proof budget bytes p log x stands a poses is told good)
end_lines budget bytes p a poses (branch stands is e) good = absurd (neither bytes a 2 (ap status_of e) (λ z. cc) (λ z. cc) good)
end_lines budget bytes p a poses (cut_by_steps stands is e) good = absurd (neither bytes a 2 (ap status_of e) (λ z. cc) (λ z. cc) good)
end_lines budget bytes p a poses (out_of_range numbers stands is e) good = absurd (neither bytes a 2 (ap status_of e) (λ z. cc) (λ z. cc) good)

solved_lines : (budget : ℕ) (bytes : List ℕ) (a : Answer) → IsSolved budget bytes a → HasProof bytes a → IsOfLines a.text
solved_lines budget bytes a (refused r h e) good = absurd (neither bytes a 3 (ap status_of e) (λ z. cc) (λ z. cc) good)
solved_lines budget bytes a (posed p h (large l e)) good = absurd (neither bytes a 3 (ap status_of e) (λ z. cc) (λ z. cc) good)
solved_lines budget bytes a (posed p h (leaves l e)) good = absurd (neither bytes a 2 (ap status_of e) (λ z. cc) (λ z. cc) good)
solved_lines budget bytes a (posed p h (runs f k)) good = end_lines budget bytes p a h k good

-- ---- the proof after them

-- after such lines, what is printed of a proof is the part of the file that holds it
pub whole_accepted : (form : ProofForm) (bytes text part : List ℕ) (v : Verdict) → IsOfLines text → PrintsProofOf form bytes v part → (b : Answer) → IsChecked (text ++ part) bytes b → b.status ≡ 0
whole_accepted form bytes text part v lines h b is =
    let printed = h.prints in
    let same : body (text ++ part) ≡ printed.text = ap (λ t. body (text ++ t)) printed.line ∙ part_after text printed.text lines in
    (decided (text ++ part) bytes b h.problem is h.poses h.fits).tree (record {
      tree = h.tree;
      conclusion = h.conclusion;
      charges = h.charges;
      verdict = v;
      holds = subst (λ t. IsTextOfProof t h.charges h.tree h.conclusion) (sym same) printed.holds;
      proves = h.proves;
    })

pub its_proof : (form : ProofForm) (bytes part : List ℕ) → ProvesInvalid form bytes part → ¬ (PosesOne bytes IsImpure) → PrintsProofOf form bytes Invalid part
its_proof form bytes part (inl h) pure = h
its_proof form bytes part (inr h) pure = absurd (pure h.1)

accepted_by : (form : ProofForm) (budget : ℕ) (bytes : List ℕ) (a b : Answer) → IsParted (Some form) budget bytes a → IsChecked a.text bytes b → HasProof bytes a → b.status ≡ 0
accepted_by form budget bytes a b q is good = by good
  where
    checked : IsChecked ((q.plain).text ++ q.part) bytes b
    checked = subst (λ t. IsChecked t bytes b) (ap text_of q.whole) is

    by : HasProof bytes a → b.status ≡ 0
    by (inl z) =
        let zero : (q.plain).status ≡ 0 = sym (ap status_of q.whole) ∙ z in
        let v = q.valid form refl zero in whole_accepted form bytes (q.plain).text q.part (Valid v.values) (solved_lines budget bytes q.plain q.solved (inl zero)) v.prints b checked
    by (inr h) =
        let one : (q.plain).status ≡ 1 = sym (ap status_of q.whole) ∙ h.0 in
        whole_accepted form bytes (q.plain).text q.part Invalid (solved_lines budget bytes q.plain q.solved (inr (one, h.1))) (its_proof form bytes q.part (q.invalid form refl one) h.1) b checked

pub output_accepted : (form : ProofForm) (budget : ℕ) (bytes : List ℕ) (a b : Answer) → IsSolvedAs (Some form) budget bytes a → HasProof bytes a → IsChecked a.text bytes b → b.status ≡ 0
output_accepted form budget bytes a b solved good is = accepted_by form budget bytes a b (parted (Some form) budget bytes a solved) is good

-- ---- a clause proof after them

-- after such lines, the file that is printed is the part that holds the proof
clauses_accepted : (bytes : List ℕ) (p : Problem) (text file : List ℕ) → Poses bytes p → Fits p → p.existentials ≡ [] → IsOfLines text → IsClauseFile p file → (b : Answer)
    → IsChecked (text ++ (codes "proof:\n" ++ file)) bytes b → (b.status ≡ 0) ⊎ IsCutAnswer b
clauses_accepted bytes p text file poses fits alone lines h b is =
    let whole = text ++ (codes "proof:\n" ++ file) in
    let same : body whole ≡ body file = part_after text file lines ∙ sym h.own in
    let held : HoldsClauseProof (problem_root p).value 0 whole [] = record {
      head = h.holds.head;
      lines = h.holds.lines;
      is_text = h.holds.is_text;
      is = same ∙ h.holds.is;
      values = h.holds.values;
      count = h.holds.count;
      proves = h.holds.proves;
    } in
    (decided whole bytes b p is poses fits).clauses (record { values = []; holds = subst (λ n. HoldsClauseProof (problem_root p).value n whole []) (sym (ap length alone)) held })

pub proved_accepted : (form : ProofForm) (budget : ℕ) (bytes : List ℕ) (p : Problem) (a b : Answer) → Poses bytes p → Fits p → AnswersProved (Some form) budget p a → IsChecked a.text bytes b → (b.status ≡ 0) ⊎ IsCutAnswer b
proved_accepted form budget bytes p a b poses fits h is =
    clauses_accepted bytes p (closed_answer h.blocks).text h.file poses fits h.left_open.alone (closed_lines bytes p _ h.blocks poses h.lines) h.proof b
    (subst (λ t. IsChecked t bytes b) (ap text_of h.whole) is)

pub so_or_cut : {n : ℕ} {C K : Type 0} → K → (n ≡ 0) ⊎ C → (n ≡ 0) ⊎ (K × C)
so_or_cut k (inl z) = inl z
so_or_cut k (inr c) = inr (k, c)

-- an answer of the canonical run has its proof
pub has_proof : (calculus : Bool) (budget : ℕ) (bytes : List ℕ) (a : Answer) → words.HasProof calculus budget bytes a → HasProof bytes a
has_proof calculus budget bytes a (inl z) = inl z
has_proof calculus budget bytes a (inr h) = inr (h.0, h.1)

-- one by a model has none
pub refuted_by_model : (calculus : Bool) (budget : ℕ) (bytes : List ℕ) (a : Answer) → calculus ≡ false → a.status ≡ 1 → IsRefutedByModel budget bytes → words.HasProof calculus budget bytes a → ⊥
refuted_by_model calculus budget bytes a off one early (inl z) = let bad : 0 ≡ 1 = sym z ∙ one in cc
refuted_by_model calculus budget bytes a off one early (inr (h, pure, inl on)) = let bad : true ≡ false = sym on ∙ off in cc
refuted_by_model calculus budget bytes a off one early (inr (h, pure, inr never)) = never early
