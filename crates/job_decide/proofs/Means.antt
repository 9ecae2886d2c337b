-- What the answers of `solve` mean.
use Rattle.std.proofs.Common.{◌≡◌, ◌∙◌, inl, inr, ℕ, ℤ, Bool, true, false, ◌||◌, cond, List, [], ◌++◌, length, Option, Some, None, is_some, codes, refl, sym, ap, subst, append-nil, arith}
use Rattle.std.proofs.lemmas.List.{append_cancel_left}
use Rattle.base_answers.specs.Answer.{Answer, line, says_line}
use Rattle.base_answers.specs.declared.form.ProofForm.{ProofForm}
use Rattle.form_encoding.specs.Problems.{body, constants}
use Rattle.form_encoding.specs.Root.{names_from}
use Rattle.form_encoding.proofs.Frees.{everywhere_free, free_is}
use Rattle.form_encoding.proofs.Problems.{over_constants_is}
use Rattle.form_typed.specs.Formula.{formula}
use Rattle.form_typed.specs.Truth.{Meaning, Truth}
use Rattle.formula.specs.Form.{is_pure}
use Rattle.formula.proofs.Anywhere.{truth_anywhere}
use Rattle.itp_lines.proofs.Meaning.{blocks_mean}
use Rattle.job_decide.specs.Decided.{AnswersNowhere, AnswersProved, AnswersRefuted, IsDecidedAs, canonical, clause_part, model_answer, nowhere, proved, refuted, whole_purse}
use Rattle.job_decide.specs.Meaning.{Means, RefutesInModel}
use Rattle.job_decide.specs.Shown.{AnswersShown, AreShownLines, AreToShow, nothing, values}
use Rattle.job_decide.proofs.Showing.{invalid_plain, no_part as no_part_shown, run_alone, unshown}
use Rattle.job_values.specs.Values.{AreFalseValues, no_model}
use Rattle.job_values.proofs.Refutes.{values_fail, values_refute}
use Rattle.model_printer.specs.Models.{model_text}
use Rattle.model_table.specs.Models.{meaning_of}
use Rattle.job_clauses.proofs.Proving.{clauses_hold}
use Rattle.job_solve.specs.Headline as headline_words
use Rattle.job_solve.specs.Headline.{Headline}
use Rattle.job_solve.specs.Proved.{IsSolvedAs, ProvesInvalid, extended}
use Rattle.job_solve.specs.Solved.{closed_answer, run_end}
use Rattle.job_solve.proofs.Exactly.{one_answer}
use Rattle.job_solve.proofs.Meaning.{headline}
use Rattle.job_solve.proofs.Printing.{parted}
use Rattle.model_refuting.proofs.Refuted as refuting
use Rattle.pri_problem.specs.Answers.{Poses, posed, refused}
use Rattle.pri_problem.specs.Encoded.{Fits, large, leaves, runs}
use Rattle.pri_problem.proofs.Bytes.{reads_formed}
use Rattle.pri_problem.proofs.Cuts.{poses_cuttable}
use Rattle.pri_typing.specs.Problems.{IsPure}
use Rattle.pri_typing.specs.WellFormed.{IsWellFormed}
use Rattle.pri_typing.specs.declared.problem.Problem.{Problem}

abbrev status_of : Answer → ℕ
status_of a = a.status

abbrev text_of : Answer → List ℕ
text_of a = a.text

-- an answer of the canonical run
solved_means : (w : Meaning) (shows : Bool) (asked : Option ProofForm) (budget : ℕ) (bytes : List ℕ) (a : Answer) → IsSolvedAs asked budget bytes a → Means w shows asked bytes a
solved_means w shows asked budget bytes a is =
    let s = parted asked budget bytes a is in
    let status : a.status ≡ (s.plain).status = ap status_of s.whole in
    let h : Headline w bytes s.plain = headline w budget bytes s.plain s.solved in
    record {
      text = (s.plain).text;
      part = s.part;
      whole = ap text_of s.whole;
      none = s.none;
      valid = λ z. h.valid (sym status ∙ z);
      invalid = λ z. inl (h.invalid (sym status ∙ z));
      proved = λ form on z. inl (s.valid form on (sym status ∙ z));
      disproved = λ form on z. inl (s.invalid form on (sym status ∙ z));
    }

-- a formula without predicates and functions that is false in one interpretation is false in each
fails_anywhere : (p : Problem) (us : List ℤ) (v w : Meaning) → IsWellFormed p → IsPure p → length us ≡ constants p → ¬ (Truth v (formula p.formula) us) → ¬ (Truth w (formula p.formula) us)
fails_anywhere p us v w formed pure many fails = λ t.
    let f = formula p.formula in
    let m = constants p in
    let free : is_pure (body p).value ≡ true = free_is f (names_from 0 m) m true ∙ everywhere_free 0 f pure in
    fails ((over_constants_is v p f us formed.products many).0 (truth_anywhere w v (body p).value us free ((over_constants_is w p f us formed.products many).1 t)))

no_part : (asked : Option ProofForm) (file : List ℕ) → asked ≡ None → clause_part asked file ≡ []
no_part None file off = refl
no_part (Some form) file off = absurd cc

its_part : (asked : Option ProofForm) (form : ProofForm) (file : List ℕ) → asked ≡ Some form → clause_part asked file ≡ line (codes "proof:") ++ file
its_part None form file on = absurd cc
its_part (Some wanted) form file on = refl

-- an answer by a clause proof
proved_means : (w : Meaning) (shows : Bool) (asked : Option ProofForm) (budget : ℕ) (bytes : List ℕ) (p : Problem) (a : Answer) → Poses bytes p → Fits p → AnswersProved asked budget p a → Means w shows asked bytes a
proved_means w shows asked budget bytes p a poses fits h =
    let formed = reads_formed bytes p poses.reads in
    let none = h.left_open.alone in
    let holds = clauses_hold w p h.file formed none h.proof in
    record {
      text = (closed_answer h.blocks).text;
      part = clause_part asked h.file;
      whole = ap text_of h.whole;
      none = λ off. no_part asked h.file off;
      valid = λ z. record {
        problem = p;
        reads = poses.reads;
        valid = headline_words.closed h.lines.lines none (ap (λ t. line (codes "VALID") ++ t) h.lines.whole) holds
            (blocks_mean w p (whole_purse budget) h.lines.lines formed (poses_cuttable bytes p poses).pure holds h.lines.are);
      };
      invalid = λ z. let bad = sym z ∙ ap status_of h.whole in absurd cc;
      proved = λ form on z. inr (record { problem = p; poses = poses; fits = fits; alone = none; file = h.file; line = its_part asked form h.file on; proof = h.proof });
      disproved = λ form on z. let bad = sym z ∙ ap status_of h.whole in absurd cc;
    }

-- an answer by a model
refuted_means : (w : Meaning) (shows : Bool) (asked : Option ProofForm) (budget : ℕ) (bytes : List ℕ) (p : Problem) (a : Answer) → Poses bytes p → AnswersRefuted shows budget p a → Means w shows asked bytes a
refuted_means w shows asked budget bytes p a poses h =
    let refutes : RefutesInModel shows bytes (model_answer shows p h.universals h.model).text = record {
      problem = p;
      reads = poses.reads;
      refuted = refuting.refuted p h.model h.universals h.left_open.alone h.is;
      model = h.model;
      universals = h.universals;
      is = h.is;
      everywhere = λ pure v. fails_anywhere p h.universals (meaning_of h.model) v (reads_formed bytes p poses.reads) pure (let none = ap length h.left_open.alone in let fit = h.is.fit in omega (arith, none, fit)) h.is.fails;
      told = refl;
    } in
    record {
      text = (model_answer shows p h.universals h.model).text;
      part = [];
      whole = ap text_of h.whole ∙ sym (append-nil (model_answer shows p h.universals h.model).text);
      none = λ off. refl;
      valid = λ z. let bad = sym z ∙ ap status_of h.whole in absurd cc;
      invalid = λ z. inr refutes;
      proved = λ form on z. let bad = sym z ∙ ap status_of h.whole in absurd cc;
      disproved = λ form on z. inr (refl, refutes);
    }

-- an answer by a clause proof that there are no values
nowhere_means : (w : Meaning) (shows : Bool) (budget : ℕ) (bytes : List ℕ) (p : Problem) (a : Answer) → Poses bytes p → AnswersNowhere budget p a → Means w shows None bytes a
nowhere_means w shows budget bytes p a poses h =
    let is = h.nowhere in
    record {
      text = a.text;
      part = [];
      whole = sym (append-nil a.text);
      none = λ off. refl;
      valid = λ z. let bad = sym z ∙ ap status_of h.whole in absurd cc;
      invalid = λ one. inl (record { problem = p; reads = poses.reads; refuted = is.refuted; shows = λ impure vs probe. absurd (impure is.pure) });
      proved = λ form on. absurd cc;
      disproved = λ form on. absurd cc;
    }

-- an answer of the canonical run with values that are shown
values_mean : (w : Meaning) (shows : Bool) (asked : Option ProofForm) (budget : ℕ) (bytes : List ℕ) (p : Problem) (a : Answer) → Poses bytes p → Fits p → (k : AnswersShown shows asked budget p a) (vs : List ℤ) → AreToShow shows p k.plain
    → AreFalseValues budget p vs → k.lines ≡ model_text p vs no_model → Means w shows asked bytes a
values_mean w shows asked budget bytes p a poses fits k vs here found is =
    let formed = reads_formed bytes p poses.reads in
    let pure : IsPure p = (poses_cuttable bytes p poses).pure.0 here.pure in
    let s = parted asked budget bytes (extended k.plain k.part) (posed p poses (runs fits (run_alone shows asked budget p a k))) in
    let same : s.plain ≡ k.plain = one_answer budget bytes s.plain k.plain s.solved (posed p poses (runs fits k.answers)) in
    let same_part : s.part ≡ k.part = append_cancel_left k.plain.text s.part k.part (ap (λ (q : Answer). q.text ++ s.part) (sym same) ∙ sym (ap text_of s.whole)) in
    let plain : k.plain ≡ says_line 1 (codes "INVALID") = invalid_plain budget p k.plain formed pure k.answers here.invalid in
    let counterexample = values_refute budget p vs formed here.alone found in
    let one : a.status ≡ 1 = ap status_of k.whole ∙ here.invalid in
    let refutes : RefutesInModel shows bytes (extended k.plain k.lines).text = record {
      problem = p;
      reads = poses.reads;
      refuted = refuting.refuted p no_model vs here.alone counterexample;
      model = no_model;
      universals = vs;
      is = counterexample;
      everywhere = λ _ v. values_fail budget p vs v formed here.alone found;
      told = (λ i. (plain i).text ++ is i) ∙ ap (λ b. line (codes "INVALID") ++ cond (b || is_some p.first_application) (model_text p vs no_model) []) (sym here.asked);
    } in
    record {
      text = (extended k.plain k.lines).text;
      part = k.part;
      whole = ap text_of k.whole;
      none = no_part_shown asked p (run_end budget p) k.part k.is_part;
      valid = λ z. let bad = sym z ∙ one in absurd cc;
      invalid = λ z. inr refutes;
      proved = λ form on z. let bad = sym z ∙ one in absurd cc;
      disproved = λ form on z. inl (subst (ProvesInvalid form bytes) same_part (s.invalid form on (ap status_of same ∙ here.invalid)));
    }

canonical_means : (w : Meaning) (shows : Bool) (asked : Option ProofForm) (budget : ℕ) (bytes : List ℕ) (p : Problem) (a : Answer) → Poses bytes p → Fits p → AnswersShown shows asked budget p a → Means w shows asked bytes a
canonical_means w shows asked budget bytes p a poses fits k = by k.shown
  where
    by : AreShownLines shows budget p k.plain k.lines → Means w shows asked bytes a
    by (values vs here found is) = values_mean w shows asked budget bytes p a poses fits k vs here found is
    by (nothing none empty) = solved_means w shows asked budget bytes a (posed p poses (runs fits (unshown shows asked budget p a k empty)))

pub means : (w : Meaning) (calculus shows : Bool) (asked : Option ProofForm) (budget : ℕ) (bytes : List ℕ) (a : Answer) → IsDecidedAs calculus shows asked budget bytes a → Means w shows asked bytes a
means w calculus shows asked budget bytes a (refused r h e) = solved_means w shows asked budget bytes a (refused r h e)
means w calculus shows asked budget bytes a (posed p h (large l e)) = solved_means w shows asked budget bytes a (posed p h (large l e))
means w calculus shows asked budget bytes a (posed p h (leaves l e)) = solved_means w shows asked budget bytes a (posed p h (leaves l e))
means w calculus shows asked budget bytes a (posed p h (runs f (canonical k))) = canonical_means w shows asked budget bytes p a h f k
means w calculus shows asked budget bytes a (posed p h (runs f (proved off k))) = proved_means w shows asked budget bytes p a h f k
means w calculus shows asked budget bytes a (posed p h (runs f (refuted off k))) = refuted_means w shows asked budget bytes p a h k
means w calculus shows asked budget bytes a (posed p h (runs f (nowhere off none k))) = subst (λ x. Means w shows x bytes a) (sym none) (nowhere_means w shows budget bytes p a h k)

-- with the calculus alone, and where no values are shown, there is no other answer than those of the canonical run
no_lines : (budget : ℕ) (p : Problem) (plain : Answer) (lines : List ℕ) → AreShownLines false budget p plain lines → lines ≡ []
no_lines budget p plain lines (values vs here found is) = let bad : false ≡ true = here.asked in absurd cc
no_lines budget p plain lines (nothing none empty) = empty

pub calculus_alone : (asked : Option ProofForm) (budget : ℕ) (bytes : List ℕ) (a : Answer) → IsDecidedAs true false asked budget bytes a → IsSolvedAs asked budget bytes a
calculus_alone asked budget bytes a (refused r h e) = refused r h e
calculus_alone asked budget bytes a (posed p h (large l e)) = posed p h (large l e)
calculus_alone asked budget bytes a (posed p h (leaves l e)) = posed p h (leaves l e)
calculus_alone asked budget bytes a (posed p h (runs f (canonical k))) = posed p h (runs f (unshown false asked budget p a k (no_lines budget p k.plain k.lines k.shown)))
calculus_alone asked budget bytes a (posed p h (runs f (proved off k))) = absurd cc
calculus_alone asked budget bytes a (posed p h (runs f (refuted off k))) = absurd cc
calculus_alone asked budget bytes a (posed p h (runs f (nowhere off none k))) = absurd cc
