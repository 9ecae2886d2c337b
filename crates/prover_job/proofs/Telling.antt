-- What a run answers, and what its end means.
use Rattle.std.proofs.Common.{◌≡◌, ◌≢◌, ◌≤◌, ◌⊎◌, inl, inr, ℕ, List, [], ◌∷◌, ◌++◌, length, Option, Some, None, Result, Ok, Err, IfOk, refl, sym, ◌∙◌, ap, subst, append-nil, arith, Bool, true, false, ◌||◌, ◌==◌, IsTrue}
use Rattle.form_typed.specs.Truth.{Meaning}
use Rattle.form_typed.specs.Table.{meaning_of}
use Rattle.prover_io.specs.Outside.{IsLonger, IsWhole}
use Rattle.prover_io.specs.declared.whole.ReadFault.{ReadFault}
use Rattle.prover_io.specs.declared.whole.ReadFault.TheVariants.{Long}
use Rattle.base_answers.specs.Answer.{Answer, answer_of, long_answer, IsAnswerStatus, IsTextStatus}
use Rattle.base_answers.specs.declared.output.Output.{Output}
use Rattle.base_answers.specs.Outside.{IsPutWhole, Meets, PutsAll}
use Rattle.base_answers.specs.Files.{AnswersBytes, AnswersSource, most_of_file, most_of_proof, too_long, within}
use Rattle.base_answers.proofs.Meeting.{long_answered, meets_more, whole_answered}
use Rattle.job_words.specs.Jobs.{Task, solve, eliminate, find_values, run_script, minimise, check, drill, IsBudget, NamesJob}
use Rattle.problem_gen.specs.Drills.{drill_text}
use Rattle.job_decide.specs.Causes.{IsCausedAs}
use Rattle.job_solve.specs.Proved.{PrintsProofOf}
use Rattle.job_decide.specs.Decided.{IsDecidedAs}
use Rattle.job_decide.specs.Drilled.{IsDrilled}
use Rattle.job_decide.specs.Meaning.{Means}
use Rattle.job_decide.proofs.Causing.{decided_status}
use Rattle.job_decide.proofs.Causing as decide_causing
use Rattle.job_decide.proofs.Means as decide_meaning
use Rattle.base_answers.specs.declared.form.ProofForm.{ProofForm}
use Rattle.pri_lines.proofs.Losing.{no_table}
use Rattle.job_check.specs.Checked.{IsChecked}
use Rattle.job_check.specs.Meaning.{CheckMeans}
use Rattle.job_check.specs.Causes as check_causes
use Rattle.job_check.proofs.Causing as check_causing
use Rattle.job_find.specs.Causes.{IsFindCaused}
use Rattle.job_find.specs.Found.{IsFoundIn}
use Rattle.job_find.specs.Meaning.{FindMeans}
use Rattle.job_find.proofs.Means.{find_status}
use Rattle.job_find.proofs.Means as find_meaning
use Rattle.job_smt.specs.Causes.{SmtCauses}
use Rattle.job_smt.proofs.Causing as smt_causing
use Rattle.job_check.proofs.Exactly.{accepted_text}
use Rattle.job_check.proofs.Meaning as check_meaning
use Rattle.proof_tree.specs.declared.run.Verdict.{Verdict}
use Rattle.job_check.proofs.Meaning.{checked_status}
use Rattle.job_elim.specs.Eliminated.{IsEliminated}
use Rattle.job_elim.specs.Meaning.{ElimMeans}
use Rattle.job_elim.proofs.Causing as elim_causing
use Rattle.job_elim.proofs.Exactly.{eliminated_status}
use Rattle.job_smt.specs.Answered.{IsSmtAnswer}
use Rattle.job_smt.specs.Meaning.{Scripted, ScriptedBefore}
use Rattle.job_smt.proofs.Meaning.{means_all, means_before, smt_status}
use Rattle.job_elim.proofs.Meaning.{means}
use Rattle.job_least.specs.Leasts.{IsLeastAnswer}
use Rattle.job_least.specs.Meaning.{LeastAnswers}
use Rattle.job_least.proofs.Causing as least_causing
use Rattle.job_least.proofs.Deciding as least_deciding
use Rattle.job_least.proofs.Exactly.{least_status}
use Rattle.job_least.proofs.Meaning as least_meaning
use Rattle.prover_job.specs.declared.tasks.Stop.{Stop}
use Rattle.prover_job.specs.Runs.{AnswersTask, AnswersWithProof, IsSmallTask, SaysChecked, SaysConstraint, SaysFound, SaysLeast, SaysNowhere, SaysScript, SaysScriptBefore, SaysUnfound, SaysValid, SaysRefuted, IsElimCaused, IsLeastCaused, IsCheckCaused, IsDrillCaused}

-- ---- files

-- a file that is too long is answered so
pub long_so : (most : ℕ) (IsAnswer : List ℕ → Answer → Type 0) (told : Option (List ℕ)) (f : ReadFault) (r : Result Output Stop) → (f ≡ Long → IsLonger told most)
    → IfOk r (λ o. (f ≡ Long) × (answer_of o ≡ long_answer)) → IfOk r (λ o. AnswersSource most IsAnswer told (answer_of o))
long_so most IsAnswer told f (Ok o) longer h = long_answered most IsAnswer told (answer_of o) (longer h.0) h.1
long_so most IsAnswer told f (Err s) longer h = tt

-- what holds of the answers to bytes holds of those to a file
source_more : (most : ℕ) (P Q : List ℕ → Answer → Type 0) → ((bytes : List ℕ) (a : Answer) → P bytes a → Q bytes a) → (told : Option (List ℕ)) (a : Answer) → AnswersSource most P told a → AnswersSource most Q told a
source_more most P Q more told a h = record { bytes = h.bytes; whole = h.whole; is = by h.is }
  where
    by : AnswersBytes most P h.bytes a → AnswersBytes most Q h.bytes a
    by (too_long l e) = too_long l e
    by (within l is) = within l (more h.bytes a is)

-- the answer to a proof's file whose bytes are told as those of another is the same
pub told_same : (told other : Option (List ℕ)) → other ≡ told → (r : Result Output Stop) (bytes : List ℕ) → IfOk r (λ o. AnswersWithProof other bytes (answer_of o)) → IfOk r (λ o. AnswersWithProof told bytes (answer_of o))
told_same told other same r bytes h = subst (λ t. IfOk r (λ o. AnswersWithProof t bytes (answer_of o))) same h

-- a problem's file that is held is answered with the proof's file
pub held_so : (IsAnswer : List ℕ → Answer → Type 0) (told : Option (List ℕ)) (bytes : List ℕ) (r : Result Output Stop) → IsWhole told bytes → length bytes ≤ most_of_file → IfOk r (λ o. IsAnswer bytes (answer_of o))
    → IfOk r (λ o. AnswersSource most_of_file IsAnswer told (answer_of o))
held_so IsAnswer told bytes (Ok o) whole few h = whole_answered most_of_file IsAnswer told bytes (answer_of o) whole few h
held_so IsAnswer told bytes (Err s) whole few h = tt

-- ---- statuses

bytes_status : (most : ℕ) (P : List ℕ → Answer → Type 0) → ((bytes : List ℕ) (a : Answer) → P bytes a → IsAnswerStatus a.status) → (bytes : List ℕ) (a : Answer) → AnswersBytes most P bytes a → IsAnswerStatus a.status
bytes_status most P known bytes a (too_long l e) = subst (λ b. IsAnswerStatus b.status) (sym e) refl
bytes_status most P known bytes a (within l is) = known bytes a is

with_proof_status : (told : Option (List ℕ)) (bytes : List ℕ) (a : Answer) → AnswersWithProof told bytes a → IsAnswerStatus a.status
with_proof_status told bytes a h = bytes_status most_of_proof (λ proof. IsChecked proof bytes) (λ proof b is. checked_status proof bytes b is) h.bytes a h.is

-- each answer has a status of answers
pub task_status : (bytes_of : List ℕ → Option (List ℕ)) (task : Task) (a : Answer) → AnswersTask bytes_of task a → IsAnswerStatus a.status
task_status bytes_of (solve file budget asked calculus shows) a h = bytes_status most_of_file (IsDecidedAs calculus shows asked budget) (decided_status calculus shows asked budget) h.bytes a h.is
task_status bytes_of (eliminate file budget) a h = bytes_status most_of_file (IsEliminated budget) (eliminated_status budget) h.bytes a h.is
task_status bytes_of (find_values file budget proves) a h = bytes_status most_of_file (IsFoundIn proves budget) (find_status proves budget) h.bytes a h.is
task_status bytes_of (run_script file budget) a h = bytes_status most_of_file (IsSmtAnswer budget) (smt_status budget) h.bytes a h.is
task_status bytes_of (minimise file term budget) a h = bytes_status most_of_file (IsLeastAnswer term budget) (least_status term budget) h.bytes a h.is
task_status bytes_of (check file proof) a h = bytes_status most_of_file (AnswersWithProof (bytes_of proof)) (with_proof_status (bytes_of proof)) h.bytes a h.is
task_status bytes_of (drill count budget) a h = subst (λ b. IsAnswerStatus b.status) (sym h.drilled) (decided_status false false None budget (drill_text count) h.solved h.solves)

-- what ends with such a status or with 7 ends neither with 6 nor with 8
-- a status of an answer comes with a text, and is not that of refused words
more_true : (a b c d e f g : Bool) → IsTrue (a || (b || (c || (d || (e || (g || false)))))) → IsTrue (a || (b || (c || (d || (e || (f || (g || false)))))))
more_true true b c d e f g h = refl
more_true false true c d e f g h = refl
more_true false false true d e f g h = refl
more_true false false false true e f g h = refl
more_true false false false false true f g h = refl
more_true false false false false false true g h = refl
more_true false false false false false false g h = h

pub text_status : (status : ℕ) → IsAnswerStatus status → IsTextStatus status
text_status status is = more_true (0 == status) (1 == status) (2 == status) (3 == status) (4 == status) (5 == status) (9 == status) is

pub no_words : (status ends : ℕ) → IsAnswerStatus status → (ends ≡ status) ⊎ (ends ≡ 7) → ends ≢ 5
no_words status ends is (inl e) five = let bad : IsAnswerStatus 5 = subst IsAnswerStatus (sym e ∙ five) is in absurd cc
no_words status ends is (inr seven) five = absurd cc

pub no_fault : (status ends : ℕ) → IsAnswerStatus status → (ends ≡ status) ⊎ (ends ≡ 7) → (ends ≡ 6) ⊎ (ends ≡ 8) → ⊥
no_fault status ends is (inl e) (inl six) = let bad : IsAnswerStatus 6 = subst IsAnswerStatus (sym e ∙ six) is in absurd cc
no_fault status ends is (inl e) (inr eight) = let bad : IsAnswerStatus 8 = subst IsAnswerStatus (sym e ∙ eight) is in absurd cc
no_fault status ends is (inr seven) (inl six) = absurd cc
no_fault status ends is (inr seven) (inr eight) = absurd cc

-- ---- the answer that is put

pub meets_answer : (P : Answer → Type 0) (a b : Answer) (ends : ℕ) (before after : Option (List ℕ)) → P a → b ≡ a
    → Meets (λ answer. answer ≡ b) ends before after → Meets P ends before after
meets_answer P a b ends before after is same met = meets_more (λ answer. answer ≡ b) P ends before after (λ answer e. subst P (sym (e ∙ same)) is) met

-- ---- what a run's end means

-- the answer to the bytes of a file means what answers to shorter ones do, where a long file's means nothing
bytes_decided : (w : Meaning) (calculus shows : Bool) (asked : Option ProofForm) (budget : ℕ) (bytes : List ℕ) (a : Answer) → AnswersBytes most_of_file (IsDecidedAs calculus shows asked budget) bytes a → Means w shows asked bytes a
bytes_decided w calculus shows asked budget bytes a (too_long l e) = record {
  text = a.text;
  part = [];
  whole = sym (append-nil a.text);
  none = λ off. refl;
  valid = λ z. let bad = sym z ∙ ap (λ b. b.status) e in absurd cc;
  invalid = λ z. let bad = sym z ∙ ap (λ b. b.status) e in absurd cc;
  proved = λ form on z. let bad = sym z ∙ ap (λ b. b.status) e in absurd cc;
  disproved = λ form on z. let bad = sym z ∙ ap (λ b. b.status) e in absurd cc;
}
bytes_decided w calculus shows asked budget bytes a (within l is) = decide_meaning.means w calculus shows asked budget bytes a is

bytes_means : (w : Meaning) (budget : ℕ) (bytes : List ℕ) (a : Answer) → AnswersBytes most_of_file (IsEliminated budget) bytes a → ElimMeans w bytes a
bytes_means w budget bytes a (too_long l e) = λ z. let bad = sym z ∙ ap (λ b. b.status) e in absurd cc
bytes_means w budget bytes a (within l is) = means w budget bytes a is

-- a run that ends with neither 6 nor 7 nor 8 gives its answer whole
given_to : (P : Answer → Type 0) (ends n : ℕ) (before after : Option (List ℕ)) → Meets P ends before after → ends ≡ n → n ≢ 6 → n ≢ 7 → n ≢ 8 → IsPutWhole P ends before after
given_to P ends n before after met e six seven eight = met.whole (λ z. six (sym e ∙ z)) (λ z. seven (sym e ∙ z)) (λ z. eight (sym e ∙ z))

-- at status 0 a text says of the problem that it is valid
pub says_valid : (w : Meaning) (calculus shows : Bool) (asked : Option ProofForm) (budget : ℕ) (told : Option (List ℕ)) (ends : ℕ) (before after : Option (List ℕ)) → Meets (AnswersSource most_of_file (IsDecidedAs calculus shows asked budget) told) ends before after
    → ends ≡ 0 → SaysValid w asked told before after
says_valid w calculus shows asked budget told ends before after met z =
    let given = given_to _ ends 0 before after met z (λ e. cc) (λ e. cc) (λ e. cc) in
    let m = bytes_decided w calculus shows asked budget (given.is).bytes given.answer (given.is).is in
    record {
      bytes = (given.is).bytes;
      whole = (given.is).whole;
      text = m.text;
      part = m.part;
      put = subst (PutsAll before after) m.whole given.put;
      valid = m.valid (sym given.status ∙ z);
      none = m.none;
      proved = λ form on. m.proved form on (sym given.status ∙ z);
    }

-- at status 1 the problem is refuted
pub says_refuted : (calculus shows : Bool) (asked : Option ProofForm) (budget : ℕ) (told : Option (List ℕ)) (ends : ℕ) (before after : Option (List ℕ)) → Meets (AnswersSource most_of_file (IsDecidedAs calculus shows asked budget) told) ends before after → ends ≡ 1
    → SaysRefuted shows asked told before after
says_refuted calculus shows asked budget told ends before after met z =
    let given = given_to _ ends 1 before after met z (λ e. cc) (λ e. cc) (λ e. cc) in
    let m = bytes_decided (meaning_of no_table) calculus shows asked budget (given.is).bytes given.answer (given.is).is in
    record {
      bytes = (given.is).bytes;
      whole = (given.is).whole;
      text = m.text;
      part = m.part;
      put = subst (PutsAll before after) m.whole given.put;
      refuted = m.invalid (sym given.status ∙ z);
      none = m.none;
      proved = λ form on. m.disproved form on (sym given.status ∙ z);
    }

-- at status 0 of `check` a text says of the problem what is so
bytes_confirm : (w : Meaning) (told : Option (List ℕ)) (bytes : List ℕ) (a : Answer) → AnswersBytes most_of_file (AnswersWithProof told) bytes a → CheckMeans w bytes a
bytes_confirm w told bytes a (too_long l e) = record { accepted = λ z. let bad = sym z ∙ ap (λ b. b.status) e in absurd cc }
bytes_confirm w told bytes a (within l h) = proof_confirms h.bytes h.is
  where
    proof_confirms : (proof : List ℕ) → AnswersBytes most_of_proof (λ proof. IsChecked proof bytes) proof a → CheckMeans w bytes a
    proof_confirms proof (too_long l e) = record { accepted = λ z. let bad = sym z ∙ ap (λ b. b.status) e in absurd cc }
    proof_confirms proof (within l is) = check_meaning.means w proof bytes a is

pub says_checked : (w : Meaning) (proof told : Option (List ℕ)) (ends : ℕ) (before after : Option (List ℕ)) → Meets (AnswersSource most_of_file (AnswersWithProof proof) told) ends before after → ends ≡ 0
    → SaysChecked w told before after
says_checked w proof told ends before after met z =
    let given = given_to _ ends 0 before after met z (λ e. cc) (λ e. cc) (λ e. cc) in
    record {
      bytes = (given.is).bytes;
      whole = (given.is).whole;
      text = (given.answer).text;
      put = given.put;
      confirms = (bytes_confirm w proof (given.is).bytes given.answer (given.is).is).accepted (sym given.status ∙ z);
    }

-- at status 0 of `elim` a constraint is put that is true exactly where the problem holds
pub says_constraint : (w : Meaning) (budget : ℕ) (told : Option (List ℕ)) (ends : ℕ) (before after : Option (List ℕ)) → Meets (AnswersSource most_of_file (IsEliminated budget) told) ends before after
    → ends ≡ 0 → SaysConstraint w told before after
says_constraint w budget told ends before after met z =
    let given = given_to _ ends 0 before after met z (λ e. cc) (λ e. cc) (λ e. cc) in
    record {
      bytes = (given.is).bytes;
      whole = (given.is).whole;
      text = (given.answer).text;
      put = given.put;
      constrained = bytes_means w budget (given.is).bytes given.answer (given.is).is (sym given.status ∙ z);
    }

-- an answer of `find` to the bytes of a file means what it does, where a long file's means nothing
bytes_found : (w : Meaning) (proves : Bool) (budget : ℕ) (bytes : List ℕ) (a : Answer) → AnswersBytes most_of_file (IsFoundIn proves budget) bytes a → FindMeans w proves bytes a
bytes_found w proves budget bytes a (too_long l e) = record {
  text = a.text;
  part = [];
  whole = sym (append-nil a.text);
  none = λ off. refl;
  found = λ z. let bad = sym z ∙ ap (λ b. b.status) e in absurd cc;
  refuted = λ z. let bad = sym z ∙ ap (λ b. b.status) e in absurd cc;
  disproved = λ z. let bad = sym z ∙ ap (λ b. b.status) e in absurd cc;
}
bytes_found w proves budget bytes a (within l is) = find_meaning.means w proves budget bytes a is

pub says_found : (w : Meaning) (proves : Bool) (budget : ℕ) (told : Option (List ℕ)) (ends : ℕ) (before after : Option (List ℕ)) → Meets (AnswersSource most_of_file (IsFoundIn proves budget) told) ends before after → ends ≡ 0
    → SaysFound w proves told before after
says_found w proves budget told ends before after met z =
    let given = given_to _ ends 0 before after met z (λ e. cc) (λ e. cc) (λ e. cc) in
    let m = bytes_found w proves budget (given.is).bytes given.answer (given.is).is in
    record {
      bytes = (given.is).bytes;
      whole = (given.is).whole;
      text = m.text;
      part = m.part;
      put = subst (PutsAll before after) m.whole given.put;
      found = m.found (sym given.status ∙ z);
      none = m.none;
    }

pub says_unfound : (proves : Bool) (budget : ℕ) (told : Option (List ℕ)) (ends : ℕ) (before after : Option (List ℕ)) → Meets (AnswersSource most_of_file (IsFoundIn proves budget) told) ends before after → ends ≡ 1
    → SaysUnfound proves told before after
says_unfound proves budget told ends before after met z =
    let given = given_to _ ends 1 before after met z (λ e. cc) (λ e. cc) (λ e. cc) in
    let m = bytes_found (meaning_of no_table) proves budget (given.is).bytes given.answer (given.is).is in
    record {
      bytes = (given.is).bytes;
      whole = (given.is).whole;
      text = m.text;
      part = m.part;
      put = subst (PutsAll before after) m.whole given.put;
      refuted = m.refuted (sym given.status ∙ z);
      none = m.none;
      disproved = m.disproved (sym given.status ∙ z);
    }

pub find_caused : (proves : Bool) (budget : ℕ) (told : Option (List ℕ)) (ends : ℕ) (before after : Option (List ℕ)) → Meets (AnswersSource most_of_file (IsFoundIn proves budget) told) ends before after
    → Meets (AnswersSource most_of_file (IsFindCaused proves budget) told) ends before after
find_caused proves budget told ends before after met = meets_more _ _ ends before after (source_more most_of_file (IsFoundIn proves budget) (IsFindCaused proves budget) (find_meaning.causes proves budget) told) met

-- an answer of `smt` to the bytes of a file means what it does, where a long file's means nothing
bytes_script : (w : Meaning) (budget : ℕ) (bytes : List ℕ) (a : Answer) → AnswersBytes most_of_file (IsSmtAnswer budget) bytes a → (a.status ≡ 0) ⊎ (a.status ≡ 2) → Scripted w bytes a.text
bytes_script w budget bytes a (too_long l e) (inl z) = let bad = sym z ∙ ap (λ b. b.status) e in absurd cc
bytes_script w budget bytes a (too_long l e) (inr z) = let bad = sym z ∙ ap (λ b. b.status) e in absurd cc
bytes_script w budget bytes a (within l is) z = means_all w budget bytes a is z

script_at : (w : Meaning) (budget n : ℕ) (told : Option (List ℕ)) (ends : ℕ) (before after : Option (List ℕ)) → Meets (AnswersSource most_of_file (IsSmtAnswer budget) told) ends before after
    → ends ≡ n → (n ≡ 0) ⊎ (n ≡ 2) → (n ≡ 6 → ⊥) → (n ≡ 7 → ⊥) → (n ≡ 8 → ⊥) → SaysScript w told before after
script_at w budget n told ends before after met z known six seven eight =
    let given = given_to _ ends n before after met z six seven eight in
    record {
      bytes = (given.is).bytes;
      whole = (given.is).whole;
      text = (given.answer).text;
      put = given.put;
      scripted = bytes_script w budget (given.is).bytes given.answer (given.is).is (by known (sym given.status ∙ z));
    }
  where
    by : {m : ℕ} → (n ≡ 0) ⊎ (n ≡ 2) → m ≡ n → (m ≡ 0) ⊎ (m ≡ 2)
    by (inl a) e = inl (e ∙ a)
    by (inr a) e = inr (e ∙ a)

-- at status 0 and at status 2 of `smt` the lines of a script are put, which say what is so of its checks
pub says_script : (w : Meaning) (budget : ℕ) (told : Option (List ℕ)) (ends : ℕ) (before after : Option (List ℕ)) → Meets (AnswersSource most_of_file (IsSmtAnswer budget) told) ends before after
    → (ends ≡ 0) ⊎ (ends ≡ 2) → SaysScript w told before after
says_script w budget told ends before after met (inl z) = script_at w budget 0 told ends before after met z (inl refl) (λ e. cc) (λ e. cc) (λ e. cc)
says_script w budget told ends before after met (inr z) = script_at w budget 2 told ends before after met z (inr refl) (λ e. cc) (λ e. cc) (λ e. cc)

bytes_before : (w : Meaning) (budget : ℕ) (bytes : List ℕ) (a : Answer) → AnswersBytes most_of_file (IsSmtAnswer budget) bytes a → a.status ≡ 3 → ScriptedBefore w bytes a.text
bytes_before w budget bytes a (too_long l e) z = let bad = sym z ∙ ap (λ b. b.status) e in absurd cc
bytes_before w budget bytes a (within l is) z = means_before w budget bytes a is z

-- at status 3 of `smt` the lines before the refusal say what is so
pub says_before : (w : Meaning) (budget : ℕ) (told : Option (List ℕ)) (ends : ℕ) (before after : Option (List ℕ)) → Meets (AnswersSource most_of_file (IsSmtAnswer budget) told) ends before after
    → ends ≡ 3 → SaysScriptBefore w told before after
says_before w budget told ends before after met z =
    let given = given_to _ ends 3 before after met z (λ e. cc) (λ e. cc) (λ e. cc) in
    record {
      bytes = (given.is).bytes;
      whole = (given.is).whole;
      text = (given.answer).text;
      put = given.put;
      scripted = bytes_before w budget (given.is).bytes given.answer (given.is).is (sym given.status ∙ z);
    }

-- an answer of `least` to the bytes of a file means what it does, where a long file's means nothing
bytes_least : (w : Meaning) (term : List ℕ) (budget : ℕ) (bytes : List ℕ) (a : Answer) → AnswersBytes most_of_file (IsLeastAnswer term budget) bytes a → LeastAnswers w term bytes a
bytes_least w term budget bytes a (too_long l e) = record {
  found = λ z. let bad = sym z ∙ ap (λ b. b.status) e in absurd cc;
  none = λ z. let bad = sym z ∙ ap (λ b. b.status) e in absurd cc;
}
bytes_least w term budget bytes a (within l is) = least_meaning.means w term budget bytes a is

-- at status 0 of `least` a text tells the least value
pub says_least : (w : Meaning) (term : List ℕ) (budget : ℕ) (told : Option (List ℕ)) (ends : ℕ) (before after : Option (List ℕ)) → Meets (AnswersSource most_of_file (IsLeastAnswer term budget) told) ends before after
    → ends ≡ 0 → SaysLeast w term told before after
says_least w term budget told ends before after met z =
    let given = given_to _ ends 0 before after met z (λ e. cc) (λ e. cc) (λ e. cc) in
    record {
      bytes = (given.is).bytes;
      whole = (given.is).whole;
      text = (given.answer).text;
      put = given.put;
      minimised = (bytes_least w term budget (given.is).bytes given.answer (given.is).is).found (sym given.status ∙ z);
    }

-- at status 1 of `least` the problem holds nowhere
pub says_nowhere : (w : Meaning) (term : List ℕ) (budget : ℕ) (told : Option (List ℕ)) (ends : ℕ) (before after : Option (List ℕ)) → Meets (AnswersSource most_of_file (IsLeastAnswer term budget) told) ends before after
    → ends ≡ 1 → SaysNowhere w told
says_nowhere w term budget told ends before after met z =
    let given = given_to _ ends 1 before after met z (λ e. cc) (λ e. cc) (λ e. cc) in
    record {
      bytes = (given.is).bytes;
      whole = (given.is).whole;
      unsatisfied = (bytes_least w term budget (given.is).bytes given.answer (given.is).is).none (sym given.status ∙ z);
    }

-- the answer comes exactly where its row says
pub solve_caused : (calculus shows : Bool) (asked : Option ProofForm) (budget : ℕ) (told : Option (List ℕ)) (ends : ℕ) (before after : Option (List ℕ)) → Meets (AnswersSource most_of_file (IsDecidedAs calculus shows asked budget) told) ends before after
    → Meets (AnswersSource most_of_file (IsCausedAs calculus shows asked budget) told) ends before after
solve_caused calculus shows asked budget told ends before after met =
    meets_more _ _ ends before after (source_more most_of_file (IsDecidedAs calculus shows asked budget) (IsCausedAs calculus shows asked budget) (decide_causing.causes calculus shows asked budget) told) met

pub elim_caused : (budget : ℕ) (told : Option (List ℕ)) (ends : ℕ) (before after : Option (List ℕ)) → Meets (AnswersSource most_of_file (IsEliminated budget) told) ends before after
    → Meets (AnswersSource most_of_file (IsElimCaused budget) told) ends before after
elim_caused budget told ends before after met = meets_more _ _ ends before after (source_more most_of_file (IsEliminated budget) (IsElimCaused budget)
    (λ bytes a is. record { causes = elim_causing.causes budget bytes a is; decides = elim_causing.decides budget bytes a is }) told) met

pub least_caused : (w : Meaning) (term : List ℕ) (budget : ℕ) (told : Option (List ℕ)) (ends : ℕ) (before after : Option (List ℕ)) → Meets (AnswersSource most_of_file (IsLeastAnswer term budget) told) ends before after
    → Meets (AnswersSource most_of_file (IsLeastCaused w term budget) told) ends before after
least_caused w term budget told ends before after met = meets_more _ _ ends before after (source_more most_of_file (IsLeastAnswer term budget) (IsLeastCaused w term budget)
    (λ bytes a is. record { causes = least_causing.causes term budget bytes a is; decides = λ p x decided. least_deciding.decides w term budget bytes a p x is decided }) told) met

pub smt_caused : (budget : ℕ) (told : Option (List ℕ)) (ends : ℕ) (before after : Option (List ℕ)) → Meets (AnswersSource most_of_file (IsSmtAnswer budget) told) ends before after
    → Meets (AnswersSource most_of_file (SmtCauses budget) told) ends before after
smt_caused budget told ends before after met = meets_more _ _ ends before after (source_more most_of_file (IsSmtAnswer budget) (SmtCauses budget) (smt_causing.causes budget) told) met

pub check_caused : (proof told : Option (List ℕ)) (ends : ℕ) (before after : Option (List ℕ)) → Meets (AnswersSource most_of_file (AnswersWithProof proof) told) ends before after
    → Meets (AnswersSource most_of_file (IsCheckCaused proof) told) ends before after
check_caused proof told ends before after met = meets_more _ _ ends before after (source_more most_of_file (AnswersWithProof proof) (IsCheckCaused proof)
    (λ bytes. source_more most_of_proof (λ text. IsChecked text bytes) (λ text. check_causes.CheckCauses text bytes) (λ text a is. check_causing.causes text bytes a is) proof) told) met

pub drill_caused : (w : Meaning) (budget count ends : ℕ) (before after : Option (List ℕ)) → Meets (IsDrilled budget count) ends before after → Meets (IsDrillCaused w budget count) ends before after
drill_caused w budget count ends before after met = meets_more (IsDrilled budget count) (IsDrillCaused w budget count) ends before after (λ a is. record {
  solved = is.solved;
  drilled = is.drilled;
  means = decide_meaning.means w false false None budget (drill_text count) is.solved is.solves;
  caused = decide_causing.causes false false None budget (drill_text count) is.solved is.solves;
}) met

-- ---- the job that words name

budget_small : (texts : List (List ℕ)) (n : ℕ) → IsBudget texts n → n ≤ 1000000000
budget_small [] n h = omega (arith, h)
budget_small (text ∷ []) n h = h.within
budget_small (text ∷ more ∷ rest) n h = absurd h

-- the numbers of a job that words name are small enough
pub named_within : (words : List (List ℕ)) (task : Task) → NamesJob words task → IsSmallTask task
named_within [] task h = absurd h
named_within (command ∷ line) (solve file budget asked calculus shows) h = budget_small _ budget h.1.budget_is
named_within (command ∷ line) (eliminate file budget) h = let small = budget_small _ budget h.1.budget_is in omega (arith, small)
named_within (command ∷ line) (find_values file budget proves) h = budget_small _ budget h.1.budget_is
named_within (command ∷ line) (run_script file budget) h = budget_small _ budget h.1.budget_is
named_within (command ∷ line) (minimise file term budget) h = let small = budget_small _ budget h.1.budget_is in omega (arith, small)
named_within (command ∷ line) (check file proof) h = tt
named_within (command ∷ line) (drill count budget) h = (h.1.count_is.within, budget_small _ budget h.1.budget_is)

-- an answer of the one job that words name is one of each
pub met_as : (bytes_of : List ℕ → Option (List ℕ)) (words : List (List ℕ)) (job task : Task) (ends : ℕ) (before after : Option (List ℕ))
    → ((ws : List (List ℕ)) (a b : Task) → NamesJob ws a → NamesJob ws b → a ≡ b) → NamesJob words job → NamesJob words task
    → Meets (AnswersTask bytes_of job) ends before after → Meets (AnswersTask bytes_of task) ends before after
met_as bytes_of words job task ends before after one named names met = subst (λ t. Meets (AnswersTask bytes_of t) ends before after) (one words job task named names) met

-- ---- the proof that is printed is accepted
pub printed_accepted : (form : ProofForm) (bytes : List ℕ) (v : Verdict) (part : List ℕ) (h : PrintsProofOf form bytes v part) (a : Answer) → IsChecked (h.prints).text bytes a → a.status ≡ 0
printed_accepted form bytes v part h a is =
    accepted_text bytes (h.prints).text h.problem h.tree h.conclusion h.charges v a h.poses h.fits (h.prints).holds (h.prints).own h.proves is
