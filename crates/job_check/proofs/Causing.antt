-- Where each answer of `check` comes.
use Rattle.std.proofs.Common.{◌≡◌, ◌≢◌, ◌∙◌, ◌⊎◌, inl, inr, ℕ, List, refl, sym, ap, codes}
use Rattle.pri_typing.specs.declared.problem.Problem.{Problem}
use Rattle.base_answers.specs.Answer.{Answer, refused_answer, unknown_answer}
use Rattle.pri_problem.specs.Reads.{FirstRefusal, Refusal}
use Rattle.pri_problem.specs.Refusals.{refusal_name}
use Rattle.pri_problem.proofs.Bytes.{one_refusal, read_or_refused}
use Rattle.pri_problem.proofs.Naming.{comes_of, not_large}
use Rattle.pri_problem.specs.Refused.{ComesOf, IsRefused, first, too_large}
use Rattle.pri_problem.specs.Answers.{Poses, PosesOne, refused, posed}
use Rattle.pri_problem.specs.Encoded.{AnswersEncoded, Fits, IsLarge, LeavesRange, large, leaves as outside, runs}
use Rattle.pri_problem.proofs.Answering.{posed_answered}
use Rattle.pri_problem.proofs.Encoded.{fitting_answered, same_encoded}
use Rattle.job_check.specs.Causes.{AreProofCauses, CheckCauses}
use Rattle.job_check.specs.Checked.{AnswersProof, IsChecked, clauses, tree}
use Rattle.job_check.specs.Exactly.{IsCutAnswer, IsOneAnswer}
use Rattle.job_check.proofs.ClauseCauses.{clause_causes, one_clauses}
use Rattle.job_check.proofs.Exactly.{clauses_decided, same_row, status_of, tree_decided}
use Rattle.job_check.proofs.TreeCauses.{one_tree, tree_causes}

-- ---- answers that say nothing of the proof

refused_there : (proof bytes : List ℕ) (a : Answer) (r : Refusal) → IsChecked proof bytes a → FirstRefusal bytes r → a ≡ refused_answer (refusal_name r)
refused_there proof bytes a r (refused q h e) k = e ∙ ap (λ x. refused_answer (refusal_name x)) (one_refusal bytes q r h k)
refused_there proof bytes a r (posed p h e) k = absurd (read_or_refused bytes p r h.reads k)

-- the answer to the problem that the bytes pose
of_problem : (proof bytes : List ℕ) (a : Answer) (p : Problem) → IsChecked proof bytes a → Poses bytes p → AnswersEncoded (AnswersProof proof) p a
of_problem proof bytes a p is poses = posed_answered (AnswersEncoded (AnswersProof proof)) (same_encoded (AnswersProof proof) (same_row proof)) bytes a p is poses

large_there : (proof : List ℕ) (a : Answer) (p : Problem) → AnswersEncoded (AnswersProof proof) p a → IsLarge p → a ≡ refused_answer (codes "Large")
large_there proof a p (large l e) h = e
large_there proof a p (outside l e) h = let small = l.0 in absurd cc
large_there proof a p (runs f k) h = let small = f.0 in absurd cc

outside_there : (proof : List ℕ) (a : Answer) (p : Problem) → AnswersEncoded (AnswersProof proof) p a → LeavesRange p → a ≡ unknown_answer (codes "overflow")
outside_there proof a p (large l e) h = let small = h.0 in absurd cc
outside_there proof a p (outside l e) h = e
outside_there proof a p (runs f k) h = let out = h.1 in let stay = f.1 in absurd cc

-- the answer to a problem whose encoding fits
row_of : (proof bytes : List ℕ) (a : Answer) (p : Problem) → IsChecked proof bytes a → Poses bytes p → Fits p → AnswersProof proof p a
row_of proof bytes a p is poses fits = fitting_answered (AnswersProof proof) p a (of_problem proof bytes a p is poses) fits

-- ---- one answer

one_row : (p : Problem) (proof : List ℕ) (a b : Answer) → AnswersProof proof p a → AnswersProof proof p b → IsOneAnswer proof a b
one_row p proof a b (tree other h) (tree too k) = inl (one_tree p proof a b h k)
one_row p proof a b (tree other h) (clauses is k) = absurd cc
one_row p proof a b (clauses is h) (tree other k) = absurd cc
one_row p proof a b (clauses is h) (clauses too k) = by (one_clauses p proof a b h k)
  where
    by : (a ≡ b) ⊎ (IsCutAnswer a ⊎ IsCutAnswer b) → IsOneAnswer proof a b
    by (inl same) = inl same
    by (inr cut) = inr (is, cut)

pub one_answer : (proof bytes : List ℕ) (a b : Answer) → IsChecked proof bytes a → IsChecked proof bytes b → IsOneAnswer proof a b
one_answer proof bytes a b (refused r h e) k = inl (e ∙ sym (refused_there proof bytes b r k h))
one_answer proof bytes a b (posed p h (large l e)) k = inl (e ∙ sym (large_there proof b p (of_problem proof bytes b p k h) l))
one_answer proof bytes a b (posed p h (outside l e)) k = inl (e ∙ sym (outside_there proof b p (of_problem proof bytes b p k h) l))
one_answer proof bytes a b (posed p h (runs f row)) k = one_row p proof a b row (row_of proof bytes b p k h f)

-- ---- from an answer to its cause

-- what an answer comes of, that those to a proof are not
row_status : (p : Problem) (proof : List ℕ) (a : Answer) → AnswersProof proof p a → (a.status ≡ 0) ⊎ (a.status ≡ 4)
row_status p proof a (tree other k) = (tree_decided p proof a k).decides
row_status p proof a (clauses is k) = (clauses_decided p proof a k).decides

other : (a : Answer) (s : ℕ) → (a.status ≡ 0) ⊎ (a.status ≡ 4) → s ≢ 0 → s ≢ 4 → a.status ≡ s → ⊥
other a s (inl h) zero four e = zero (sym e ∙ h)
other a s (inr h) zero four e = four (sym e ∙ h)

overflow_by : (proof bytes : List ℕ) (a : Answer) → IsChecked proof bytes a → a.status ≡ 2 → PosesOne bytes LeavesRange
overflow_by proof bytes a (refused r h e) z = let bad = sym z ∙ ap status_of e in absurd cc
overflow_by proof bytes a (posed p h (large l e)) z = let bad = sym z ∙ ap status_of e in absurd cc
overflow_by proof bytes a (posed p h (outside l e)) z = (p, h, l)
overflow_by proof bytes a (posed p h (runs f k)) z = absurd (other a 2 (row_status p proof a k) (λ e. cc) (λ e. cc) z)

refused_by : (proof bytes : List ℕ) (a : Answer) → IsChecked proof bytes a → a.status ≡ 3 → IsRefused bytes
refused_by proof bytes a (refused r h e) z = first r h
refused_by proof bytes a (posed p h (large l e)) z = too_large (p, h, l)
refused_by proof bytes a (posed p h (outside l e)) z = let bad = sym z ∙ ap status_of e in absurd cc
refused_by proof bytes a (posed p h (runs f k)) z = absurd (other a 3 (row_status p proof a k) (λ e. cc) (λ e. cc) z)

never_one : (proof bytes : List ℕ) (a : Answer) → IsChecked proof bytes a → a.status ≢ 1
never_one proof bytes a (refused r h e) z = let bad = sym z ∙ ap status_of e in cc
never_one proof bytes a (posed p h (large l e)) z = let bad = sym z ∙ ap status_of e in cc
never_one proof bytes a (posed p h (outside l e)) z = let bad = sym z ∙ ap status_of e in cc
never_one proof bytes a (posed p h (runs f k)) z = other a 1 (row_status p proof a k) (λ e. cc) (λ e. cc) z

-- ---- from a cause to its answer

refused_status : (proof bytes : List ℕ) (a : Answer) → IsChecked proof bytes a → IsRefused bytes → a.status ≡ 3
refused_status proof bytes a is (first r h) = ap status_of (refused_there proof bytes a r is h)
refused_status proof bytes a is (too_large h) = ap status_of (large_there proof a h.0 (of_problem proof bytes a h.0 is h.1) h.2)

-- the text of a refusal of the problem's file comes of that refusal alone
only_first : (proof bytes : List ℕ) (a : Answer) → IsChecked proof bytes a → (r : Refusal) → a ≡ refused_answer (refusal_name r) → IsRefused bytes → ComesOf bytes r
only_first proof bytes a is r e (first q h) = comes_of bytes a r q e h (refused_there proof bytes a q is h)
only_first proof bytes a is r e (too_large h) = absurd (not_large a r e (large_there proof a h.0 (of_problem proof bytes a h.0 is h.1) h.2))

row_causes : (p : Problem) (proof : List ℕ) (a : Answer) → AnswersProof proof p a → AreProofCauses p proof a
row_causes p proof a (tree other k) = record { tree = λ e. tree_causes p proof a k; clauses = λ e. absurd cc; decides = (tree_decided p proof a k).decides }
row_causes p proof a (clauses is k) = record { tree = λ e. absurd cc; clauses = λ e. clause_causes p proof a k; decides = (clauses_decided p proof a k).decides }

pub causes : (proof bytes : List ℕ) (a : Answer) → IsChecked proof bytes a → CheckCauses proof bytes a
causes proof bytes a is = record {
  judged = λ p poses fits. row_causes p proof a (row_of proof bytes a p is poses fits);
  overflow = (λ z. overflow_by proof bytes a is (ap status_of z), λ h. outside_there proof a h.0 (of_problem proof bytes a h.0 is h.1) h.2);
  refuses = (refused_by proof bytes a is, refused_status proof bytes a is);
  never = never_one proof bytes a is;
  refused = λ r h. refused_there proof bytes a r is h;
  only = λ r e. only_first proof bytes a is r e (refused_by proof bytes a is (ap status_of e));
  large = λ h. large_there proof a h.0 (of_problem proof bytes a h.0 is h.1) h.2;
}
