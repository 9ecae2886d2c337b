-- Where each answer of `solve` comes.
use Rattle.std.proofs.Common.{◌≡◌, ◌⊎◌, inl, inr, ℕ, ℤ, Bool, true, false, List, [], ◌∷◌, ◌++◌, length, refl, sym, ◌∙◌, ap, subst, codes, slice_index_or, arith}
use Rattle.base_budget.specs.declared.log.Entry.{Entry}
use Rattle.base_budget.specs.Trace.{Funds, At}
use Rattle.formula.specs.Form.{is_pure}
use Rattle.proof_tree.specs.Proof.{Proof}
use Rattle.search.specs.Run as run
use Rattle.base_budget.specs.Ending.{Ending, IsOutOfRange, IsOutOfSteps, ends_with, out_of_steps, overflows}
use Rattle.form_encoding.specs.Problems.{problem_root}
use Rattle.form_encoding.proofs.Problems.{pure_is, root_over}
use Rattle.pri_problem.proofs.Bytes.{reads_formed}
use Rattle.pri_typing.specs.declared.problem.Problem.{Problem}
use Rattle.base_answers.specs.Answer.{Answer, line, refused_answer, unknown_answer}
use Rattle.pri_problem.specs.Reads.{Refusal}
use Rattle.pri_problem.specs.Refusals.{refusal_name}
use Rattle.pri_problem.proofs.Naming.{comes_of, not_large}
use Rattle.pri_typing.specs.Problems.{IsPure}
use Rattle.countermodel.proofs.Saturated.{one_round_ends, root_somes}
use Rattle.pri_problem.specs.Answers.{Poses, PosesOne, refused, posed}
use Rattle.pri_problem.specs.Encoded.{Fits, IsLarge, LeavesRange, large, leaves, runs}
use Rattle.itp_lines.specs.Blocks.{AreBlockLines}
use Rattle.itp_lines.proofs.Listing.{blocks_caused}
use Rattle.job_solve.specs.Solved.{AnswersEnd, closed, valid, invalid, saturated, branch, steps, overflow, run_end, IsSolved}
use Rattle.pri_problem.specs.Refused.{ComesOf, IsRefused, first, too_large}
use Rattle.job_solve.specs.Causes.{SolveEnds, EndsSaturated, IsValid, IsInvalid, TellsBlocks, SolveCauses, SolveDecides, IsDecidedOrCut}
use Rattle.job_parts.specs.Parts.{IsTooLong}
use Rattle.job_solve.specs.Explained.{AnswersSaturated, IsCutByRange, IsCutBySteps, IsWalked, explained, nowhere, past, short}
use Rattle.job_solve.proofs.Saturated.{cut_by_range, cut_by_steps, no_branch, one_or_two, range_answer, saturated_answer, steps_answer, walked, walked_status}
use Rattle.job_solve.proofs.Exactly.{by_end, end_answer, found_answer, one_answer, run_answered}
use Rattle.job_solve.proofs.Meaning.{tells}

abbrev status_of : Answer → ℕ
status_of a = a.status

-- the byte of an answer's text that tells its cause
abbrev cause : Answer → ℕ
cause a = slice_index_or a.text 10 0

-- ---- from an answer to its cause

-- the run ends saturated, with a tree and a purse of which this is so
abbrev SaturatedSo : (Problem → Proof → Funds → Type 0) → Problem → Ending run.RunAnswer → Type 0
SaturatedSo So p end = (log : List Entry) × (x : Proof) × (stands : At) × (end ≡ ends_with (run.saturated log x) stands) × So p x stands.funds

other_status : {s : ℕ} (n : ℕ) → (s ≡ 1) ⊎ (s ≡ 2) → s ≡ n → (n ≡ 1 → ⊥) → (n ≡ 2 → ⊥) → ⊥
other_status n (inl h) z one two = one (sym z ∙ h)
other_status n (inr h) z one two = two (sym z ∙ h)

valid_end : (p : Problem) (end : Ending run.RunAnswer) (a : Answer) → AnswersEnd p end a → a.status ≡ 0 → IsValid end
valid_end p end a (closed vs x stands text is none told e) z = (vs, x, stands, is)
valid_end p end a (valid vs x stands text is some printed e) z = (vs, x, stands, is)
valid_end p end a (invalid log x stands is e) z = let bad = sym z ∙ ap status_of e in absurd cc
valid_end p end a (saturated log x stands is told) z = absurd (other_status 0 (one_or_two p x stands.funds a told) z (λ h. cc) (λ h. cc))
valid_end p end a (branch stands is e) z = let bad = sym z ∙ ap status_of e in absurd cc
valid_end p end a (steps stands is e) z = let bad = sym z ∙ ap status_of e in absurd cc
valid_end p end a (overflow numbers stands is e) z = let bad = sym z ∙ ap status_of e in absurd cc

invalid_end : (p : Problem) (end : Ending run.RunAnswer) (a : Answer) → AnswersEnd p end a → a.status ≡ 1 → IsInvalid end ⊎ SaturatedSo IsWalked p end
invalid_end p end a (closed vs x stands text is none told e) z = let bad = sym z ∙ ap status_of e in absurd cc
invalid_end p end a (valid vs x stands text is some printed e) z = let bad = sym z ∙ ap status_of e in absurd cc
invalid_end p end a (invalid log x stands is e) z = inl (log, x, stands, is)
invalid_end p end a (saturated log x stands is told) z = inr (log, x, stands, is, walked p x stands.funds a told z)
invalid_end p end a (branch stands is e) z = let bad = sym z ∙ ap status_of e in absurd cc
invalid_end p end a (steps stands is e) z = let bad = sym z ∙ ap status_of e in absurd cc
invalid_end p end a (overflow numbers stands is e) z = let bad = sym z ∙ ap status_of e in absurd cc

steps_end : (p : Problem) (end : Ending run.RunAnswer) (a : Answer) → AnswersEnd p end a → a ≡ unknown_answer (codes "steps") → IsOutOfSteps end ⊎ SaturatedSo IsCutBySteps p end
steps_end p end a (closed vs x stands text is none told e) z = let bad = ap status_of (sym z ∙ e) in absurd cc
steps_end p end a (valid vs x stands text is some printed e) z = let bad = ap status_of (sym z ∙ e) in absurd cc
steps_end p end a (invalid log x stands is e) z = let bad = ap status_of (sym z ∙ e) in absurd cc
steps_end p end a (saturated log x stands is told) z = inr (log, x, stands, is, cut_by_steps p x stands.funds a told z)
steps_end p end a (branch stands is e) z = absurd (omega (arith, ap cause (sym z ∙ e)))
steps_end p end a (steps stands is e) z = inl (stands, is)
steps_end p end a (overflow numbers stands is e) z = absurd (omega (arith, ap cause (sym z ∙ e)))

overflow_end : (p : Problem) (end : Ending run.RunAnswer) (a : Answer) → AnswersEnd p end a → a ≡ unknown_answer (codes "overflow") → IsOutOfRange end ⊎ SaturatedSo IsCutByRange p end
overflow_end p end a (closed vs x stands text is none told e) z = let bad = ap status_of (sym z ∙ e) in absurd cc
overflow_end p end a (valid vs x stands text is some printed e) z = let bad = ap status_of (sym z ∙ e) in absurd cc
overflow_end p end a (invalid log x stands is e) z = let bad = ap status_of (sym z ∙ e) in absurd cc
overflow_end p end a (saturated log x stands is told) z = inr (log, x, stands, is, cut_by_range p x stands.funds a told z)
overflow_end p end a (branch stands is e) z = absurd (omega (arith, ap cause (sym z ∙ e)))
overflow_end p end a (steps stands is e) z = absurd (omega (arith, ap cause (sym z ∙ e)))
overflow_end p end a (overflow numbers stands is e) z = inl (numbers, stands, is)

branch_end : (p : Problem) (end : Ending run.RunAnswer) (a : Answer) → AnswersEnd p end a → a ≡ unknown_answer (codes "branch") → IsTooLong end
branch_end p end a (closed vs x stands text is none told e) z = let bad = ap status_of (sym z ∙ e) in absurd cc
branch_end p end a (valid vs x stands text is some printed e) z = let bad = ap status_of (sym z ∙ e) in absurd cc
branch_end p end a (invalid log x stands is e) z = let bad = ap status_of (sym z ∙ e) in absurd cc
branch_end p end a (saturated log x stands is told) z = absurd (no_branch p x stands.funds a told z)
branch_end p end a (branch stands is e) z = (stands, is)
branch_end p end a (steps stands is e) z = absurd (omega (arith, ap cause (sym z ∙ e)))
branch_end p end a (overflow numbers stands is e) z = absurd (omega (arith, ap cause (sym z ∙ e)))

not_refused : (p : Problem) (end : Ending run.RunAnswer) (a : Answer) → AnswersEnd p end a → a.status ≡ 3 → ⊥
not_refused p end a (closed vs x stands text is none told e) z = let bad = sym z ∙ ap status_of e in absurd cc
not_refused p end a (valid vs x stands text is some printed e) z = let bad = sym z ∙ ap status_of e in absurd cc
not_refused p end a (invalid log x stands is e) z = let bad = sym z ∙ ap status_of e in absurd cc
not_refused p end a (saturated log x stands is told) z = other_status 3 (one_or_two p x stands.funds a told) z (λ h. cc) (λ h. cc)
not_refused p end a (branch stands is e) z = let bad = sym z ∙ ap status_of e in absurd cc
not_refused p end a (steps stands is e) z = let bad = sym z ∙ ap status_of e in absurd cc
not_refused p end a (overflow numbers stands is e) z = let bad = sym z ∙ ap status_of e in absurd cc

-- what an answer with this property comes of, where refusals have it not
from_end : (budget : ℕ) (bytes : List ℕ) (a : Answer) (P : Answer → Type 0) (Q : Problem → Ending run.RunAnswer → Type 0) → ((name : List ℕ) → ¬ (P (refused_answer name)))
    → ((p : Problem) (end : Ending run.RunAnswer) (b : Answer) → AnswersEnd p end b → P b → Q p end) → IsSolved budget bytes a → P a
    → (P (unknown_answer (codes "overflow")) × PosesOne bytes LeavesRange) ⊎ PosesOne bytes (λ p. Fits p × Q p (run_end budget p))
from_end budget bytes a P Q none some (refused r h e) is = absurd (none (refusal_name r) (subst P e is))
from_end budget bytes a P Q none some (posed p h (large l e)) is = absurd (none (codes "Large") (subst P e is))
from_end budget bytes a P Q none some (posed p h (leaves l e)) is = inl (subst P e is, (p, h, l))
from_end budget bytes a P Q none some (posed p h (runs f k)) is = inr (p, h, (f, some p (run_end budget p) a k is))

-- a run that ends so, or saturated so
parted : (budget : ℕ) (bytes : List ℕ) (Is : Ending run.RunAnswer → Type 0) (So : Problem → Proof → Funds → Type 0) → PosesOne bytes (λ p. Fits p × (Is (run_end budget p) ⊎ SaturatedSo So p (run_end budget p)))
    → SolveEnds budget bytes Is ⊎ EndsSaturated budget bytes So
parted budget bytes Is So (p, h, (f, inl k)) = inl (p, h, (f, k))
parted budget bytes Is So (p, h, (f, inr k)) = inr (p, h, (f, k))

not_left : {A B C : Type 0} → ¬ A → ((A × B) ⊎ C) → C
not_left h (inl x) = absurd (h x.0)
not_left h (inr y) = y

second_of : {A B C : Type 0} → ((A × B) ⊎ C) → B ⊎ C
second_of (inl x) = inl x.1
second_of (inr y) = inr y

then_second : {A B C : Type 0} → (B → C) → A ⊎ B → A ⊎ C
then_second f (inl a) = inl a
then_second f (inr b) = inr (f b)

refused_by : (budget : ℕ) (bytes : List ℕ) (a : Answer) → IsSolved budget bytes a → a.status ≡ 3 → IsRefused bytes
refused_by budget bytes a (refused r h e) z = first r h
refused_by budget bytes a (posed p h (large l e)) z = too_large (p, h, l)
refused_by budget bytes a (posed p h (leaves l e)) z = let bad = sym z ∙ ap status_of e in absurd cc
refused_by budget bytes a (posed p h (runs f k)) z = absurd (not_refused p (run_end budget p) a k z)

-- ---- from a cause to its answer

-- where the run ends so, the answer is that of the end
ended : (budget : ℕ) (bytes : List ℕ) (a : Answer) (p : Problem) (end : Ending run.RunAnswer) → IsSolved budget bytes a → Poses bytes p → Fits p → run_end budget p ≡ end → a ≡ end_answer p end
ended budget bytes a p end solved poses fits is = by_end p (run_end budget p) a (run_answered budget bytes a p solved poses fits) ∙ ap (end_answer p) is

found_status : (p : Problem) (names : List (List ℕ)) (x : Proof) (vs : List ℤ) (left : Funds) → (found_answer p names x vs left).status ≡ 0
found_status p [] x vs left = refl
found_status p (name ∷ names) x vs left = refl

valid_status : (budget : ℕ) (bytes : List ℕ) (a : Answer) (p : Problem) → IsSolved budget bytes a → Poses bytes p → Fits p → IsValid (run_end budget p) → a.status ≡ 0
valid_status budget bytes a p solved poses fits is = ap status_of (ended budget bytes a p _ solved poses fits is.3) ∙ found_status p p.existentials is.1 is.0 (is.2).funds

refused_status : (budget : ℕ) (bytes : List ℕ) (a : Answer) → IsSolved budget bytes a → IsRefused bytes → a.status ≡ 3
refused_status budget bytes a solved (first r h) = ap status_of (one_answer budget bytes a _ solved (refused r h refl))
refused_status budget bytes a solved (too_large h) = ap status_of (one_answer budget bytes a _ solved (posed h.0 h.1 (large h.2 refl)))

-- the text of a refusal comes of that refusal alone
only_first : (budget : ℕ) (bytes : List ℕ) (a : Answer) → IsSolved budget bytes a → (r : Refusal) → a ≡ refused_answer (refusal_name r) → IsRefused bytes → ComesOf bytes r
only_first budget bytes a solved r e (first q h) = comes_of bytes a r q e h (one_answer budget bytes a _ solved (refused q h refl))
only_first budget bytes a solved r e (too_large h) = absurd (not_large a r e (one_answer budget bytes a _ solved (posed h.0 h.1 (large h.2 refl))))

-- that of a large encoding comes of it alone
large_of : (budget : ℕ) (bytes : List ℕ) (a : Answer) → IsSolved budget bytes a → a ≡ refused_answer (codes "Large") → IsRefused bytes → PosesOne bytes IsLarge
large_of budget bytes a solved e (first r h) = absurd (not_large a r (one_answer budget bytes a _ solved (refused r h refl)) e)
large_of budget bytes a solved e (too_large h) = h

-- where it ends saturated, it is that of the walk
walked_as : (budget : ℕ) (bytes : List ℕ) (a : Answer) (So : Problem → Proof → Funds → Type 0) (P : Answer → Type 0) → IsSolved budget bytes a → ((p : Problem) (x : Proof) (left : Funds) → So p x left → P (saturated_answer p x left)) → EndsSaturated budget bytes So → P a
walked_as budget bytes a So P solved so (p, h, (f, (log, x, stands, is, k))) = subst P (sym (ended budget bytes a p _ solved h f is)) (so p x stands.funds k)

out_of_range : (budget : ℕ) (bytes : List ℕ) (a : Answer) → IsSolved budget bytes a → PosesOne bytes LeavesRange ⊎ (SolveEnds budget bytes IsOutOfRange ⊎ EndsSaturated budget bytes IsCutByRange) → a ≡ unknown_answer (codes "overflow")
out_of_range budget bytes a solved (inl h) = one_answer budget bytes a _ solved (posed h.0 h.1 (leaves h.2 refl))
out_of_range budget bytes a solved (inr (inl h)) = ended budget bytes a h.0 _ solved h.1 h.2.0 h.2.1.2
out_of_range budget bytes a solved (inr (inr h)) = walked_as budget bytes a IsCutByRange (λ b. b ≡ unknown_answer (codes "overflow")) solved range_answer h

invalid_status : (budget : ℕ) (bytes : List ℕ) (a : Answer) → IsSolved budget bytes a → SolveEnds budget bytes IsInvalid ⊎ EndsSaturated budget bytes IsWalked → a.status ≡ 1
invalid_status budget bytes a solved (inl h) = ap status_of (ended budget bytes a h.0 _ solved h.1 h.2.0 h.2.1.3)
invalid_status budget bytes a solved (inr h) = walked_as budget bytes a IsWalked (λ b. b.status ≡ 1) solved walked_status h

out_of_steps_so : (budget : ℕ) (bytes : List ℕ) (a : Answer) → IsSolved budget bytes a → SolveEnds budget bytes IsOutOfSteps ⊎ EndsSaturated budget bytes IsCutBySteps → a ≡ unknown_answer (codes "steps")
out_of_steps_so budget bytes a solved (inl h) = ended budget bytes a h.0 _ solved h.1 h.2.0 h.2.1.1
out_of_steps_so budget bytes a solved (inr h) = walked_as budget bytes a IsCutBySteps (λ b. b ≡ unknown_answer (codes "steps")) solved steps_answer h

-- where the run of a problem without existential constants ends as valid, there are the lines of its blocks
same_stand : (vs ws : List ℤ) (x y : Proof) (s t : At) → ends_with (run.valid vs x) s ≡ ends_with (run.valid ws y) t → s ≡ t
same_stand vs ws x y s t h = cc

blocks_told : (p : Problem) (end : Ending run.RunAnswer) (a : Answer) → AnswersEnd p end a → (ws : List ℤ) (y : Proof) (left : At) → p.existentials ≡ [] → end ≡ ends_with (run.valid ws y) left
    → TellsBlocks p left.funds a.text
blocks_told p end a (closed vs x stands text is none told e) ws y left alone ends =
    let same = same_stand vs ws x y stands left (sym is ∙ ends) in
    record {
      lines = told.lines;
      whole = ap (λ b. b.text) e ∙ ap (λ t. line (codes "VALID") ++ t) told.whole;
      caused = blocks_caused p left.funds told.lines (subst (λ s. AreBlockLines p p.cuts s.funds told.lines) same told.are);
    }
blocks_told p end a (valid vs x stands text is some printed e) ws y left alone ends = absurd (some alone)
blocks_told p end a (invalid log x stands is e) ws y left alone ends = let bad = sym is ∙ ends in absurd cc
blocks_told p end a (saturated log x stands is e) ws y left alone ends = let bad = sym is ∙ ends in absurd cc
blocks_told p end a (branch stands is e) ws y left alone ends = let bad = sym is ∙ ends in absurd cc
blocks_told p end a (steps stands is e) ws y left alone ends = let bad = sym is ∙ ends in absurd cc
blocks_told p end a (overflow numbers stands is e) ws y left alone ends = let bad = sym is ∙ ends in absurd cc

pub causes : (budget : ℕ) (bytes : List ℕ) (a : Answer) → IsSolved budget bytes a → SolveCauses budget bytes a
causes budget bytes a solved = record {
  valid = (
    λ z. not_left (λ e. cc) (from_end budget bytes a (λ b. b.status ≡ 0) (λ p. IsValid) (λ name e. cc) valid_end solved z),
    λ h. valid_status budget bytes a h.0 solved h.1 h.2.0 h.2.1,
  );
  invalid = (
    λ z. parted budget bytes IsInvalid IsWalked (not_left (λ e. cc) (from_end budget bytes a (λ b. b.status ≡ 1) (λ p end. IsInvalid end ⊎ SaturatedSo IsWalked p end) (λ name e. cc) invalid_end solved z)),
    invalid_status budget bytes a solved,
  );
  steps = (
    λ z. parted budget bytes IsOutOfSteps IsCutBySteps
        (not_left (λ e. omega (arith, ap cause e)) (from_end budget bytes a (λ b. b ≡ unknown_answer (codes "steps")) (λ p end. IsOutOfSteps end ⊎ SaturatedSo IsCutBySteps p end) (λ name e. let bad = ap status_of e in cc) steps_end solved z)),
    out_of_steps_so budget bytes a solved,
  );
  overflow = (
    λ z. then_second (parted budget bytes IsOutOfRange IsCutByRange)
        (second_of (from_end budget bytes a (λ b. b ≡ unknown_answer (codes "overflow")) (λ p end. IsOutOfRange end ⊎ SaturatedSo IsCutByRange p end) (λ name e. let bad = ap status_of e in cc) overflow_end solved z)),
    out_of_range budget bytes a solved,
  );
  branch = (
    λ z. not_left (λ e. omega (arith, ap cause e)) (from_end budget bytes a (λ b. b ≡ unknown_answer (codes "branch")) (λ p. IsTooLong) (λ name e. let bad = ap status_of e in cc) branch_end solved z),
    λ h. ended budget bytes a h.0 _ solved h.1 h.2.0 h.2.1.1,
  );
  refuses = (refused_by budget bytes a solved, refused_status budget bytes a solved);
  refused = λ r h. one_answer budget bytes a _ solved (refused r h refl);
  only = λ r e. only_first budget bytes a solved r e (refused_by budget bytes a solved (ap status_of e));
  large = (
    λ e. large_of budget bytes a solved e (refused_by budget bytes a solved (ap status_of e)),
    λ h. one_answer budget bytes a _ solved (posed h.0 h.1 (large h.2 refl)),
  );
  blocks = λ p vs x stands poses fits alone is. blocks_told p (run_end budget p) a (run_answered budget bytes a p solved poses fits) vs x stands alone is;
}

-- ---- problems without predicates and functions

not_both : (b : Bool) → b ≡ true → b ≡ false → ⊥
not_both b h k = let bad : true ≡ false = sym h ∙ k in cc

pure_decided : (budget : ℕ) (bytes : List ℕ) (a : Answer) → IsSolved budget bytes a → (p : Problem) → Poses bytes p → Fits p → IsPure p → ¬ (IsOutOfSteps (run_end budget p)) → ¬ (IsOutOfRange (run_end budget p)) → (a.status ≡ 0) ⊎ (a.status ≡ 1)
pure_decided budget bytes a solved p poses fits pure no_steps no_overflow = by (run_end budget p) refl
  where
    is_so : is_pure (problem_root p).value ≡ true
    is_so = (pure_is p).1 pure

    by : (end : Ending run.RunAnswer) → run_end budget p ≡ end → (a.status ≡ 0) ⊎ (a.status ≡ 1)
    by (ends_with (run.valid vs x) stands) is = inl (valid_status budget bytes a p solved poses fits (vs, x, stands, is))
    by (ends_with (run.invalid log x) stands) is = inr (ap status_of (ended budget bytes a p _ solved poses fits is))
    by (ends_with (run.saturated log x) stands) is = absurd (not_both (is_pure (problem_root p).value) is_so (tells budget p (root_over p (reads_formed bytes p poses.reads)) _ stands is))
    by (ends_with run.too_long stands) is = absurd (not_both (is_pure (problem_root p).value) is_so (tells budget p (root_over p (reads_formed bytes p poses.reads)) _ stands is))
    by (out_of_steps stands) is = absurd (no_steps (stands, is))
    by (overflows numbers stands) is = absurd (no_overflow (numbers, stands, is))

-- ---- each answer to a problem whose encoding fits

walked_or_cut : (p : Problem) (x : Proof) (left : Funds) (a : Answer) → AnswersSaturated p x left a → IsDecidedOrCut a
walked_or_cut p x left a (nowhere probe e) = inr (inl (ap status_of e))
walked_or_cut p x left a (explained at c stands probe is e) = inr (inl (ap status_of e))
walked_or_cut p x left a (short is e) = inr (inr (inl e))
walked_or_cut p x left a (past is e) = inr (inr (inr (inl e)))

decided_or_cut : (p : Problem) (end : Ending run.RunAnswer) (a : Answer) → AnswersEnd p end a → IsDecidedOrCut a
decided_or_cut p end a (closed vs x stands text is none told e) = inl (ap status_of e)
decided_or_cut p end a (valid vs x stands text is some printed e) = inl (ap status_of e)
decided_or_cut p end a (invalid log x stands is e) = inr (inl (ap status_of e))
decided_or_cut p end a (saturated log x stands is told) = walked_or_cut p x stands.funds a told
decided_or_cut p end a (branch stands is e) = inr (inr (inr (inr e)))
decided_or_cut p end a (steps stands is e) = inr (inr (inl e))
decided_or_cut p end a (overflow numbers stands is e) = inr (inr (inr (inl e)))

pub decides : (budget : ℕ) (bytes : List ℕ) (a : Answer) → IsSolved budget bytes a → SolveDecides budget bytes a
decides budget bytes a solved = record {
  pure = pure_decided budget bytes a solved;
  universal = λ p poses fits universal. (λ none. one_round_ends (problem_root p).value (length p.existentials) 0 (root_somes p universal) none, decided_or_cut p (run_end budget p) a (run_answered budget bytes a p solved poses fits));
}
