-- Where each answer of `elim` comes.
use Rattle.std.proofs.Common.{◌≡◌, ◌≢◌, ◌⊎◌, inl, inr, ℕ, List, None, refl, sym, ◌∙◌, ap, subst, codes, slice_index_or, arith}
use Rattle.clause_set.specs.declared.literal.Literal.{Literal}
use Rattle.base_budget.specs.Ending.{Ending, IsMade, IsOutOfRange, IsOutOfSteps, ends_with, out_of_steps, overflows}
use Rattle.pri_typing.specs.declared.problem.Problem.{Problem}
use Rattle.base_answers.specs.Answer.{Answer, placed, refused_answer, unknown_answer}
use Rattle.pri_problem.specs.Reads.{Refusal}
use Rattle.pri_problem.specs.Refusals.{refusal_name}
use Rattle.pri_problem.specs.Refused.{ComesOf}
use Rattle.pri_problem.proofs.Naming.{comes_of, impure_names, large_apart, not_impure, not_large}
use Rattle.pri_problem.specs.Answers.{Poses, refused, posed}
use Rattle.pri_problem.specs.Encoded.{Fits, IsLarge, LeavesRange, impure, pure, large, leaves, runs}
use Rattle.job_elim.specs.Eliminated.{AnswersElimEnd, made, steps, overflow, elimination_end, IsEliminated}
use Rattle.pri_problem.specs.Pure.{ComesOfImpure, PosesPure}
use Rattle.job_elim.specs.Causes as cause
use Rattle.job_elim.specs.Causes.{ElimEnds, IsElimRefused, ElimCauses, ElimDecides}
use Rattle.job_elim.proofs.Exactly.{by_end, end_answer, one_answer, elimination_answered}

abbrev status_of : Answer → ℕ
status_of a = a.status

-- the byte of an answer's text that tells its cause
abbrev cause_byte : Answer → ℕ
cause_byte a = slice_index_or a.text 10 0

-- ---- from an answer to its cause

made_end : (p : Problem) (end : Ending (List (List Literal))) (a : Answer) → AnswersElimEnd p end a → a.status ≡ 0 → IsMade end
made_end p end a (made d stands x is printed e) z = (d, stands, is)
made_end p end a (steps stands is e) z = let bad = sym z ∙ ap status_of e in absurd cc
made_end p end a (overflow numbers stands is e) z = let bad = sym z ∙ ap status_of e in absurd cc

steps_end : (p : Problem) (end : Ending (List (List Literal))) (a : Answer) → AnswersElimEnd p end a → a ≡ unknown_answer (codes "steps") → IsOutOfSteps end
steps_end p end a (made d stands x is printed e) z = let bad = ap status_of (sym z ∙ e) in absurd cc
steps_end p end a (steps stands is e) z = (stands, is)
steps_end p end a (overflow numbers stands is e) z = absurd (omega (arith, ap cause_byte (sym z ∙ e)))

overflow_end : (p : Problem) (end : Ending (List (List Literal))) (a : Answer) → AnswersElimEnd p end a → a ≡ unknown_answer (codes "overflow") → IsOutOfRange end
overflow_end p end a (made d stands x is printed e) z = let bad = ap status_of (sym z ∙ e) in absurd cc
overflow_end p end a (steps stands is e) z = absurd (omega (arith, ap cause_byte (sym z ∙ e)))
overflow_end p end a (overflow numbers stands is e) z = (numbers, stands, is)

-- the end of an elimination is told with status 0 or 2
told_end : (p : Problem) (end : Ending (List (List Literal))) (a : Answer) → AnswersElimEnd p end a → (a.status ≡ 0) ⊎ (a.status ≡ 2)
told_end p end a (made d stands x is printed e) = inl (ap status_of e)
told_end p end a (steps stands is e) = inr (ap status_of e)
told_end p end a (overflow numbers stands is e) = inr (ap status_of e)

other_status : (a : Answer) (s : ℕ) → (a.status ≡ 0) ⊎ (a.status ≡ 2) → s ≢ 0 → s ≢ 2 → a.status ≢ s
other_status a s (inl e) zero two z = zero (sym z ∙ e)
other_status a s (inr e) zero two z = two (sym z ∙ e)

-- what an answer with this property comes of, where refusals have it not
from_end : (budget : ℕ) (bytes : List ℕ) (a : Answer) (P : Answer → Type 0) (Q : Ending (List (List Literal)) → Type 0) → ((name : List ℕ) → ¬ (P (refused_answer name)))
    → ((p : Problem) (end : Ending (List (List Literal))) (b : Answer) → AnswersElimEnd p end b → P b → Q end) → IsEliminated budget bytes a → P a
    → (P (unknown_answer (codes "overflow")) × PosesPure bytes LeavesRange) ⊎ ElimEnds budget bytes Q
from_end budget bytes a P Q none some (refused r h e) is = absurd (none (refusal_name r) (subst P e is))
from_end budget bytes a P Q none some (posed p h (impure at k e)) is = absurd (none (placed (codes "Impure") at) (subst P e is))
from_end budget bytes a P Q none some (posed p h (pure k (large l e))) is = absurd (none (codes "Large") (subst P e is))
from_end budget bytes a P Q none some (posed p h (pure k (leaves l e))) is = inl (subst P e is, (p, h, (k, l)))
from_end budget bytes a P Q none some (posed p h (pure k (runs f r))) is = inr (p, h, (k, (f, some p (elimination_end budget p) a r is)))

not_left : {A B C : Type 0} → ¬ A → ((A × B) ⊎ C) → C
not_left h (inl x) = absurd (h x.0)
not_left h (inr y) = y

second_of : {A B C : Type 0} → ((A × B) ⊎ C) → B ⊎ C
second_of (inl x) = inl x.1
second_of (inr y) = inr y

refused_by : (budget : ℕ) (bytes : List ℕ) (a : Answer) → IsEliminated budget bytes a → a.status ≡ 3 → IsElimRefused bytes
refused_by budget bytes a (refused r h e) z = cause.first r h
refused_by budget bytes a (posed p h (impure at k e)) z = cause.impure at (p, h, k)
refused_by budget bytes a (posed p h (pure k (large l e))) z = cause.too_large (p, h, (k, l))
refused_by budget bytes a (posed p h (pure k (leaves l e))) z = let bad = sym z ∙ ap status_of e in absurd cc
refused_by budget bytes a (posed p h (pure k (runs f r))) z = absurd (other_status a 3 (told_end p (elimination_end budget p) a r) (λ e. cc) (λ e. cc) z)

never_invalid : (budget : ℕ) (bytes : List ℕ) (a : Answer) → IsEliminated budget bytes a → a.status ≢ 1
never_invalid budget bytes a (refused r h e) z = let bad = sym z ∙ ap status_of e in cc
never_invalid budget bytes a (posed p h (impure at k e)) z = let bad = sym z ∙ ap status_of e in cc
never_invalid budget bytes a (posed p h (pure k (large l e))) z = let bad = sym z ∙ ap status_of e in cc
never_invalid budget bytes a (posed p h (pure k (leaves l e))) z = let bad = sym z ∙ ap status_of e in cc
never_invalid budget bytes a (posed p h (pure k (runs f r))) z = other_status a 1 (told_end p (elimination_end budget p) a r) (λ e. cc) (λ e. cc) z

-- ---- from a cause to its answer

-- where the elimination ends so, the answer is that of the end
ended : (budget : ℕ) (bytes : List ℕ) (a : Answer) (p : Problem) (end : Ending (List (List Literal))) → IsEliminated budget bytes a → Poses bytes p → p.first_application ≡ None → Fits p
    → elimination_end budget p ≡ end → a ≡ end_answer p end
ended budget bytes a p end eliminated poses none fits is =
    by_end p (elimination_end budget p) a (elimination_answered budget bytes a p eliminated poses none fits) ∙ ap (end_answer p) is

refused_status : (budget : ℕ) (bytes : List ℕ) (a : Answer) → IsEliminated budget bytes a → IsElimRefused bytes → a.status ≡ 3
refused_status budget bytes a eliminated (cause.first r h) = ap status_of (one_answer budget bytes a _ eliminated (refused r h refl))
refused_status budget bytes a eliminated (cause.impure at h) = ap status_of (one_answer budget bytes a _ eliminated (posed h.0 h.1 (impure at h.2 refl)))
refused_status budget bytes a eliminated (cause.too_large h) = ap status_of (one_answer budget bytes a _ eliminated (posed h.0 h.1 (pure h.2.0 (large h.2.1 refl))))

-- the text of a refusal comes of that refusal alone
only_first : (budget : ℕ) (bytes : List ℕ) (a : Answer) → IsEliminated budget bytes a → (r : Refusal) → a ≡ refused_answer (refusal_name r) → IsElimRefused bytes → ComesOf bytes r
only_first budget bytes a eliminated r e (cause.first q h) = comes_of bytes a r q e h (one_answer budget bytes a _ eliminated (refused q h refl))
only_first budget bytes a eliminated r e (cause.impure at h) = absurd (not_impure a r at e (one_answer budget bytes a _ eliminated (posed h.0 h.1 (impure at h.2 refl))))
only_first budget bytes a eliminated r e (cause.too_large h) = absurd (not_large a r e (one_answer budget bytes a _ eliminated (posed h.0 h.1 (pure h.2.0 (large h.2.1 refl)))))

-- so does that of an application, and that of a large encoding
impure_of : (budget : ℕ) (bytes : List ℕ) (a : Answer) → IsEliminated budget bytes a → (at : ℕ) → a ≡ refused_answer (placed (codes "Impure") at) → IsElimRefused bytes → ComesOfImpure bytes at
impure_of budget bytes a eliminated at e (cause.first r h) = absurd (not_impure a r at (one_answer budget bytes a _ eliminated (refused r h refl)) e)
impure_of budget bytes a eliminated at e (cause.impure i h) = (i, h, impure_names a i at (one_answer budget bytes a _ eliminated (posed h.0 h.1 (impure i h.2 refl))) e)
impure_of budget bytes a eliminated at e (cause.too_large h) = absurd (large_apart a at (one_answer budget bytes a _ eliminated (posed h.0 h.1 (pure h.2.0 (large h.2.1 refl)))) e)

large_of : (budget : ℕ) (bytes : List ℕ) (a : Answer) → IsEliminated budget bytes a → a ≡ refused_answer (codes "Large") → IsElimRefused bytes → PosesPure bytes IsLarge
large_of budget bytes a eliminated e (cause.first r h) = absurd (not_large a r (one_answer budget bytes a _ eliminated (refused r h refl)) e)
large_of budget bytes a eliminated e (cause.impure i h) = absurd (large_apart a i e (one_answer budget bytes a _ eliminated (posed h.0 h.1 (impure i h.2 refl))))
large_of budget bytes a eliminated e (cause.too_large h) = h

out_of_range : (budget : ℕ) (bytes : List ℕ) (a : Answer) → IsEliminated budget bytes a → PosesPure bytes LeavesRange ⊎ ElimEnds budget bytes IsOutOfRange → a ≡ unknown_answer (codes "overflow")
out_of_range budget bytes a eliminated (inl h) = one_answer budget bytes a _ eliminated (posed h.0 h.1 (pure h.2.0 (leaves h.2.1 refl)))
out_of_range budget bytes a eliminated (inr h) = ended budget bytes a h.0 _ eliminated h.1 h.2.0 h.2.1.0 h.2.1.1.2

pub causes : (budget : ℕ) (bytes : List ℕ) (a : Answer) → IsEliminated budget bytes a → ElimCauses budget bytes a
causes budget bytes a eliminated = record {
  made = (
    λ z. not_left (λ e. cc) (from_end budget bytes a (λ b. b.status ≡ 0) IsMade (λ name e. cc) made_end eliminated z),
    λ h. ap status_of (ended budget bytes a h.0 _ eliminated h.1 h.2.0 h.2.1.0 h.2.1.1.2),
  );
  steps = (
    λ z. not_left (λ e. omega (arith, ap cause_byte e)) (from_end budget bytes a (λ b. b ≡ unknown_answer (codes "steps")) IsOutOfSteps (λ name e. let bad = ap status_of e in cc) steps_end eliminated z),
    λ h. ended budget bytes a h.0 _ eliminated h.1 h.2.0 h.2.1.0 h.2.1.1.1,
  );
  overflow = (
    λ z. second_of (from_end budget bytes a (λ b. b ≡ unknown_answer (codes "overflow")) IsOutOfRange (λ name e. let bad = ap status_of e in cc) overflow_end eliminated z),
    out_of_range budget bytes a eliminated,
  );
  refuses = (refused_by budget bytes a eliminated, refused_status budget bytes a eliminated);
  never = never_invalid budget bytes a eliminated;
  refused = λ r h. one_answer budget bytes a _ eliminated (refused r h refl);
  only = λ r e. only_first budget bytes a eliminated r e (refused_by budget bytes a eliminated (ap status_of e));
  impure = λ at h. one_answer budget bytes a _ eliminated (posed h.0 h.1 (impure at h.2 refl));
  impure_only = λ at e. impure_of budget bytes a eliminated at e (refused_by budget bytes a eliminated (ap status_of e));
  large = (
    λ e. large_of budget bytes a eliminated e (refused_by budget bytes a eliminated (ap status_of e)),
    λ h. one_answer budget bytes a _ eliminated (posed h.0 h.1 (pure h.2.0 (large h.2.1 refl))),
  );
}

-- ---- what is always made

pub decides : (budget : ℕ) (bytes : List ℕ) (a : Answer) → IsEliminated budget bytes a → ElimDecides budget bytes a
decides budget bytes a eliminated p poses none fits no_steps no_overflow = by (elimination_end budget p) refl
  where
    by : (end : Ending (List (List Literal))) → elimination_end budget p ≡ end → a.status ≡ 0
    by (ends_with d stands) is = ap status_of (ended budget bytes a p _ eliminated poses none fits is)
    by (out_of_steps stands) is = absurd (no_steps (stands, is))
    by (overflows numbers stands) is = absurd (no_overflow (numbers, stands, is))
