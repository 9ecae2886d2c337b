-- Where each answer of `least` comes.
use Rattle.std.proofs.Common.{◌≡◌, ◌≢◌, ◌⊎◌, inl, inr, ℕ, List, None, length, refl, sym, ◌∙◌, ap, subst, codes, slice_index_or, arith}
use Rattle.linear_term.specs.Linear.{Linear}
use Rattle.base_budget.specs.Trace.{Funds, Traced}
use Rattle.clause_set.specs.declared.literal.Literal.{Literal}
use Rattle.form_typed.specs.Formula.{Expression}
use Rattle.optimiser.specs.Least.{Minimum, nothing, no_least, least_at, minimising}
use Rattle.pri_reader.specs.declared.tree.ReadRefusal.TheVariants as reading
use Rattle.pri_typing.specs.declared.problem.Problem.{Problem}
use Rattle.pri_typing.specs.declared.problem.TypeRefusal.TheVariants as typing
use Rattle.base_answers.specs.Answer.{Answer, placed, refused_answer, unknown_answer}
use Rattle.pri_problem.specs.Reads.{Refusal, unread, untyped}
use Rattle.pri_problem.specs.Refusals.{refusal_name}
use Rattle.pri_problem.specs.Refused.{ComesOf}
use Rattle.pri_problem.specs.Pure.{ComesOfImpure}
use Rattle.pri_problem.proofs.Naming.{comes_of, impure_names, large_apart, not_impure, not_large}
use Rattle.pri_problem.specs.Answers.{Poses, refused, posed}
use Rattle.pri_problem.specs.Encoded.{Fits, IsLarge, LeavesRange, impure, pure, large, leaves, runs}
use Rattle.pri_problem.proofs.Encoded.{fitting_answered}
use Rattle.job_least.specs.Objective.{IsObjective}
use Rattle.job_least.specs.Leasts.{AnswersConstraint, AnswersLeast, AnswersMinimum, AnswersObjective, AnswersWork, IsLeastAnswer, constraint_of, gives, objective_of, overflow, refused_text, stated, steps}
use Rattle.job_least.specs.Outcomes.{Outcome, said, out_of_steps, overflows, constraint_outcome, ended_with, least_outcome, minimum_outcome, outcome_answer, outcome_of}
use Rattle.job_least.specs.Causes as cause
use Rattle.job_least.specs.Causes.{LeastCauses, LeastEnds, IsMinimised, IsLeastRefused, PosesNoObjective, PosesTerm}
use Rattle.job_least.proofs.Exactly.{Tells, objective_answered, one_answer}
use Rattle.job_least.proofs.Objectives.{one_objective}

abbrev status_of : Answer → ℕ
status_of a = a.status

-- the byte of an answer's text that tells its cause
abbrev cause_byte : Answer → ℕ
cause_byte a = slice_index_or a.text 10 0

-- the first byte of the name of a refusal
abbrev name_byte : Answer → ℕ
name_byte a = slice_index_or a.text 9 0

-- ---- an answer is that of the outcome

work_answered : {A : Type 0} (p : Problem) (IsAnswer : A → Funds → Answer → Type 0) (f : A → Funds → Outcome) → ((v : A) (funds : Funds) (a : Answer) → IsAnswer v funds a → a ≡ outcome_answer p (f v funds))
    → (work : Traced A) (funds : Funds) (a : Answer) → AnswersWork IsAnswer work funds a → a ≡ outcome_answer p (outcome_of f work funds)
work_answered p IsAnswer f all work funds a (gives s e h) = all work.value s.funds a h ∙ sym (ap (λ z. outcome_answer p (ended_with f work.value z)) e)
work_answered p IsAnswer f all work funds a (steps s e h) = h ∙ sym (ap (λ z. outcome_answer p (ended_with f work.value z)) e)
work_answered p IsAnswer f all work funds a (overflow ns s e h) = h ∙ sym (ap (λ z. outcome_answer p (ended_with f work.value z)) e)

minimum_answered : (p : Problem) (t : Linear) (d : List (List Literal)) (funds : Funds) (a : Answer) → AnswersMinimum p t d funds a → a ≡ outcome_answer p (minimum_outcome p t d funds)
minimum_answered p t d = work_answered p (Tells p) (λ m funds. said m) (λ m funds a e. e) (minimising (length p.existentials) d t)

constraint_answered : (p : Problem) (t : Linear) (funds : Funds) (a : Answer) → AnswersConstraint p t funds a → a ≡ outcome_answer p (constraint_outcome p t funds)
constraint_answered p t = work_answered p (AnswersMinimum p t) (minimum_outcome p t) (minimum_answered p t) (constraint_of p)

least_answered : (budget : ℕ) (x : Expression) (p : Problem) (a : Answer) → AnswersLeast budget x p a → a ≡ outcome_answer p (least_outcome budget x p)
least_answered budget x p = work_answered p (AnswersConstraint p) (constraint_outcome p) (constraint_answered p) (objective_of p x) (record { budget = budget; spent = 0 })

-- where the text is this term and the encoding fits, the answer is that of the outcome
pub ends_so : (term : List ℕ) (budget : ℕ) (bytes : List ℕ) (a : Answer) → IsLeastAnswer term budget bytes a → (p : Problem) (x : Expression) → Poses bytes p → p.first_application ≡ None → IsObjective p term x → Fits p
    → a ≡ outcome_answer p (least_outcome budget x p)
ends_so term budget bytes a answered p x poses none is fits = by (objective_answered term budget bytes a p answered poses none)
  where
    by : AnswersObjective term budget p a → a ≡ outcome_answer p (least_outcome budget x p)
    by (refused_text n e) = absurd (n x is)
    by (stated y h k) =
        least_answered budget y p a (fitting_answered (AnswersLeast budget y) p a k fits) ∙ ap (λ z. outcome_answer p (least_outcome budget z p)) (one_objective p term y x h is)

-- ---- from an answer to its cause

minimised_outcome : (p : Problem) (o : Outcome) → (outcome_answer p o).status ≡ 0 → IsMinimised o
minimised_outcome p (said nothing) z = absurd cc
minimised_outcome p (said no_least) z = (no_least, refl, λ e. cc)
minimised_outcome p (said (least_at k vs)) z = (least_at k vs, refl, λ e. cc)
minimised_outcome p out_of_steps z = absurd cc
minimised_outcome p overflows z = absurd cc

none_outcome : (p : Problem) (o : Outcome) → (outcome_answer p o).status ≡ 1 → o ≡ said nothing
none_outcome p (said nothing) z = refl
none_outcome p (said no_least) z = absurd cc
none_outcome p (said (least_at k vs)) z = absurd cc
none_outcome p out_of_steps z = absurd cc
none_outcome p overflows z = absurd cc

steps_outcome : (p : Problem) (o : Outcome) → outcome_answer p o ≡ unknown_answer (codes "steps") → o ≡ out_of_steps
steps_outcome p (said nothing) z = let bad = ap status_of z in absurd cc
steps_outcome p (said no_least) z = let bad = ap status_of z in absurd cc
steps_outcome p (said (least_at k vs)) z = let bad = ap status_of z in absurd cc
steps_outcome p out_of_steps z = refl
steps_outcome p overflows z = absurd (omega (arith, ap cause_byte z))

overflow_outcome : (p : Problem) (o : Outcome) → outcome_answer p o ≡ unknown_answer (codes "overflow") → o ≡ overflows
overflow_outcome p (said nothing) z = let bad = ap status_of z in absurd cc
overflow_outcome p (said no_least) z = let bad = ap status_of z in absurd cc
overflow_outcome p (said (least_at k vs)) z = let bad = ap status_of z in absurd cc
overflow_outcome p out_of_steps z = absurd (omega (arith, ap cause_byte z))
overflow_outcome p overflows z = refl

-- no outcome is told with status 3
told_outcome : (p : Problem) (o : Outcome) → (outcome_answer p o).status ≢ 3
told_outcome p (said nothing) z = cc
told_outcome p (said no_least) z = cc
told_outcome p (said (least_at k vs)) z = cc
told_outcome p out_of_steps z = cc
told_outcome p overflows z = cc

-- what an answer with this property comes of, where refusals have it not
from_end : (term : List ℕ) (budget : ℕ) (bytes : List ℕ) (a : Answer) (P : Answer → Type 0) (Q : Outcome → Type 0) → ((name : List ℕ) → ¬ (P (refused_answer name)))
    → ((p : Problem) (o : Outcome) → P (outcome_answer p o) → Q o) → IsLeastAnswer term budget bytes a → P a
    → (P (unknown_answer (codes "overflow")) × PosesTerm term bytes (λ p x. LeavesRange p)) ⊎ LeastEnds term budget bytes Q
from_end term budget bytes a P Q none some (refused r h e) is = absurd (none (refusal_name r) (subst P e is))
from_end term budget bytes a P Q none some (posed p h (impure at k e)) is = absurd (none (placed (codes "Impure") at) (subst P e is))
from_end term budget bytes a P Q none some (posed p h (pure k (refused_text n e))) is = absurd (none (codes "Objective") (subst P e is))
from_end term budget bytes a P Q none some (posed p h (pure k (stated x o (large l e)))) is = absurd (none (codes "Large") (subst P e is))
from_end term budget bytes a P Q none some (posed p h (pure k (stated x o (leaves l e)))) is = inl (subst P e is, (p, h, (k, (x, o, l))))
from_end term budget bytes a P Q none some (posed p h (pure k (stated x o (runs f r)))) is = inr (p, h, (k, (x, o, (f, some p (least_outcome budget x p) (subst P (least_answered budget x p a r) is)))))

not_left : {A B C : Type 0} → ¬ A → ((A × B) ⊎ C) → C
not_left h (inl x) = absurd (h x.0)
not_left h (inr y) = y

second_of : {A B C : Type 0} → ((A × B) ⊎ C) → B ⊎ C
second_of (inl x) = inl x.1
second_of (inr y) = inr y

refused_by : (term : List ℕ) (budget : ℕ) (bytes : List ℕ) (a : Answer) → IsLeastAnswer term budget bytes a → a.status ≡ 3 → IsLeastRefused term bytes
refused_by term budget bytes a (refused r h e) z = cause.first r h
refused_by term budget bytes a (posed p h (impure at k e)) z = cause.impure at (p, h, k)
refused_by term budget bytes a (posed p h (pure k (refused_text n e))) z = cause.no_objective (p, h, (k, n))
refused_by term budget bytes a (posed p h (pure k (stated x o (large l e)))) z = cause.too_large (p, h, (k, (x, o, l)))
refused_by term budget bytes a (posed p h (pure k (stated x o (leaves l e)))) z = let bad = sym z ∙ ap status_of e in absurd cc
refused_by term budget bytes a (posed p h (pure k (stated x o (runs f r)))) z = absurd (told_outcome p (least_outcome budget x p) (sym (ap status_of (least_answered budget x p a r)) ∙ z))

-- no other refusal is called so
not_objective : (r : Refusal) → refused_answer (refusal_name r) ≡ refused_answer (codes "Objective") → ⊥
not_objective (unread (reading.Syntax at)) e = omega (arith, ap name_byte e)
not_objective (unread (reading.Literal at)) e = omega (arith, ap name_byte e)
not_objective (unread (reading.Deep at)) e = omega (arith, ap name_byte e)
not_objective (unread reading.Memory) e = omega (arith, ap name_byte e)
not_objective (untyped (typing.Undeclared at)) e = omega (arith, ap name_byte e)
not_objective (untyped (typing.Redeclared at)) e = omega (arith, ap name_byte e)
not_objective (untyped (typing.Arity at)) e = omega (arith, ap name_byte e)
not_objective (untyped (typing.Kind at)) e = omega (arith, ap name_byte e)
not_objective (untyped (typing.NonLinear at)) e = omega (arith, ap name_byte e)
not_objective (untyped (typing.Parts at)) e = omega (arith, ap name_byte e)
not_objective (untyped (typing.Many at)) e = omega (arith, ap name_byte e)
not_objective (untyped typing.Memory) e = omega (arith, ap name_byte e)

objective_by : (term : List ℕ) (budget : ℕ) (bytes : List ℕ) (a : Answer) → IsLeastAnswer term budget bytes a → a ≡ refused_answer (codes "Objective") → PosesNoObjective term bytes
objective_by term budget bytes a (refused r h e) z = absurd (not_objective r (sym e ∙ z))
objective_by term budget bytes a (posed p h (impure at k e)) z = absurd (omega (arith, ap name_byte (sym e ∙ z)))
objective_by term budget bytes a (posed p h (pure k (refused_text n e))) z = (p, h, (k, n))
objective_by term budget bytes a (posed p h (pure k (stated x o (large l e)))) z = absurd (omega (arith, ap name_byte (sym e ∙ z)))
objective_by term budget bytes a (posed p h (pure k (stated x o (leaves l e)))) z = let bad = ap status_of (sym e ∙ z) in absurd cc
objective_by term budget bytes a (posed p h (pure k (stated x o (runs f r)))) z =
    absurd (told_outcome p (least_outcome budget x p) (sym (ap status_of (least_answered budget x p a r)) ∙ ap status_of z))

-- a text that names an application, and one that names a large encoding, come of that alone
impure_by : (term : List ℕ) (budget : ℕ) (bytes : List ℕ) (a : Answer) → IsLeastAnswer term budget bytes a → (at : ℕ) → a ≡ refused_answer (placed (codes "Impure") at) → ComesOfImpure bytes at
impure_by term budget bytes a (refused r h e) at z = absurd (not_impure a r at e z)
impure_by term budget bytes a (posed p h (impure i k e)) at z = (i, (p, h, k), impure_names a i at e z)
impure_by term budget bytes a (posed p h (pure k (refused_text n e))) at z = absurd (omega (arith, ap name_byte (sym e ∙ z)))
impure_by term budget bytes a (posed p h (pure k (stated x o (large l e)))) at z = absurd (large_apart a at e z)
impure_by term budget bytes a (posed p h (pure k (stated x o (leaves l e)))) at z = let bad = ap status_of (sym e ∙ z) in absurd cc
impure_by term budget bytes a (posed p h (pure k (stated x o (runs f r)))) at z =
    absurd (told_outcome p (least_outcome budget x p) (sym (ap status_of (least_answered budget x p a r)) ∙ ap status_of z))

large_by : (term : List ℕ) (budget : ℕ) (bytes : List ℕ) (a : Answer) → IsLeastAnswer term budget bytes a → a ≡ refused_answer (codes "Large") → PosesTerm term bytes (λ p x. IsLarge p)
large_by term budget bytes a (refused r h e) z = absurd (not_large a r e z)
large_by term budget bytes a (posed p h (impure i k e)) z = absurd (large_apart a i z e)
large_by term budget bytes a (posed p h (pure k (refused_text n e))) z = absurd (omega (arith, ap name_byte (sym e ∙ z)))
large_by term budget bytes a (posed p h (pure k (stated x o (large l e)))) z = (p, h, (k, (x, o, l)))
large_by term budget bytes a (posed p h (pure k (stated x o (leaves l e)))) z = let bad = ap status_of (sym e ∙ z) in absurd cc
large_by term budget bytes a (posed p h (pure k (stated x o (runs f r)))) z =
    absurd (told_outcome p (least_outcome budget x p) (sym (ap status_of (least_answered budget x p a r)) ∙ ap status_of z))

-- ---- from a cause to its answer

-- where the work comes out so, the answer is that of the outcome
ended : (term : List ℕ) (budget : ℕ) (bytes : List ℕ) (a : Answer) (o : Outcome) → IsLeastAnswer term budget bytes a → (h : LeastEnds term budget bytes (λ z. z ≡ o)) → a ≡ outcome_answer h.0 o
ended term budget bytes a o answered h =
    ends_so term budget bytes a answered h.0 h.2.1.0 h.1 h.2.0 h.2.1.1 h.2.1.2.0 ∙ ap (outcome_answer h.0) h.2.1.2.1

minimised_status : (p : Problem) (m : Minimum) → m ≢ nothing → (outcome_answer p (said m)).status ≡ 0
minimised_status p nothing h = absurd (h refl)
minimised_status p no_least h = refl
minimised_status p (least_at k vs) h = refl

found_so : (term : List ℕ) (budget : ℕ) (bytes : List ℕ) (a : Answer) → IsLeastAnswer term budget bytes a → LeastEnds term budget bytes IsMinimised → a.status ≡ 0
found_so term budget bytes a answered h =
    let is = h.2.1.2.1 in
    ap status_of (ends_so term budget bytes a answered h.0 h.2.1.0 h.1 h.2.0 h.2.1.1 h.2.1.2.0 ∙ ap (outcome_answer h.0) is.1) ∙ minimised_status h.0 is.0 is.2

refused_status : (term : List ℕ) (budget : ℕ) (bytes : List ℕ) (a : Answer) → IsLeastAnswer term budget bytes a → IsLeastRefused term bytes → a.status ≡ 3
refused_status term budget bytes a answered (cause.first r h) = ap status_of (one_answer term budget bytes a _ answered (refused r h refl))
refused_status term budget bytes a answered (cause.impure at h) = ap status_of (one_answer term budget bytes a _ answered (posed h.0 h.1 (impure at h.2 refl)))
refused_status term budget bytes a answered (cause.no_objective h) = ap status_of (one_answer term budget bytes a _ answered (posed h.0 h.1 (pure h.2.0 (refused_text h.2.1 refl))))
refused_status term budget bytes a answered (cause.too_large h) = ap status_of (one_answer term budget bytes a _ answered (posed h.0 h.1 (pure h.2.0 (stated h.2.1.0 h.2.1.1 (large h.2.1.2 refl)))))

-- the text of a refusal comes of that refusal alone
only_first : (term : List ℕ) (budget : ℕ) (bytes : List ℕ) (a : Answer) → IsLeastAnswer term budget bytes a → (r : Refusal) → a ≡ refused_answer (refusal_name r) → IsLeastRefused term bytes → ComesOf bytes r
only_first term budget bytes a answered r e (cause.first q h) = comes_of bytes a r q e h (one_answer term budget bytes a _ answered (refused q h refl))
only_first term budget bytes a answered r e (cause.impure at h) = absurd (not_impure a r at e (one_answer term budget bytes a _ answered (posed h.0 h.1 (impure at h.2 refl))))
only_first term budget bytes a answered r e (cause.no_objective h) = absurd (not_objective r (sym e ∙ one_answer term budget bytes a _ answered (posed h.0 h.1 (pure h.2.0 (refused_text h.2.1 refl)))))
only_first term budget bytes a answered r e (cause.too_large h) = absurd (not_large a r e (one_answer term budget bytes a _ answered (posed h.0 h.1 (pure h.2.0 (stated h.2.1.0 h.2.1.1 (large h.2.1.2 refl))))))

overflow_so : (term : List ℕ) (budget : ℕ) (bytes : List ℕ) (a : Answer) → IsLeastAnswer term budget bytes a → PosesTerm term bytes (λ p x. LeavesRange p) ⊎ LeastEnds term budget bytes (λ o. o ≡ overflows)
    → a ≡ unknown_answer (codes "overflow")
overflow_so term budget bytes a answered (inl h) = one_answer term budget bytes a _ answered (posed h.0 h.1 (pure h.2.0 (stated h.2.1.0 h.2.1.1 (leaves h.2.1.2 refl))))
overflow_so term budget bytes a answered (inr h) = ended term budget bytes a overflows answered h

pub causes : (term : List ℕ) (budget : ℕ) (bytes : List ℕ) (a : Answer) → IsLeastAnswer term budget bytes a → LeastCauses term budget bytes a
causes term budget bytes a answered = record {
  ends = ends_so term budget bytes a answered;
  found = (
    λ z. not_left (λ e. cc) (from_end term budget bytes a (λ b. b.status ≡ 0) IsMinimised (λ name e. cc) minimised_outcome answered z),
    found_so term budget bytes a answered,
  );
  none = (
    λ z. not_left (λ e. cc) (from_end term budget bytes a (λ b. b.status ≡ 1) (λ o. o ≡ said nothing) (λ name e. cc) none_outcome answered z),
    λ h. ap status_of (ended term budget bytes a (said nothing) answered h),
  );
  steps = (
    λ z. not_left (λ e. omega (arith, ap cause_byte e)) (from_end term budget bytes a (λ b. b ≡ unknown_answer (codes "steps")) (λ o. o ≡ out_of_steps) (λ name e. let bad = ap status_of e in cc) steps_outcome answered z),
    ended term budget bytes a out_of_steps answered,
  );
  overflow = (
    λ z. second_of (from_end term budget bytes a (λ b. b ≡ unknown_answer (codes "overflow")) (λ o. o ≡ overflows) (λ name e. let bad = ap status_of e in cc) overflow_outcome answered z),
    overflow_so term budget bytes a answered,
  );
  refuses = (refused_by term budget bytes a answered, refused_status term budget bytes a answered);
  objective = (objective_by term budget bytes a answered, λ h. one_answer term budget bytes a _ answered (posed h.0 h.1 (pure h.2.0 (refused_text h.2.1 refl))));
  refused = λ r h. one_answer term budget bytes a _ answered (refused r h refl);
  only = λ r e. only_first term budget bytes a answered r e (refused_by term budget bytes a answered (ap status_of e));
  impure = λ at h. one_answer term budget bytes a _ answered (posed h.0 h.1 (impure at h.2 refl));
  impure_only = impure_by term budget bytes a answered;
  large = (large_by term budget bytes a answered, λ h. one_answer term budget bytes a _ answered (posed h.0 h.1 (pure h.2.0 (stated h.2.1.0 h.2.1.1 (large h.2.1.2 refl)))));
}
