-- The answers to a problem whose run ended saturated.
use Rattle.std.proofs.Common.{◌≡◌, ◌⊎◌, inl, inr, ℕ, ℤ, List, [], ◌++◌, map, Option, Some, None, Ok, Err, refl, sym, ◌∙◌, ap, subst, codes, slice_index_or, arith}
use Rattle.linear_term.specs.declared.range.Place.{Place}
use Rattle.base_budget.specs.declared.fault.StepFault.{StepFault}
use Rattle.base_budget.specs.declared.fault.StepFault.TheVariants.{Steps, Overflow}
use Rattle.base_budget.specs.Trace.{Funds, at}
use Rattle.form_typed.specs.declared.world.Table.{Table}
use Rattle.proof_tree.specs.Proof.{Proof}
use Rattle.base_budget.specs.Ending.{Ending, ended, ending, ends_with, out_of_steps, overflows}
use Rattle.pri_typing.specs.declared.problem.Problem.{Problem}
use Rattle.pri_typing.specs.declared.problem.Symbol.{Symbol}
use Rattle.pri_printer.specs.Counterexample.{lines_text, row_text, truth_text}
use Rattle.pri_printer.specs.Text.{value_texts}
use Rattle.base_answers.specs.Answer.{Answer, IsAnswerStatus, line, says_line, unknown_answer}
use Rattle.pri_problem.specs.Reads.{AreSame}
use Rattle.job_solve.specs.Explained.{AnswersSaturated, IsCutByRange, IsCutBySteps, IsWalked, explain_end, explained, nowhere, past, refuted_answer, short}
use Rattle.countermodel.specs.Explaining.{DoesWork, explaining}
use Rattle.countermodel.specs.Probes.{probe_values}
use Rattle.job_solve.proofs.Refuted.{explaining_same}

abbrev status_of : Answer → ℕ
status_of a = a.status

-- the byte of an answer's text that tells its cause
abbrev cause : Answer → ℕ
cause a = slice_index_or a.text 10 0

-- ---- one answer

-- the answer to each end of the walk; it has always a counterexample, where it comes to its end
abbrev pub walk_answer : Problem → List ℤ → Ending (Option (Table × List ℤ)) → Answer
walk_answer p e (ends_with (Some c) stands) = refuted_answer p e c
walk_answer p e (ends_with None stands) = unknown_answer (codes "steps")
walk_answer p e (out_of_steps stands) = unknown_answer (codes "steps")
walk_answer p e (overflows numbers stands) = unknown_answer (codes "overflow")

-- the answer where these are the values nearest to 0
abbrev pub probe_answer : Problem → Proof → Funds → Option (List ℤ) → Answer
probe_answer p x left None = says_line 1 (codes "INVALID")
probe_answer p x left (Some e) = walk_answer p e (explain_end p x e left)

abbrev pub saturated_answer : Problem → Proof → Funds → Answer
saturated_answer p x left = probe_answer p x left (probe_values p.existential_types)

pub saturated_by : (p : Problem) (x : Proof) (left : Funds) (a : Answer) → AnswersSaturated p x left a → a ≡ saturated_answer p x left
saturated_by p x left a (nowhere probe e) = e ∙ sym (ap (probe_answer p x left) probe)
saturated_by p x left a (explained at c stands probe is e) = e ∙ sym (ap (probe_answer p x left) probe ∙ ap (walk_answer p at) is)
saturated_by p x left a (short (at, stands, probe, is) e) = e ∙ sym (ap (probe_answer p x left) probe ∙ ap (walk_answer p at) is)
saturated_by p x left a (past (at, numbers, stands, probe, is) e) = e ∙ sym (ap (probe_answer p x left) probe ∙ ap (walk_answer p at) is)

-- ---- from the walk to its answer

pub explained_told : (p : Problem) (x : Proof) (left new : Funds) (e : List ℤ) (c : Table × List ℤ) (a : Answer) → probe_values p.existential_types ≡ Some e → DoesWork (explaining p x e) left (Ok (Some c)) new → a ≡ refuted_answer p e c → AnswersSaturated p x left a
explained_told p x left new e c a probe did is =
    let w = explaining p x e in
    let all = did.charged.ok (Some c) refl in
    explained e c (at new did.notes) probe (ap (ended w.value) (all.1).end ∙ ap (λ v. ends_with v (at new did.notes)) (sym all.0)) is

pub steps_told : (p : Problem) (x : Proof) (left new : Funds) (e : List ℤ) (f : StepFault) (a : Answer) → probe_values p.existential_types ≡ Some e → f ≡ Steps → DoesWork (explaining p x e) left (Err f) new → a ≡ unknown_answer (codes "steps") → AnswersSaturated p x left a
steps_told p x left new e f a probe which did is =
    let w = explaining p x e in
    short (e, at new did.notes, probe, ap (ended w.value) (did.charged.steps (ap Err which)).end) is

pub range_told : (p : Problem) (x : Proof) (left new : Funds) (e : List ℤ) (f : StepFault) (n : Place) (a : Answer) → probe_values p.existential_types ≡ Some e → f ≡ Overflow n → DoesWork (explaining p x e) left (Err f) new → a ≡ unknown_answer (codes "overflow")
    → AnswersSaturated p x left a
range_told p x left new e f n a probe which did is =
    let w = explaining p x e in
    let out = did.charged.overflow n (ap Err which) in
    past (e, out.numbers, at new did.notes, probe, ap (ended w.value) out.end) is

-- ---- its status and its cause

pub saturated_status : (p : Problem) (x : Proof) (left : Funds) (a : Answer) → AnswersSaturated p x left a → IsAnswerStatus a.status
saturated_status p x left a (nowhere probe e) = subst (λ b. IsAnswerStatus b.status) (sym e) refl
saturated_status p x left a (explained at c stands probe is e) = subst (λ b. IsAnswerStatus b.status) (sym e) refl
saturated_status p x left a (short is e) = subst (λ b. IsAnswerStatus b.status) (sym e) refl
saturated_status p x left a (past is e) = subst (λ b. IsAnswerStatus b.status) (sym e) refl

-- it is 1 or 2
pub one_or_two : (p : Problem) (x : Proof) (left : Funds) (a : Answer) → AnswersSaturated p x left a → (a.status ≡ 1) ⊎ (a.status ≡ 2)
one_or_two p x left a (nowhere probe e) = inl (ap status_of e)
one_or_two p x left a (explained at c stands probe is e) = inl (ap status_of e)
one_or_two p x left a (short is e) = inr (ap status_of e)
one_or_two p x left a (past is e) = inr (ap status_of e)

pub walked : (p : Problem) (x : Proof) (left : Funds) (a : Answer) → AnswersSaturated p x left a → a.status ≡ 1 → IsWalked p x left
walked p x left a (nowhere probe e) z = inl probe
walked p x left a (explained at c stands probe is e) z = inr (at, c, stands, probe, is)
walked p x left a (short is e) z = let bad = sym z ∙ ap status_of e in absurd cc
walked p x left a (past is e) z = let bad = sym z ∙ ap status_of e in absurd cc

pub cut_by_steps : (p : Problem) (x : Proof) (left : Funds) (a : Answer) → AnswersSaturated p x left a → a ≡ unknown_answer (codes "steps") → IsCutBySteps p x left
cut_by_steps p x left a (nowhere probe e) z = let bad = ap status_of (sym z ∙ e) in absurd cc
cut_by_steps p x left a (explained at c stands probe is e) z = let bad = ap status_of (sym z ∙ e) in absurd cc
cut_by_steps p x left a (short is e) z = is
cut_by_steps p x left a (past is e) z = absurd (omega (arith, ap cause (sym z ∙ e)))

pub cut_by_range : (p : Problem) (x : Proof) (left : Funds) (a : Answer) → AnswersSaturated p x left a → a ≡ unknown_answer (codes "overflow") → IsCutByRange p x left
cut_by_range p x left a (nowhere probe e) z = let bad = ap status_of (sym z ∙ e) in absurd cc
cut_by_range p x left a (explained at c stands probe is e) z = let bad = ap status_of (sym z ∙ e) in absurd cc
cut_by_range p x left a (short is e) z = absurd (omega (arith, ap cause (sym z ∙ e)))
cut_by_range p x left a (past is e) z = is

pub no_branch : (p : Problem) (x : Proof) (left : Funds) (a : Answer) → AnswersSaturated p x left a → a ≡ unknown_answer (codes "branch") → ⊥
no_branch p x left a (nowhere probe e) z = let bad = ap status_of (sym z ∙ e) in absurd cc
no_branch p x left a (explained at c stands probe is e) z = let bad = ap status_of (sym z ∙ e) in absurd cc
no_branch p x left a (short is e) z = absurd (omega (arith, ap cause (sym z ∙ e)))
no_branch p x left a (past is e) z = absurd (omega (arith, ap cause (sym z ∙ e)))

-- ---- from a cause to its answer

pub walked_status : (p : Problem) (x : Proof) (left : Funds) → IsWalked p x left → (saturated_answer p x left).status ≡ 1
walked_status p x left (inl probe) = ap (λ o. (probe_answer p x left o).status) probe
walked_status p x left (inr (at, c, stands, probe, is)) = ap (λ o. (probe_answer p x left o).status) probe ∙ ap (λ z. (walk_answer p at z).status) is

pub steps_answer : (p : Problem) (x : Proof) (left : Funds) → IsCutBySteps p x left → saturated_answer p x left ≡ unknown_answer (codes "steps")
steps_answer p x left (at, stands, probe, is) = ap (probe_answer p x left) probe ∙ ap (walk_answer p at) is

pub range_answer : (p : Problem) (x : Proof) (left : Funds) → IsCutByRange p x left → saturated_answer p x left ≡ unknown_answer (codes "overflow")
range_answer p x left (at, numbers, stands, probe, is) = ap (probe_answer p x left) probe ∙ ap (walk_answer p at) is

-- ---- the same for the same problem

refuted_same : (p q : Problem) (e : List ℤ) (c : Table × List ℤ) → AreSame p q → refuted_answer p e c ≡ refuted_answer q e c
refuted_same p q e c same =
    let text : List (List ℕ) → List (List ℕ) → List Symbol → List Symbol → Answer = λ xs us ps fs.
    record { status = 1; text = line (codes "INVALID") ++ (codes "counterexample:\n" ++ (lines_text (value_texts xs e) ++ (lines_text (value_texts us c.1) ++ (lines_text (map (truth_text ps) c.0.truths) ++ lines_text (map (row_text fs) c.0.values))))) } in
    ap (λ xs. text xs p.universals p.predicates p.functions) same.existentials ∙ ap (λ us. text q.existentials us p.predicates p.functions) same.universals
    ∙ ap (λ ps. text q.existentials q.universals ps p.functions) same.predicates ∙ ap (λ fs. text q.existentials q.universals q.predicates fs) same.functions

same_end : (p q : Problem) (x : Proof) (e : List ℤ) (left : Funds) → AreSame p q → explain_end p x e left ≡ explain_end q x e left
same_end p q x e left same = ap (λ w. ending w (at left [])) (explaining_same p q x e same)

same_probe : (p q : Problem) (o : Option (List ℤ)) → AreSame p q → probe_values p.existential_types ≡ o → probe_values q.existential_types ≡ o
same_probe p q o same probe = ap probe_values (sym same.existential_types) ∙ probe

pub saturated_same : (p q : Problem) (x : Proof) (left : Funds) (a : Answer) → AreSame p q → AnswersSaturated p x left a → AnswersSaturated q x left a
saturated_same p q x left a same (nowhere probe e) = nowhere (same_probe p q None same probe) e
saturated_same p q x left a same (explained at c stands probe is e) = explained at c stands (same_probe p q (Some at) same probe) (sym (same_end p q x at left same) ∙ is) (e ∙ refuted_same p q at c same)
saturated_same p q x left a same (short (at, stands, probe, is) e) = short (at, stands, same_probe p q (Some at) same probe, sym (same_end p q x at left same) ∙ is) e
saturated_same p q x left a same (past (at, numbers, stands, probe, is) e) = past (at, numbers, stands, same_probe p q (Some at) same probe, sym (same_end p q x at left same) ∙ is) e
