-- Which answer `least` has where its work comes to its end.
use Rattle.std.proofs.Common.{◌≡◌, ℕ, ℤ, pos, ◌<ℤ◌, ◌≤ℤ◌, List, [], length, inl, inr, refl, sym, ◌∙◌, ap, subst, slice_index_or, arith}
use Rattle.std.proofs.lemmas.Int.{ints}
use Rattle.base_budget.specs.Trace.{End, Funds, at, cut, done, refused, out_of_range}
use Rattle.form_typed.specs.Formula.{Expression}
use Rattle.form_typed.specs.Truth.{Meaning, HasValue}
use Rattle.pri_typing.specs.declared.problem.Problem.{Problem}
use Rattle.pri_typing.specs.Problems.{Holds}
use Rattle.form_encoding.specs.Plain.{IsPlain}
use Rattle.optimiser.specs.Least.{Minimum, nothing, no_least, least_at, minimising}
use Rattle.job_least.proofs.PlainValues.{LeastMeans, plain_value}
use Rattle.job_least.proofs.Terms.{plain_has}
use Rattle.base_answers.specs.Answer.{Answer}
use Rattle.pri_problem.proofs.Bytes.{reads_formed, reads_pure}
use Rattle.job_least.specs.Decides.{LeastDecides, IsLeastDecided}
use Rattle.job_least.specs.Leasts.{IsLeastAnswer, constraint_of, minimum_answer, objective_of}
use Rattle.job_least.specs.Outcomes.{Outcome, said, out_of_steps, overflows, constraint_outcome, ended_with, least_outcome, minimum_outcome, outcome_answer}
use Rattle.job_least.proofs.Causing.{ends_so}
use Rattle.job_least.proofs.Meaning.{IsFound, found_is, found_means, found_of, is_found}
use Rattle.job_least.proofs.Typed.{objective_typed}

-- ---- what is said is what the search found

said_same : (m n : Minimum) → said m ≡ said n → m ≡ n
said_same m n e = cc

value_said : {A : Type 0} (f : A → Funds → Outcome) (v : A) (m n : Minimum) → ((funds : Funds) → f v funds ≡ said m → m ≡ n) → (z : End) → ended_with f v z ≡ said m → m ≡ n
value_said f v m n all (done a) e = all a.funds e
value_said f v m n all (refused a) e = absurd cc
value_said f v m n all (out_of_range numbers a) e = absurd cc

said_found : (budget : ℕ) (x : Expression) (p : Problem) (m : Minimum) → least_outcome budget x p ≡ said m → m ≡ found_of p x
said_found budget x p m e =
    let t = (objective_of p x).value in
    let d = (constraint_of p).value in
    let found = (minimising (length p.existentials) d t).value in
    value_said (constraint_outcome p) t m found
    (λ f. value_said (minimum_outcome p t) d m found
    (λ g. value_said (λ k funds. said k) found m found (λ h e. sym (said_same found m e)) (cut (minimising (length p.existentials) d t).events (at g [])))
    (cut (constraint_of p).events (at f [])))
    (cut (objective_of p x).events (at (record { budget = budget; spent = 0 }) [])) e ∙ found_is p x

-- ---- each answer exactly where it is so

abbrev status_of : Answer → ℕ
status_of a = a.status

-- the first byte of an answer's text
abbrev first_byte : Answer → ℕ
first_byte a = slice_index_or a.text 0 0

no_less : (v k : ℤ) → v <ℤ k → k ≤ℤ v → ⊥
no_less v k h g = omega (arith, ints, h, g)

has : (w : Meaning) (x : Expression) (e : List ℤ) (P : ℤ → Type 0) → IsPlain x → HasValue w x e P → P (plain_value x e)
has w x e P plain h = subst (λ (A : Type 0). A) (plain_has w x e P plain) h

minimum_decides : (w : Meaning) (p : Problem) (x : Expression) (m : Minimum) (a : Answer) → IsPlain x → LeastMeans w (Holds w p) (length p.existentials) x m → a ≡ minimum_answer p m → LeastDecides w p x a
minimum_decides w p x nothing a plain means e = record {
  decided = inr (ap status_of e);
  unsatisfied = (λ z v h. means v h.many h, λ h. ap status_of e);
  unbounded = (λ z. let bad = ap status_of (sym e ∙ z) in absurd cc, λ u. absurd (means (u (pos 0)).0 (u (pos 0)).1.many (u (pos 0)).1));
}
minimum_decides w p x no_least a plain means e = record {
  decided = inl (ap status_of e);
  unsatisfied = (λ z. let bad = sym z ∙ ap status_of e in absurd cc, λ h. absurd (h (means (pos 0)).0 (means (pos 0)).1.holds));
  unbounded = (λ z k. ((means k).0, (means k).1.holds, (means k).1.below), λ u. e);
}
minimum_decides w p x (least_at k vs) a plain means e = record {
  decided = inl (ap status_of e);
  unsatisfied = (λ z. let bad = sym z ∙ ap status_of e in absurd cc, λ h. absurd (h vs means.holds));
  unbounded = (
    λ z. absurd (omega (arith, ap first_byte (sym e ∙ z))),
    λ u. let v = (u k).0 in
        let holds = (u k).1 in
        absurd (no_less (plain_value x v) k (has w x v (λ y. y <ℤ k) plain (u k).2) (has w x v (λ y. k ≤ℤ y) plain (means.least v holds.many holds))),
  );
}

pub decides : (w : Meaning) (term : List ℕ) (budget : ℕ) (bytes : List ℕ) (a : Answer) (p : Problem) (x : Expression) → IsLeastAnswer term budget bytes a → IsLeastDecided term budget bytes p x → LeastDecides w p x a
decides w term budget bytes a p x answered h = by (least_outcome budget x p) refl
  where
    by : (o : Outcome) → least_outcome budget x p ≡ o → LeastDecides w p x a
    by (said m) is =
        let formed = reads_formed bytes p h.poses.reads in
        let without = (reads_pure bytes p h.poses.reads).0 h.pure in
        let plain = h.stated.plain in
        let found : IsFound p x m = subst (IsFound p x) (sym (said_found budget x p m is)) (is_found p x formed without plain) in
        minimum_decides w p x m a plain (found_means w p x m formed without plain (objective_typed p term x h.stated).1 found)
        (ends_so term budget bytes a answered p x h.poses h.pure h.stated h.fits ∙ ap (outcome_answer p) is)
    by out_of_steps is = absurd (h.within_budget is)
    by overflows is = absurd (h.within_range is)
