-- The loop over rounds.
use Rattle.std.proofs.Common.{◌≡◌, ℕ, suc, ◌+◌, ◌-◌, ◌≤◌, refl, ◌∙◌, ap, sym, subst, arith, Some, None, Result, Ok, Err, IsErrAnd}
use Rattle.base_budget.specs.declared.fault.StepFault.{StepFault}
use Rattle.base_budget.specs.Followed.{Followed}
use Rattle.base_budget.specs.Runs.{total}
use Rattle.base_budget.specs.Trace.{Funds, At, Traced}
use Rattle.base_budget.proofs.Advancing.{followed_later, followed_whole}
use Rattle.base_budget.proofs.Following.{Going, follow_err, follow_just, follow_ok, going_all, going_ends, going_next}
use Rattle.formula.specs.Form.{Form}
use Rattle.search.specs.declared.course.Course.{Course}
use Rattle.search.specs.declared.judge.Found.{Found}
use Rattle.search.specs.Course.{noted}
use Rattle.search.specs.Run.{RunAnswer, canonical_run, one_round, or_further, rounds}
use Rattle.search.specs.Walking.{Gets}
use Rattle.search.proofs.Endings.{round_charges}

-- before the round with the limit k: what is left of the run, and that each round before has charged
pub record Turn (f : Form) (n k : ℕ) (now : Funds) (c : Course) (old : Funds) (c0 : Course) : Type 0 where
  pub going : Going noted (rounds f n (suc (old.budget - k)) k) now c (canonical_run f n old.budget) old c0
  pub charged : k ≤ now.spent
  pub budget : now.budget ≡ old.budget
  pub within : now.spent ≤ now.budget

pub first_turn : (f : Form) (n : ℕ) (old : Funds) (c0 : Course) → old.spent ≤ old.budget → Turn f n 0 old c0 old c0
unfolding canonical_run
first_turn f n old c0 h = record {
  going = let e : old.budget - 0 ≡ old.budget = omega arith in subst (λ m. Going noted (rounds f n (suc m) 0) old c0 (rounds f n (suc old.budget) 0) old c0) (sym e) (going_all (rounds f n (suc old.budget) 0) old c0);
  charged = omega arith;
  budget = refl;
  within = h;
}

pub next_turn : (f : Form) (n k : ℕ) {now b old : Funds} {c d c0 : Course} → Turn f n k now c old c0 → Followed noted (one_round f n k) now c (Ok None) b d → Turn f n (k + 1) b d old c0
next_turn f n k {now} {b} {old} {c} {d} {c0} turn h =
    let later = followed_later (Ok None) turn.within h in
    let spent : b.spent ≡ now.spent + total (one_round f n k).events = ap (λ (z : At). z.funds.spent) (followed_whole noted (one_round f n k) now b c d None turn.within h).1.stands in
    let least : 1 ≤ total (one_round f n k).events = round_charges f n k in
    let is : b.budget ≡ now.budget = later.budget in
    let within : b.spent ≤ b.budget = later.within in
    let before : k ≤ now.spent = turn.charged in
    let same : now.budget ≡ old.budget = turn.budget in
    let e : old.budget - k ≡ suc (old.budget - (k + 1)) = omega (arith, spent, least, is, within, before, same) in
    let g : suc k ≡ k + 1 = omega arith in
    record {
      going =
          subst (λ m. Going noted (rounds f n m (k + 1)) b d (canonical_run f n old.budget) old c0) e
          (subst (λ m. Going noted (rounds f n (old.budget - k) m) b d (canonical_run f n old.budget) old c0) g (going_next (one_round f n k) (or_further (rounds f n (old.budget - k) (suc k))) turn.going h));
      charged = omega (arith, spent, least, before);
      budget = is ∙ same;
      within = within;
    }

pub run_found : (f : Form) (n k : ℕ) {now b old : Funds} {c d c0 : Course} (a : RunAnswer) → Turn f n k now c old c0 → Followed noted (one_round f n k) now c (Ok (Some a)) b d → Followed noted (canonical_run f n old.budget) old c0 (Ok a) b d
run_found f n k {old = old} a turn h = going_ends turn.going (follow_ok (one_round f n k) (or_further (rounds f n (old.budget - k) (suc k))) h (follow_just a a refl))

gets_err : {A B : Type 0} {P : A → B → Type 0} {work : Traced A} {a b : Funds} {c d : Course} (e : StepFault) (r : Result B StepFault) → IsErrAnd r (λ x. x ≡ e) → Followed noted work a c (Err e) b d → Gets P work a c r b d
gets_err e (Ok o) h w = absurd h
gets_err {work = work} {a} {b} {c} {d} e (Err x) h w = record { ok = λ z is. absurd (cc); err = λ f is. (let same : x ≡ f = cc in subst (λ (z : StepFault). Followed noted work a c (Err z) b d) (sym h ∙ same) w) }

pub got_ok : {A B : Type 0} {P : A → B → Type 0} {work : Traced A} {a b : Funds} {c d : Course} (x : A) (y : B) → Followed noted work a c (Ok x) b d → P x y → Gets P work a c (Ok y) b d
got_ok {P = P} x y w p = record { ok = λ z is. (x, w, subst (P x) (cc) p); err = λ e is. absurd (cc) }

pub run_cut : (f : Form) (n k : ℕ) {now b old : Funds} {c d c0 : Course} {e : StepFault} {P : RunAnswer → Found → Type 0} (r : Result Found StepFault) → Turn f n k now c old c0 → IsErrAnd r (λ x. x ≡ e) → Followed noted (one_round f n k) now c (Err e) b d
    → Gets P (canonical_run f n old.budget) old c0 r b d
run_cut f n k {old = old} {e = e} r turn is h = gets_err e r is (going_ends turn.going (follow_err (one_round f n k) (or_further (rounds f n (old.budget - k) (suc k))) (Err e) refl h))
