-- A price that is paid before what it pays for.
use Rattle.std.proofs.Common.{◌≡◌, ◌<◌, ◌+◌, ℕ, Option, sym, subst, ap, ◌∙◌, Result, Ok, Err, IsErrAnd}
use Rattle.std.specs.Prelude.{IfErr}
use Rattle.base_budget.specs.Trace.{Funds}
use Rattle.clause_checker.specs.declared.fault.Fault.{Fault}
use Rattle.clause_checker.specs.declared.fault.Fault.TheVariants.{Refused, Steps, Overflow, Room, Memory}
use Rattle.clause_checker.proofs.Causes.{refused_has}
use Rattle.clause_checker.proofs.Doing.{does_cut}
use Rattle.clause_checker.specs.Answers.{Does, HasCause, IsCausedBy, IsRefusedOrCut, PaysPrice}

-- what is made after its price is paid
pub paid_then : {A : Type 0} (p n : ℕ) (old new : Funds) (count : ℕ) (r : Result A Fault) → n ≡ p → new ≡ record old { spent = old.spent + n } → IfErr r (HasCause count) → PaysPrice p old new r
paid_then p n old new count (Ok x) is paid h = paid ∙ ap (λ k. record old { spent = old.spent + k }) is
paid_then p n old new count (Err Refused) is paid h = paid ∙ ap (λ k. record old { spent = old.spent + k }) is
paid_then p n old new count (Err Steps) is paid h = absurd h
paid_then p n old new count (Err (Overflow q)) is paid h = paid ∙ ap (λ k. record old { spent = old.spent + k }) is
paid_then p n old new count (Err Room) is paid h = paid ∙ ap (λ k. record old { spent = old.spent + k }) is
paid_then p n old new count (Err Memory) is paid h = tt

pub refused_then : {A : Type 0} (p n : ℕ) (old new : Funds) (r : Result A Fault) → n ≡ p → new ≡ record old { spent = old.spent + n } → IfErr r IsRefusedOrCut → PaysPrice p old new r
refused_then p n old new (Ok x) is paid h = paid ∙ ap (λ k. record old { spent = old.spent + k }) is
refused_then p n old new (Err Refused) is paid h = paid ∙ ap (λ k. record old { spent = old.spent + k }) is
refused_then p n old new (Err Steps) is paid h = absurd h
refused_then p n old new (Err (Overflow q)) is paid h = paid ∙ ap (λ k. record old { spent = old.spent + k }) is
refused_then p n old new (Err Room) is paid h = absurd h
refused_then p n old new (Err Memory) is paid h = tt

-- the price passes the budget
pub not_paid : {A : Type 0} (p n : ℕ) (old new : Funds) (e : Fault) (r : Result A Fault) → n ≡ p → e ≡ Steps → old.budget < old.spent + n → IsErrAnd r (λ x. x ≡ e) → PaysPrice p old new r
not_paid {A} p n old new e (Ok x) is steps passes h = absurd h
not_paid {A} p n old new e (Err d) is steps passes h = subst (λ x. PaysPrice {A = A} p old new (Err x)) (sym (h ∙ steps)) (subst (λ k. old.budget < old.spent + k) is passes)

-- out of memory before
pub not_priced : {A : Type 0} (p : ℕ) (old new : Funds) (r : Result A Fault) → IsErrAnd r (λ x. x ≡ Memory) → PaysPrice p old new r
not_priced {A} p old new (Ok x) h = absurd h
not_priced {A} p old new (Err d) h = subst (λ x. PaysPrice {A = A} p old new (Err x)) (sym h) tt

-- and so nothing was made
steps_say : {A B : Type 0} (view : A → B) (work : Option B) (e : Fault) → e ≡ Steps → Does view work (Err e)
steps_say view work e is = record { ok = λ y h. absurd (cc); refused = λ h. let bad : Steps ≡ Refused = cc in absurd (cc) }

pub steps_on : {A B : Type 0} (view : A → B) (work : Option B) (e : Fault) (r : Result A Fault) → e ≡ Steps → IsErrAnd r (λ x. x ≡ e) → Does view work r
steps_on view work e (Ok x) is h = absurd h
steps_on view work e (Err d) is h = steps_say view work d (h ∙ is)

-- the causes
pub has_caused : (n : ℕ) (e : Fault) → HasCause n e → IsCausedBy n e
has_caused n Refused h = h
has_caused n Steps h = absurd h
has_caused n (Overflow p) h = h
has_caused n Room h = h
has_caused n Memory h = h

pub refused_caused : (n : ℕ) (e : Fault) → IsRefusedOrCut e → IsCausedBy n e
refused_caused n e h = has_caused n e (refused_has n e h)

pub steps_caused : (n : ℕ) (e : Fault) → e ≡ Steps → IsCausedBy n e
steps_caused n e is = subst (IsCausedBy n) (sym is) tt

pub memory_caused : (n : ℕ) (e : Fault) → e ≡ Memory → IsCausedBy n e
memory_caused n e is = subst (IsCausedBy n) (sym is) tt

pub ruleset paying = (paid_then, refused_then, not_paid, not_priced, steps_on, does_cut, has_caused, refused_caused, steps_caused, memory_caused)
