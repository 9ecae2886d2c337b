-- What an elimination that ended made of its formula.
use Rattle.std.proofs.Common.{◌≡◌, ℕ, ◌-◌, List, [], Ok, Err, refl, sym, ap, ◌∙◌, subst}
use Rattle.base_budget.specs.declared.fault.StepFault.TheVariants.{Steps, Overflow}
use Rattle.linear_term.specs.declared.range.Place.{Place}
use Rattle.base_budget.specs.Trace.{Funds, Mark, at}
use Rattle.base_budget.specs.Work.{ChargedAt}
use Rattle.clause_set.specs.declared.literal.Literal.{Literal}
use Rattle.formula.specs.Form.{Form}
use Rattle.elim_laws.specs.Whole.{eliminating}
use Rattle.clause_root_laws.specs.Clausal.{dnf_form}
use Rattle.clause_root_laws.specs.Prepared.{share, by_end, attempted}

-- the purse of an elimination, where this many steps are left
abbrev pub fresh : ℕ → Funds
fresh left = record { budget = share left; spent = 0 }

pub ends_made : (n : ℕ) (f g : Form) (left now : ℕ) (d : List (List Literal)) (old new : Funds) (ms : List Mark) → old ≡ fresh left → ChargedAt (eliminating n f) (at old []) (Ok d) (at new ms)
    → g ≡ dnf_form n d → now ≡ left - new.spent → (g, now) ≡ attempted n f left
unfolding attempted
ends_made n f g left now d old new ms begins h made less =
    let q = (subst (λ o. ChargedAt (eliminating n f) (at o []) (Ok d) (at new ms)) begins h).ok d refl in
    (λ i. (made i, less i)) ∙ (λ i. (dnf_form n (q.0 i), left - new.spent)) ∙ sym (ap (by_end n f (eliminating n f).value left) q.1.end)

pub ends_refused : (n : ℕ) (f g : Form) (left now : ℕ) (old new : Funds) (ms : List Mark) → old ≡ fresh left → ChargedAt (eliminating n f) (at old []) (Err Steps) (at new ms)
    → g ≡ f → now ≡ left - new.spent → (g, now) ≡ attempted n f left
unfolding attempted
ends_refused n f g left now old new ms begins h made less =
    let q = (subst (λ o. ChargedAt (eliminating n f) (at o []) (Err Steps) (at new ms)) begins h).steps refl in
    (λ i. (made i, less i)) ∙ sym (ap (by_end n f (eliminating n f).value left) q.end)

pub ends_outside : (n : ℕ) (f g : Form) (left now : ℕ) (p : Place) (old new : Funds) (ms : List Mark) → old ≡ fresh left → ChargedAt (eliminating n f) (at old []) (Err (Overflow p)) (at new ms)
    → g ≡ f → now ≡ left - new.spent → (g, now) ≡ attempted n f left
unfolding attempted
ends_outside n f g left now p old new ms begins h made less =
    let q = (subst (λ o. ChargedAt (eliminating n f) (at o []) (Err (Overflow p)) (at new ms)) begins h).overflow p refl in
    (λ i. (made i, less i)) ∙ sym (ap (by_end n f (eliminating n f).value left) q.end)

pub fresh_is : (left b : ℕ) (old : Funds) → b ≡ share left → old ≡ record { budget = b; spent = 0 } → old ≡ fresh left
fresh_is left b old is h = h ∙ (λ i. record { budget = is i; spent = 0 })
