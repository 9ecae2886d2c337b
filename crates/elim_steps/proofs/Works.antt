-- Terms and numbers that a call computes, as work.
use Rattle.std.proofs.Common.{◌≡◌, ℕ, ◌+◌, ◌<◌, ◌≤◌, true, false, ◌&&◌, List, [], ◌∷◌, ◌++◌, Option, drop, length, get_or, Result, Ok, IsErrAnd, refl, sym, ◌∙◌, ap, subst}
use Rattle.linear_term.specs.Range.{all_stay}
use Rattle.linear_term.specs.declared.range.TermFault.{TermFault}
use Rattle.linear_term.specs.declared.range.TermFault.TheVariants as term_fault
use Rattle.base_budget.specs.declared.fault.StepFault.{StepFault}
use Rattle.base_budget.specs.Work.{Worked, step_fault_of}
use Rattle.linear_term.specs.declared.range.Place.{Place}
use Rattle.linear_term.specs.Range.{stays}
use Rattle.base_budget.specs.Trace.{compute}
use Rattle.base_budget.proofs.Charging.{raw_ok, raw_leaves, drop_all}
use Rattle.std.proofs.lemmas.List.{drop_more}
use Rattle.std.proofs.lemmas.List.Elements.{Contains-get_or}
use Rattle.clause_set.specs.Clauses.{clause_of, clauses_of, found}
use Rattle.clause_set.specs.declared.literal.Literal.{Literal}
use Rattle.std.proofs.lemmas.List.{append-nil}

-- the numbers before i are in the range
pub record StayBefore (ps : List Place) (i : ℕ) : Type 0 where
  pub is : all_stay (drop i ps) ≡ all_stay ps

pub stay_none : (ps : List Place) → StayBefore ps 0
stay_none ps = record { is = refl }

pub stay_more : (ps : List Place) (i : ℕ) (d : Place) → i < length ps → stays (get_or ps i d) ≡ true → StayBefore ps i → StayBefore ps (i + 1)
unfolding all_stay
stay_more ps i d lt stay h = record { is = sym (ap all_stay (drop_more ps i d lt) ∙ ap (λ b. b && all_stay (drop (i + 1) ps)) stay) ∙ h.is }

pub stay_all : (ps : List Place) (i : ℕ) → length ps ≤ i → StayBefore ps i → all_stay ps ≡ true
unfolding all_stay
stay_all ps i le h = sym h.is ∙ ap all_stay (drop_all ps i le)

pub compute_ok : (ps : List Place) (i : ℕ) → length ps ≤ i → StayBefore ps i → Worked (compute ps) (Ok (tt {0}))
compute_ok ps i le h = raw_ok ps tt tt (stay_all ps i le h) refl

pub compute_err : (ps : List Place) (i : ℕ) (d : Place) (fault : TermFault) (r : Result (Unit {0}) StepFault) → i < length ps
    → IsErrAnd r (λ e. e ≡ step_fault_of fault) → (fault ≡ term_fault.Overflow (get_or ps i d)) × (stays (get_or ps i d) ≡ false) → Worked (compute ps) r
compute_err ps i d fault r lt h cause =
    raw_leaves ps tt (get_or ps i d) r (subst (λ f. IsErrAnd r (λ e. e ≡ step_fault_of f)) cause.0 h) (Contains-get_or ps i d lt) cause.1

pub ruleset computations = (stay_none, stay_more, stay_all, compute_ok, compute_err)

-- ---- one conjunction in form
pub form_alone : (ls : List Literal) (c : Option (List Literal)) (old new : List (List Literal)) → c ≡ clause_of ls → old ≡ [] → new ≡ old ++ found c → new ≡ clauses_of (ls ∷ [])
form_alone ls c old new is none pushed = pushed ∙ ap (λ z. z ++ found c) none ∙ ap found is ∙ sym (append-nil (found (clause_of ls)))

pub ruleset one_form = (form_alone)
