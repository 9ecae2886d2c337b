-- One number, computed.
use Rattle.std.proofs.Common.{◌≡◌, ℤ, ◌+ℤ◌, ◌*ℤ◌, true, false, ◌&&◌, [], ◌∷◌, Result, Ok, IsErrAnd, ap, subst, arith}
use Rattle.std.proofs.lemmas.List.Elements.{Contains-get_or}
use Rattle.linear_term.specs.Range.{stays, all_stay}
use Rattle.linear_term.specs.declared.range.Place.{Place}
use Rattle.linear_term.specs.declared.range.TermFault.{TermFault}
use Rattle.linear_term.specs.declared.range.TermFault.TheVariants as term_fault
use Rattle.base_budget.specs.declared.fault.StepFault.{StepFault}
use Rattle.base_budget.specs.Work.{Worked, step_fault_of}
use Rattle.base_budget.proofs.Charging.{raw_ok, raw_leaves}
use Rattle.solve_laws.specs.Candidates.{computed}

pub one_stays : (p : Place) → stays p ≡ true → all_stay (p ∷ []) ≡ true
unfolding all_stay
one_stays p h = ap (λ b. b && true) h

pub computed_ok : (p : Place) (v : ℤ) → v ≡ (p.m *ℤ p.a) +ℤ (p.n *ℤ p.b) → stays p ≡ true → Worked (computed p) (Ok v)
unfolding computed
computed_ok p v is h = raw_ok (p ∷ []) ((p.m *ℤ p.a) +ℤ (p.n *ℤ p.b)) v (one_stays p h) is

pub computed_err : (p : Place) (fault : TermFault) (r : Result ℤ StepFault) → IsErrAnd r (λ e. e ≡ step_fault_of fault) → (fault ≡ term_fault.Overflow p) × (stays p ≡ false) → Worked (computed p) r
unfolding computed
computed_err p fault r h cause =
    raw_leaves (p ∷ []) ((p.m *ℤ p.a) +ℤ (p.n *ℤ p.b)) p r (subst (λ f. IsErrAnd r (λ e. e ≡ step_fault_of f)) cause.0 h) (Contains-get_or (p ∷ []) 0 p (omega arith)) cause.1

pub ruleset computing = (computed_ok, computed_err)
