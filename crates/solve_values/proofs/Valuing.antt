-- A literal where a name has a value.
use Rattle.std.proofs.Common.{◌≡◌, ℕ, ℤ, List, [], ◌∷◌, Result, Ok, Err, IsErrAnd, refl, ◌∙◌, ap, subst}
use Rattle.linear_term.specs.Linear.{Linear}
use Rattle.base_budget.specs.declared.fault.StepFault.{StepFault}
use Rattle.base_budget.specs.Trace.{just, next}
use Rattle.base_budget.specs.Work.{Worked}
use Rattle.base_budget.proofs.Charging.{work_ok, work_err, work_just}
use Rattle.clause_set.specs.declared.literal.Literal.{Literal}
use Rattle.clause_set.specs.declared.literal.Literal.TheVariants.{Eq, Geq, Div, NDiv}
use Rattle.clause_set.specs.Literals.{term_of}
use Rattle.solve_laws.specs.Solutions.{valued_term, valued}
use Rattle.solve_values.specs.Literals.{with_term}

-- the work is that of the term, whatever the kind of the literal
pub valued_work : (j : ℕ) (v : ℤ) (l : Literal) → next (valued_term j v (term_of l)) (λ s. just (with_term l s ∷ [])) ≡ valued j v l
valued_work j v (Eq t) = refl
valued_work j v (Geq t) = refl
valued_work j v (Div d t) = refl
valued_work j v (NDiv d t) = refl

pub valued_done : (j : ℕ) (v : ℤ) (l m : Literal) (t s : Linear) (ls : List Literal) → t ≡ term_of l → Worked (valued_term j v t) (Ok s) → m ≡ with_term l s → ls ≡ m ∷ []
    → Worked (valued j v l) (Ok ls)
valued_done j v l m t s ls is did made alone =
    subst (λ w. Worked w (Ok ls)) (valued_work j v l)
    (work_ok (valued_term j v (term_of l)) _ (subst (λ z. Worked (valued_term j v z) (Ok s)) is did) (work_just _ ls (alone ∙ ap (λ z. z ∷ []) made)))

pub valued_failed : (j : ℕ) (v : ℤ) (l : Literal) (t : Linear) (e : StepFault) (r : Result (List Literal) StepFault) → t ≡ term_of l → Worked (valued_term j v t) (Err e) → IsErrAnd r (λ x. x ≡ e)
    → Worked (valued j v l) r
valued_failed j v l t e r is did h =
    subst (λ w. Worked w r) (valued_work j v l)
    (work_err (valued_term j v (term_of l)) _ r h (subst (λ z. Worked (valued_term j v z) (Err e)) is did))
