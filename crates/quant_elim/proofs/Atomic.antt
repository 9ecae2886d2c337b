-- Atoms of the code.
use Rattle.std.proofs.Common.{◌≡◌, ℕ, true, false, List, [], ◌∷◌, Result, refl, sym, ◌∙◌, ap, subst}
use Rattle.linear_term.specs.Linear.{Linear}
use Rattle.base_budget.specs.declared.fault.StepFault.{StepFault}
use Rattle.base_budget.specs.Trace.{Funds, Mark, at, Traced, just}
use Rattle.base_budget.specs.Work.{ChargedAt, Charged}
use Rattle.base_budget.proofs.Charging.{unnoted}
use Rattle.clause_set.specs.declared.literal.Literal.{Literal}
use Rattle.clause_set.specs.declared.literal.Literal.TheVariants.{Eq, Geq}
use Rattle.clause_set.specs.Clauses.{clauses_of}
use Rattle.formula.specs.declared.calculus.Core.{Core}
use Rattle.formula.specs.declared.calculus.Core.TheVariants as c
use Rattle.formula.specs.Form as tree
use Rattle.formula.specs.Form.{Form, is_pure}
use Rattle.formula.specs.Tree.{form}
use Rattle.formula.proofs.Building.{form-Eq, form-Neq, form-Geq, form-Pred, form-NotPred, form-NotFun, form-And, form-Or, form-Forall, form-Exists}
use Rattle.elim_laws.specs.Whole.{IsExact, eliminating, paid, two_sides}
use Rattle.elim_laws.proofs.Whole.{eliminating-exact}
use Rattle.quant_elim.specs.Knowing.{IsKnown}
use Rattle.quant_elim.specs.Atoms.{is_atom}
use Rattle.quant_elim.proofs.Unfolded.{atom_anywhere}

-- ---- which are
pub atom_Eq : (f : Core) (t : Linear) → f ≡ c.Eq t → is_atom (form f) ≡ true
atom_Eq f t is = ap is_atom (ap form is ∙ form-Eq t)

pub atom_Neq : (f : Core) (t : Linear) → f ≡ c.Neq t → is_atom (form f) ≡ true
atom_Neq f t is = ap is_atom (ap form is ∙ form-Neq t)

pub atom_Geq : (f : Core) (t : Linear) → f ≡ c.Geq t → is_atom (form f) ≡ true
atom_Geq f t is = ap is_atom (ap form is ∙ form-Geq t)

pub not_Pred : (f : Core) (p : ℕ) (ts : List Linear) → f ≡ c.Pred p ts → is_atom (form f) ≡ true → false ≡ true
not_Pred f p ts is h = sym (ap is_atom (ap form is ∙ form-Pred p ts)) ∙ h

pub not_NotPred : (f : Core) (p : ℕ) (ts : List Linear) → f ≡ c.NotPred p ts → is_atom (form f) ≡ true → false ≡ true
not_NotPred f p ts is h = sym (ap is_atom (ap form is ∙ form-NotPred p ts)) ∙ h

pub not_NotFun : (f : Core) (p : ℕ) (ts : List Linear) (u : Linear) → f ≡ c.NotFun p ts u → is_atom (form f) ≡ true → false ≡ true
not_NotFun f p ts u is h = sym (ap is_atom (ap form is ∙ form-NotFun p ts u)) ∙ h

pub not_And : (f : Core) (fs : List Core) → f ≡ c.And fs → is_atom (form f) ≡ true → false ≡ true
not_And f fs is h = sym (ap is_atom (ap form is ∙ form-And fs)) ∙ h

pub not_Or : (f : Core) (fs : List Core) → f ≡ c.Or fs → is_atom (form f) ≡ true → false ≡ true
not_Or f fs is h = sym (ap is_atom (ap form is ∙ form-Or fs)) ∙ h

pub not_Forall : (f g : Core) → f ≡ c.Forall g → is_atom (form f) ≡ true → false ≡ true
not_Forall f g is h = sym (ap is_atom (ap form is ∙ form-Forall g)) ∙ h

pub not_Exists : (f g : Core) → f ≡ c.Exists g → is_atom (form f) ≡ true → false ≡ true
not_Exists f g is h = sym (ap is_atom (ap form is ∙ form-Exists g)) ∙ h

-- ---- their work
pub work_Eq : (f : Core) (t : Linear) {a b : Funds} {r : Result (List (List Literal)) StepFault} → f ≡ c.Eq t → Charged (paid t (just (clauses_of ((Eq t ∷ []) ∷ [])))) a r b → Charged (eliminating 0 (form f)) a r b
unfolding eliminating
work_Eq f t {a} {b} {r} is h = subst (λ g. Charged (eliminating 0 g) a r b) (sym (ap form is ∙ form-Eq t)) h

pub work_Geq : (f : Core) (t : Linear) {a b : Funds} {r : Result (List (List Literal)) StepFault} → f ≡ c.Geq t → Charged (paid t (just (clauses_of ((Geq t ∷ []) ∷ [])))) a r b → Charged (eliminating 0 (form f)) a r b
unfolding eliminating
work_Geq f t {a} {b} {r} is h = subst (λ g. Charged (eliminating 0 g) a r b) (sym (ap form is ∙ form-Geq t)) h

pub work_Neq : (f : Core) (t : Linear) {a b : Funds} {r : Result (List (List Literal)) StepFault} → f ≡ c.Neq t → Charged (paid t (two_sides t)) a r b → Charged (eliminating 0 (form f)) a r b
unfolding eliminating
work_Neq f t {a} {b} {r} is h = subst (λ g. Charged (eliminating 0 g) a r b) (sym (ap form is ∙ form-Neq t)) h

pub work_atom : (n : ℕ) (f : Form) (ms : List Mark) {a b : Funds} {r : Result (List (List Literal)) StepFault} → is_atom f ≡ true → Charged (eliminating 0 f) a r b → ChargedAt (eliminating n f) (at a ms) r (at b ms)
work_atom n f ms {a} {b} {r} is h = subst (λ w. ChargedAt w (at a ms) r (at b ms)) (atom_anywhere n f is) (unnoted ms h)

-- ---- their truth
atom_pure : (f : Form) → is_atom f ≡ true → is_pure f ≡ true
atom_pure (tree.equal t) h = refl
atom_pure (tree.unequal t) h = refl
atom_pure (tree.at_least t) h = refl
atom_pure (tree.holds p ts) h = absurd (cc)
atom_pure (tree.fails p ts) h = absurd (cc)
atom_pure (tree.differs f ts u) h = absurd (cc)
atom_pure (tree.conjunction fs) h = absurd (cc)
atom_pure (tree.disjunction fs) h = absurd (cc)
atom_pure (tree.universal f) h = absurd (cc)
atom_pure (tree.existential f) h = absurd (cc)

pub atom_exact : (f : Form) → IsKnown f → is_atom f ≡ true → (n : ℕ) → IsExact (eliminating 0 f).value f n
atom_exact f k is n = subst (λ (w : Traced (List (List Literal))). IsExact w.value f n) (sym (atom_anywhere n f is)) (eliminating-exact n f (k.known (atom_pure f is)))

pub ruleset atomic = (atom_Eq, atom_Neq, atom_Geq, not_Pred, not_NotPred, not_NotFun, not_And, not_Or, not_Forall, not_Exists, work_Eq, work_Geq, work_Neq)
