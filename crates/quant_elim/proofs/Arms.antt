-- The elimination of a formula of the code by its form, from the calls for its parts.
use Rattle.std.proofs.Common.{◌≡◌, ℕ, ◌+◌, List, [], Result, Ok, Err, IsErrAnd, refl, sym, ◌∙◌, ap, subst}
use Rattle.linear_term.specs.Linear.{Linear}
use Rattle.linear_term.specs.declared.range.TermFault.{TermFault}
use Rattle.base_budget.specs.declared.fault.StepFault.{StepFault}
use Rattle.base_budget.specs.Trace.{Funds, Mark, At, at, just, next, pay}
use Rattle.base_budget.specs.Work.{ChargedAt, Charged, step_fault_of}
use Rattle.base_budget.proofs.Charging.{then_ok, then_err, then_just, unnoted, worked_value}
use Rattle.clause_set.specs.declared.literal.Literal.{Literal}
use Rattle.clause_set.specs.Dnfs.{top}
use Rattle.formula.specs.declared.calculus.Core.{Core}
use Rattle.formula.specs.declared.calculus.Core.TheVariants as c
use Rattle.formula.specs.Form as tree
use Rattle.formula.specs.Form.{Form}
use Rattle.formula.specs.Sizes.{size, depth}
use Rattle.formula.specs.Duals.{dual}
use Rattle.formula.specs.Made.{Made}
use Rattle.formula.specs.Tree.{form, forms_of}
use Rattle.formula.proofs.Building.{form-Pred, form-NotPred, form-NotFun, form-And, form-Or, form-Forall, form-Exists}
use Rattle.elim_laws.specs.Elimination.{exists_name}
use Rattle.elim_laws.specs.Whole.{all_of, any_of, eliminating}
use Rattle.elim_laws.proofs.Duals.{dual-depth}
use Rattle.quant_elim.proofs.Unfolded.{as_work, by_all, by_any, by_some, by_every, after_dual}

-- ---- the trees of connectives and quantifiers
tree_And : (f : Core) (fs gs : List Core) → f ≡ c.And fs → gs ≡ fs → form f ≡ tree.conjunction (forms_of gs)
tree_And f fs gs is same = ap form is ∙ form-And fs ∙ ap (λ z. tree.conjunction (forms_of z)) (sym same)

tree_Or : (f : Core) (fs gs : List Core) → f ≡ c.Or fs → gs ≡ fs → form f ≡ tree.disjunction (forms_of gs)
tree_Or f fs gs is same = ap form is ∙ form-Or fs ∙ ap (λ z. tree.disjunction (forms_of z)) (sym same)

tree_Forall : (f g h : Core) → f ≡ c.Forall g → h ≡ g → form f ≡ tree.universal (form h)
tree_Forall f g h is same = ap form is ∙ form-Forall g ∙ ap (λ z. tree.universal (form z)) (sym same)

tree_Exists : (f g h : Core) → f ≡ c.Exists g → h ≡ g → form f ≡ tree.existential (form h)
tree_Exists f g h is same = ap form is ∙ form-Exists g ∙ ap (λ z. tree.existential (form z)) (sym same)

-- ---- their work
pub arm_Pred : (n : ℕ) (f : Core) (p : ℕ) (ts : List Linear) (d : List (List Literal)) {a : At} → f ≡ c.Pred p ts → d ≡ [] → ChargedAt (eliminating n (form f)) a (Ok d) a
unfolding eliminating
arm_Pred n f p ts d is h = as_work n (form f) (tree.holds p ts) (just []) (ap form is ∙ form-Pred p ts) refl (then_just [] d h)

pub arm_NotPred : (n : ℕ) (f : Core) (p : ℕ) (ts : List Linear) (d : List (List Literal)) {a : At} → f ≡ c.NotPred p ts → d ≡ [] → ChargedAt (eliminating n (form f)) a (Ok d) a
unfolding eliminating
arm_NotPred n f p ts d is h = as_work n (form f) (tree.fails p ts) (just []) (ap form is ∙ form-NotPred p ts) refl (then_just [] d h)

pub arm_NotFun : (n : ℕ) (f : Core) (p : ℕ) (ts : List Linear) (u : Linear) (d : List (List Literal)) {a : At} → f ≡ c.NotFun p ts u → d ≡ [] → ChargedAt (eliminating n (form f)) a (Ok d) a
unfolding eliminating
arm_NotFun n f p ts u d is h = as_work n (form f) (tree.differs p ts u) (just []) (ap form is ∙ form-NotFun p ts u) refl (then_just [] d h)

pub arm_And : (n : ℕ) (f : Core) (fs gs : List Core) {a b : At} {r : Result (List (List Literal)) StepFault} → f ≡ c.And fs → gs ≡ fs → ChargedAt (all_of (eliminating n) (forms_of gs) top) a r b
    → ChargedAt (eliminating n (form f)) a r b
arm_And n f fs gs is same h = as_work n (form f) (tree.conjunction (forms_of gs)) (all_of (eliminating n) (forms_of gs) top) (tree_And f fs gs is same) (by_all n (forms_of gs)) h

pub arm_Or : (n : ℕ) (f : Core) (fs gs : List Core) {a b : At} {r : Result (List (List Literal)) StepFault} → f ≡ c.Or fs → gs ≡ fs → ChargedAt (any_of (eliminating n) (forms_of gs) []) a r b
    → ChargedAt (eliminating n (form f)) a r b
arm_Or n f fs gs is same h = as_work n (form f) (tree.disjunction (forms_of gs)) (any_of (eliminating n) (forms_of gs) []) (tree_Or f fs gs is same) (by_any n (forms_of gs)) h

pub arm_Forall : (n : ℕ) (f g h : Core) {a b : At} {r : Result (List (List Literal)) StepFault} → f ≡ c.Forall g → h ≡ g → ChargedAt (eliminating n (tree.universal (form h))) a r b → ChargedAt (eliminating n (form f)) a r b
arm_Forall n f g h is same k = as_work n (form f) (tree.universal (form h)) (eliminating n (tree.universal (form h))) (tree_Forall f g h is same) refl k

pub arm_Exists : (n : ℕ) (f g h : Core) {a b : At} {r : Result (List (List Literal)) StepFault} → f ≡ c.Exists g → h ≡ g → ChargedAt (eliminating n (tree.existential (form h))) a r b → ChargedAt (eliminating n (form f)) a r b
arm_Exists n f g h is same k = as_work n (form f) (tree.existential (form h)) (eliminating n (tree.existential (form h))) (tree_Exists f g h is same) refl k

-- ---- some value
pub some_ok : (n : ℕ) (f : Form) {a b k : At} {d : List (List Literal)} {r : Result (List (List Literal)) StepFault} → ChargedAt (eliminating (n + 1) f) a (Ok d) b → ChargedAt (exists_name n d) b r k
    → ChargedAt (eliminating n (tree.existential f)) a r k
some_ok n f {a} {b} {k} {d} {r} h rest = subst (λ w. ChargedAt w a r k) (sym (by_some n f)) (then_ok (eliminating (n + 1) f) (exists_name n) h rest)

pub some_err : (n : ℕ) (f : Form) {a b : At} {e : StepFault} (r : Result (List (List Literal)) StepFault) → IsErrAnd r (λ z. z ≡ e) → ChargedAt (eliminating (n + 1) f) a (Err e) b → ChargedAt (eliminating n (tree.existential f)) a r b
some_err n f {a} {b} r is h = subst (λ w. ChargedAt w a r b) (sym (by_some n f)) (then_err (eliminating (n + 1) f) (exists_name n) r is h)

-- ---- every value
every_paid : (n : ℕ) (f : Form) (ms : List Mark) {g h : Funds} {b : At} {r : Result (List (List Literal)) StepFault} → Charged (pay (size f)) g (Ok tt) h → ChargedAt (next (dual f) (after_dual n)) (at h ms) r b
    → ChargedAt (eliminating n (tree.universal f)) (at g ms) r b
every_paid n f ms {g} {h} {b} {r} paid rest = subst (λ w. ChargedAt w (at g ms) r b) (sym (by_every n f)) (then_ok (pay (size f)) (λ _. next (dual f) (after_dual n)) (unnoted ms paid) rest)

pub every_refused : (n : ℕ) (f : Form) (ms : List Mark) {g h : Funds} {e : StepFault} (r : Result (List (List Literal)) StepFault) → IsErrAnd r (λ z. z ≡ e) → Charged (pay (size f)) g (Err e) h
    → ChargedAt (eliminating n (tree.universal f)) (at g ms) r (at h ms)
every_refused n f ms {g} {h} r is refused = subst (λ w. ChargedAt w (at g ms) r (at h ms)) (sym (by_every n f)) (then_err (pay (size f)) (λ _. next (dual f) (after_dual n)) r is (unnoted ms refused))

-- after the charge and the negation that a call made, or could not make
pub every_ok : (n : ℕ) (f : Form) (ms : List Mark) (g : Core) {a b : Funds} {k : At} {r : Result (List (List Literal)) StepFault} → Charged (pay (size f)) a (Ok tt) b → Made form (dual f) (Ok g)
    → ChargedAt (after_dual n (form g)) (at b ms) r k → ChargedAt (eliminating n (tree.universal f)) (at a ms) r k
every_ok n f ms g {a} {b} paid made rest = every_paid n f ms paid (then_ok (dual f) (after_dual n) (made.works.each (at b ms)) rest)

pub every_err : (n : ℕ) (f : Form) (ms : List Mark) {a b : Funds} {e : TermFault} (r : Result (List (List Literal)) StepFault) → IsErrAnd r (λ z. z ≡ step_fault_of e) → Charged (pay (size f)) a (Ok tt) b → Made form (dual f) (Err e)
    → ChargedAt (eliminating n (tree.universal f)) (at a ms) r (at b ms)
every_err n f ms {a} {b} r is paid made = every_paid n f ms paid (then_err (dual f) (after_dual n) r is (made.works.each (at b ms)))

pub dual_deep : (f : Form) (g : Core) → Made form (dual f) (Ok g) → depth (form g) ≡ depth f
dual_deep f g made = ap depth (worked_value made.works) ∙ dual-depth f

pub ruleset arms = (arm_And, arm_Or, arm_Forall, arm_Exists)
