-- The elimination of a formula, by those of its parts.
use Rattle.std.proofs.Common.{◌≡◌, ◌<◌, ◌≤◌, ◌+◌, ℕ, zero, suc, true, List, [], ◌∷◌, drop, Result, refl, sym, ◌∙◌, ap, subst, arith}
use Rattle.base_budget.specs.declared.fault.StepFault.{StepFault}
use Rattle.base_budget.specs.Trace.{At, Traced, next, pay}
use Rattle.base_budget.specs.Work.{ChargedAt}
use Rattle.base_budget.proofs.Tracing.{next-same}
use Rattle.clause_set.specs.declared.literal.Literal.{Literal}
use Rattle.clause_set.specs.Dnfs.{negation, top}
use Rattle.formula.specs.declared.calculus.Core.{Core}
use Rattle.formula.specs.Form as tree
use Rattle.formula.specs.Form.{Form, Forms, IsFormOver}
use Rattle.formula.specs.Sizes.{size, depth, depths}
use Rattle.formula.specs.Duals.{dual}
use Rattle.formula.specs.Tree.{form, forms_of}
use Rattle.elim_laws.specs.Elimination.{exists_name}
use Rattle.elim_laws.specs.Presburger.{IsPresburger}
use Rattle.elim_laws.specs.Whole.{AreOver, all_of, any_of, eliminated, eliminating}
use Rattle.elim_laws.proofs.Depth.{all_same, any_same, eliminated-same}
use Rattle.elim_laws.proofs.Duals.{dual-depth}
use Rattle.elim_laws.proofs.Over.{eliminated-over}
use Rattle.quant_elim.specs.Atoms.{is_atom}

pub atom_anywhere : (n : ℕ) (f : Form) → is_atom f ≡ true → eliminating 0 f ≡ eliminating n f
unfolding eliminating
atom_anywhere n (tree.equal t) h = refl
atom_anywhere n (tree.unequal t) h = refl
atom_anywhere n (tree.at_least t) h = refl
atom_anywhere n (tree.holds p ts) h = absurd (cc)
atom_anywhere n (tree.fails p ts) h = absurd (cc)
atom_anywhere n (tree.differs f ts u) h = absurd (cc)
atom_anywhere n (tree.conjunction fs) h = absurd (cc)
atom_anywhere n (tree.disjunction fs) h = absurd (cc)
atom_anywhere n (tree.universal f) h = absurd (cc)
atom_anywhere n (tree.existential f) h = absurd (cc)

same_below : (n k : ℕ) (h : Form) → depth h < k → eliminated k n h ≡ eliminating n h
unfolding eliminating
same_below n k h lt = eliminated-same k (suc (depth h)) n h lt (omega arith)

pub by_all : (n : ℕ) (fs : Forms) → eliminating n (tree.conjunction fs) ≡ all_of (eliminating n) fs top
unfolding eliminating
by_all n fs = all_same (eliminated (1 + depths fs) n) (eliminating n) (1 + depths fs) (λ h lt. same_below n (1 + depths fs) h lt) fs top (omega arith)

pub by_any : (n : ℕ) (fs : Forms) → eliminating n (tree.disjunction fs) ≡ any_of (eliminating n) fs []
unfolding eliminating
by_any n fs = any_same (eliminated (1 + depths fs) n) (eliminating n) (1 + depths fs) (λ h lt. same_below n (1 + depths fs) h lt) fs [] (omega arith)

pub by_some : (n : ℕ) (f : Form) → eliminating n (tree.existential f) ≡ next (eliminating (n + 1) f) (exists_name n)
unfolding eliminating
by_some n f =
    let more : suc n ≡ n + 1 = omega arith in
    ap (λ w. next w (exists_name n)) (same_below (suc n) (1 + depth f) f (omega arith)) ∙ ap (λ k. next (eliminating k f) (exists_name n)) more

-- what comes after the charge and the dual of a for-all's body
abbrev pub after_dual : ℕ → Form → Traced (List (List Literal))
after_dual n g = next (eliminating (n + 1) g) (λ d. next (exists_name n d) negation)

pub by_every : (n : ℕ) (f : Form) → eliminating n (tree.universal f) ≡ next (pay (size f)) (λ _. next (dual f) (after_dual n))
unfolding eliminating
by_every n f =
    let more : suc n ≡ n + 1 = omega arith in
    let same = dual-depth f in
    next-same (pay (size f)) _ _ (
    next-same (dual f) _ _ (
    ap (λ w. next w (λ d. next (exists_name n d) negation)) (same_below (suc n) (1 + depth f) (dual f).value (omega (arith, same)))
    ∙ ap (λ k. next (eliminating k (dual f).value) (λ d. next (exists_name n d) negation)) more
    )
    )

-- the work of a formula, seen as another one
pub as_work : (n : ℕ) (f g : Form) (w : Traced (List (List Literal))) {a b : At} {r : Result (List (List Literal)) StepFault} → f ≡ g → eliminating n g ≡ w → ChargedAt w a r b → ChargedAt (eliminating n f) a r b
as_work n f g w {a} {b} {r} is same h = subst (λ z. ChargedAt z a r b) (sym (ap (eliminating n) is ∙ same)) h

-- the names of its value are the formula's
pub eliminating-over : (n : ℕ) (f : Form) → IsPresburger f → IsFormOver n f → AreOver n (eliminating n f).value
unfolding eliminating
eliminating-over n f p o = eliminated-over (suc (depth f)) n f (omega arith) p o

-- ---- depths
depths-drop : (i : ℕ) (fs : List Core) → depths (forms_of (drop i fs)) ≤ depths (forms_of fs)
depths-drop zero fs = omega arith
depths-drop (suc i) [] = omega arith
depths-drop (suc i) (f ∷ fs) = let r = depths-drop i fs in omega (arith, r)

-- a member is at most as deep as the deepest
pub member_depth : (fs : List Core) (i : ℕ) (f : Core) (gs : List Core) → drop i fs ≡ f ∷ gs → depth (form f) ≤ depths (forms_of fs)
member_depth fs i f gs is =
    let first : depth (form f) ≤ depths (forms_of (drop i fs)) = subst (λ z. depth (form f) ≤ depths (forms_of z)) (sym is) (omega arith) in
    let all = depths-drop i fs in
    omega (arith, first, all)
