-- The dual, built member by member.
use Rattle.std.proofs.Common.{◌≡◌, ℕ, ◌+◌, ◌<◌, ◌≤◌, List, [], ◌∷◌, ◌++◌, map, length, drop, get_or, Result, Ok, Err, ℤ, true, refl, sym, ap, ◌∙◌, subst}
use Rattle.linear_term.specs.Linear.{Linear}
use Rattle.linear_term.specs.Range.{all_stay, IsCause}
use Rattle.linear_term.specs.Combination.{combination, raw_numbers}
use Rattle.linear_term.specs.declared.range.TermFault.{TermFault}
use Rattle.linear_term.specs.declared.range.TermFault.TheVariants as term_fault
use Rattle.base_budget.specs.declared.fault.StepFault.TheVariants as step_fault
use Rattle.base_budget.specs.Trace.{Traced, just, next, combining}
use Rattle.base_budget.proofs.Charging.{raw_ok, raw_leaves, work_memory, Left, left_all, drop-item, drop_all}
use Rattle.base_budget.proofs.Tracing.{next-assoc, next-just, just-next}
use Rattle.formula.specs.declared.calculus.Core.{Core}
use Rattle.formula.specs.Form.{Form, Forms, no_form, and_form, forms}
use Rattle.formula.specs.Duals.{dual, duals}
use Rattle.formula.specs.Tree.{form, forms_of}
use Rattle.formula.specs.Made.{Made}
use Rattle.formula.proofs.Making.{made_just, left_done, pushed}

-- A linear combination in code is one in work.
pub combined : (m n : ℤ) (s t : Linear) (r : Result Linear TermFault) → ((x : Linear) → r ≡ Ok x → (x ≡ combination m s n t) × (all_stay (raw_numbers m s n t) ≡ true))
    → ((e : TermFault) → r ≡ Err e → IsCause e (raw_numbers m s n t)) → Made (λ x. x) (combining m s n t) r
combined m n s t (Ok x) hit miss = let h = hit x refl in record { works = raw_ok (raw_numbers m s n t) (combination m s n t) x h.1 h.0 }
combined m n s t (Err (term_fault.Overflow p)) hit miss =
    let h = miss (term_fault.Overflow p) refl in record { works = raw_leaves (raw_numbers m s n t) (combination m s n t) p (Err (step_fault.Overflow p)) refl h.0 h.1 }
combined m n s t (Err term_fault.Memory) hit miss = record { works = work_memory (Err step_fault.Memory) refl }

-- the dual of a formula with this tree
pub dual_as : (f : Core) (g : Form) (r : Result Core TermFault) → form f ≡ g → Made form (dual g) r → Made form (dual (form f)) r
dual_as f g r is h = subst (λ z. Made form (dual z) r) (sym is) h

-- formulas before others
abbrev pub before : List Form → Forms → Forms
before [] gs = gs
before (f ∷ fs) gs = and_form f (before fs gs)

before-one : (fs : List Form) (g : Form) (gs : Forms) → before fs (and_form g gs) ≡ before (fs ++ g ∷ []) gs
before-one [] g gs = refl
before-one (f ∷ fs) g gs = ap (and_form f) (before-one fs g gs)

before-none : (fs : List Form) → before fs no_form ≡ forms fs
before-none [] = refl
before-none (f ∷ fs) = ap (and_form f) (before-none fs)

-- what is left when these duals are made
abbrev pub rest : List Form → Forms → Traced Forms
rest out fs = next (duals fs) (λ gs. just (before out gs))

rest-more : (out : List Form) (f : Form) (fs : Forms) → rest out (and_form f fs) ≡ next (dual f) (λ g. rest (out ++ g ∷ []) fs)
rest-more out f fs =
    next-assoc (dual f) (λ g. next (duals fs) (λ gs. just (and_form g gs))) (λ gs. just (before out gs))
    ∙ (λ i. next (dual f) (λ g. one g i))
  where
    one : (g : Form) → next (next (duals fs) (λ gs. just (and_form g gs))) (λ gs. just (before out gs)) ≡ rest (out ++ g ∷ []) fs
    one g =
        next-assoc (duals fs) (λ gs. just (and_form g gs)) (λ gs. just (before out gs))
        ∙ (λ i. next (duals fs) (λ gs. (next-just (and_form g gs) (λ hs. just (before out hs)) ∙ ap (λ (z : Forms). just z) (before-one out g gs)) i))

pub rest_all : (fs : List Core) (out : List Core) → out ≡ [] → Left (rest (map form out) (forms_of (drop 0 fs))) (duals (forms_of fs))
rest_all fs out none =
    subst (λ l. Left (rest (map form l) (forms_of fs)) (duals (forms_of fs))) (sym none)
    (subst (λ w. Left w (duals (forms_of fs))) (sym (just-next (duals (forms_of fs)))) (left_all (duals (forms_of fs))))

pub rest_next : (fs : List Core) (i : ℕ) (f : Core) (out : List Core) → i < length fs → f ≡ get_or fs i f → Left (rest (map form out) (forms_of (drop i fs))) (duals (forms_of fs))
    → Left (next (dual (form f)) (λ g. rest (map form out ++ g ∷ []) (forms_of (drop (i + 1) fs)))) (duals (forms_of fs))
rest_next fs i f out lt is h =
    subst (λ w. Left w (duals (forms_of fs)))
    (ap (λ l. rest (map form out) (forms_of l)) (drop-item fs i f lt is) ∙ rest-more (map form out) (form f) (forms_of (drop (i + 1) fs))) h

pub rest_pushed : (fs : List Core) (i : ℕ) (out more : List Core) (g : Core) → more ≡ out ++ g ∷ [] → Left (rest (map form out ++ form g ∷ []) (forms_of (drop i fs))) (duals (forms_of fs))
    → Left (rest (map form more) (forms_of (drop i fs))) (duals (forms_of fs))
rest_pushed fs i out more g is h = subst (λ l. Left (rest l (forms_of (drop i fs))) (duals (forms_of fs))) (sym (ap (map form) is ∙ pushed out g (form g) refl)) h

pub rest_end : (fs : List Core) (i : ℕ) (out : List Core) → length fs ≤ i → Left (rest (map form out) (forms_of (drop i fs))) (duals (forms_of fs))
    → Made forms_of (duals (forms_of fs)) (Ok out)
rest_end fs i out le h =
    left_done forms_of (Ok out) (subst (λ l. Left (rest (map form out) (forms_of l)) (duals (forms_of fs))) (drop_all fs i le) h)
    (subst (λ w. Made forms_of w (Ok out)) (sym (next-just no_form (λ gs. just (before (map form out) gs)))) (made_just forms_of (before (map form out) no_form) out (sym (before-none (map form out)))))
