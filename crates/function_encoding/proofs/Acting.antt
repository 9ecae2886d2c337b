-- The stack after one simple action.
use Rattle.std.proofs.Common.{◌≡◌, List, ◌∷◌, reverse, Result, Ok, Err, IsErrAnd, negsuc, subst}
use Rattle.linear_term.specs.Linear.{Linear}
use Rattle.linear_term.specs.declared.range.TermFault.{TermFault}
use Rattle.base_budget.specs.Trace.{Traced, just, next}
use Rattle.formula.specs.Made.{Made}
use Rattle.formula.proofs.Making.{made_ok, made_err, made_just}
use Rattle.form_encoding.specs.Encoding.{multiple}
use Rattle.function_encoding.specs.Actions.{top, under, joined, negated}

pub negated_err : (vs : List Linear) (last : Linear) (e : TermFault) (r : Result (List Linear) TermFault) → last ≡ top vs → IsErrAnd r (λ x. x ≡ e)
    → Made (λ u. u) (multiple (negsuc 0) last) (Err e) → Made (λ ws. reverse ws) (negated vs) r
negated_err vs last e r is h m =
    subst (λ z. Made (λ ws. reverse ws) (next (multiple (negsuc 0) z) (λ a. just (a ∷ under vs))) r) is
    (made_err (λ u. u) (λ ws. reverse ws) (multiple (negsuc 0) last) (λ a. just (a ∷ under vs)) r h m)

pub negated_ok : (vs new : List Linear) (last value : Linear) → last ≡ top vs → reverse new ≡ value ∷ under vs
    → Made (λ u. u) (multiple (negsuc 0) last) (Ok value) → Made (λ ws. reverse ws) (negated vs) (Ok new)
negated_ok vs new last value is e m =
    subst (λ z. Made (λ ws. reverse ws) (next (multiple (negsuc 0) z) (λ a. just (a ∷ under vs))) (Ok new)) is
    (made_ok (λ u. u) (λ ws. reverse ws) (multiple (negsuc 0) last) (λ a. just (a ∷ under vs)) m (made_just (λ ws. reverse ws) (value ∷ under vs) new e))

-- the two last terms, as they are taken off
at_two : (f : Linear → Linear → Traced Linear) (vs : List Linear) (s t : Linear) (r : Result (List Linear) TermFault) → s ≡ top (under vs) → t ≡ top vs
    → Made (λ ws. reverse ws) (next (f s t) (λ a. just (a ∷ under (under vs)))) r → Made (λ ws. reverse ws) (joined f vs) r
at_two f vs s t r first second m =
    subst (λ z. Made (λ ws. reverse ws) (next (f (top (under vs)) z) (λ a. just (a ∷ under (under vs)))) r) second
    (subst (λ z. Made (λ ws. reverse ws) (next (f z t) (λ a. just (a ∷ under (under vs)))) r) first m)

pub joined_err : (f : Linear → Linear → Traced Linear) (vs : List Linear) (s t : Linear) (e : TermFault) (r : Result (List Linear) TermFault) → s ≡ top (under vs) → t ≡ top vs
    → IsErrAnd r (λ x. x ≡ e) → Made (λ u. u) (f s t) (Err e) → Made (λ ws. reverse ws) (joined f vs) r
joined_err f vs s t e r first second h m =
    at_two f vs s t r first second (made_err (λ u. u) (λ ws. reverse ws) (f s t) (λ a. just (a ∷ under (under vs))) r h m)

pub joined_ok : (f : Linear → Linear → Traced Linear) (vs new : List Linear) (s t value : Linear) → s ≡ top (under vs) → t ≡ top vs → reverse new ≡ value ∷ under (under vs)
    → Made (λ u. u) (f s t) (Ok value) → Made (λ ws. reverse ws) (joined f vs) (Ok new)
joined_ok f vs new s t value first second e m =
    at_two f vs s t (Ok new) first second (made_ok (λ u. u) (λ ws. reverse ws) (f s t) (λ a. just (a ∷ under (under vs))) m (made_just (λ ws. reverse ws) (value ∷ under (under vs)) new e))
