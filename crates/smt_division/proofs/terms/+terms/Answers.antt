use Rattle.std.proofs.Common.{rules, to_z, of_z, ℕ, ◌≡◌, ◌∙◌, ◌++◌, ◌+◌, ◌∷◌, [], length, drop, map, sym, ap, subst, arith, IfOk, Option, Some, None}
use mir.Syntax.{w128}
use Rattle.std.proofs.lemmas.List.{map-append}
use Rattle.std.specs.Option.{option_map}
use Rattle.std.specs.Prelude.{unwrap_or}
use Rattle.smt_lists.specs.Expressions.{Expr, Exprs, exprs, list, and_expr, expr, exprs_of, place_of}
use Rattle.smt_division.specs.declared.forms.Form.TheVariants as form
use Rattle.smt_division.specs.Divisors.{greatest_remainder}
use Rattle.smt_division.specs.Forms.{index_of, pair_of}
use Rattle.smt_division.specs.Terms.{Reduct, Reducts, bound, bound_reduct, bound_reducts, choice_reduct, closed, closed_all, divided_some, divisible, divisible_by, indexed_reduct, let_around, let_reduct, note_reduct, nothing, noted, quantified_reduct, quotient_reduct, reduct, reducts, remainder, remainder_by, remainder_reduct, together, used, whole}
use Rattle.smt_division.specs.Views.{reduct_is, reducts_are}
use Rattle.smt_division.proofs.Shapes.{by_form, headed, made_members, left_atom, left_empty, left_bound, left_bound_atom, made_bound, let_left, made_let, quantified_left, made_quantified, made_remainder, remainder_left, made_indexed, indexed_left, made_quotient, no_quotient, made_note, no_note, made_choice, no_choice}
use Rattle.smt_division.proofs.Collecting.{followed, reducts_next, reducts_end, bindings_next, bindings_end, closed_next, closed_end}
use Rattle.smt_division.proofs.terms.+terms.Goals as goal

pub reduced-returns-in_ok-copy-in-Atom : goal.reduced-returns-in_ok-copy-in-Atom
reduced-returns-in_ok-copy-in-Atom t c = c.whole.ensures ∙ ap (λ z. whole (expr z)) c.in_ok-copy-in-Atom.ensures ∙ left_atom c.args.e.now c.in-Atom.field-0 c.in-Atom.is

pub reduced-returns-in_default : goal.reduced-returns-in_default
reduced-returns-in_default t c =
    let none : length c.in-List.members ≡ 0 = search rules in
    c.whole-in_default.ensures ∙ ap (λ z. whole (expr z)) c.in_ok-copy-in-List.ensures ∙ left_empty c.args.e.now c.in-List.at c.in-List.members c.in-List.is none

pub reduced-returns-in-Let : goal.reduced-returns-in-Let
reduced-returns-in-Let t c =
    let is = headed c.args.e.now c.in-List.at c.in-List.members c.in-Some.head.now c.in-Some.rest.now form.Let c.in-List.is (sym c.as_slice.ensures ∙ c.in-Some.ensures.cases.0) c.in-Let.ensures in
    subst (λ z. IfOk c.reduced_let.result (λ r. reduct_is r ≡ z)) (sym is) c.reduced_let.ensures

pub reduced-returns-in-Quantifier : goal.reduced-returns-in-Quantifier
reduced-returns-in-Quantifier t c =
    let is = headed c.args.e.now c.in-List.at c.in-List.members c.in-Some.head.now c.in-Some.rest.now form.Quantifier c.in-List.is (sym c.as_slice.ensures ∙ c.in-Some.ensures.cases.0) c.in-Quantifier.ensures in
    subst (λ z. IfOk c.reduced_quantified.result (λ r. reduct_is r ≡ z)) (sym is) c.reduced_quantified.ensures

pub reduced-returns-in-Note : goal.reduced-returns-in-Note
reduced-returns-in-Note t c =
    let is = headed c.args.e.now c.in-List.at c.in-List.members c.in-Some.head.now c.in-Some.rest.now form.Note c.in-List.is (sym c.as_slice.ensures ∙ c.in-Some.ensures.cases.0) c.in-Note.ensures in
    subst (λ z. IfOk c.reduced_note.result (λ r. reduct_is r ≡ z)) (sym is) c.reduced_note.ensures

pub reduced-returns-in-Other : goal.reduced-returns-in-Other
reduced-returns-in-Other t c =
    let is = headed c.args.e.now c.in-List.at c.in-List.members c.in-Some.head.now c.in-Some.rest.now form.Other c.in-List.is (sym c.as_slice.ensures ∙ c.in-Some.ensures.cases.0) c.in-Other.ensures in
    subst (λ z. IfOk c.left.result (λ r. reduct_is r ≡ z)) (sym is) c.left.ensures

pub reduced-returns-in-Indexed : goal.reduced-returns-in-Indexed
reduced-returns-in-Indexed t c =
    let is = headed c.args.e.now c.in-List.at c.in-List.members c.in-Some.head.now c.in-Some.rest.now form.Indexed c.in-List.is (sym c.as_slice.ensures ∙ c.in-Some.ensures.cases.0) c.in-Indexed.ensures in
    subst (λ z. IfOk c.reduced_indexed.result (λ r. reduct_is r ≡ z)) (sym is) c.reduced_indexed.ensures

pub reduced-returns-in-Quotient : goal.reduced-returns-in-Quotient
reduced-returns-in-Quotient t c =
    let is = headed c.args.e.now c.in-List.at c.in-List.members c.in-Some.head.now c.in-Some.rest.now form.Quotient c.in-List.is (sym c.as_slice.ensures ∙ c.in-Some.ensures.cases.0) c.in-Quotient.ensures in
    subst (λ z. IfOk c.reduced_quotient.result (λ r. reduct_is r ≡ z)) (sym is) c.reduced_quotient.ensures

pub reduced-returns-in-Remainder : goal.reduced-returns-in-Remainder
reduced-returns-in-Remainder t c =
    let is = headed c.args.e.now c.in-List.at c.in-List.members c.in-Some.head.now c.in-Some.rest.now form.Remainder c.in-List.is (sym c.as_slice.ensures ∙ c.in-Some.ensures.cases.0) c.in-Remainder.ensures in
    subst (λ z. IfOk c.reduced_remainder.result (λ r. reduct_is r ≡ z)) (sym is) c.reduced_remainder.ensures

pub reduced-returns-in-Choice : goal.reduced-returns-in-Choice
reduced-returns-in-Choice t c =
    let is = headed c.args.e.now c.in-List.at c.in-List.members c.in-Some.head.now c.in-Some.rest.now form.Choice c.in-List.is (sym c.as_slice.ensures ∙ c.in-Some.ensures.cases.0) c.in-Choice.ensures in
    subst (λ z. IfOk c.reduced_choice.result (λ r. reduct_is r ≡ z)) (sym is) c.reduced_choice.ensures

pub reduced-returns-in_ok-reduced_all-in-Relation : goal.reduced-returns-in_ok-reduced_all-in-Relation
reduced-returns-in_ok-reduced_all-in-Relation t c =
    let is = headed c.args.e.now c.in-List.at c.in-List.members c.in-Some.head.now c.in-Some.rest.now form.Relation c.in-List.is (sym c.as_slice.ensures ∙ c.in-Some.ensures.cases.0) c.in-Relation.ensures in
    subst (λ z. IfOk c.related.result (λ r. reduct_is r ≡ z)) (ap (λ z. whole (closed c.in-List.at (used c.in-List.at (expr c.in-Some.head.now) z))) c.in_ok-reduced_all-in-Relation.ensures ∙ sym is) c.related.ensures

pub reduced-returns-in_ok-closed_all-in-Connective : goal.reduced-returns-in_ok-closed_all-in-Connective
reduced-returns-in_ok-closed_all-in-Connective t c =
    let is = headed c.args.e.now c.in-List.at c.in-List.members c.in-Some.head.now c.in-Some.rest.now form.Connective c.in-List.is (sym c.as_slice.ensures ∙ c.in-Some.ensures.cases.0) c.in-Connective.ensures in
    subst (λ z. IfOk c.connected.result (λ r. reduct_is r ≡ z)) (ap (λ z. whole (list c.in-List.at (and_expr (expr c.in-Some.head.now) (exprs z)))) c.in_ok-closed_all-in-Connective.ensures ∙ sym is) c.connected.ensures

pub reduced-returns-in_ok-reduced_all-in-Use : goal.reduced-returns-in_ok-reduced_all-in-Use
reduced-returns-in_ok-reduced_all-in-Use t c =
    let is = headed c.args.e.now c.in-List.at c.in-List.members c.in-Some.head.now c.in-Some.rest.now form.Use c.in-List.is (sym c.as_slice.ensures ∙ c.in-Some.ensures.cases.0) c.in-Use.ensures in
    subst (λ z. IfOk c.used.result (λ r. reduct_is r ≡ z)) (ap (λ z. used c.in-List.at (expr c.in-Some.head.now) z) c.in_ok-reduced_all-in-Use.ensures ∙ sym is) c.used.ensures

pub reduced_let-returns-in_default : goal.reduced_let-returns-in_default
reduced_let-returns-in_default t c = subst (λ z. IfOk c.left.result (λ r. reduct_is r ≡ z)) (sym (let_left c.args.at (expr c.args.head.now) (exprs_of c.args.rest.now) c.in_default.ensures)) c.left.ensures

pub reduced_quantified-returns-in_default : goal.reduced_quantified-returns-in_default
reduced_quantified-returns-in_default t c = subst (λ z. IfOk c.left.result (λ r. reduct_is r ≡ z)) (sym (quantified_left c.args.at (expr c.args.head.now) (exprs_of c.args.rest.now) c.in_default.ensures)) c.left.ensures

pub reduced_remainder-returns-in_default : goal.reduced_remainder-returns-in_default
reduced_remainder-returns-in_default t c = subst (λ z. IfOk c.left.result (λ r. reduct_is r ≡ z)) (sym (remainder_left c.args.at (expr c.args.head.now) (exprs_of c.args.rest.now) c.in_default.ensures)) c.left.ensures

pub reduced_indexed-returns-in_default : goal.reduced_indexed-returns-in_default
reduced_indexed-returns-in_default t c = subst (λ z. IfOk c.left.result (λ r. reduct_is r ≡ z)) (sym (indexed_left c.args.at (expr c.args.head.now) (exprs_of c.args.rest.now) c.in_default.ensures)) c.left.ensures

pub reduced_note-returns-in_default : goal.reduced_note-returns-in_default
reduced_note-returns-in_default t c =
    let none : length c.args.rest.now ≡ 0 = search rules in
    subst (λ z. IfOk c.left.result (λ r. reduct_is r ≡ z)) (sym (no_note c.args.at (expr c.args.head.now) c.args.rest.now none)) c.left.ensures

pub reduced_choice-returns-in_default : goal.reduced_choice-returns-in_default
reduced_choice-returns-in_default t c =
    let none : length c.args.rest.now ≡ 0 = search rules in
    subst (λ z. IfOk c.left.result (λ r. reduct_is r ≡ z)) (sym (no_choice c.args.at (expr c.args.head.now) c.args.rest.now none)) c.left.ensures

pub reduced_quotient-returns-in_default : goal.reduced_quotient-returns-in_default
reduced_quotient-returns-in_default t c =
    let none : length c.args.rest.now ≡ 0 = search rules in
    subst (λ z. IfOk c.left.result (λ r. reduct_is r ≡ z)) (sym (no_quotient c.args.at (expr c.args.head.now) c.args.rest.now none)) c.left.ensures

pub reduced_let-returns : goal.reduced_let-returns
reduced_let-returns t c =
    let is = made_let c.args.at (expr c.args.head.now) c.args.rest.now c.in-Some.binder.at c.in-Some.binder.members.now c.in-Some.binder.body.now c.in-Some.ensures.0 c.in-Some.ensures.1 in
    let L : Reducts → Reduct → Reduct = let_around c.args.at (expr c.args.head.now) c.in-Some.binder.at in
    subst (λ z. IfOk c.let_around.result (λ r. reduct_is r ≡ z))
    (ap (λ z. L z (reduct_is c.in_ok-body.body)) c.in_ok-bindings.ensures ∙ ap (L (bound_reducts (exprs_of c.in-Some.binder.members.now))) c.in_ok-body.ensures ∙ sym is) c.let_around.ensures

pub reduced_quantified-returns : goal.reduced_quantified-returns
reduced_quantified-returns t c =
    let is = made_quantified c.args.at (expr c.args.head.now) c.args.rest.now c.in-Some.binder.at c.in-Some.binder.members.now c.in-Some.binder.body.now c.in-Some.ensures.0 c.in-Some.ensures.1 in
    let body = c.in-Some.binder.body.now in
    let formula = c.in_ok-formula-2.ensures ∙ ap (λ z. closed z (reduct_is c.in_ok-formula.formula)) c.place.ensures ∙ ap (closed (place_of (expr body))) c.in_ok-formula.ensures in
    let members = made_members c.in-Some.binder.at c.in_ok-copy_all.field-0 c.in-Some.binder.members.now c.in_ok-formula-2.formula (closed (place_of (expr body)) (reduct (expr body)))
    c.in_ok-members.members c.in_ok-copy_all.ensures formula c.in_ok-members.ensures in
    c.whole.ensures ∙ ap whole (c.in_ok-headed.ensures ∙ ap (λ z. list c.args.at (and_expr (expr c.args.head.now) z)) members) ∙ sym is

pub reduced_note-returns : goal.reduced_note-returns
reduced_note-returns t c =
    let is = made_note c.args.at (expr c.args.head.now) c.args.rest.now c.in-Some.term.now c.in-Some.attributes.now c.in-Some.ensures.cases.0 in
    subst (λ z. IfOk c.noted.result (λ r. reduct_is r ≡ z)) (ap (noted c.args.at (expr c.args.head.now) (exprs_of c.in-Some.attributes.now)) c.in_ok-reduced.ensures ∙ sym is) c.noted.ensures

pub reduced_choice-loop-e-preserved : goal.reduced_choice-loop-e-preserved
reduced_choice-loop-e-preserved t c =
    let branches = c.in-Some.branches.now in
    ap (λ z. followed z (reducts (exprs_of (drop (c.loop-e.e-index + 1) branches)))) c.in_ok-terms-2.ensures
    ∙ reducts_next (reducts_are c.loop-e.terms) (reduct_is c.in_ok-reduced.field-0) branches c.loop-e.e-index c.e-item.result (omega arith) c.e-item.is c.in_ok-reduced.ensures
    ∙ c.loop-e.invariant

pub reduced_choice-returns : goal.reduced_choice-returns
reduced_choice-returns t c =
    let branches = c.in-Some.branches.now in
    let is = made_choice c.args.at (expr c.args.head.now) c.args.rest.now c.in-Some.condition.now branches c.in-Some.ensures.cases.0 in
    let condition = c.in-Some.condition.now in
    let formula = c.in_ok-formula-2.ensures ∙ ap (λ z. closed z (reduct_is c.in_ok-formula.formula)) c.place.ensures ∙ ap (closed (place_of (expr condition))) c.in_ok-formula.ensures in
    let first : reducts_are c.in_ok-terms.terms ≡ together (whole (closed (place_of (expr condition)) (reduct (expr condition)))) nothing =
    c.in_ok-terms.ensures ∙ ap (λ z. together (whole z) (reducts_are c.nothing.result)) formula ∙ ap (together (whole (closed (place_of (expr condition)) (reduct (expr condition))))) c.nothing.ensures in
    subst (λ z. IfOk c.used.result (λ r. reduct_is r ≡ z))
    (ap (used c.args.at (expr c.args.head.now))
    (sym (reducts_end (reducts_are c.loop-e.terms) branches c.loop-e.e-index (omega arith)) ∙ c.loop-e.invariant ∙ ap (λ z. followed z (reducts (exprs_of branches))) first) ∙ sym is) c.used.ensures

pub reduced_binding-returns-in_ok-copy-in-Atom : goal.reduced_binding-returns-in_ok-copy-in-Atom
reduced_binding-returns-in_ok-copy-in-Atom t c = c.whole.ensures ∙ ap (λ z. whole (expr z)) c.in_ok-copy-in-Atom.ensures ∙ left_bound_atom c.args.binding.now c.in-Atom.field-0 c.in-Atom.is

pub reduced_binding-returns-in_default : goal.reduced_binding-returns-in_default
reduced_binding-returns-in_default t c =
    c.whole-in_default.ensures ∙ ap (λ z. whole (expr z)) c.in_ok-copy-in-List.ensures
    ∙ left_bound c.args.binding.now c.in-List.at c.in-List.members c.in-List.is (sym (ap (λ z. pair_of (exprs_of z)) c.as_slice.ensures) ∙ c.in_default.ensures)

pub reduced_binding-returns-in_ok-reduced-in-List : goal.reduced_binding-returns-in_ok-reduced-in-List
reduced_binding-returns-in_ok-reduced-in-List t c =
    let is = made_bound c.args.binding.now c.in-List.at c.in-List.members c.in-Some.name.now c.in-Some.term.now c.in-List.is (sym c.as_slice.ensures ∙ c.in-Some.ensures) in
    subst (λ z. IfOk c.bound.result (λ r. reduct_is r ≡ z)) (ap (bound c.in-List.at (expr c.in-Some.name.now)) c.in_ok-reduced-in-List.ensures ∙ sym is) c.bound.ensures

pub reduced_remainder-returns : goal.reduced_remainder-returns
reduced_remainder-returns t c =
    let is = made_remainder c.args.at (expr c.args.head.now) c.args.rest.now c.in-Some.dividend.now c.in-Some.n.now c.in-Some.ensures in
    let n = expr c.in-Some.n.now in
    let g = c.in-Some-2.greatest in
    let same : to_z w128 (of_z w128 g) ≡ g = search rules in
    let known : greatest_remainder n ≡ Some g = sym c.in_ok-greatest.ensures ∙ c.in-Some-2.is in
    subst (λ z. IfOk c.remainder.result (λ r. reduct_is r ≡ z))
    (ap (remainder c.args.at (reduct_is c.in_ok-reduced.field-0) n) same ∙ ap (λ z. remainder c.args.at z n g) c.in_ok-reduced.ensures
    ∙ sym (is ∙ ap (remainder_by c.args.at (whole (list c.args.at (and_expr (expr c.args.head.now) (exprs_of c.args.rest.now)))) (reduct (expr c.in-Some.dividend.now)) n) known)) c.remainder.ensures

pub reduced_remainder-returns-in_default-2 : goal.reduced_remainder-returns-in_default-2
reduced_remainder-returns-in_default-2 t c =
    let is = made_remainder c.args.at (expr c.args.head.now) c.args.rest.now c.in-Some.dividend.now c.in-Some.n.now c.in-Some.ensures in
    let n = expr c.in-Some.n.now in
    let known : greatest_remainder n ≡ None = sym c.in_ok-greatest.ensures ∙ c.in_default-2.is in
    subst (λ z. IfOk c.left-in_default-2.result (λ r. reduct_is r ≡ z))
    (sym (is ∙ ap (remainder_by c.args.at (whole (list c.args.at (and_expr (expr c.args.head.now) (exprs_of c.args.rest.now)))) (reduct (expr c.in-Some.dividend.now)) n) known)) c.left-in_default-2.ensures

pub reduced_indexed-returns-in_default-index_of : goal.reduced_indexed-returns-in_default-index_of
reduced_indexed-returns-in_default-index_of t c =
    let is = made_indexed c.args.at (expr c.args.head.now) c.args.rest.now c.in-Some.term.now c.in-Some.ensures in
    subst (λ z. IfOk c.left-in_default-index_of.result (λ r. reduct_is r ≡ z))
    (sym (is ∙ ap (divisible_by c.args.at (whole (list c.args.at (and_expr (expr c.args.head.now) (exprs_of c.args.rest.now)))) (reduct (expr c.in-Some.term.now))) c.in_default-index_of.ensures)) c.left-in_default-index_of.ensures

pub reduced_indexed-returns : goal.reduced_indexed-returns
reduced_indexed-returns t c =
    let is = made_indexed c.args.at (expr c.args.head.now) c.args.rest.now c.in-Some.term.now c.in-Some.ensures in
    subst (λ z. IfOk c.divisible.result (λ r. reduct_is r ≡ z))
    (ap (λ z. divisible c.args.at z (expr c.in-Some-index_of.n.now)) c.in_ok-reduced.ensures
    ∙ sym (is ∙ ap (divisible_by c.args.at (whole (list c.args.at (and_expr (expr c.args.head.now) (exprs_of c.args.rest.now)))) (reduct (expr c.in-Some.term.now))) c.in-Some-index_of.ensures)) c.divisible.ensures

pub reduced_quotient-returns-in-Some-2 : goal.reduced_quotient-returns-in-Some-2
reduced_quotient-returns-in-Some-2 t c =
    let is = made_quotient c.args.at (expr c.args.head.now) c.args.rest.now c.in-Some.dividend.now c.in-Some.divisors.now c.in-Some.ensures.cases.0 in
    sym (is ∙ ap (λ z. unwrap_or z (whole (list c.args.at (and_expr (expr c.args.head.now) (exprs_of c.args.rest.now))))) (ap (divided_some c.args.at (exprs_of c.in-Some.divisors.now)) (sym c.in_ok-dividend.ensures) ∙ sym c.in_ok-quotient.ensures ∙ ap (option_map reduct_is) c.in-Some-2.is))

pub reduced_quotient-returns-in-None : goal.reduced_quotient-returns-in-None
reduced_quotient-returns-in-None t c =
    let is = made_quotient c.args.at (expr c.args.head.now) c.args.rest.now c.in-Some.dividend.now c.in-Some.divisors.now c.in-Some.ensures.cases.0 in
    subst (λ z. IfOk c.left-in-None.result (λ r. reduct_is r ≡ z)) (sym (is ∙ ap (λ z. unwrap_or z (whole (list c.args.at (and_expr (expr c.args.head.now) (exprs_of c.args.rest.now))))) (ap (divided_some c.args.at (exprs_of c.in-Some.divisors.now)) (sym c.in_ok-dividend.ensures) ∙ sym c.in_ok-quotient.ensures ∙ ap (option_map reduct_is) c.in-None.is))) c.left-in-None.ensures

pub reduced_all-loop-e-preserved : goal.reduced_all-loop-e-preserved
reduced_all-loop-e-preserved t c =
    ap (λ z. followed z (reducts (exprs_of (drop (c.loop-e.e-index + 1) c.args.es.now)))) c.in_ok-terms.ensures
    ∙ reducts_next (reducts_are c.loop-e.terms) (reduct_is c.in_ok-reduced.field-0) c.args.es.now c.loop-e.e-index c.e-item.result (omega arith) c.e-item.is c.in_ok-reduced.ensures
    ∙ c.loop-e.invariant

pub reduced_all-returns : goal.reduced_all-returns
reduced_all-returns t c = sym (reducts_end (reducts_are c.loop-e.terms) c.args.es.now c.loop-e.e-index (omega arith)) ∙ c.loop-e.invariant

pub reduced_bindings-loop-pair-preserved : goal.reduced_bindings-loop-pair-preserved
reduced_bindings-loop-pair-preserved t c =
    ap (λ z. followed z (bound_reducts (exprs_of (drop (c.loop-pair.pair-index + 1) c.args.pairs.now)))) c.in_ok-bindings.ensures
    ∙ bindings_next (reducts_are c.loop-pair.bindings) (reduct_is c.in_ok-reduced_binding.field-0) c.args.pairs.now c.loop-pair.pair-index c.pair-item.result (omega arith) c.pair-item.is c.in_ok-reduced_binding.ensures
    ∙ c.loop-pair.invariant

pub reduced_bindings-returns : goal.reduced_bindings-returns
reduced_bindings-returns t c = sym (bindings_end (reducts_are c.loop-pair.bindings) c.args.pairs.now c.loop-pair.pair-index (omega arith)) ∙ c.loop-pair.invariant

pub closed_all-loop-e-preserved : goal.closed_all-loop-e-preserved
closed_all-loop-e-preserved t c =
    let item = expr c.e-item.result in
    let pushed : c.push.new.self ≡ c.loop-e.formulas ++ c.in_ok-closed.field-0 ∷ [] = search rules in
    let known : expr c.in_ok-closed.field-0 ≡ closed (place_of item) (reduct item) =
    c.in_ok-closed.ensures ∙ ap (λ z. closed z (reduct_is c.in_ok-formula.formula)) c.place.ensures ∙ ap (closed (place_of item)) c.in_ok-formula.ensures in
    ap (λ z. map expr z ++ closed_all (exprs_of (drop (c.loop-e.e-index + 1) c.args.es.now))) pushed
    ∙ ap (λ z. z ++ closed_all (exprs_of (drop (c.loop-e.e-index + 1) c.args.es.now))) (map-append expr c.loop-e.formulas (c.in_ok-closed.field-0 ∷ []))
    ∙ closed_next (map expr c.loop-e.formulas) (expr c.in_ok-closed.field-0) c.args.es.now c.loop-e.e-index c.e-item.result (omega arith) c.e-item.is known
    ∙ c.loop-e.invariant

pub closed_all-returns : goal.closed_all-returns
closed_all-returns t c = sym (closed_end (map expr c.loop-e.formulas) c.args.es.now c.loop-e.e-index (omega arith)) ∙ c.loop-e.invariant
