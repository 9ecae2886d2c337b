use Rattle.std.proofs.Common.{◌≡◌, ℕ, List, ◌∙◌, ap, sym, subst, arith, IfOk, Some, None, map, if◌then◌else◌}
use Rattle.std.specs.Option.{option_map}
use Rattle.smt_lists.specs.Expressions.{expr, exprs_of}
use Rattle.smt_commands.specs.Commands.{symbol_of}
use Rattle.smt_commands.specs.Views.{items_of, symbol_is}
use Rattle.smt_terms.specs.declared.term.Binding.{roll-Binding}
use Rattle.smt_terms.specs.Term.{annotated, bindings, bound, ill, let_in, phrase, phrases_of, quantified, used, BoundTerm, PlacedTerm}
use Rattle.smt_terms.proofs.Folds.{phrase-Ill, phrase-Let, phrase-Quantified, phrase-Annotated, phrase-Use, bound-term}
use Rattle.smt_typing.specs.declared.forms.Head.TheVariants as head
use Rattle.smt_typing.specs.Reading.{are_proper, bindings_in, name_is, phrase_of}
use Rattle.smt_typing.proofs.Shapes.{all_read, binding_known, binding_long, let_known, let_long, let_made, let_refused, listed, note_is, quantified_known, quantified_long, quantified_made}
use Rattle.smt_typing.proofs.reading.+reading.Goals as goal

pub read_all-returns : goal.read_all-returns
read_all-returns t c = all_read c.loop-e.terms c.args.es.now c.loop-e.e-index (omega arith) c.loop-e.invariant

pub read_let-returns-then-not-is_empty : goal.read_let-returns-then-not-is_empty
read_let-returns-then-not-is_empty t c =
    phrase-Ill c.args.at
    ∙ sym (let_long c.args.at c.args.rest.now c.in-Some.first.now c.in-Some.behind.now c.in-Some-split_first.body.now c.in-Some-split_first.end.now c.is_empty.result
    c.in-Some.ensures.cases.0 c.in-Some-split_first.ensures.cases.0 c.is_empty.ensures c.if-not-is_empty.true)

pub read_let-returns-in_default-2 : goal.read_let-returns-in_default-2
read_let-returns-in_default-2 t c =
    let read : option_map (map bound) c.in_ok-bindings.field-0 ≡ bindings_in (exprs_of c.in-List.pairs) = c.in_ok-bindings.ensures ∙ ap (λ z. bindings_in (exprs_of z)) c.as_slice.ensures in
    phrase-Ill c.args.at
    ∙ sym (let_known c.args.at c.args.rest.now c.in-Some.first.now c.in-Some.behind.now c.in-Some-split_first.body.now c.in-Some-split_first.end.now c.is_empty.result c.in-List.field-0 c.in-List.pairs None
    c.in-Some.ensures.cases.0 c.in-Some-split_first.ensures.cases.0 c.is_empty.ensures c.if-not-is_empty.false c.in-List.is (sym (ap (option_map (map bound)) c.in_default-2.is) ∙ read))

pub read_let-returns-then-not-branch : goal.read_let-returns-then-not-branch
read_let-returns-then-not-branch t c =
    let read : option_map (map bound) c.in_ok-bindings.field-0 ≡ bindings_in (exprs_of c.in-List.pairs) = c.in_ok-bindings.ensures ∙ ap (λ z. bindings_in (exprs_of z)) c.as_slice.ensures in
    let bs = map bound c.in-Some-2.bindings in
    let known = let_known c.args.at c.args.rest.now c.in-Some.first.now c.in-Some.behind.now c.in-Some-split_first.body.now c.in-Some-split_first.end.now c.is_empty.result c.in-List.field-0 c.in-List.pairs (Some bs)
    c.in-Some.ensures.cases.0 c.in-Some-split_first.ensures.cases.0 c.is_empty.ensures c.if-not-is_empty.false c.in-List.is (sym (ap (option_map (map bound)) c.in-Some-2.is) ∙ read) in
    phrase-Ill c.args.at
    ∙ sym (known ∙ let_refused c.args.at bs (phrase_of (expr c.in-Some-split_first.body.now)) c.in_ok-are_proper.field-0 (c.in_ok-are_proper.ensures ∙ ap (λ z. are_proper (map bound z)) c.as_slice-2.ensures) c.if-not-branch.true)

pub read_let-returns : goal.read_let-returns
read_let-returns t c =
    let read : option_map (map bound) c.in_ok-bindings.field-0 ≡ bindings_in (exprs_of c.in-List.pairs) = c.in_ok-bindings.ensures ∙ ap (λ z. bindings_in (exprs_of z)) c.as_slice.ensures in
    let bs = map bound c.in-Some-2.bindings in
    let known = let_known c.args.at c.args.rest.now c.in-Some.first.now c.in-Some.behind.now c.in-Some-split_first.body.now c.in-Some-split_first.end.now c.is_empty.result c.in-List.field-0 c.in-List.pairs (Some bs)
    c.in-Some.ensures.cases.0 c.in-Some-split_first.ensures.cases.0 c.is_empty.ensures c.if-not-is_empty.false c.in-List.is (sym (ap (option_map (map bound)) c.in-Some-2.is) ∙ read) in
    phrase-Let c.args.at c.in-Some-2.bindings c.in_ok-body.body
    ∙ ap (λ z. let_in c.args.at (bindings bs) z) (ap phrase c.in_ok-body.ensures ∙ c.in_ok-read_term.ensures)
    ∙ sym (known ∙ let_made c.args.at bs (phrase_of (expr c.in-Some-split_first.body.now)) c.in_ok-are_proper.field-0 (c.in_ok-are_proper.ensures ∙ ap (λ z. are_proper (map bound z)) c.as_slice-2.ensures) c.if-not-branch.false)

pub read_binding-returns-then-not-is_empty : goal.read_binding-returns-then-not-is_empty
read_binding-returns-then-not-is_empty t c =
    sym (binding_long c.args.pair.now c.in-List.field-0 c.in-List.members c.in-Some.first.now c.in-Some.behind.now c.in-Some-split_first.term.now c.in-Some-split_first.end.now c.is_empty.result
    c.in-List.is (sym c.as_slice.ensures ∙ c.in-Some.ensures.cases.0) c.in-Some-split_first.ensures.cases.0 c.is_empty.ensures c.if-not-is_empty.true)

pub read_binding-returns : goal.read_binding-returns
read_binding-returns t c =
    let x = symbol_is c.in-Some-symbol.name in
    let named : symbol_of (expr c.in-Some.first.now) ≡ Some x = sym (ap (option_map symbol_is) (sym c.in-Some-symbol.is) ∙ c.symbol.ensures.exact) in
    let known = binding_known c.args.pair.now c.in-List.field-0 c.in-List.members c.in-Some.first.now c.in-Some.behind.now c.in-Some-split_first.term.now c.in-Some-split_first.end.now c.is_empty.result (Some x)
    c.in-List.is (sym c.as_slice.ensures ∙ c.in-Some.ensures.cases.0) c.in-Some-split_first.ensures.cases.0 c.is_empty.ensures c.if-not-is_empty.false named in
    let made : bound (roll-Binding (record { text = c.in_ok-text.text; term = c.in_ok-term.term })) ≡ record { text = c.in_ok-text.text; term = phrase c.in_ok-term.term } =
    bound-term (roll-Binding (record { text = c.in_ok-text.text; term = c.in_ok-term.term })) in
    let Q : List ℕ → PlacedTerm → BoundTerm = λ y p. record { text = y; term = p } in
    ap (λ z. Some z) (made ∙ ap (λ z. Q z (phrase c.in_ok-term.term)) c.in_ok-text.ensures ∙ ap (Q c.in-Some-symbol.name.text.now) c.in_ok-term.ensures) ∙ sym known

pub read_quantified-returns-then-not-is_empty : goal.read_quantified-returns-then-not-is_empty
read_quantified-returns-then-not-is_empty t c =
    phrase-Ill c.args.at
    ∙ sym (quantified_long c.args.at c.args.all c.args.rest.now c.in-Some.first.now c.in-Some.behind.now c.in-Some-split_first.body.now c.in-Some-split_first.end.now c.is_empty.result
    c.in-Some.ensures.cases.0 c.in-Some-split_first.ensures.cases.0 c.is_empty.ensures c.if-not-is_empty.true)

pub read_quantified-returns : goal.read_quantified-returns
read_quantified-returns t c =
    let known = quantified_known c.args.at c.args.all c.args.rest.now c.in-Some.first.now c.in-Some.behind.now c.in-Some-split_first.body.now c.in-Some-split_first.end.now c.is_empty.result
    (map expr c.in-Some-members.pairs.now) (Some c.in-Some-2.variables) c.in-Some.ensures.cases.0 c.in-Some-split_first.ensures.cases.0 c.is_empty.ensures c.if-not-is_empty.false
    (sym (ap (option_map items_of) (sym c.in-Some-members.is) ∙ c.members.ensures.exact)) (sym c.in-Some-2.is ∙ c.in_ok-variables.ensures) in
    phrase-Quantified c.args.at c.args.all c.in-Some-2.variables c.in_ok-body.body
    ∙ ap (λ z. quantified c.args.at c.args.all c.in-Some-2.variables z) (ap phrase c.in_ok-body.ensures ∙ c.in_ok-read_term.ensures)
    ∙ sym (known ∙ quantified_made c.args.at c.args.all c.in-Some-2.variables (phrase_of (expr c.in-Some-split_first.body.now)) c.is_empty-2.result c.is_empty-2.ensures.1 c.if-is_empty.false)

pub read_note-returns-then-not-are_attributes : goal.read_note-returns-then-not-are_attributes
read_note-returns-then-not-are_attributes t c =
    phrase-Ill c.args.at
    ∙ sym (note_is c.args.at c.args.rest.now c.in-Some.inner.now c.in-Some.attributes.now c.are_attributes.result c.in-Some.ensures.cases.0 c.are_attributes.ensures
    ∙ ap (λ z. if z then annotated c.args.at (phrase_of (expr c.in-Some.inner.now)) else ill c.args.at) c.if-not-are_attributes.true)

pub read_note-returns : goal.read_note-returns
read_note-returns t c =
    phrase-Annotated c.args.at c.in_ok-inner.inner
    ∙ ap (annotated c.args.at) (ap phrase c.in_ok-inner.ensures ∙ c.in_ok-read_term.ensures)
    ∙ sym (note_is c.args.at c.args.rest.now c.in-Some.inner.now c.in-Some.attributes.now c.are_attributes.result c.in-Some.ensures.cases.0 c.are_attributes.ensures
    ∙ ap (λ z. if z then annotated c.args.at (phrase_of (expr c.in-Some.inner.now)) else ill c.args.at) c.if-not-are_attributes.false)

pub read_term-returns-in-Let : goal.read_term-returns-in-Let
read_term-returns-in-Let t c =
    let x = symbol_is c.in-Some-symbol.name in
    let is = listed c.args.e.now c.in-List.at c.in-List.members c.in-Some.head.now c.in-Some.rest.now x head.Let c.in-List.is (sym c.as_slice.ensures ∙ c.in-Some.ensures.cases.0)
    (sym (ap (option_map symbol_is) (sym c.in-Some-symbol.is) ∙ c.symbol.ensures.exact)) (sym c.in-Let.ensures) in
    subst (λ z. IfOk c.read_let.result (λ r. phrase r ≡ z)) (sym is) c.read_let.ensures

pub read_term-returns-in-Forall : goal.read_term-returns-in-Forall
read_term-returns-in-Forall t c =
    let x = symbol_is c.in-Some-symbol.name in
    let is = listed c.args.e.now c.in-List.at c.in-List.members c.in-Some.head.now c.in-Some.rest.now x head.Forall c.in-List.is (sym c.as_slice.ensures ∙ c.in-Some.ensures.cases.0)
    (sym (ap (option_map symbol_is) (sym c.in-Some-symbol.is) ∙ c.symbol.ensures.exact)) (sym c.in-Forall.ensures) in
    subst (λ z. IfOk c.read_quantified.result (λ r. phrase r ≡ z)) (sym is) c.read_quantified.ensures

pub read_term-returns-in-Exists : goal.read_term-returns-in-Exists
read_term-returns-in-Exists t c =
    let x = symbol_is c.in-Some-symbol.name in
    let is = listed c.args.e.now c.in-List.at c.in-List.members c.in-Some.head.now c.in-Some.rest.now x head.Exists c.in-List.is (sym c.as_slice.ensures ∙ c.in-Some.ensures.cases.0)
    (sym (ap (option_map symbol_is) (sym c.in-Some-symbol.is) ∙ c.symbol.ensures.exact)) (sym c.in-Exists.ensures) in
    subst (λ z. IfOk c.read_quantified-in-Exists.result (λ r. phrase r ≡ z)) (sym is) c.read_quantified-in-Exists.ensures

pub read_term-returns-in-Note : goal.read_term-returns-in-Note
read_term-returns-in-Note t c =
    let x = symbol_is c.in-Some-symbol.name in
    let is = listed c.args.e.now c.in-List.at c.in-List.members c.in-Some.head.now c.in-Some.rest.now x head.Note c.in-List.is (sym c.as_slice.ensures ∙ c.in-Some.ensures.cases.0)
    (sym (ap (option_map symbol_is) (sym c.in-Some-symbol.is) ∙ c.symbol.ensures.exact)) (sym c.in-Note.ensures) in
    subst (λ z. IfOk c.read_note.result (λ r. phrase r ≡ z)) (sym is) c.read_note.ensures

pub read_term-returns-in_ok-read_all-in-Use : goal.read_term-returns-in_ok-read_all-in-Use
read_term-returns-in_ok-read_all-in-Use t c =
    let x = symbol_is c.in-Some-symbol.name in
    let is = listed c.args.e.now c.in-List.at c.in-List.members c.in-Some.head.now c.in-Some.rest.now x head.Use c.in-List.is (sym c.as_slice.ensures ∙ c.in-Some.ensures.cases.0)
    (sym (ap (option_map symbol_is) (sym c.in-Some-symbol.is) ∙ c.symbol.ensures.exact)) (sym c.in-Use.ensures) in
    phrase-Use c.in-List.at c.in_ok-own-in-Use.field-0 c.in_ok-read_all-in-Use.field-0
    ∙ ap (λ z. used c.in-List.at z (phrases_of c.in_ok-read_all-in-Use.field-0)) c.in_ok-own-in-Use.ensures
    ∙ ap (used c.in-List.at (name_is x)) c.in_ok-read_all-in-Use.ensures
    ∙ sym is
