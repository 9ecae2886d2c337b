use Rattle.std.proofs.Common.{◌≡◌, ◌+◌, ◌-◌, map, length, take_all, sym, ap, subst, ◌∙◌, arith}
use mathlib.Core.Path.{fun_ext}
use Rattle.std.proofs.lemmas.Result.{IfOk-weaker}
use Rattle.std.proofs.lemmas.List.{length-map}
use Rattle.smt_terms.specs.declared.term.Binding.{Binding}
use Rattle.smt_terms.specs.declared.term.Variable.{Variable}
use Rattle.smt_names.specs.declared.scope.Named.{Named}
use Rattle.smt_terms.specs.Term.{phrase, phrases_of, bindings_of}
use Rattle.smt_terms.specs.Evaluation.{texts_of}
use Rattle.smt_terms.specs.Operators.{found, operator_of}
use Rattle.smt_terms.specs.Translation.{a_formula, formula_in, operated, at_depth, said, symbol_said, all_said}
use Rattle.smt_names.specs.Body.{shape, shapes_of}
use Rattle.smt_names.specs.Saying.{calls_of, leaf_said, shape_said, bound_said, quantified_over, with_variables}
use Rattle.smt_names.specs.Scopes.{leaves_at, named_onto, names_in, AreWithin, AreLeavesWithin}
use Rattle.smt_names.specs.Slots.{slots_onto}
use Rattle.smt_names.specs.Symbols.{looked_up, meant_as}
use Rattle.smt_names.proofs.Folds.{shape-Quantified}
use Rattle.smt_names.proofs.Saying.{said-each, leaf-said}
use Rattle.smt_names.proofs.Behind.{bound-count}
use Rattle.smt_names.proofs.Reading.{within-up, within-onto, found-leaf, found-no_leaf, slots-within, quantified-said}
use Rattle.smt_names.proofs.Weights.{weight, weights, binding_weights, member_weight, bound_weight}
use Rattle.smt_names.proofs.Arms.{appended-more, mapped-more, all-each, bindings-each, use-said, let-said, quantified-form, annotated-said, use-bound, use-operator, use-symbol, names-bound, let-names}
use Rattle.smt_names.proofs.resolving.+resolve.Goals as goal

pub resolve-returns-in-Use : goal.resolve-returns-in-Use
resolve-returns-in-Use t c = IfOk-weaker c.resolve_use.result _ _ (λ b h gs e agrees low long.
    h gs e agrees low long
    ∙ use-said (symbol_said gs) (names_in e (leaves_at c.args.scope.now)) c.args.term.now c.in-Use.field-0 c.in-Use.name c.in-Use.arguments c.as_slice-in-Use.result.now c.as_slice.result.now
    c.in-Use.is c.as_slice.ensures c.as_slice-in-Use.ensures) c.resolve_use.ensures

pub resolve-returns-in-Let : goal.resolve-returns-in-Let
resolve-returns-in-Let t c = IfOk-weaker c.resolve_let.result _ _ (λ b h gs e agrees low long.
    h gs e agrees low long
    ∙ let-said (symbol_said gs) (names_in e (leaves_at c.args.scope.now)) c.args.term.now c.in-Let.field-0 c.in-Let.bindings c.as_slice-in-Let.result.now c.in-Let.body c.get.result.now
    c.in-Let.is c.as_slice-in-Let.ensures c.get.ensures) c.resolve_let.ensures

pub resolve-returns-in-Quantified : goal.resolve-returns-in-Quantified
resolve-returns-in-Quantified t c = IfOk-weaker c.resolve_quantified.result _ _ (λ b h gs e agrees low long.
    quantified-form (symbol_said gs) (names_in e (leaves_at c.args.scope.now)) c.args.term.now c.in-Quantified.field-0 c.in-Quantified.all c.in-Quantified.variables c.as_slice-in-Quantified.result.now
    c.in-Quantified.body c.get-in-Quantified.result.now c.in-Quantified.is c.as_slice-in-Quantified.ensures c.get-in-Quantified.ensures _ (λ n. ap (λ z. z n) (h gs e agrees low long))) c.resolve_quantified.ensures

pub resolve-returns-in-Annotated : goal.resolve-returns-in-Annotated
resolve-returns-in-Annotated t c = IfOk-weaker c.resolve.result _ _ (λ b h gs e agrees low long.
    h gs e agrees low long
    ∙ annotated-said (symbol_said gs) (names_in e (leaves_at c.args.scope.now)) c.args.term.now c.in-Annotated.field-0 c.in-Annotated.inner c.get-in-Annotated.result.now
    c.in-Annotated.is c.get-in-Annotated.ensures) c.resolve.ensures

pub resolve_all-resolve-requires : goal.resolve_all-resolve-requires
resolve_all-resolve-requires t c =
    let measure : weights (phrases_of c.args.terms.now) ≡ t = c.decreases in
    let member = member_weight c.args.terms.now c.loop-term.term-index c.term-item.result c.loop-term-test.true in
    let same = ap (λ z. weight (phrase z)) c.term-item.is in
    omega (arith, measure, member, same)

pub resolve_all-returns : goal.resolve_all-returns
resolve_all-returns t c = λ gs e agrees low long.
    let W = symbol_said gs in
    let names = names_in e (leaves_at c.args.scope.now) in
    said-each (calls_of c.args.definitions.now) e c.loop-term.out ∙ c.loop-term.invariant gs e agrees low long
    ∙ ap (map (λ z. said W names (phrase z))) (take_all c.loop-term.term-index c.args.terms.now (omega arith)) ∙ sym (all-each W names c.args.terms.now)

pub resolve_all-loop-term-preserved : goal.resolve_all-loop-term-preserved
resolve_all-loop-term-preserved t c = λ gs e agrees low long.
    let W = symbol_said gs in
    let names = names_in e (leaves_at c.args.scope.now) in
    mapped-more (λ b. shape_said (calls_of c.args.definitions.now) e (shape b)) (λ z. said W names (phrase z)) c.loop-term.out c.push.new.self c.in_ok-resolve.field-0 c.args.terms.now
    c.loop-term.term-index c.term-item.result c.loop-term-test.true c.in_ok-push.ensures.ok (c.loop-term.invariant gs e agrees low long)
    (c.in_ok-resolve.ensures gs e agrees low long ∙ ap (λ z. said W names (phrase z)) c.term-item.is)

pub resolve_bindings-resolve-requires : goal.resolve_bindings-resolve-requires
resolve_bindings-resolve-requires t c =
    let measure : binding_weights (bindings_of c.args.bindings.now) ≡ t = c.decreases in
    let member = bound_weight c.args.bindings.now c.loop-binding.binding-index c.binding-item.result c.loop-binding-test.true in
    let same = ap (λ (z : Binding). weight (phrase z.term)) c.binding-item.is in
    omega (arith, measure, member, same)

pub resolve_bindings-loop-binding-preserved : goal.resolve_bindings-loop-binding-preserved
resolve_bindings-loop-binding-preserved t c =
    let before = c.loop-binding.invariant in
    let D = calls_of c.args.definitions.now in (
      omega (arith, c.in_ok-read.ensures.length, before.0),
      omega (arith, c.in_ok-read.ensures.count, before.1),
      c.in_ok-read.ensures.within before.2,
      λ gs e agrees low long.
          let W = symbol_said gs in
          let ls = leaves_at c.args.scope.now in
          let E = bound_said D e (shapes_of c.loop-binding.read.kept) in
          let count : c.loop-binding.read.count ≡ length e + length c.loop-binding.read.kept = omega (arith, before.1, long) in
          let wide : AreWithin c.loop-binding.read.count ls = within-up c.args.count c.loop-binding.read.count ls (omega (arith, before.1)) low in
          let here = c.in_ok-body.ensures gs E agrees wide (omega (arith, count, bound-count D e c.loop-binding.read.kept)) in
          appended-more (λ b. said W (names_in e ls) (phrase b.term)) _ _ _ c.args.bindings.now c.loop-binding.binding-index c.binding-item.result c.loop-binding-test.true
          (c.in_ok-read.ensures.said D e before.2 count) (before.3 gs e agrees low long)
          (here ∙ ap (λ z. said W z (phrase c.binding-item.result.term)) (names-bound D e c.loop-binding.read.kept ls (subst (λ k. AreWithin k ls) (sym long) low))
          ∙ ap (λ (z : Binding). said W (names_in e ls) (phrase z.term)) c.binding-item.is),
    )

pub resolve_bindings-returns : goal.resolve_bindings-returns
resolve_bindings-returns t c =
    let after = c.loop-binding.invariant in (
      omega (arith, after.0),
      after.1,
      after.2,
      λ gs e agrees low long.
          let W = symbol_said gs in
          let names = names_in e (leaves_at c.args.scope.now) in
          after.3 gs e agrees low long ∙ ap (map (λ b. said W names (phrase b.term))) (take_all c.loop-binding.binding-index c.args.bindings.now (omega arith)) ∙ sym (bindings-each W names c.args.bindings.now),
    )

pub resolve_let-returns : goal.resolve_let-returns
resolve_let-returns t c =
    let read = c.in_ok-leaves.ensures in
    let r = c.in_ok-leaves.field-0 in
    let D = calls_of c.args.definitions.now in
    let ls = leaves_at c.args.scope.now in
    let ns = c.as_slice-2.result.now in
    let many : length c.args.bindings.now ≡ length c.as_slice.result.now = sym read.0 ∙ sym (ap length c.as_slice.ensures.value) in
    let texts = ap (map (λ (x : Named). x.text.now)) c.as_slice-2.ensures.value ∙ c.in_ok-names.ensures.texts many in
    let same = ap (map (λ (x : Named). x.leaf)) c.as_slice-2.ensures.value ∙ c.in_ok-names.ensures.leaves many ∙ c.as_slice.ensures.value in
    IfOk-weaker c.bind.result _ _ (λ b h gs e agrees low long.
    let W = symbol_said gs in
    let E = bound_said D e (shapes_of r.kept) in
    let low_here : AreWithin (length e) ls = subst (λ k. AreWithin k ls) (sym long) low in
    let wide : AreWithin r.count (named_onto ns ls) =
    within-onto r.count ns ls (subst (AreLeavesWithin r.count) (sym same) read.2) (within-up c.args.count r.count ls (omega (arith, read.1)) low) in
    let deep : length E ≡ r.count = omega (arith, bound-count D e r.kept, read.1, long) in
    fun_ext (λ n. h D e n long) ∙ c.in_ok-inside.ensures gs E agrees wide deep
    ∙ ap (λ z. said W z (phrase c.args.body.now)) (let-names D W e r.kept ns r.leaves.items ls c.args.bindings.now low_here texts same (read.3 gs e agrees low long))) c.bind.ensures

pub resolve_quantified-returns : goal.resolve_quantified-returns
resolve_quantified-returns t c = λ gs e agrees low long.
    let W = symbol_said gs in
    let D = calls_of c.args.definitions.now in
    let ls = leaves_at c.args.scope.now in
    let xs = texts_of c.args.variables.now in
    let r = c.in_ok-names.field-0 in
    let deep : r.count ≡ length e + length xs = omega (arith, c.in_ok-names.ensures.count, long, length-map c.args.variables.now (λ (x : Variable). x.text)) in
    let many : r.count - c.args.count ≡ length xs = omega (arith, deep, long) in
    let low_here : AreWithin (length e) ls = subst (λ k. AreWithin k ls) (sym long) low in
    let names : named_onto c.as_slice.result.now ls ≡ slots_onto (length e) xs ls =
    ap (λ z. named_onto z ls) c.as_slice.ensures.value ∙ c.in_ok-names.ensures.names ls ∙ ap (λ k. slots_onto k xs ls) (sym long) in
    let wide : AreWithin r.count (named_onto c.as_slice.result.now ls) = subst (λ k. AreWithin k (named_onto c.as_slice.result.now ls)) (sym deep)
    (subst (AreWithin (length e + length xs)) (sym names) (slots-within (length e) xs ls low_here)) in
    fun_ext (λ n.
    ap (λ z. shape_said D e z n) (shape-Quantified c.args.all (r.count - c.args.count) c.in_ok-new.field-0)
    ∙ ap (λ k. a_formula (quantified_over c.args.all k (formula_in (shape_said D (with_variables k e n) (shape c.in_ok-new.field-0) (n + k))))) many
    ∙ ap (λ z. a_formula (quantified_over c.args.all (length xs) (formula_in (shape_said D (with_variables (length xs) e n) (shape z) (n + length xs))))) c.in_ok-new.ensures
    ∙ ap a_formula (quantified-said D W c.args.all xs (phrase c.args.body.now) (shape c.in_ok-inside.inside) ls e n low_here (λ f far.
    c.in_ok-inside.ensures gs f agrees wide (far ∙ sym deep) ∙ ap (λ z. said W (names_in f z) (phrase c.args.body.now)) names)))

pub resolve_use-returns-in-Some : goal.resolve_use-returns-in-Some
resolve_use-returns-in-Some t c = λ gs e agrees low long.
    let W = symbol_said gs in
    let ls = leaves_at c.args.scope.now in
    leaf-said (calls_of c.args.definitions.now) e c.in-Some.leaf
    ∙ use-bound W (found c.args.text.now (names_in e ls)) (operator_of c.args.text.now) c.args.text.now (all_said W (names_in e ls) (phrases_of c.args.arguments.now)) (leaf_said e c.in-Some.leaf)
    (found-leaf e c.args.text.now ls c.in-Some.leaf (sym c.find.ensures ∙ c.in-Some.is))

pub resolve_use-returns-in-Some-named_operator : goal.resolve_use-returns-in-Some-named_operator
resolve_use-returns-in-Some-named_operator t c = λ gs e agrees low long.
    let W = symbol_said gs in
    let ls = leaves_at c.args.scope.now in
    use-operator W (found c.args.text.now (names_in e ls)) (operator_of c.args.text.now) c.in-Some-named_operator.known c.args.text.now (all_said W (names_in e ls) (phrases_of c.args.arguments.now))
    (found-no_leaf e c.args.text.now ls (sym c.find.ensures ∙ c.in_default.is)) (sym c.named_operator.ensures ∙ c.in-Some-named_operator.is) _
    (λ n. c.operation.ensures (calls_of c.args.definitions.now) e n ∙ ap (λ z. operated c.in-Some-named_operator.known (at_depth n z)) (c.in_ok-arguments.ensures gs e agrees low long))

pub resolve_use-returns : goal.resolve_use-returns
resolve_use-returns t c =
    let D = calls_of c.args.definitions.now in
    let ls = leaves_at c.args.scope.now in
    IfOk-weaker c.symbol.result _ _ (λ b h gs e agrees low long.
    let W = symbol_said gs in
    let ss = all_said W (names_in e ls) (phrases_of c.args.arguments.now) in
    use-symbol W (found c.args.text.now (names_in e ls)) (operator_of c.args.text.now) c.args.text.now ss
    (found-no_leaf e c.args.text.now ls (sym c.find.ensures ∙ c.in_default.is)) (sym c.named_operator.ensures ∙ c.in_default-named_operator.is) _
    (λ n. h agrees.1 e n ∙ ap (λ z. meant_as D (looked_up c.args.symbols.now c.args.text.now) z n) (c.in_ok-arguments.ensures gs e agrees low long) ∙ sym (agrees.0.2 c.args.text.now ss n))) c.symbol.ensures
