use Rattle.std.proofs.Common.{length, map, ◌≡◌, suc, ◌+◌, ◌*◌, true, false, not, [], ◌∷◌, ◌++◌, drop, reverse, refl, sym, ap, ◌∙◌, subst, arith}
use Rattle.std.specs.Bool.{beq}
use Rattle.linear_term.specs.Linear as linear
use Rattle.form_typed.specs.Formula.{formula, formulas_of, expression, expressions_of, applies, negation, compares, every, some, implies, iff, for_all, for_some, part}
use Rattle.form_typed.proofs.Folds.{formula-Truth, formula-Rel, formula-Pred, formula-Not, formula-And, formula-Or, formula-Implies, formula-Iff, formula-Forall, formula-Exists, formula-Part}
use Rattle.base_budget.specs.Trace.{just}
use Rattle.formula.specs.Form.{conjunction, disjunction, forms, universal}
use Rattle.formula.specs.Made.{Made}
use Rattle.formula.specs.Tree.{form, forms_of}
use Rattle.formula.proofs.Making.{made_ok, made_err, made_just, made_memory, left_made, left_err, pushed}
use Rattle.form_encoding.specs.Encoding.{all_encoded, bounds, encoded, junction, related}
use Rattle.form_encoding.specs.Extent.{above_two, extent, extents, leaf}
use Rattle.function_encoding.specs.Actions.{ran}
use Rattle.function_encoding.specs.Instructions.{actions_of}
use Rattle.function_encoding.specs.Ranged.{HasRangedNumbers}
use Rattle.function_encoding.specs.Room.{HasNamesLeft, extent_left}
use Rattle.function_encoding.specs.Stops as stops
use Rattle.function_encoding.specs.Stops.{Halts, IsTestRanged, test_extent, test_weight}
use Rattle.function_encoding.specs.Weight.{weight, weights, weight_left}
use Rattle.function_encoding.proofs.Bounding.{bound_err, bound_ok}
use Rattle.function_encoding.proofs.Encodings.{formula_as, room_above, room_bound, room_two, room_under, rest_all, rest_next, rest_pushed, rest_end, item_ranged, item_room, item_weight, relation_ready, predicate_ready, relation_made, predicate_made, bound_as, run_as, halt_made, made_same}
use Rattle.function_encoding.proofs.Parting.{two_items, ways_made, parted_made}
use Rattle.function_encoding.proofs.encoder.+encode.Goals as goal

pub encoded-relation-requires : goal.encoded-relation-requires
encoded-relation-requires t c =
    let same = (ap formula c.in-Rel.is ∙ formula-Rel c.in-Rel.r c.in-Rel.s c.in-Rel.t) in
    let measure : 2 * weight (formula c.args.f.now) + 1 ≡ t = c.decreases in let is = ap weight same in
    let ranged = subst HasRangedNumbers same c.requires.ranged in let room = subst (λ z. HasNamesLeft c.args.n (extent z)) same c.requires.room in
    (omega (arith, is, measure), (ranged, room))

pub encoded-returns-in-Rel : goal.encoded-returns-in-Rel
encoded-returns-in-Rel t c = formula_as _ _ _ _ _ _ ((ap formula c.in-Rel.is ∙ formula-Rel c.in-Rel.r c.in-Rel.s c.in-Rel.t)) c.relation.ensures

pub encoded-predicate-requires : goal.encoded-predicate-requires
encoded-predicate-requires t c =
    let same = (ap formula c.in-Pred.is ∙ formula-Pred c.in-Pred.p c.in-Pred.ts ∙ ap (λ l. applies c.in-Pred.p (expressions_of l)) (sym c.as_slice.ensures)) in
    let measure : 2 * weight (formula c.args.f.now) + 1 ≡ t = c.decreases in let is = ap weight same in
    let ranged = subst HasRangedNumbers same c.requires.ranged in let room = subst (λ z. HasNamesLeft c.args.n (extent z)) same c.requires.room in
    (omega (arith, is, measure), (ranged, room))

pub encoded-returns-in-Pred : goal.encoded-returns-in-Pred
encoded-returns-in-Pred t c = formula_as _ _ _ _ _ _ ((ap formula c.in-Pred.is ∙ formula-Pred c.in-Pred.p c.in-Pred.ts ∙ ap (λ l. applies c.in-Pred.p (expressions_of l)) (sym c.as_slice.ensures))) c.predicate.ensures

pub encoded-connected-requires : goal.encoded-connected-requires
encoded-connected-requires t c =
    let same = (ap formula c.in-And.is ∙ formula-And _ ∙ ap (λ l. every (formulas_of l)) (sym c.as_slice-in-And.ensures)) in
    let measure : 2 * weight (formula c.args.f.now) + 1 ≡ t = c.decreases in let is = ap weight same in
    let ranged = subst HasRangedNumbers same c.requires.ranged in let room = subst (λ z. HasNamesLeft c.args.n (extent z)) same c.requires.room in
    (omega (arith, is, measure), (ranged, room_under c.args.n (extents (formulas_of c.as_slice-in-And.result.now)) room))

pub encoded-returns-in-And : goal.encoded-returns-in-And
encoded-returns-in-And t c = formula_as _ _ _ _ _ _ ((ap formula c.in-And.is ∙ formula-And _ ∙ ap (λ l. every (formulas_of l)) (sym c.as_slice-in-And.ensures))) c.connected.ensures

pub encoded-connected-requires-in-Or : goal.encoded-connected-requires-in-Or
encoded-connected-requires-in-Or t c =
    let same = (ap formula c.in-Or.is ∙ formula-Or _ ∙ ap (λ l. some (formulas_of l)) (sym c.as_slice-in-Or.ensures)) in
    let measure : 2 * weight (formula c.args.f.now) + 1 ≡ t = c.decreases in let is = ap weight same in
    let ranged = subst HasRangedNumbers same c.requires.ranged in let room = subst (λ z. HasNamesLeft c.args.n (extent z)) same c.requires.room in
    (omega (arith, is, measure), (ranged, room_under c.args.n (extents (formulas_of c.as_slice-in-Or.result.now)) room))

pub encoded-returns-in-Or : goal.encoded-returns-in-Or
encoded-returns-in-Or t c = formula_as _ _ _ _ _ _ ((ap formula c.in-Or.is ∙ formula-Or _ ∙ ap (λ l. some (formulas_of l)) (sym c.as_slice-in-Or.ensures))) c.connected-in-Or.ensures

pub encoded-joined-requires : goal.encoded-joined-requires
encoded-joined-requires t c =
    let same = (ap formula c.in-Implies.is ∙ formula-Implies _ _ ∙ (λ i. implies (formula (sym c.get-in-Implies.ensures i)) (formula (sym c.get-in-Implies-2.ensures i)))) in
    let measure : 2 * weight (formula c.args.f.now) + 1 ≡ t = c.decreases in let is = ap weight same in
    let ranged = subst HasRangedNumbers same c.requires.ranged in let room = subst (λ z. HasNamesLeft c.args.n (extent z)) same c.requires.room in
    (omega (arith, is, measure), (ranged.0, (ranged.1, room)))

pub encoded-returns-in-Implies : goal.encoded-returns-in-Implies
encoded-returns-in-Implies t c = formula_as _ _ _ _ _ _ ((ap formula c.in-Implies.is ∙ formula-Implies _ _ ∙ (λ i. implies (formula (sym c.get-in-Implies.ensures i)) (formula (sym c.get-in-Implies-2.ensures i))))) c.joined.ensures

pub encoded-encoded-requires : goal.encoded-encoded-requires
encoded-encoded-requires t c =
    let same = (ap formula c.in-Not.is ∙ formula-Not _ ∙ ap (λ z. negation (formula z)) (sym c.get.ensures)) in
    let measure : 2 * weight (formula c.args.f.now) + 1 ≡ t = c.decreases in let is = ap weight same in
    let ranged = subst HasRangedNumbers same c.requires.ranged in let room = subst (λ z. HasNamesLeft c.args.n (extent z)) same c.requires.room in
    (omega (arith, is, measure), (ranged, room))

pub encoded-returns-in-Not : goal.encoded-returns-in-Not
encoded-returns-in-Not t c = formula_as _ _ _ _ _ _ (ap formula c.in-Not.is ∙ formula-Not _ ∙ ap (λ z. negation (formula z)) (sym c.get.ensures)) c.encoded.ensures

pub encoded-encoded-requires-in-Part : goal.encoded-encoded-requires-in-Part
encoded-encoded-requires-in-Part t c =
    let same = (ap formula c.in-Part.is ∙ formula-Part _ _ ∙ ap (λ z. part c.in-Part.field-0 (formula z)) (sym c.get-in-Part.ensures)) in
    let measure : 2 * weight (formula c.args.f.now) + 1 ≡ t = c.decreases in let is = ap weight same in
    let ranged = subst HasRangedNumbers same c.requires.ranged in let room = subst (λ z. HasNamesLeft c.args.n (extent z)) same c.requires.room in
    (omega (arith, is, measure), (ranged, room))

pub encoded-returns-in-Part : goal.encoded-returns-in-Part
encoded-returns-in-Part t c = formula_as _ _ _ _ _ _ (ap formula c.in-Part.is ∙ formula-Part _ _ ∙ ap (λ z. part c.in-Part.field-0 (formula z)) (sym c.get-in-Part.ensures)) c.encoded-in-Part.ensures

pub encoded-equivalent-requires : goal.encoded-equivalent-requires
encoded-equivalent-requires t c =
    let same = (ap formula c.in-Iff.is ∙ formula-Iff _ _ ∙ (λ i. iff (formula (sym c.get-in-Iff.ensures i)) (formula (sym c.get-in-Iff-2.ensures i)))) in
    let measure : 2 * weight (formula c.args.f.now) + 1 ≡ t = c.decreases in let is = ap weight same in
    let ranged = subst HasRangedNumbers same c.requires.ranged in let room = subst (λ z. HasNamesLeft c.args.n (extent z)) same c.requires.room in
    (omega (arith, is, measure), (ranged, room))

pub encoded-returns-in-Iff : goal.encoded-returns-in-Iff
encoded-returns-in-Iff t c = formula_as _ _ _ _ _ _ (ap formula c.in-Iff.is ∙ formula-Iff _ _ ∙ (λ i. iff (formula (sym c.get-in-Iff.ensures i)) (formula (sym c.get-in-Iff-2.ensures i)))) c.equivalent.ensures

pub encoded-bound-requires : goal.encoded-bound-requires
encoded-bound-requires t c =
    let same = (ap formula c.in-Forall.is ∙ formula-Forall _ _ ∙ ap (λ z. for_all c.in-Forall.sort (formula z)) (sym c.get-in-Forall.ensures)) in
    let measure : 2 * weight (formula c.args.f.now) + 1 ≡ t = c.decreases in let is = ap weight same in
    let ranged = subst HasRangedNumbers same c.requires.ranged in let room = subst (λ z. HasNamesLeft c.args.n (extent z)) same c.requires.room in
    (omega (arith, is, measure), (ranged.0, (ranged.1, room)))

pub encoded-returns-in-Forall : goal.encoded-returns-in-Forall
encoded-returns-in-Forall t c = formula_as _ _ _ _ _ _ (ap formula c.in-Forall.is ∙ formula-Forall _ _ ∙ ap (λ z. for_all c.in-Forall.sort (formula z)) (sym c.get-in-Forall.ensures)) c.bound.ensures

pub encoded-bound-requires-in-Exists : goal.encoded-bound-requires-in-Exists
encoded-bound-requires-in-Exists t c =
    let same = (ap formula c.in-Exists.is ∙ formula-Exists _ _ ∙ ap (λ z. for_some c.in-Exists.sort (formula z)) (sym c.get-in-Exists.ensures)) in
    let measure : 2 * weight (formula c.args.f.now) + 1 ≡ t = c.decreases in let is = ap weight same in
    let ranged = subst HasRangedNumbers same c.requires.ranged in let room = subst (λ z. HasNamesLeft c.args.n (extent z)) same c.requires.room in
    (omega (arith, is, measure), (ranged.0, (ranged.1, room)))

pub encoded-returns-in-Exists : goal.encoded-returns-in-Exists
encoded-returns-in-Exists t c = formula_as _ _ _ _ _ _ (ap formula c.in-Exists.is ∙ formula-Exists _ _ ∙ ap (λ z. for_some c.in-Exists.sort (formula z)) (sym c.get-in-Exists.ensures)) c.bound-in-Exists.ensures

pub encoded-returns-in-Truth : goal.encoded-returns-in-Truth
encoded-returns-in-Truth t c = formula_as _ _ _ _ _ _ (ap formula c.in-Truth.is ∙ formula-Truth c.in-Truth.b) (made_just form _ _ (c.junction.ensures ∙ ap (λ l. junction (beq c.in-Truth.b c.args.plus) (forms_of l)) c.new.ensures))

pub all_encoded-loop-f-init : goal.all_encoded-loop-f-init
all_encoded-loop-f-init t c = (rest_all c.args.at.now c.args.n c.args.plus (formulas_of c.args.formulas.now) c.new-out.result c.new-out.ensures, c.requires.ranged, c.requires.room, omega arith)

pub all_encoded-encoded-requires : goal.all_encoded-encoded-requires
all_encoded-encoded-requires t c =
    let measure : 2 * weights (formulas_of c.args.formulas.now) + 2 ≡ t = c.decreases in
    let less = (item_weight c.args.formulas.now c.loop-f.f-index c.f-item.result (weights (formulas_of c.args.formulas.now)) (omega arith) c.f-item.is c.loop-f.invariant.3).0 in (omega (arith, measure, less), ((item_ranged c.args.formulas.now c.loop-f.f-index c.f-item.result (omega arith) c.f-item.is c.loop-f.invariant.1).0, (item_room c.args.n c.args.formulas.now c.loop-f.f-index c.f-item.result (omega arith) c.f-item.is c.loop-f.invariant.2).0))

pub all_encoded-returns-in_err-encoded : goal.all_encoded-returns-in_err-encoded
all_encoded-returns-in_err-encoded t c = left_err form forms_of _ _ _ c.from_residual.ensures.1 (rest_next c.args.at.now c.args.n c.args.plus c.args.formulas.now c.loop-f.f-index c.f-item.result c.loop-f.out (all_encoded c.args.at.now c.args.n c.args.plus (formulas_of c.args.formulas.now)) (omega arith) c.f-item.is c.loop-f.invariant.0) c.in_err-encoded.ensures

pub all_encoded-returns-in_err-push : goal.all_encoded-returns-in_err-push
all_encoded-returns-in_err-push t c = made_memory forms_of _ c.from_residual-in_err-push.ensures.1

pub all_encoded-loop-f-preserved : goal.all_encoded-loop-f-preserved
all_encoded-loop-f-preserved t c = (
  rest_pushed c.args.at.now c.args.n c.args.plus (formulas_of (drop (c.loop-f.f-index + 1) c.args.formulas.now)) c.loop-f.out _ _ (all_encoded c.args.at.now c.args.n c.args.plus (formulas_of c.args.formulas.now)) c.in_ok-push.ensures.ok (left_made form _ _ (rest_next c.args.at.now c.args.n c.args.plus c.args.formulas.now c.loop-f.f-index c.f-item.result c.loop-f.out (all_encoded c.args.at.now c.args.n c.args.plus (formulas_of c.args.formulas.now)) (omega arith) c.f-item.is c.loop-f.invariant.0) c.in_ok-encoded.ensures),
  (item_ranged c.args.formulas.now c.loop-f.f-index c.f-item.result (omega arith) c.f-item.is c.loop-f.invariant.1).1,
  (item_room c.args.n c.args.formulas.now c.loop-f.f-index c.f-item.result (omega arith) c.f-item.is c.loop-f.invariant.2).1,
  (item_weight c.args.formulas.now c.loop-f.f-index c.f-item.result (weights (formulas_of c.args.formulas.now)) (omega arith) c.f-item.is c.loop-f.invariant.3).1,
)

pub all_encoded-returns : goal.all_encoded-returns
all_encoded-returns t c = rest_end c.args.at.now c.args.n c.args.plus c.args.formulas.now c.loop-f.f-index c.loop-f.out (all_encoded c.args.at.now c.args.n c.args.plus (formulas_of c.args.formulas.now)) (omega arith) c.loop-f.invariant.0

pub bound-returns-in_err-names : goal.bound-returns-in_err-names
bound-returns-in_err-names t c = made_memory form _ c.from_residual.ensures.1

pub bound-encoded-requires : goal.bound-encoded-requires
bound-encoded-requires t c =
    let measure : 2 * weight (formula c.args.g.now) + 2 ≡ t = c.decreases in
    (omega (arith, measure), (c.requires.ranged, room_bound c.args.n (length (bounds c.args.sort.now)) (extent (formula c.args.g.now)) c.requires.room))

pub bound-returns-in_err-body : goal.bound-returns-in_err-body
bound-returns-in_err-body t c =
    bound_err c.args.n c.args.for_all c.args.sort.now _ c.from_residual-in_err-body.ensures.1
    (bound_as (c.args.at.now ++ c.args.n ∷ []) c.as_slice.result.now (suc c.args.n) (c.args.n + 1) c.args.plus (formula c.args.g.now) _ (c.as_slice.ensures ∙ c.in_ok-names.ensures) (omega arith) c.in_err-body.ensures)

pub bound-returns : goal.bound-returns
bound-returns t c =
    bound_ok c.args.n c.args.for_all c.args.sort.now _
    (bound_as (c.args.at.now ++ c.args.n ∷ []) c.as_slice.result.now (suc c.args.n) (c.args.n + 1) c.args.plus (formula c.args.g.now) _ (c.as_slice.ensures ∙ c.in_ok-names.ensures) (omega arith) c.in_ok-body.ensures) c.bind.ensures

pub run-returns-in_err-stop : goal.run-returns-in_err-stop
run-returns-in_err-stop t c = made_same _ c.from_residual.ensures.1 (c.in_err-stop.ensures.err c.args.n)

pub run-graph-requires : goal.run-graph-requires
run-graph-requires t c =
    let measure : 2 * weight_left (actions_of c.args.code.now) + 4 ≡ t = c.decreases in
    let halts = (subst (λ s. Halts c.args.at.now (actions_of c.args.code.now) (reverse c.args.stack) s (actions_of c.in_ok-stop.field-0.rest.now)) c.in-Graph.is c.in_ok-stop.ensures.ok) in
    let less = halts.weight in (omega (arith, measure, less), (halts.ranged.1, subst (HasNamesLeft c.args.n) (sym halts.extent) c.requires.room))

pub run-cases-requires : goal.run-cases-requires
run-cases-requires t c =
    let measure : 2 * weight_left (actions_of c.args.code.now) + 4 ≡ t = c.decreases in
    let halts = (subst (λ s. Halts c.args.at.now (actions_of c.args.code.now) (reverse c.args.stack) s (actions_of c.in_ok-stop.field-0.rest.now)) c.in-Cases.is c.in_ok-stop.ensures.ok) in
    let less = halts.weight in (omega (arith, measure, less), (halts.ranged.0, (halts.ranged.1, subst (HasNamesLeft c.args.n) (sym halts.extent) c.requires.room)))

pub run-returns-in-Nothing : goal.run-returns-in-Nothing
run-returns-in-Nothing t c = halt_made c.args.at.now (actions_of c.args.code.now) (reverse c.args.stack) _ (actions_of c.in_ok-stop.field-0.rest.now) c.args.n _ (subst (λ s. Halts c.args.at.now (actions_of c.args.code.now) (reverse c.args.stack) s (actions_of c.in_ok-stop.field-0.rest.now)) c.in-Nothing.is c.in_ok-stop.ensures.ok) (made_just form _ _ (c.junction.ensures ∙ ap (λ l. conjunction (forms_of l)) c.new.ensures))

pub run-returns-in-Related : goal.run-returns-in-Related
run-returns-in-Related t c = halt_made c.args.at.now (actions_of c.args.code.now) (reverse c.args.stack) _ (actions_of c.in_ok-stop.field-0.rest.now) c.args.n _ (subst (λ s. Halts c.args.at.now (actions_of c.args.code.now) (reverse c.args.stack) s (actions_of c.in_ok-stop.field-0.rest.now)) c.in-Related.is c.in_ok-stop.ensures.ok) c.related.ensures

pub run-returns-in-Predicate : goal.run-returns-in-Predicate
run-returns-in-Predicate t c = halt_made c.args.at.now (actions_of c.args.code.now) (reverse c.args.stack) _ (actions_of c.in_ok-stop.field-0.rest.now) c.args.n _ (subst (λ s. Halts c.args.at.now (actions_of c.args.code.now) (reverse c.args.stack) s (actions_of c.in_ok-stop.field-0.rest.now)) c.in-Predicate.is c.in_ok-stop.ensures.ok) (made_just form _ _ c.signed_predicate.ensures)

pub run-returns-in-Graph : goal.run-returns-in-Graph
run-returns-in-Graph t c = halt_made c.args.at.now (actions_of c.args.code.now) (reverse c.args.stack) _ (actions_of c.in_ok-stop.field-0.rest.now) c.args.n _ (subst (λ s. Halts c.args.at.now (actions_of c.args.code.now) (reverse c.args.stack) s (actions_of c.in_ok-stop.field-0.rest.now)) c.in-Graph.is c.in_ok-stop.ensures.ok) c.graph.ensures

pub run-returns-in-Cases : goal.run-returns-in-Cases
run-returns-in-Cases t c = halt_made c.args.at.now (actions_of c.args.code.now) (reverse c.args.stack) _ (actions_of c.in_ok-stop.field-0.rest.now) c.args.n _ (subst (λ s. Halts c.args.at.now (actions_of c.args.code.now) (reverse c.args.stack) s (actions_of c.in_ok-stop.field-0.rest.now)) c.in-Cases.is c.in_ok-stop.ensures.ok) c.cases.ensures

pub graph-returns-in_err-cases : goal.graph-returns-in_err-cases
graph-returns-in_err-cases t c = made_memory form _ c.from_residual.ensures.1

pub graph-returns-in_err-stack : goal.graph-returns-in_err-stack
graph-returns-in_err-stack t c = made_memory form _ c.from_residual-in_err-stack.ensures.1

pub graph-run-requires : goal.graph-run-requires
graph-run-requires t c =
    let measure : 2 * weight_left (actions_of c.args.code.now) + 5 ≡ t = c.decreases in
    let left = extent_left (actions_of c.args.code.now) in
    (omega (arith, measure), (c.requires.ranged, (room_two (c.args.n + 1) leaf left (room_above c.args.n (above_two leaf left) c.requires.room)).1))

pub graph-returns-in_err-f : goal.graph-returns-in_err-f
graph-returns-in_err-f t c = made_err form form _ _ _ c.from_residual-in_err-f.ensures.1 (run_as c.args.at.now (actions_of c.args.code.now) (suc c.args.n) (c.args.n + 1) (linear.name c.args.n ∷ reverse c.args.stack) (reverse c.in_ok-stack.stack) _ (omega arith) (c.in_ok-stack.ensures ∙ ap (λ z. z ∷ reverse c.args.stack) c.name.ensures) c.in_err-f.ensures)

pub graph-returns-in_err-push : goal.graph-returns-in_err-push
graph-returns-in_err-push t c = made_memory form _ c.from_residual-in_err-push.ensures.1

pub graph-returns-in_err-quantified : goal.graph-returns-in_err-quantified
graph-returns-in_err-quantified t c = made_memory form _ c.from_residual-in_err-quantified.ensures.1

pub graph-returns : goal.graph-returns
graph-returns t c = made_ok form form _ _ (run_as c.args.at.now (actions_of c.args.code.now) (suc c.args.n) (c.args.n + 1) (linear.name c.args.n ∷ reverse c.args.stack) (reverse c.in_ok-stack.stack) _ (omega arith) (c.in_ok-stack.ensures ∙ ap (λ z. z ∷ reverse c.args.stack) c.name.ensures) c.in_ok-f.ensures) (made_just form _ _ (c.in_ok-quantified.ensures ∙ ap universal (c.junction.ensures ∙ ap (λ l. disjunction (forms l)) (ap (map form) c.in_ok-push.ensures.ok ∙ pushed _ _ _ refl ∙ ap (λ l. l ++ form c.in_ok-f.f ∷ []) c.in_ok-cases.ensures))))

pub tested-encoded-requires : goal.tested-encoded-requires
tested-encoded-requires t c =
    let measure : 2 * test_weight c.args.test.now + 2 ≡ t = c.decreases in let is = ap test_weight c.in-Formula.is in
    (omega (arith, is, measure), (subst IsTestRanged c.in-Formula.is c.requires.ranged, subst (λ z. HasNamesLeft c.args.n (test_extent z)) c.in-Formula.is c.requires.room))

pub tested-returns-in-Formula : goal.tested-returns-in-Formula
tested-returns-in-Formula t c = subst (λ z. Made form (stops.tested c.args.at.now c.args.n z c.args.plus) c.encoded.result) (sym c.in-Formula.is) c.encoded.ensures

pub tested-returns-in-Relation : goal.tested-returns-in-Relation
tested-returns-in-Relation t c =
    subst (λ z. Made form (stops.tested c.args.at.now c.args.n z c.args.plus) c.related.result) (sym c.in-Relation.is)
    (subst (λ q. Made form (related q c.in-Relation.s c.in-Relation.t) c.related.result) c.signed.ensures c.related.ensures)

pub relation-run-requires : goal.relation-run-requires
relation-run-requires t c =
    let measure : 2 * weight (compares c.args.r (expression c.args.s.now) (expression c.args.t.now)) ≡ t = c.decreases in
    let ready = relation_ready (expression c.args.s.now) (expression c.args.t.now) c.signed.result c.args.r (actions_of c.as_slice.result.now) c.args.n (ap actions_of c.as_slice.ensures ∙ c.in_ok-code.ensures) c.requires.ranged c.requires.room in
    let less = ready.0 in (omega (arith, measure, less), (ready.1, ready.2))

pub relation-returns-in_err-code : goal.relation-returns-in_err-code
relation-returns-in_err-code t c = made_memory form _ c.from_residual.ensures.1

pub relation-returns : goal.relation-returns
relation-returns t c =
    relation_made c.args.at.now c.args.n c.args.plus c.args.r c.signed.result (expression c.args.s.now) (expression c.args.t.now) (actions_of c.as_slice.result.now) _ c.run.result c.signed.ensures
    (ap actions_of c.as_slice.ensures ∙ c.in_ok-code.ensures) c.new.ensures c.run.ensures

pub predicate-run-requires : goal.predicate-run-requires
predicate-run-requires t c =
    let measure : 2 * weight (applies c.args.p (expressions_of c.args.terms.now)) ≡ t = c.decreases in
    let ready = predicate_ready (expressions_of c.args.terms.now) c.args.plus c.args.p (actions_of c.as_slice.result.now) c.args.n (ap actions_of c.as_slice.ensures ∙ c.in_ok-code.ensures) c.requires.ranged c.requires.room in
    let less = ready.0 in (omega (arith, measure, less), (ready.1, ready.2))

pub predicate-returns-in_err-code : goal.predicate-returns-in_err-code
predicate-returns-in_err-code t c = made_memory form _ c.from_residual.ensures.1

pub predicate-returns : goal.predicate-returns
predicate-returns t c =
    predicate_made c.args.at.now c.args.n c.args.plus c.args.p (expressions_of c.args.terms.now) (actions_of c.as_slice.result.now) _ c.run.result
    (ap actions_of c.as_slice.ensures ∙ c.in_ok-code.ensures) c.new.ensures c.run.ensures

pub connected-all_encoded-requires : goal.connected-all_encoded-requires
connected-all_encoded-requires t c =
    let measure : 2 * weights (formulas_of c.args.formulas.now) + 3 ≡ t = c.decreases in (omega (arith, measure), (c.requires.ranged, c.requires.room))

pub connected-returns-in_err-members : goal.connected-returns-in_err-members
connected-returns-in_err-members t c = made_err forms_of form _ (λ gs. just (junction c.args.conjoined gs)) _ c.from_residual.ensures.1 c.in_err-members.ensures

pub connected-returns : goal.connected-returns
connected-returns t c = made_ok forms_of form _ (λ gs. just (junction c.args.conjoined gs)) c.in_ok-members.ensures (made_just form _ _ c.junction.ensures)

pub joined-encoded-requires : goal.joined-encoded-requires
joined-encoded-requires t c =
    let measure : 2 * weight (formula c.args.g.now) + 2 * weight (formula c.args.h.now) + 2 ≡ t = c.decreases in let room = room_two c.args.n (extent (formula c.args.g.now)) (extent (formula c.args.h.now)) c.requires.room in
    (omega (arith, measure), (c.requires.left, room.0))

pub joined-encoded-requires-2 : goal.joined-encoded-requires-2
joined-encoded-requires-2 t c =
    let measure : 2 * weight (formula c.args.g.now) + 2 * weight (formula c.args.h.now) + 2 ≡ t = c.decreases in let room = room_two c.args.n (extent (formula c.args.g.now)) (extent (formula c.args.h.now)) c.requires.room in
    (omega (arith, measure), (c.requires.right, room.1))

pub joined-returns-in_err-one : goal.joined-returns-in_err-one
joined-returns-in_err-one t c = made_err form form _ _ _ c.from_residual.ensures.1 c.in_err-one.ensures

pub joined-returns-in_err-push : goal.joined-returns-in_err-push
joined-returns-in_err-push t c = made_memory form _ c.from_residual-in_err-push.ensures.1

pub joined-returns-in_err-other : goal.joined-returns-in_err-other
joined-returns-in_err-other t c = made_ok form form _ _ c.in_ok-one.ensures (made_err form form _ _ _ c.from_residual-in_err-other.ensures.1 c.in_err-other.ensures)

pub joined-returns-in_err-push-2 : goal.joined-returns-in_err-push-2
joined-returns-in_err-push-2 t c = made_memory form _ c.from_residual-in_err-push-2.ensures.1

pub joined-returns : goal.joined-returns
joined-returns t c =
    made_ok form form _ _ c.in_ok-one.ensures (made_ok form form _ _ c.in_ok-other.ensures (made_just form _ _ (c.junction.ensures
    ∙ ap (λ l. junction c.args.conjoined (forms_of l)) (two_items _ _ _ _ _ c.new-members.ensures c.in_ok-push.ensures.ok c.in_ok-push-2.ensures.ok))))

pub equivalent-joined-requires : goal.equivalent-joined-requires
equivalent-joined-requires t c =
    let measure : 2 * weight (formula c.args.g.now) + 2 * weight (formula c.args.h.now) + 3 ≡ t = c.decreases in
    let way = above_two (extent (formula c.args.g.now)) (extent (formula c.args.h.now)) in let room = (room_two c.args.n way way c.requires.room).0 in
    (omega (arith, measure), (c.requires.ranged.0, (c.requires.ranged.1, room)))

pub equivalent-joined-requires-2 : goal.equivalent-joined-requires-2
equivalent-joined-requires-2 t c =
    let measure : 2 * weight (formula c.args.g.now) + 2 * weight (formula c.args.h.now) + 3 ≡ t = c.decreases in
    let way = above_two (extent (formula c.args.g.now)) (extent (formula c.args.h.now)) in let room = (room_two c.args.n way way c.requires.room).0 in
    (omega (arith, measure), (c.requires.ranged.0, (c.requires.ranged.1, room)))

pub equivalent-returns-in_err-there : goal.equivalent-returns-in_err-there
equivalent-returns-in_err-there t c =
    ways_made (encoded c.args.at.now c.args.n (not c.args.plus) (formula c.args.g.now)) (encoded c.args.at.now c.args.n true (formula c.args.h.now)) (encoded c.args.at.now c.args.n c.args.plus (formula c.args.g.now)) (encoded c.args.at.now c.args.n false (formula c.args.h.now)) _
    (made_err form form _ _ _ c.from_residual.ensures.1 c.in_err-there.ensures)

pub equivalent-returns-in_err-push : goal.equivalent-returns-in_err-push
equivalent-returns-in_err-push t c = made_memory form _ c.from_residual-in_err-push.ensures.1

pub equivalent-returns-in_err-back : goal.equivalent-returns-in_err-back
equivalent-returns-in_err-back t c =
    ways_made (encoded c.args.at.now c.args.n (not c.args.plus) (formula c.args.g.now)) (encoded c.args.at.now c.args.n true (formula c.args.h.now)) (encoded c.args.at.now c.args.n c.args.plus (formula c.args.g.now)) (encoded c.args.at.now c.args.n false (formula c.args.h.now)) _
    (made_ok form form _ _ c.in_ok-there.ensures (made_err form form _ _ _ c.from_residual-in_err-back.ensures.1 c.in_err-back.ensures))

pub equivalent-returns-in_err-push-2 : goal.equivalent-returns-in_err-push-2
equivalent-returns-in_err-push-2 t c = made_memory form _ c.from_residual-in_err-push-2.ensures.1

pub equivalent-returns : goal.equivalent-returns
equivalent-returns t c =
    ways_made (encoded c.args.at.now c.args.n (not c.args.plus) (formula c.args.g.now)) (encoded c.args.at.now c.args.n true (formula c.args.h.now)) (encoded c.args.at.now c.args.n c.args.plus (formula c.args.g.now)) (encoded c.args.at.now c.args.n false (formula c.args.h.now)) _
    (made_ok form form _ _ c.in_ok-there.ensures (made_ok form form _ _ c.in_ok-back.ensures (made_just form _ _ (c.junction.ensures
    ∙ ap (λ l. junction true (forms_of l)) (two_items _ _ _ _ _ c.new-ways.ensures c.in_ok-push.ensures.ok c.in_ok-push-2.ensures.ok)))))

pub cases-case-requires : goal.cases-case-requires
cases-case-requires t c =
    let measure : 2 * test_weight c.args.test.now + 2 * weight_left (actions_of c.args.code.now) + 6 ≡ t = c.decreases in
    let case = above_two (test_extent c.args.test.now) (extent_left (actions_of c.args.code.now)) in let room = (room_two c.args.n case case c.requires.room).0 in
    (omega (arith, measure), (c.requires.test, (c.requires.ranged, room)))

pub cases-case-requires-2 : goal.cases-case-requires-2
cases-case-requires-2 t c =
    let measure : 2 * test_weight c.args.test.now + 2 * weight_left (actions_of c.args.code.now) + 6 ≡ t = c.decreases in
    let case = above_two (test_extent c.args.test.now) (extent_left (actions_of c.args.code.now)) in let room = (room_two c.args.n case case c.requires.room).0 in
    (omega (arith, measure), (c.requires.test, (c.requires.ranged, room)))

pub cases-returns-in_err-yes : goal.cases-returns-in_err-yes
cases-returns-in_err-yes t c =
    parted_made (stops.tested c.args.at.now c.args.n c.args.test.now) (reverse c.args.first) c.args.negate (reverse c.args.second) (ran c.args.at.now (actions_of c.args.code.now) c.args.n) _
    (made_err form form _ _ _ c.from_residual.ensures.1 c.in_err-yes.ensures)

pub cases-returns-in_err-push : goal.cases-returns-in_err-push
cases-returns-in_err-push t c = made_memory form _ c.from_residual-in_err-push.ensures.1

pub cases-returns-in_err-no : goal.cases-returns-in_err-no
cases-returns-in_err-no t c =
    parted_made (stops.tested c.args.at.now c.args.n c.args.test.now) (reverse c.args.first) c.args.negate (reverse c.args.second) (ran c.args.at.now (actions_of c.args.code.now) c.args.n) _
    (made_ok form form _ _ c.in_ok-yes.ensures (made_err form form _ _ _ c.from_residual-in_err-no.ensures.1 c.in_err-no.ensures))

pub cases-returns-in_err-push-2 : goal.cases-returns-in_err-push-2
cases-returns-in_err-push-2 t c = made_memory form _ c.from_residual-in_err-push-2.ensures.1

pub cases-returns : goal.cases-returns
cases-returns t c =
    parted_made (stops.tested c.args.at.now c.args.n c.args.test.now) (reverse c.args.first) c.args.negate (reverse c.args.second) (ran c.args.at.now (actions_of c.args.code.now) c.args.n) _
    (made_ok form form _ _ c.in_ok-yes.ensures (made_ok form form _ _ c.in_ok-no.ensures (made_just form _ _ (c.junction.ensures
    ∙ ap (λ l. junction false (forms_of l)) (two_items _ _ _ _ _ c.new-both.ensures c.in_ok-push.ensures.ok c.in_ok-push-2.ensures.ok)))))

pub case-tested-requires : goal.case-tested-requires
case-tested-requires t c =
    let measure : 2 * test_weight c.args.test.now + 2 * weight_left (actions_of c.args.code.now) + 5 ≡ t = c.decreases in let room = room_two c.args.n (test_extent c.args.test.now) (extent_left (actions_of c.args.code.now)) c.requires.room in
    (omega (arith, measure), (c.requires.test, room.0))

pub case-run-requires : goal.case-run-requires
case-run-requires t c =
    let measure : 2 * test_weight c.args.test.now + 2 * weight_left (actions_of c.args.code.now) + 5 ≡ t = c.decreases in let room = room_two c.args.n (test_extent c.args.test.now) (extent_left (actions_of c.args.code.now)) c.requires.room in
    (omega (arith, measure), (c.requires.ranged, room.1))

pub case-returns-in_err-when : goal.case-returns-in_err-when
case-returns-in_err-when t c = made_err form form _ _ _ c.from_residual.ensures.1 c.in_err-when.ensures

pub case-returns-in_err-push : goal.case-returns-in_err-push
case-returns-in_err-push t c = made_memory form _ c.from_residual-in_err-push.ensures.1

pub case-returns-in_err-stack : goal.case-returns-in_err-stack
case-returns-in_err-stack t c = made_ok form form _ _ c.in_ok-when.ensures (made_err form form _ _ _ c.from_residual-in_err-stack.ensures.1 (made_err (λ vs. reverse vs) form _ _ _ refl c.in_err-stack.ensures))

pub case-returns-in_err-then : goal.case-returns-in_err-then
case-returns-in_err-then t c = made_ok form form _ _ c.in_ok-when.ensures (made_err form form _ _ _ c.from_residual-in_err-then.ensures.1 (made_ok (λ vs. reverse vs) form _ _ c.in_ok-stack.ensures c.in_err-then.ensures))

pub case-returns-in_err-push-2 : goal.case-returns-in_err-push-2
case-returns-in_err-push-2 t c = made_memory form _ c.from_residual-in_err-push-2.ensures.1

pub case-returns : goal.case-returns
case-returns t c =
    made_ok form form _ _ c.in_ok-when.ensures (made_ok form form _ _ (made_ok (λ vs. reverse vs) form _ _ c.in_ok-stack.ensures c.in_ok-then.ensures) (made_just form _ _ (c.junction.ensures
    ∙ ap (λ l. junction true (forms_of l)) (two_items _ _ _ _ _ c.new-members.ensures c.in_ok-push.ensures.ok c.in_ok-push-2.ensures.ok))))
