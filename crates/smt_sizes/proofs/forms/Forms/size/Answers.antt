use Rattle.std.proofs.Common.{◌≡◌, ◌∙◌, [], true, false, length, sym, ap, subst}
use Rattle.smt_names.specs.Body.{shape}
use Rattle.smt_sizes.specs.Weight.{fitted}
use Rattle.smt_sizes.specs.Linear.{Sum, sum, value}
use Rattle.smt_sizes.specs.Shapes.{AreForms, shape_weighed, weighing_of}
use Rattle.smt_sizes.proofs.Algebra.{none-none}
use Rattle.smt_sizes.proofs.Adding.{adds-value, not-formula}
use Rattle.smt_sizes.proofs.Shapes.{body-size}
use Rattle.smt_sizes.proofs.Describing.{counted-size}
use Rattle.smt_sizes.proofs.forms.Forms.size.Goals as goal

pub returns-then-not-branch : goal.returns-then-not-branch
returns-then-not-branch c = λ d n.
    let x = shape_weighed (weighing_of c.args.definitions.now) [] (shape c.args.body.now) in
    let forms : AreForms c.as_slice.result.now c.args.definitions.now = subst (λ fs. AreForms fs c.args.definitions.now) (sym c.as_slice.ensures.value) d.1 in
    let kind : x.is_formula ≡ false = sym (c.in_ok-kind.ensures.of forms [] c.new-scope.ensures.items) ∙ c.if-not-branch.true in
    c.fitted.ensures ∙ ap fitted (sym (not-formula x kind)) ∙ sym (body-size c.args.definitions.now c.args.body.now n)

pub returns : goal.returns
returns c = λ d n.
    let x = shape_weighed (weighing_of c.args.definitions.now) [] (shape c.args.body.now) in
    let forms : AreForms c.as_slice.result.now c.args.definitions.now = subst (λ fs. AreForms fs c.args.definitions.now) (sym c.as_slice.ensures.value) d.1 in
    let kind : x.is_formula ≡ true = sym (c.in_ok-kind.ensures.of forms [] c.new-scope.ensures.items) ∙ c.if-not-branch.false in
    let l = c.in_ok-linear.linear in
    c.fitted-2.ensures
    ∙ counted-size l.constant l.uses.items c.plus.result (value (sum c.new-none.result) []) x (ap (λ s. value s []) c.new-none.ensures ∙ none-none)
    (adds-value c.kind.new.scope.items c.new-none.result l _ (c.in_ok-linear.ensures.adds forms) [] (c.in_ok-kind.ensures.same ∙ c.new-scope.ensures.items) (ap (λ (s : Sum). length s.uses) c.new-none.ensures))
    kind c.plus.ensures
    ∙ sym (body-size c.args.definitions.now c.args.body.now n)
