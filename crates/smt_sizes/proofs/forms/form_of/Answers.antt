use Rattle.std.proofs.Common.{◌≡◌, ◌∙◌, length, sym, ap}
use Rattle.std.proofs.lemmas.List.{length-replicate}
use Rattle.smt_names.specs.Body.{shape}
use Rattle.smt_sizes.specs.Weight.{nothing, unit, plus, times}
use Rattle.smt_sizes.specs.Linear.{kinds, weights}
use Rattle.smt_sizes.specs.Shapes.{shape_weighed, weighing_of}
use Rattle.smt_sizes.proofs.Algebra.{times-settled}
use Rattle.smt_sizes.proofs.Adding.{adds-count, adds-value, blank-value}
use Rattle.smt_sizes.proofs.Describing.{terms-kinds}
use Rattle.smt_sizes.proofs.forms.form_of.Goals as goal

pub returns : goal.returns
returns c = λ forms xs terms long.
    let v = shape_weighed (weighing_of c.args.defined.now.bodies.now) xs (shape c.args.body.now) in
    let none = c.in_ok-none.none in
    let blank = c.in_ok-none.ensures in
    let adds = c.in_ok-linear.ensures.adds forms in
    let same : length xs ≡ length none.uses.items = long ∙ adds-count c.kind.new.scope.items none c.in_ok-linear.linear _ adds in
    let count : length xs ≡ c.args.parameters = same ∙ ap length blank.uses ∙ length-replicate c.args.parameters nothing in
    let scope : c.in_ok-scope.scope.items ≡ kinds xs = c.in_ok-scope.ensures ∙ terms-kinds xs c.args.parameters terms count in (
      sym (c.in_ok-is_formula.ensures.of forms xs scope),
      sym (adds-value c.kind.new.scope.items none c.in_ok-linear.linear _ adds xs (c.in_ok-is_formula.ensures.same ∙ scope) (sym same)
          ∙ ap (λ z. plus z (times unit v.weight)) (blank-value none c.args.parameters (weights xs) blank.uses blank.constant) ∙ times-settled unit v.weight),
    )
