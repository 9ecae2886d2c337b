use Rattle.std.proofs.Common.{◌++◌, refl, ap, sym, ◌∙◌}
use Rattle.std.proofs.lemmas.Result.{IfOk-weaker}
use Rattle.smt_names.specs.Body.{shape, shapes_of}
use Rattle.smt_names.specs.Saying.{bound_said, shape_said, shapes_said}
use Rattle.smt_names.proofs.Saying.{call-kept}
use Rattle.smt_names.proofs.Behind.{bound-behind}
use Rattle.smt_names.proofs.binding.bind.Goals as goal

pub returns-then-are_within : goal.returns-then-are_within
returns-then-are_within c = λ D e n long.
    let p = bound-behind D e c.args.kept in
    let here = c.if-are_within.ensures refl D e p.0 long in
    let args = ap (λ z. shapes_said D (e ++ p.0) (shapes_of z)) (sym c.as_slice.ensures) ∙ here ∙ ap (λ z. shapes_said D e (shapes_of z)) c.as_slice.ensures in
    call-kept D e c.in-Defined.k c.in-Defined.arguments n ∙ ap (λ z. D c.in-Defined.k z n) (sym args)
    ∙ ap (λ z. D c.in-Defined.k (shapes_said D z (shapes_of c.in-Defined.arguments)) n) (sym p.1)
    ∙ sym (call-kept D (bound_said D e (shapes_of c.args.kept)) c.in-Defined.k c.in-Defined.arguments n)
    ∙ ap (λ z. shape_said D (bound_said D e (shapes_of c.args.kept)) (shape z) n) (sym c.in-Defined.is)

pub returns-else-are_within : goal.returns-else-are_within
returns-else-are_within c =
    IfOk-weaker c.behind.result _ _ (λ r h D e n long. h D e n ∙ ap (λ z. shape_said D (bound_said D e (shapes_of c.args.kept)) (shape z) n) (sym c.in-Defined.is)) c.behind.ensures
