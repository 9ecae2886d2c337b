use Rattle.std.proofs.Common.{rules, ◌≡◌, ◌∷◌, length}
use Rattle.model_formulas.proofs.Readings.{is_read}
use Rattle.model_formulas.proofs.reading.read.Goals as goal

pub returns : goal.returns
returns c =
    let parts : c.as_slice.result.now ≡ c.in-Some.first.now ∷ c.in-Some.field-0-1.now = search rules in
    let n_is : c.in-Ok.n ≡ length c.args.ts.now = search rules in
    is_read c.args.model.now c.args.body.now c.in-Some.first.now c.in-Or.members c.as_slice.result.now c.in-Some.field-0-1.now c.in-NotFun.f c.in-Ok.n c.in-NotFun.us c.as_slice-3.result.now c.as_slice-2.result.now c.in_ok-arguments.arguments
    c.as_slice-4.result.now c.in-NotFun.u c.args.ts.now c.in_ok-choices.field-0 c.are_over.result c.in_ok-choices.ensures c.as_slice-4.ensures c.in_ok-arguments.ensures c.as_slice-3.ensures c.in-NotFun.is parts c.as_slice.ensures c.in-Or.is
    (c.is_name.ensures c.if-not-is_name.false) n_is c.as_slice-2.ensures c.are_over.ensures c.if-not-are_over.false
