use Rattle.std.proofs.Common.{◌+◌, ap, map, refl, ◌∙◌}
use Rattle.form_typed.specs.Formula.{formula}
use Rattle.form_encoding.specs.Problems.{constants}
use Rattle.itp_sides.specs.Closing.{numbers_from, quantified, rebound, renamed}
use Rattle.pred_interpolant.proofs.Tables.{if_ok, table_sends}
use Rattle.pred_interpolant.proofs.closing.closed.Goals as goal

pub returns : goal.returns
returns c =
    let n = constants c.args.p.now in
    let own = c.args.own.now in
    let table = c.deref.ensures.value ∙ c.in_ok-table.ensures ∙ (λ i. map (rebound (c.len.ensures i + c.len-2.ensures i) own) (numbers_from 0 (c.len.ensures i + c.len-2.ensures i))) in
    let body = c.in_ok-body.ensures ∙ ap (λ r. renamed r (formula c.args.f.now)) (table_sends n own c.deref.result.now _ table refl) in
    let sorts = c.deref-2.ensures.value ∙ c.in_ok-sorts.ensures in
    if_ok c.quantified.result _ _ (λ g k. k ∙ (λ i. quantified c.args.all (sorts i) (body i))) c.quantified.ensures
