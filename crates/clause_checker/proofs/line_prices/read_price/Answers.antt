use Rattle.std.proofs.Common.{rules, ◌≡◌, suc, Some, sym, ap, ◌∙◌}
use Rattle.std.specs.Option.{option_map}
use Rattle.base_budget.specs.Trace.{capped}
use Rattle.formula.specs.Tree.{form}
use Rattle.clause_checker.specs.Prices as prices
use Rattle.clause_checker.specs.Views.{pair_is}
use Rattle.clause_checker.proofs.Prices.{one_more, reads_more, reads_stop}
use Rattle.clause_checker.proofs.line_prices.read_price.Goals as goal

pub returns-in-None : goal.returns-in-None
returns-in-None c = reads_stop c.loop.ws c.args.bs.now c.loop.index c.loop.total _ (form c.loop.rest.now) c.loop-test.true (sym c.reading.ensures ∙ ap (option_map pair_is) c.in-None.is) c.loop.invariant

pub loop-preserved : goal.loop-preserved
loop-preserved c =
    let found : prices.reading_of (form c.loop.rest.now) ≡ Some (form c.in-Some.first.now, form c.in-Some.second.now) = sym c.reading.ensures ∙ ap (option_map pair_is) c.in-Some.is ∙ (search rules) in
    let copies : c.with_one-copies.result ≡ capped (suc (prices.widths_price c.loop.ws)) =
    c.with_one-copies.ensures ∙ one_more c.widths_price.result (prices.widths_price c.loop.ws) (c.widths_price.ensures ∙ ap (λ l. capped (prices.widths_price l)) c.as_slice.ensures)
    in
    let arguments : c.arguments_price-arguments.result ≡ capped (prices.arguments_price c.loop.ws (form c.in-Some.first.now)) =
    c.arguments_price-arguments.ensures ∙ ap (λ l. capped (prices.arguments_price l (form c.in-Some.first.now))) c.as_slice-in-Some.ensures
    in
    reads_more c.loop.ws c.push.new.self c.args.bs.now c.loop.index (form c.loop.rest.now) (form c.in-Some.first.now) (form c.in-Some.second.now) c.loop.total c.with_one-copies.result c.arguments_price-arguments.result c.saturating_add-total.result _ c.loop-test.true found
    c.in_ok-push-in-Some.ensures.ok copies arguments (search rules) c.loop.invariant
