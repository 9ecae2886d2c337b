use Rattle.std.proofs.Common.{ap, ◌∙◌, map, arith}
use Rattle.smt_terms.specs.Translation.{asserted}
use Rattle.smt_reader.proofs.Asserted.{all_claims, asserted_more}
use Rattle.smt_reader.proofs.posing.assertions.Goals as goal

pub loop-claim-preserved : goal.loop-claim-preserved
loop-claim-preserved c cs h = asserted_more c.args.definitions.now c.first_ones-visible.result.now c.args.claims.now cs c.loop-claim.claim-index _ c.claim-item.result c.loop-claim.members c.push.new.self
    c.in_ok-write_formula.field-0 h c.loop-claim-test.true c.claim-item.is c.first_ones-visible.ensures c.in_ok-write_formula.ensures c.in_ok-push.ensures.ok (c.loop-claim.invariant cs h)

pub returns : goal.returns
returns c cs h =
    c.loop-claim.invariant cs h ∙ ap (map (λ c'. asserted c'.globals c.args.constants c'.term))
    (all_claims c.args.definitions.now c.args.claims.now cs c.loop-claim.claim-index h (omega (arith, c.loop-claim-test.false, c.loop-claim.auto.claim-index-end)))
