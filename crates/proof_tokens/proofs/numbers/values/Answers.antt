use Rattle.std.proofs.Common.{rules, ◌∷◌, [], subst, cond, to_z-of_z}
use mir.Syntax.{w128}
use mir.Val.{SFits}
use Rattle.linear_term.specs.Range.{InRange}
use Rattle.proof_tokens.specs.declared.tokens.Token.TheVariants as t
use Rattle.proof_tokens.specs.Lines.{AreValues, value_text, values_text}
use Rattle.proof_tokens.specs.Reading.{Cuts, RefusesProof}
use Rattle.proof_tokens.proofs.Refusals.{fails}
use Rattle.proof_tokens.proofs.ItemLines.{no_separator, item_refused, cut_item, cut_end, items_more}
use Rattle.proof_tokens.proofs.Integers.{value_apart}
use Rattle.proof_tokens.proofs.numbers.values.Goals as goal

pub returns-in_err-more-clause-first : goal.returns-in_err-more-clause-first
returns-in_err-more-clause-first c =
    fails c.in_err-more.field-0.0 c.from_residual.result (RefusesProof AreValues values_text c.args.text.now) c.from_residual.ensures.1
    (no_separator InRange value_text value_apart c.items.found c.args.text.now c.items.rest.now c.in_err-more.field-0.0 c.items.invariant.all c.items.invariant.cut c.in_err-more.ensures.lacks)

pub returns-then-not-more-clause-found : goal.returns-then-not-more-clause-found
returns-then-not-more-clause-found c = (
  c.items.invariant.all,
  cut_end value_text c.items.found c.args.text.now c.items.rest.now c.in_ok-more.item.now c.items.invariant.cut
      (subst (λ b. Cuts (cond b t.Blank t.LineFeed ∷ []) c.items.rest.now c.in_ok-more.item.now) c.if-not-more.true c.in_ok-more.ensures.found),
)

pub returns-in_err-number-clause-first : goal.returns-in_err-number-clause-first
returns-in_err-number-clause-first c =
    fails c.in_err-number.field-0.0 c.from_residual-in_err-number.result (RefusesProof AreValues values_text c.args.text.now) c.from_residual-in_err-number.ensures.1
    (item_refused InRange value_text value_apart c.items.found c.args.text.now c.items.rest.now c.in_ok-more.item.now c.in_err-number.field-0.0 c.items.invariant.all c.items.invariant.cut
    (subst (λ b. Cuts (cond b t.Blank t.LineFeed ∷ []) c.items.rest.now c.in_ok-more.item.now) c.if-not-more.false c.in_ok-more.ensures.found)
    c.in_err-number.ensures.first)

pub items-preserved : goal.items-preserved
items-preserved c =
    let v : SFits w128 c.in_ok-number.number = search rules in
    let pushed = simp to_z-of_z at c.in_ok-push.ensures.ok in
    record {
      all = rw pushed (items_more InRange c.items.found c.in_ok-number.number c.items.invariant.all c.in_ok-number.ensures.found.0);
      cut = rw pushed
          (cut_item value_text c.items.found c.in_ok-number.number c.args.text.now c.items.rest.now c.in_ok-more.item.now c.in_ok-number.behind.now c.items.invariant.cut
          (subst (λ b. Cuts (cond b t.Blank t.LineFeed ∷ []) c.items.rest.now c.in_ok-more.item.now) c.if-not-more.false c.in_ok-more.ensures.found)
          c.in_ok-number.ensures.found.1);
    }
