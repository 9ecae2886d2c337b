use Rattle.std.proofs.Common.{◌∷◌, [], sym, subst, cond}
use Rattle.proof_tokens.specs.declared.tokens.Token.TheVariants as t
use Rattle.proof_tokens.specs.Lines.{AnyEntries, entries_text}
use Rattle.proof_tokens.specs.Reading.{Cuts, RefusesProof}
use Rattle.proof_tokens.proofs.Refusals.{fails}
use Rattle.proof_tokens.proofs.EntryLines.{before, no_separator, no_step, cut_step, cut_end}
use Rattle.proof_tokens.proofs.lines.entries.Goals as goal

pub returns-in_err-more-clause-first : goal.returns-in_err-more-clause-first
returns-in_err-more-clause-first c =
    fails c.in_err-more.field-0.0 c.from_residual.result (RefusesProof AnyEntries entries_text c.args.text.now) c.from_residual.ensures.1
    (no_separator c.items.found c.args.text.now c.items.rest.now c.in_err-more.field-0.0 c.items.invariant c.in_err-more.ensures.lacks)

pub returns-then-not-more-clause-found : goal.returns-then-not-more-clause-found
returns-then-not-more-clause-found c =
    cut_end c.items.found c.args.text.now c.items.rest.now c.in_ok-more.item.now c.items.invariant
    (subst (λ b. Cuts (cond b t.Blank t.LineFeed ∷ []) c.items.rest.now c.in_ok-more.item.now) c.if-not-more.true c.in_ok-more.ensures.found)

pub returns-in_err-step-clause-first : goal.returns-in_err-step-clause-first
returns-in_err-step-clause-first c =
    fails c.in_err-step.field-0.0 c.from_residual-in_err-step.result (RefusesProof AnyEntries entries_text c.args.text.now) c.from_residual-in_err-step.ensures.1
    (no_step c.items.found c.args.text.now c.items.rest.now c.in_ok-more.item.now c.in_err-step.field-0.0 c.items.invariant
    (subst (λ b. Cuts (cond b t.Blank t.LineFeed ∷ []) c.items.rest.now c.in_ok-more.item.now) c.if-not-more.false c.in_ok-more.ensures.found)
    c.in_err-step.ensures.lacks)

pub items-preserved : goal.items-preserved
items-preserved c =
    subst (λ z. Cuts (before z) c.args.text.now c.in_ok-step.behind.now) (sym c.in_ok-push.ensures.ok)
    (cut_step c.items.found c.in_ok-step.step c.args.text.now c.items.rest.now c.in_ok-more.item.now c.in_ok-step.behind.now c.items.invariant
    (subst (λ b. Cuts (cond b t.Blank t.LineFeed ∷ []) c.items.rest.now c.in_ok-more.item.now) c.if-not-more.false c.in_ok-more.ensures.found)
    c.in_ok-step.ensures.found)
