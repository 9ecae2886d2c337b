use Rattle.std.proofs.Common.{rules, ap}
use Rattle.proof_tokens.specs.Reading.{RefusesProof}
use Rattle.proof_tokens.proofs.Refusals.{fails}
use Rattle.proof_constraint.specs.Places.{state_of, move_of}
use Rattle.proof_constraint.specs.Text.{AreClauses, gives_text}
use Rattle.proof_constraint.proofs.Gives.{goes_far, goes_on, ends, ends_clause, at_end, at_bad, no_gives}
use Rattle.proof_constraint.proofs.Loop.{fine_in_range}
use Rattle.proof_constraint.proofs.reading.any_given.Goals as goal

pub returns-in_err-rest-clause-first : goal.returns-in_err-rest-clause-first
returns-in_err-rest-clause-first c =
    fails c.in_err-rest.field-0.0 c.from_residual.result (RefusesProof AreClauses gives_text c.args.text.now) c.from_residual.ensures.1
    (no_gives c.args.text.now c.in_err-rest.field-0.0 c.in_err-rest.ensures.lacks)

pub skim-requires : goal.skim-requires
skim-requires c = record { in_range = fine_in_range (state_of c.tokens.place c.tokens.draft) c.tokens.invariant.fine }

pub tokens-preserved-then-ahead-rest : goal.tokens-preserved-then-ahead-rest
tokens-preserved-then-ahead-rest c =
    goes_far (state_of c.tokens.place c.tokens.draft) (state_of c.in_ok-at.at c.skim.new.draft) c.args.text.now c.tokens.rest.now c.in_ok-at.ahead.now c.in_ok-at.ensures.exact c.tokens.invariant

pub returns-in_default-next-clause-first : goal.returns-in_default-next-clause-first
returns-in_default-next-clause-first c =
    at_end (state_of c.in_ok-at.at c.skim.new.draft) c.args.text.now c.in_ok-at.ahead.now c.in_default-next.ensures.exact
    (goes_far (state_of c.tokens.place c.tokens.draft) (state_of c.in_ok-at.at c.skim.new.draft) c.args.text.now c.tokens.rest.now c.in_ok-at.ahead.now c.in_ok-at.ensures.exact c.tokens.invariant)

pub step-requires-clause-in_range : goal.step-requires-clause-in_range
step-requires-clause-in_range c =
    let h = goes_far (state_of c.tokens.place c.tokens.draft) (state_of c.in_ok-at.at c.skim.new.draft) c.args.text.now c.tokens.rest.now c.in_ok-at.ahead.now c.in_ok-at.ensures.exact c.tokens.invariant in
    fine_in_range (state_of c.in_ok-at.at c.skim.new.draft) h.fine

pub returns-in-Bad-clause-first : goal.returns-in-Bad-clause-first
returns-in-Bad-clause-first c =
    at_bad (state_of c.in_ok-at.at c.skim.new.draft) c.in-Some-next.token c.args.text.now c.in_ok-at.ahead.now c.in-Some-next.more.now (move_of c.in_ok-step.field-0 c.step.new.draft) c.in_ok-step.ensures (ap (λ p. move_of p c.step.new.draft) c.in-Bad.is)
    c.in-Some-next.ensures.exact.0
    (goes_far (state_of c.tokens.place c.tokens.draft) (state_of c.in_ok-at.at c.skim.new.draft) c.args.text.now c.tokens.rest.now c.in_ok-at.ahead.now c.in_ok-at.ensures.exact c.tokens.invariant)

pub returns-in-Done-clause-found : goal.returns-in-Done-clause-found
returns-in-Done-clause-found c =
    ends (state_of c.in_ok-at.at c.skim.new.draft) c.step.new.draft.clauses c.in-Some-next.token c.args.text.now c.in_ok-at.ahead.now c.in-Some-next.more.now (move_of c.in_ok-step.field-0 c.step.new.draft) c.in_ok-step.ensures
    (ap (λ p. move_of p c.step.new.draft) c.in-Done.is) c.in-Some-next.ensures.ranged c.in-Some-next.ensures.exact.0
    (goes_far (state_of c.tokens.place c.tokens.draft) (state_of c.in_ok-at.at c.skim.new.draft) c.args.text.now c.tokens.rest.now c.in_ok-at.ahead.now c.in_ok-at.ensures.exact c.tokens.invariant)

pub tokens-preserved : goal.tokens-preserved
tokens-preserved c =
    goes_on (state_of c.in_ok-at.at c.skim.new.draft) (state_of c.in-On.then c.step.new.draft) c.in-Some-next.token c.args.text.now c.in_ok-at.ahead.now c.in-Some-next.more.now (move_of c.in_ok-step.field-0 c.step.new.draft) c.in_ok-step.ensures
    (ap (λ p. move_of p c.step.new.draft) c.in-On.is) c.in-Some-next.ensures.ranged c.in-Some-next.ensures.exact.0
    (goes_far (state_of c.tokens.place c.tokens.draft) (state_of c.in_ok-at.at c.skim.new.draft) c.args.text.now c.tokens.rest.now c.in_ok-at.ahead.now c.in_ok-at.ensures.exact c.tokens.invariant)

pub returns-in-Some-clause-found : goal.returns-in-Some-clause-found
returns-in-Some-clause-found c =
    ends_clause c.in_ok-at.at c.skim.new.draft c.end_clause.new.self.clauses c.args.text.now c.in_ok-at.ahead.now c.in-Some.more.now c.in-Some.ensures.0 (search rules) c.in-Some.ensures.1
    (goes_far (state_of c.tokens.place c.tokens.draft) (state_of c.in_ok-at.at c.skim.new.draft) c.args.text.now c.tokens.rest.now c.in_ok-at.ahead.now c.in_ok-at.ensures.exact c.tokens.invariant)
