use Rattle.proof_constraint.specs.Behind as b
use Rattle.proof_constraint.specs.State as s
use Rattle.proof_constraint.specs.Places.{state_of}
use Rattle.proof_constraint.specs.Steps.{ReachesState}
use Rattle.proof_constraint.proofs.Skimming.{blank_reaches, ok_more, reaches_more}
use Rattle.proof_constraint.proofs.phrases.started.Goals as goal

pub returns-clause-exact : goal.returns-clause-exact
returns-clause-exact c =
    ok_more (λ x. ReachesState (s.Blank (b.Start c.args.draft.now)) (state_of x.0 c.begun.new.draft) c.in-Ok.rest.now x.1.now) (λ x. ReachesState (s.Behind (b.Start c.args.draft.now)) (state_of x.0 c.begun.new.draft) c.args.text.now x.1.now)
    c.begun.result
    (λ x h. reaches_more (s.Behind (b.Start c.args.draft.now)) (s.Blank (b.Start c.args.draft.now)) (state_of x.0 c.begun.new.draft) c.args.text.now c.in-Ok.rest.now x.1.now (blank_reaches c.args.draft.now c.args.text.now c.in-Ok.rest.now c.in-Ok.ensures.found) h)
    c.begun.ensures.exact
