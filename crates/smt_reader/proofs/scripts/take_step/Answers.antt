use Rattle.std.proofs.Common.{◌∷◌, ap, map, refl, subst}
use Rattle.smt_terms.specs.Term.{phrase}
use Rattle.smt_reader.specs.Commands.{leaves, restarts}
use Rattle.smt_reader.specs.Effects.{act_is, command_is}
use Rattle.smt_reader.specs.Forces.{force}
use Rattle.smt_reader.specs.Taking.{AreTaken}
use Rattle.smt_reader.proofs.Taking.{asked_none, asked_some, taken_quiet}
use Rattle.smt_reader.proofs.scripts.take_step.Goals as goal

pub returns-in-Some : goal.returns-in-Some
returns-in-Some c rest all h =
    asked_some (force c.args.taken.forces) c.args.taken.checks c.in-Some.checks (map command_is c.effects.result.now) (map phrase c.as_slice.result.now) (map phrase c.in-Asks.assumed) (act_is c.args.step) _ rest all h
    (ap act_is c.in-Asks.is) c.effects.ensures (ap (map phrase) c.as_slice.ensures) c.in-Some.is c.in_ok-checks-in-Asks.ensures

pub returns-in-None : goal.returns-in-None
returns-in-None c rest all h =
    asked_none (force c.args.taken.forces) c.args.taken.checks (map command_is c.effects.result.now) (map phrase c.as_slice.result.now) (map phrase c.in-Asks.assumed) (act_is c.args.step) _ rest all h
    (ap act_is c.in-Asks.is) c.effects.ensures (ap (map phrase) c.as_slice.ensures) c.in-None.is c.in_ok-checks-in-Asks.ensures

pub returns-in-Leaves : goal.returns-in-Leaves
returns-in-Leaves c rest all h =
    taken_quiet (force c.args.taken.forces) (force c.pop-forces.result) c.args.taken.checks (leaves c.in-Leaves.count) rest all
    (subst (λ z. AreTaken (force c.args.taken.forces) c.args.taken.checks (act_is z ∷ rest) all) c.in-Leaves.is h) refl c.pop-forces.ensures

pub returns-in-Restarts : goal.returns-in-Restarts
returns-in-Restarts c rest all h =
    taken_quiet (force c.args.taken.forces) (force c.new-forces.result) c.args.taken.checks restarts rest all
    (subst (λ z. AreTaken (force c.args.taken.forces) c.args.taken.checks (act_is z ∷ rest) all) c.in-Restarts.is h) refl c.new-forces.ensures
