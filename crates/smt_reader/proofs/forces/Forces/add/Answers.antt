use Rattle.std.proofs.Common.{◌∷◌, [], ap, map, refl, ◌∙◌}
use Rattle.std.proofs.lemmas.List.{map-append}
use Rattle.smt_commands.proofs.Marks.{more_within, view_more}
use Rattle.smt_reader.specs.Effects.{command_is}
use Rattle.smt_reader.specs.Forces.{force}
use Rattle.smt_reader.proofs.forces.Forces.add.Goals as goal

pub invariant_of-result : goal.invariant_of-result
invariant_of-result c = record {
  within = more_within (map command_is c.args.self.effects) (map command_is c.push.new.self) (command_is c.args.effect) c.args.self.marks
      (ap (map command_is) c.in_ok-push.ensures.ok ∙ map-append command_is c.args.self.effects (c.args.effect ∷ [])) c.args.self.within;
}

pub returns : goal.returns
returns c =
    view_more (map command_is c.args.self.effects) (map command_is c.push.new.self) (command_is c.args.effect) c.args.self.marks (force c.args.self)
    (ap (map command_is) c.in_ok-push.ensures.ok ∙ map-append command_is c.args.self.effects (c.args.effect ∷ [])) c.args.self.within refl
