use Rattle.std.proofs.Common.{map}
use Rattle.smt_reader.specs.Effects.{command_is}
use Rattle.smt_reader.proofs.Replaying.{lowest_force, lowest_within, popped_force, popped_within}
use Rattle.smt_reader.proofs.forces.Forces.pop_one.Goals as goal

pub invariant_of-result : goal.invariant_of-result
invariant_of-result c = record { within = lowest_within (map command_is c.args.self.effects) c.pop.new.self c.in_default.ensures.1 }

pub returns-in_default : goal.returns-in_default
returns-in_default c = lowest_force (map command_is c.args.self.effects) c.args.self.marks c.pop.new.self c.in_default.ensures.0 c.in_default.ensures.1

pub invariant_of-result-2 : goal.invariant_of-result-2
invariant_of-result-2 c = record { within = popped_within command_is c.args.self.effects c.first_ones-effects.result c.args.self.marks c.pop.new.self c.in-Some.mark c.first_ones-effects.ensures c.in-Some.ensures c.args.self.within }

pub returns : goal.returns
returns c = popped_force command_is c.args.self.effects c.first_ones-effects.result c.args.self.marks c.pop.new.self c.in-Some.mark c.first_ones-effects.ensures c.in-Some.ensures
