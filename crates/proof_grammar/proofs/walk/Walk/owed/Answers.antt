use Rattle.proof_grammar.proofs.Walking.{root_owed, inside_owed}
use Rattle.proof_grammar.proofs.walk.Walk.owed.Goals as goal

pub returns-in-Root : goal.returns-in-Root
returns-in-Root c = root_owed c.args.self.now c.in-Root.is

pub returns-in-Inside : goal.returns-in-Inside
returns-in-Inside c = inside_owed c.args.self.now c.in-Inside.node c.next_of.result c.in-Inside.is c.next_of.ensures
