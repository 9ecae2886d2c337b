use Rattle.proof_grammar.proofs.Walking.{leave_none, leave_some}
use Rattle.proof_grammar.proofs.walk.Walk.leave.Goals as goal

pub returns-in_default-clause-owed : goal.returns-in_default-clause-owed
returns-in_default-clause-owed c = λ os e. leave_none c.args.self.now.parts c.args.self.now.place c.args.self.now.outer os c.in_default.ensures.0 e

pub returns-clause-owed : goal.returns-clause-owed
returns-clause-owed c = λ os e. leave_some c.args.self.now.parts c.args.self.now.place c.args.self.now.outer c.pop.new.self c.in-Some.node os c.in-Some.ensures e
