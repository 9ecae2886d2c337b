use Rattle.proof_grammar.proofs.Walking.{end_outside}
use Rattle.proof_grammar.proofs.walk.Walk.end.Goals as goal

pub returns-clause-owed : goal.returns-clause-owed
returns-clause-owed c = λ m os e. end_outside c.args.self.now.parts m c.args.self.now.place c.args.self.now.outer os e
