use Rattle.proof_grammar.proofs.Inner.{inner_line, not_opening}
use Rattle.proof_grammar.proofs.walk.Walk.pay.Goals as goal

pub returns-in-Head-clause-ok : goal.returns-in-Head-clause-ok
returns-in-Head-clause-ok c = λ os e. absurd (not_opening c.args.line.now c.in-Head.is (inner_line c.args.self.now c.args.owed os c.args.line.now e c.requires))

pub returns-in-Head-clause-inner : goal.returns-in-Head-clause-inner
returns-in-Head-clause-inner c = λ os e. inner_line c.args.self.now c.args.owed os c.args.line.now e c.requires

pub returns-in-Head-2-clause-ok : goal.returns-in-Head-2-clause-ok
returns-in-Head-2-clause-ok c = λ os e. absurd (not_opening c.args.line.now c.in-Head.is (inner_line c.args.self.now c.args.owed os c.args.line.now e c.requires))

pub returns-in-Head-2-clause-inner : goal.returns-in-Head-2-clause-inner
returns-in-Head-2-clause-inner c = λ os e. inner_line c.args.self.now c.args.owed os c.args.line.now e c.requires

pub returns-in-Head-3-clause-ok : goal.returns-in-Head-3-clause-ok
returns-in-Head-3-clause-ok c = λ os e. absurd (not_opening c.args.line.now c.in-Head.is (inner_line c.args.self.now c.args.owed os c.args.line.now e c.requires))

pub returns-in-Head-3-clause-inner : goal.returns-in-Head-3-clause-inner
returns-in-Head-3-clause-inner c = λ os e. inner_line c.args.self.now c.args.owed os c.args.line.now e c.requires

pub returns-in-Head-4-clause-ok : goal.returns-in-Head-4-clause-ok
returns-in-Head-4-clause-ok c = λ os e. absurd (not_opening c.args.line.now c.in-Head.is (inner_line c.args.self.now c.args.owed os c.args.line.now e c.requires))

pub returns-in-Head-4-clause-inner : goal.returns-in-Head-4-clause-inner
returns-in-Head-4-clause-inner c = λ os e. inner_line c.args.self.now c.args.owed os c.args.line.now e c.requires
