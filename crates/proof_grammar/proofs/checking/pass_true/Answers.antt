use Rattle.proof_grammar.proofs.Passing.{true_passed}
use Rattle.proof_grammar.proofs.checking.pass_true.Goals as goal

pub returns-clause-some : goal.returns-clause-some
returns-clause-some c = true_passed c.args.walk.now c.leave.new.self c.args.owed c.args.text.now c.in_ok-behind.behind.now c.in-Gives.is c.in_ok-behind.ensures.tokens c.leave.ensures.owed
