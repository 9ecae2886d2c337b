use Rattle.proof_grammar.proofs.Passing.{log_passed}
use Rattle.proof_grammar.proofs.checking.pass_log.Goals as goal

pub returns-clause-some : goal.returns-clause-some
returns-clause-some c = log_passed c.args.walk.now c.note.new.self c.args.owed c.in-Log.field-0 c.args.text.now c.in_ok-behind.behind.now c.in-Log.is c.in_ok-behind.ensures c.note.ensures.owed
