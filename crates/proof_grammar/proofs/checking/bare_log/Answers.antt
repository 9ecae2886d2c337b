use Rattle.std.proofs.Common.{rules}
use Rattle.proof_grammar.proofs.Passing.{log_cut}
use Rattle.proof_grammar.proofs.checking.bare_log.Goals as goal

pub returns : goal.returns
returns c = log_cut c.args.text.now c.as_slice.result.now c.in_ok-rest.rest.now (search rules) c.in_ok-rest.ensures
