use Rattle.std.proofs.Common.{map}
use Rattle.smt_terms.specs.Scripts.{claim}
use Rattle.smt_terms.specs.Term.{phrase}
use Rattle.smt_reader.specs.Effects.{command_is}
use Rattle.smt_reader.proofs.Replaying.{assumed_ok}
use Rattle.smt_reader.proofs.scripts.question.Goals as goal

pub returns : goal.returns
returns c = assumed_ok c.assume.result c.in_ok-reading.reading (map command_is c.args.effects.now) (map claim (map phrase c.args.assumed.now)) c.assume.ensures c.in_ok-reading.ensures
