-- What the commands of the code are.
use Rattle.std.specs.Prelude.{map}
use Rattle.smt_terms.specs.Evaluation.{texts_of}
use Rattle.smt_terms.specs.Term.{phrase}
use Rattle.smt_terms.specs.Scripts.{Command, declare, define, claim}
use Rattle.smt_reader.specs.declared.effects.Effect.{Effect}
use Rattle.smt_reader.specs.declared.effects.Effect.TheVariants as e
use Rattle.smt_reader.specs.declared.effects.Step.{Step}
use Rattle.smt_reader.specs.declared.effects.Step.TheVariants as s
use Rattle.smt_reader.specs.Commands.{Act, does, asks, opens, leaves, restarts}

abbrev pub command_is : Effect → Command
command_is (e.Declare x n k) = declare x n k
command_is (e.Define x xs k t) = define x (texts_of xs) k (phrase t)
command_is (e.Claim t) = claim (phrase t)

abbrev pub act_is : Step → Act
act_is (s.Does c) = does (command_is c)
act_is (s.Asks ts) = asks (map phrase ts)
act_is (s.Opens n) = opens n
act_is (s.Leaves n) = leaves n
act_is s.Restarts = restarts
