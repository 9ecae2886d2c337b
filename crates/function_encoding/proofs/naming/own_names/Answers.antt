use Rattle.std.proofs.Common.{arith}
use Rattle.form_encoding.specs.Root.{names_from}
use Rattle.function_encoding.proofs.OwnNames.{names_pushed, names_all}
use Rattle.function_encoding.proofs.naming.own_names.Goals as goal

pub loop-x-preserved : goal.loop-x-preserved
loop-x-preserved c = names_pushed c.loop-x.all c.push.new.self (names_from 0 c.args.n) c.loop-x.x c.args.n (omega arith) c.loop-x.invariant c.in_ok-push.ensures.ok

pub returns : goal.returns
returns c = names_all c.loop-x.all (names_from 0 c.args.n) c.loop-x.x c.args.n (omega arith) c.loop-x.invariant
