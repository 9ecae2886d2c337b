use Rattle.std.proofs.Common.{length}
use Rattle.smt_lists.proofs.States.{close_leads}
use Rattle.smt_lists.proofs.reading.closed.Goals as goal

pub returns : goal.returns
returns c = record {
  runs = λ bytes x here closes.
      close_leads bytes (length bytes) x c.args.state (record { outer = c.pop.new.self; members = c.push.new.self }) c.in-Some.innermost closes c.in-Some.ensures c.in_ok-push.ensures.ok;
}
