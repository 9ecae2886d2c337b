use Rattle.std.proofs.Common.{◌≡◌, drop}
use Rattle.std.specs.List.{list_any}
use Rattle.job_smt.specs.Lines.{asks_for_model}
use Rattle.job_smt.proofs.lines.asks_model.Given as goal

abbrev pub invariant-loop-reply : goal.invariant-loop-reply
invariant-loop-reply l = list_any asks_for_model (drop l.reply-index l.replies) ≡ list_any asks_for_model l.replies
