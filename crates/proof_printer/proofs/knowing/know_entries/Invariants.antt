use Rattle.proof_tokens.specs.Spellings.{IsEntry}
use Rattle.proof_printer.proofs.Known.{Before}
use Rattle.proof_printer.proofs.knowing.know_entries.Given as goal

abbrev pub invariant-loop-step : goal.invariant-loop-step
invariant-loop-step l = Before IsEntry l.entries l.step-index
