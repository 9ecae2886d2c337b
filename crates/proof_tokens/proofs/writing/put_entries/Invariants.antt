use Rattle.std.proofs.Common.{◌≡◌, ◌++◌, drop}
use Rattle.proof_tokens.specs.Lines.{entries_text}
use Rattle.proof_tokens.specs.Spellings.{spelled}
use Rattle.proof_tokens.proofs.writing.put_entries.Given as goal

abbrev pub invariant-loop-step : goal.invariant-loop-step
invariant-loop-step l = l.out.items ++ spelled (entries_text (drop l.step-index l.entries)) ≡ l.fn.out.items ++ spelled (entries_text l.entries)
