-- What is told of a line of a proof.
use Rattle.std.specs.Prelude.{◌≡◌, Option, Some}
use Rattle.base_budget.specs.declared.log.ElimLog.{ElimLog}
use Rattle.proof_tree.specs.declared.node.Conclusion.{Conclusion}
use Rattle.proof_grammar.specs.declared.lines.TextLine.{TextLine}
use Rattle.proof_grammar.specs.declared.lines.TextLine.TheVariants as w
use Rattle.proof_file.specs.declared.source.Line.{Line}
use Rattle.proof_file.specs.declared.source.Line.TheVariants as k

-- what is told of a line, together with the log and the conclusion that were kept
abbrev pub TellsLine : Option Line → ElimLog → Conclusion → TextLine → Type 0
TellsLine (Some (k.Row p n)) log c (w.Row q m) = (p ≡ q) × (n ≡ m)
TellsLine (Some k.Log) log c (w.Log es) = log ≡ es
TellsLine (Some (k.Gives d)) log c (w.Gives e) = d ≡ e
TellsLine (Some k.End) log c (w.End e) = c ≡ e
TellsLine _ log c _ = ⊥

-- a line that is no log leaves the log that came last
abbrev pub KeepsLog : Option Line → ElimLog → ElimLog → Type 0
KeepsLog (Some k.Log) before after = Unit {0}
KeepsLog _ before after = after ≡ before
