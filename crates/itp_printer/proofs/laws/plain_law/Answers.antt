use Rattle.itp_printer.proofs.Truths.{plain_same}
use Rattle.itp_printer.proofs.Kept.{names_kept}
use Rattle.itp_printer.proofs.KeptSymbols.{symbols_kept}
use Rattle.itp_printer.proofs.laws.plain_law.Goals as goal

pub returns : goal.returns
returns c = record { truth = plain_same; names = names_kept; symbols = symbols_kept }
