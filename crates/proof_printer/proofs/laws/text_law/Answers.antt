use Rattle.proof_printer.proofs.Reread.{text_holds}
use Rattle.proof_printer.proofs.laws.text_law.Goals as goal

pub returns : goal.returns
returns c = λ n x d s i k. text_holds n x d s i k
