use Rattle.std.proofs.Common.{sym}
use Rattle.proof_tokens.proofs.Cutting.{piece_ranged}
use Rattle.proof_tokens.proofs.reading.next.Goals as goal

pub returns-clause-ranged : goal.returns-clause-ranged
returns-clause-ranged c = piece_ranged c.args.text.now c.in_ok-piece.piece (sym c.in_ok-piece.ensures.exact)
