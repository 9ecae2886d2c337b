-- What is held and one piece more are at most the limit.
use Rattle.std.proofs.Common.{inr, arith}
use Rattle.std.proofs.lemmas.List.{length-take}
use Rattle.prover_io.proofs.Reading.{takes_piece}
use Rattle.prover_io.proofs.whole.read_all.Goals as goal

pub returns-in_err-read_piece-clause-past : goal.returns-in_err-read_piece-clause-past
returns-in_err-read_piece-clause-past g c = inr (takes_piece _ _ _ _ _ _ c.loop-bytes.invariant.so_far c.read_piece.ensures.taken (omega (arith, length-take c.min-room.result c.deref_mut.result.now)))

pub returns-then-branch-eq0-clause-past : goal.returns-then-branch-eq0-clause-past
returns-then-branch-eq0-clause-past g c = inr (takes_piece _ _ _ _ _ _ c.loop-bytes.invariant.so_far c.read_piece.ensures.taken (omega (arith, length-take c.min-room.result c.deref_mut.result.now)))
