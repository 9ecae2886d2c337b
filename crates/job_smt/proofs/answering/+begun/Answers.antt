use Rattle.std.proofs.Common.{arith}
use Rattle.job_smt.proofs.Making.{alone_with, formed_with, made_begun, made_further}
use Rattle.job_smt.proofs.answering.+begun.Goals as goal

pub answer_checks-requires-clause-formed : goal.answer_checks-requires-clause-formed
answer_checks-requires-clause-formed g t c = formed_with c.args.bytes.now c.in-Ok.script.checks c.as_slice-in-Ok.result.now c.in-Ok.script.replies c.in-Ok.ensures.read c.as_slice-in-Ok.ensures

pub answer_checks-requires-clause-alone : goal.answer_checks-requires-clause-alone
answer_checks-requires-clause-alone g t c = alone_with c.args.bytes.now c.in-Ok.script.checks c.as_slice-in-Ok.result.now c.in-Ok.script.replies c.in-Ok.ensures.read c.as_slice-in-Ok.ensures

pub returns-in_ok-found-in-Ok : goal.returns-in_ok-found-in-Ok
returns-in_ok-found-in-Ok g t c =
    made_begun c.args.budget c.args.bytes.now c.in-Ok.script.checks c.as_slice-in-Ok.result.now c.in-Ok.script.replies c.as_slice-in-Ok-2.result.now c.as_slice-in-Ok-3.result.now c.in_ok-found-in-Ok.found c.replied.result
    c.in-Ok.ensures.read c.as_slice-in-Ok.ensures c.in_ok-found-in-Ok.ensures c.as_slice-in-Ok-2.ensures c.as_slice-in-Ok-3.ensures c.replied.ensures

pub begun-requires : goal.begun-requires
begun-requires g t c κs within = (omega (arith, c.decreases, c.in_ok-part-in-Err.ensures.shorter), (within, c.requires))

pub returns-in_ok-part-in-Err : goal.returns-in_ok-part-in-Err
returns-in_ok-part-in-Err g t c = made_further c.args.budget c.args.bytes.now c.in_ok-part-in-Err.part.now c.in-Err.refusal c.begun.result c.in-Err.ensures.refused c.in_ok-part-in-Err.ensures.known c.in_ok-part-in-Err.ensures.part c.begun.ensures
