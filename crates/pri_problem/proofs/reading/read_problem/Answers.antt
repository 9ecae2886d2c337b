use Rattle.pri_typing.proofs.Answered.{file_resolvable}
use Rattle.pri_problem.proofs.Cuts.{cuttable_so}
use Rattle.pri_problem.proofs.reading.read_problem.Goals as goal

pub file_problem-requires : goal.file_problem-requires
file_problem-requires c = file_resolvable _ _ c.requires c.in-Ok.ensures.found

pub returns-in-Ok-clause-cuts : goal.returns-in-Ok-clause-cuts
returns-in-Ok-clause-cuts c = cuttable_so c.args.bytes.now c.file_problem.result (c.file_problem.ensures.posed c.args.bytes.now (c.in-Ok.ensures.found))
