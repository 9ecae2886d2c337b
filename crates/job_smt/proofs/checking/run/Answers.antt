use Rattle.pri_problem.proofs.Sizes.{searchable}
use Rattle.job_smt.proofs.checking.run.Goals as goal

pub decide-requires-clause-searchable : goal.decide-requires-clause-searchable
decide-requires-clause-searchable g c = searchable c.args.p.now c.args.encoded.now c.requires.formed c.requires.encoded
