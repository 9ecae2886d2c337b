use Rattle.smt_reader.proofs.Answers.{satisfiable, unsatisfiable}
use Rattle.smt_reader.proofs.check_laws.answers_law.Goals as goal

pub returns : goal.returns
returns c = record { unsatisfiable = unsatisfiable; satisfiable = satisfiable }
