use Rattle.pri_problem.proofs.reading.file_problem.Goals as goal

pub returns-in-Ok-clause-posed : goal.returns-in-Ok-clause-posed
returns-in-Ok-clause-posed c = λ bytes read. record {
  reads = record { file = c.args.file.now; read = read; sound = c.in-Ok.ensures.sound; typed = c.in-Ok.ensures.typed };
}
