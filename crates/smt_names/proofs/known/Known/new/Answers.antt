use Rattle.smt_names.proofs.Growing.{agrees-new}
use Rattle.smt_names.proofs.Using.{no-uses}
use Rattle.smt_names.proofs.known.Known.new.Goals as goal

pub returns-clause-knows : goal.returns-clause-knows
returns-clause-knows c = (
  agrees-new c.new.result c.new-2.result c.new.ensures.texts c.new.ensures.meant,
  no-uses c.new.result.used c.new-2.result c.new.ensures.used c.new-2.ensures,
)
