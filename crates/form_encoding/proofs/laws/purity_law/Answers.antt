use Rattle.form_encoding.proofs.Problems.{pure_is}
use Rattle.form_encoding.proofs.Parts.{parts_pure}
use Rattle.form_encoding.proofs.laws.purity_law.Goals as goal

pub returns-clause-problem : goal.returns-clause-problem
returns-clause-problem c = pure_is

pub returns-clause-parts : goal.returns-clause-parts
returns-clause-parts c = parts_pure
