use Rattle.form_naming.proofs.Naming.{found_over, reading_is}
use Rattle.form_naming.proofs.Keeping.{renamed_over, reading_over, renamed_reduced}
use Rattle.form_naming.proofs.laws.naming_law.Goals as goal

pub returns-clause-found : goal.returns-clause-found
returns-clause-found c = found_over

pub returns-clause-truth : goal.returns-clause-truth
returns-clause-truth c = reading_is

pub returns-clause-over : goal.returns-clause-over
returns-clause-over c = renamed_over

pub returns-clause-reading_over : goal.returns-clause-reading_over
returns-clause-reading_over c = reading_over

pub returns-clause-reduced : goal.returns-clause-reduced
returns-clause-reduced c = renamed_reduced
