use Rattle.itp_printer.proofs.Free.{variable_rises, variable_free, first_least, later_least}
use Rattle.itp_printer.proofs.Sayable.{few_names}
use Rattle.itp_printer.proofs.laws.variable_law.Goals as goal

pub returns : goal.returns
returns c = record { rises = variable_rises; free = λ p d good l. variable_free p d (few_names p good.few) l; first = first_least; next = later_least }
