use Rattle.itp_lines.proofs.Listing.{blocks_caused, one_list, same_list}
use Rattle.itp_lines.proofs.laws.lines_law.Goals as goal

pub returns-clause-one : goal.returns-clause-one
returns-clause-one c = one_list

pub returns-clause-same : goal.returns-clause-same
returns-clause-same c = λ p q old xs same h. same_list p q same old xs h

pub returns-clause-caused : goal.returns-clause-caused
returns-clause-caused c = blocks_caused
