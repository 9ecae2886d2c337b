use Rattle.elim_laws.specs.Elimination.{exists_name, for_all_name}
use Rattle.elim_laws.specs.Logs.{every_by_log, name_by_log, names_by_log}
use Rattle.elim_laws.specs.Whole.{names_out}
use Rattle.elim_laws.proofs.Wholes.{form_log, whole_does}
use Rattle.elim_laws.proofs.Replays.{every_does, name_does}
use Rattle.elim_laws.proofs.Depth.{names_does}
use Rattle.elim_laws.proofs.laws.replay_law.Goals as goal

pub returns-clause-formula : goal.returns-clause-formula
returns-clause-formula c = form_log

pub returns-clause-name : goal.returns-clause-name
returns-clause-name c = λ x d. whole_does (name_by_log x d) (exists_name x d) (name_does x d)

pub returns-clause-every : goal.returns-clause-every
returns-clause-every c = λ x d. whole_does (every_by_log x d) (for_all_name x d) (every_does x d)

pub returns-clause-all : goal.returns-clause-all
returns-clause-all c = λ n d. whole_does (names_by_log n d) (names_out n d) (names_does n d)
