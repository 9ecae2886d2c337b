use Rattle.base_budget.proofs.Advancing.{followed_whole, followed_refused, followed_left, followed_later}
use Rattle.base_budget.proofs.laws.followed_law.Goals as goal

pub returns-clause-answered : goal.returns-clause-answered
returns-clause-answered g c = followed_whole

pub returns-clause-refused : goal.returns-clause-refused
returns-clause-refused g c = followed_refused

pub returns-clause-out_of_range : goal.returns-clause-out_of_range
returns-clause-out_of_range g c = followed_left

pub returns-clause-later : goal.returns-clause-later
returns-clause-later g c = λ add work old new s t r h f. followed_later r h f
