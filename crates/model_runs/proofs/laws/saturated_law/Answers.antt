use Rattle.model_runs.proofs.Ended.{saturated_says}
use Rattle.model_runs.proofs.laws.saturated_law.Goals as goal

pub returns-clause-tree : goal.returns-clause-tree
returns-clause-tree c = λ f n g log x b over red h. (saturated_says f n g log x b over red h).0

pub returns-clause-levels : goal.returns-clause-levels
returns-clause-levels c = λ f n g log x b over red h. (saturated_says f n g log x b over red h).1
