use Rattle.model_runs.proofs.Encoded.{root_somes}
use Rattle.model_runs.proofs.Universal.{built_no_gamma, no_open_leaf, one_round_ends}
use Rattle.proof_tree.specs.Proves.{start}
use Rattle.model_runs.proofs.laws.universal_law.Goals as goal

pub returns-clause-encoded : goal.returns-clause-encoded
returns-clause-encoded c = root_somes

pub returns-clause-gamma : goal.returns-clause-gamma
returns-clause-gamma c = λ f n limit left x h e. built_no_gamma limit left 0 (start f n) x (h, tt) e

pub returns-clause-leaf : goal.returns-clause-leaf
returns-clause-leaf c = λ f n x h. no_open_leaf (start f n) x (h, tt)

pub returns-clause-round : goal.returns-clause-round
returns-clause-round c = one_round_ends
