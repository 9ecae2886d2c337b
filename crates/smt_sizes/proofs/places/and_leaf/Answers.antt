use Rattle.std.proofs.Common.{ap}
use Rattle.smt_sizes.specs.Linear.{weights, sum}
use Rattle.smt_sizes.specs.Shapes.{leaf_weighed}
use Rattle.smt_sizes.proofs.Names.{node-value}
use Rattle.smt_sizes.proofs.places.and_leaf.Goals as goal

pub returns-in-Number-clause-value : goal.returns-in-Number-clause-value
returns-in-Number-clause-value c = λ ws h.
    node-value (sum c.args.all) (sum c.and.result) c.times.result c.args.weight (weights ws) (leaf_weighed ws c.args.leaf) c.and.ensures c.times.ensures
    (ap (λ x. (leaf_weighed ws x).weight) c.in-Number.is)

pub returns-in-Truth-clause-value : goal.returns-in-Truth-clause-value
returns-in-Truth-clause-value c = λ ws h.
    node-value (sum c.args.all) (sum c.and-in-Truth.result) c.times-in-Truth.result c.args.weight (weights ws) (leaf_weighed ws c.args.leaf) c.and-in-Truth.ensures c.times-in-Truth.ensures
    (ap (λ x. (leaf_weighed ws x).weight) c.in-Truth.is)

pub returns-in-Constant-clause-value : goal.returns-in-Constant-clause-value
returns-in-Constant-clause-value c = λ ws h.
    node-value (sum c.args.all) (sum c.and-in-Constant.result) c.times-in-Constant.result c.args.weight (weights ws) (leaf_weighed ws c.args.leaf) c.and-in-Constant.ensures c.times-in-Constant.ensures
    (ap (λ x. (leaf_weighed ws x).weight) c.in-Constant.is)
