use Rattle.std.proofs.Common.{arith, sym, ◌∙◌, ◌≡◌}
use Rattle.proof_grammar.proofs.Walking.{next_node, next_log, next_gives, next_gives_logged}
use Rattle.proof_grammar.proofs.walk.next_of.Goals as goal

pub returns-then-node-gt0 : goal.returns-then-node-gt0
returns-then-node-gt0 c = next_node c.args.parts c.args.node c.if-node-gt0.true

pub returns-then-node : goal.returns-then-node
returns-then-node c = let none : c.args.node.left ≡ 0 = (let h = c.if-node-gt0.false in omega arith) in next_gives_logged c.args.parts c.args.node none c.if-node.true

pub returns-then-eliminates : goal.returns-then-eliminates
returns-then-eliminates c = let none : c.args.node.left ≡ 0 = (let h = c.if-node-gt0.false in omega arith) in next_log c.args.parts c.args.node none c.if-node.false (sym c.eliminates.ensures ∙ c.if-eliminates.true)

pub returns : goal.returns
returns c = let none : c.args.node.left ≡ 0 = (let h = c.if-node-gt0.false in omega arith) in next_gives c.args.parts c.args.node none c.if-node.false (sym c.eliminates.ensures ∙ c.if-eliminates.false)
