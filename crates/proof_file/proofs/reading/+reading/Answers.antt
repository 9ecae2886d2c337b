use Rattle.std.proofs.Common.{◌≤◌, ◌+◌, arith, subst, sym}
use Rattle.proof_file.proofs.Growth.{Going, going_end, going_more, closing_comes, level_of, row_comes, tree_comes, tree_is, trees_come}
use Rattle.proof_file.proofs.reading.+reading.Goals as goal

-- ---- one tree
pub node-next_row-requires : goal.node-next_row-requires
node-next_row-requires g t c = record { comes = row_comes (g.L.ProofLines.coming c.args.lines.now) c.args.level c.requires.comes }

pub node-overflow_add-level : goal.node-overflow_add-level
node-overflow_add-level g t c = let h = level_of (g.L.ProofLines.coming c.args.lines.now) c.args.level c.requires.comes in omega arith

pub node-nodes-requires : goal.node-nodes-requires
node-nodes-requires g t c κs within =
    let h = level_of (g.L.ProofLines.coming c.args.lines.now) c.args.level c.requires.comes in (
      omega (arith, h),
      (within, trees_come (g.L.ProofLines.coming c.args.lines.now) (g.L.ProofLines.coming c.next_row.new.lines) c.args.level c.in_ok-rule.count c.in_ok-rule.rule c.requires.comes c.in_ok-rule.ensures),
    )

pub node-next_closing-requires : goal.node-next_closing-requires
node-next_closing-requires g t c = record {
  comes = (
    c.in_ok-rule.rule,
    closing_comes (g.L.ProofLines.coming c.args.lines.now) (g.L.ProofLines.coming c.next_row.new.lines) (g.L.ProofLines.coming c.nodes.new.lines) c.args.level c.in_ok-rule.count c.in_ok-rule.rule c.in_ok-children.children c.requires.comes
        c.in_ok-rule.ensures c.in_ok-children.ensures,
  );
}

pub node-returns : goal.node-returns
node-returns g t c =
    tree_is (g.L.ProofLines.coming c.args.lines.now) (g.L.ProofLines.coming c.next_row.new.lines) (g.L.ProofLines.coming c.nodes.new.lines) (g.L.ProofLines.coming c.next_closing.new.lines) c.args.level c.in_ok-rule.count c.in_ok-rule.rule
    c.in_ok-children.children c.in_ok-log.log.entries c.in_ok-log.gives c.node_of.result c.in_ok-rule.ensures c.in_ok-children.ensures (c.in_ok-log.ensures c.in_ok-rule.rule) c.node_of.ensures

-- ---- trees of one level
pub nodes-node-requires : goal.nodes-node-requires
nodes-node-requires g t c κs within = (
  omega (arith, c.decreases),
  (within, tree_comes (g.L.ProofLines.coming c.args.lines.now) (g.L.ProofLines.coming c.loop-i.lines) c.args.count c.args.level c.loop-i._i c.loop-i.trees c.loop-i.invariant c.loop-i-test.true c.requires.comes),
)

pub nodes-loop-i-preserved : goal.nodes-loop-i-preserved
nodes-loop-i-preserved g t c =
    subst (Going (g.L.ProofLines.coming c.args.lines.now) (g.L.ProofLines.coming c.node.new.lines) c.args.count c.args.level (c.loop-i._i + 1)) (sym c.in_ok-push.ensures.ok)
    (going_more (g.L.ProofLines.coming c.args.lines.now) (g.L.ProofLines.coming c.loop-i.lines) (g.L.ProofLines.coming c.node.new.lines) c.args.count c.args.level c.loop-i._i c.loop-i.trees c.in_ok-node.field-0 c.loop-i.invariant c.loop-i-test.true
    c.in_ok-node.ensures)

pub nodes-returns : goal.nodes-returns
nodes-returns g t c =
    let past : c.args.count ≤ c.loop-i._i = omega (arith, c.loop-i-test.false) in
    going_end (g.L.ProofLines.coming c.args.lines.now) (g.L.ProofLines.coming c.loop-i.lines) c.args.count c.args.level c.loop-i._i c.loop-i.trees c.loop-i.invariant past
