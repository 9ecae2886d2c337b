use Rattle.std.proofs.Common.{◌≡◌, ◌∙◌, ap, map, arith}
use Rattle.proof_tree.specs.declared.node.Node.{out-Node}
use Rattle.proof_tree.specs.Proof.{proofs}
use Rattle.proof_tree.specs.Views.{proof_of}
use Rattle.proof_grammar.specs.Lines.{lines, lines_all}
use Rattle.proof_printer.specs.Short.{again_in, keys, seen_in}
use Rattle.proof_printer.proofs.Tallying.{both_ok, node_tallied, noting_more}
use Rattle.proof_printer.proofs.sharing.Tally.+noting.Goals as goal

pub note_node-returns-clause-seen : goal.note_node-returns-clause-seen
note_node-returns-clause-seen t c =
    let x = c.args.node.now in let d = (out-Node x).gives in let mid = c.note_nodes.new.self in
    both_ok c.note_last.result _ _ (c.note_last.new.self.seen ≡ seen_in c.args.self.now.seen (keys (lines (proof_of x))))
    (λ s a. (node_tallied x c.args.self.now.seen c.args.self.now.again mid.seen mid.again c.note_last.new.self.seen c.note_last.new.self.again
    (record {
      seen_is = c.in_ok-note_nodes.ensures.seen ∙ ap (λ ns. seen_in c.args.self.now.seen (keys (lines_all (proofs (map proof_of ns))))) c.as_slice.ensures;
      again_is = c.in_ok-note_nodes.ensures.again ∙ ap (λ ns. again_in c.args.self.now.seen c.args.self.now.again (keys (lines_all (proofs (map proof_of ns))))) c.as_slice.ensures;
    }) (record { seen_is = s d; again_is = a d })).seen_is) c.note_last.ensures.seen c.note_last.ensures.again

pub note_node-returns-clause-again : goal.note_node-returns-clause-again
note_node-returns-clause-again t c =
    let x = c.args.node.now in let d = (out-Node x).gives in let mid = c.note_nodes.new.self in
    both_ok c.note_last.result _ _ (c.note_last.new.self.again ≡ again_in c.args.self.now.seen c.args.self.now.again (keys (lines (proof_of x))))
    (λ s a. (node_tallied x c.args.self.now.seen c.args.self.now.again mid.seen mid.again c.note_last.new.self.seen c.note_last.new.self.again
    (record {
      seen_is = c.in_ok-note_nodes.ensures.seen ∙ ap (λ ns. seen_in c.args.self.now.seen (keys (lines_all (proofs (map proof_of ns))))) c.as_slice.ensures;
      again_is = c.in_ok-note_nodes.ensures.again ∙ ap (λ ns. again_in c.args.self.now.seen c.args.self.now.again (keys (lines_all (proofs (map proof_of ns))))) c.as_slice.ensures;
    }) (record { seen_is = s d; again_is = a d })).again_is) c.note_last.ensures.seen c.note_last.ensures.again

pub note_nodes-loop-node-preserved : goal.note_nodes-loop-node-preserved
note_nodes-loop-node-preserved t c =
    noting_more c.args.self.now.seen c.args.self.now.again c.args.nodes.now c.loop-node.node-index c.node-item.result c.loop-node.self.seen c.loop-node.self.again c.note_node.new.self.seen c.note_node.new.self.again
    (omega arith) c.node-item.is c.loop-node.invariant (record { seen_is = c.in_ok-note_node.ensures.seen; again_is = c.in_ok-note_node.ensures.again })
