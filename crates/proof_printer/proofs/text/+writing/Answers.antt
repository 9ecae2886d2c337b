use Rattle.std.proofs.Common.{◌≡◌, ◌++◌, ◌∙◌, ap, arith, map}
use Rattle.proof_tokens.specs.Spellings.{spelled}
use Rattle.proof_tree.specs.declared.node.Node.{out-Node}
use Rattle.proof_tree.specs.Proof.{proofs}
use Rattle.proof_tree.specs.Views.{proof_of}
use Rattle.proof_grammar.specs.Lines.{last_lines, lines, lines_all, row_text}
use Rattle.proof_printer.proofs.Nodes.{node_more, node_written, on_ok, short_bytes}
use Rattle.proof_printer.proofs.text.+writing.Goals as goal

pub write_nodes-loop-node-preserved : goal.write_nodes-loop-node-preserved
write_nodes-loop-node-preserved t c =
    node_more c.args.parts.now c.args.nodes.now c.loop-node.node-index c.node-item.result _ c.loop-node.out.items c.write_node.new.out.items
    (omega arith) c.node-item.is c.loop-node.invariant c.in_ok-write_node.ensures

pub write_node-returns : goal.write_node-returns
write_node-returns t c =
    let x = c.args.node.now in let parts = c.args.parts.now in
    on_ok c.write_ends.result _ (c.write_ends.new.out.items ≡ c.args.out.now.items ++ short_bytes parts (lines (proof_of x)))
    (λ h. node_written parts x c.args.out.now.items c.write_row.new.out.items c.write_nodes.new.out.items c.write_ends.new.out.items
    (c.in_ok-write_row.ensures ∙ ap (λ n. c.args.out.now.items ++ spelled (row_text (out-Node x).rule n)) c.len.ensures)
    (c.in_ok-write_nodes.ensures ∙ ap (λ ns. c.write_row.new.out.items ++ short_bytes parts (lines_all (proofs (map proof_of ns)))) c.as_slice.ensures)
    (h ∙ ap (λ d. c.write_nodes.new.out.items ++ short_bytes parts (last_lines (out-Node x).rule (out-Node x).log.entries d)) c.as_slice-2.ensures))
    c.write_ends.ensures
