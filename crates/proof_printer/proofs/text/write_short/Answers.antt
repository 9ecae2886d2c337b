use Rattle.std.proofs.Common.{ℕ, ◌++◌, ◌∙◌, ap}
use Rattle.proof_tokens.specs.Lines.{charges_text, parts_text}
use Rattle.proof_tokens.specs.Spellings.{spelled}
use Rattle.proof_tree.specs.Views.{proof_of}
use Rattle.proof_printer.specs.Short.{plain_lines}
use Rattle.proof_printer.proofs.GoodLines.{plain_good}
use Rattle.proof_printer.proofs.Nodes.{short_ends}
use Rattle.proof_printer.proofs.Shortening.{parts_written, written_short}
use Rattle.proof_printer.proofs.text.write_short.Goals as goal

pub returns-clause-text : goal.returns-clause-text
returns-clause-text c =
    let t = c.args.tree.now in let x = proof_of t.root in let ks = c.in_ok-parts.parts in
    let good = plain_good t.charges x t.conclusion c.requires c.know_typed.ensures.root c.know_typed.ensures.conclusion in
    short_ends c.write_end.result t.charges x t.conclusion ks c.args.out.now.items c.write_head.new.out.items c.write_parts.new.out.items c.put_each.new.out.items c.write_charges.new.out.items c.write_node.new.out.items c.write_end.new.out.items
    c.in_ok-parts.ensures.parts (rw c.in_ok-parts.ensures.parts (parts_written (plain_lines x t.conclusion) good))
    c.in_ok-write_head.ensures (c.in_ok-write_parts.ensures ∙ ap (λ (n : ℕ). c.write_head.new.out.items ++ spelled (parts_text n)) c.len.ensures) c.in_ok-put_each.ensures
    (c.in_ok-write_charges.ensures ∙ ap (λ (n : ℕ). c.put_each.new.out.items ++ spelled (charges_text n)) c.from.ensures) c.in_ok-write_node.ensures c.write_end.ensures

pub returns-clause-holds : goal.returns-clause-holds
returns-clause-holds c =
    let t = c.args.tree.now in written_short c.write_end.result t.charges (proof_of t.root) t.conclusion c.requires c.know_typed.ensures.root c.know_typed.ensures.conclusion
