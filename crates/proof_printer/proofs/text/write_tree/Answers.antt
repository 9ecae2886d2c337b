use Rattle.std.proofs.Common.{ℕ, ◌++◌, ◌∙◌, ap}
use Rattle.proof_tokens.specs.Lines.{charges_text}
use Rattle.proof_tokens.specs.Spellings.{spelled}
use Rattle.proof_tree.specs.Views.{proof_of}
use Rattle.proof_grammar.specs.Lines.{lines}
use Rattle.proof_printer.proofs.Nodes.{short_bytes, tree_ends}
use Rattle.proof_printer.proofs.Reread.{written_holds}
use Rattle.proof_printer.proofs.text.write_tree.Goals as goal

pub returns-clause-text : goal.returns-clause-text
returns-clause-text c =
    let x = c.args.tree.now in
    tree_ends c.write_conclusion.result x.charges (proof_of x.root) x.conclusion c.args.out.now.items c.write_head.new.out.items c.write_charges.new.out.items c.write_node.new.out.items c.write_conclusion.new.out.items
    c.in_ok-write_head.ensures (c.in_ok-write_charges.ensures ∙ ap (λ (n : ℕ). c.write_head.new.out.items ++ spelled (charges_text n)) c.from.ensures) (c.in_ok-write_node.ensures ∙ ap (λ ps. c.write_charges.new.out.items ++ short_bytes ps (lines (proof_of x.root))) c.new-none.ensures) c.write_conclusion.ensures

pub returns-clause-holds : goal.returns-clause-holds
returns-clause-holds c =
    let x = c.args.tree.now in
    written_holds c.write_conclusion.result x.charges (proof_of x.root) x.conclusion c.requires c.know_typed.ensures.root c.know_typed.ensures.conclusion
