use Rattle.std.proofs.Common.{◌≡◌, ◌≤◌, length, sym, subst}
use Rattle.proof_tree.specs.Views.{proof_of}
use Rattle.proof_printer.specs.Short.{most_parts, parts_of, plain_lines}
use Rattle.proof_printer.proofs.Tallying.{if_ok, parts_most, proof_tallied, tallied_parts}
use Rattle.proof_printer.proofs.sharing.parts_of.Goals as goal

pub returns-clause-parts : goal.returns-clause-parts
returns-clause-parts c =
    let x = proof_of c.args.tree.now.root in let end = c.args.tree.now.conclusion in let mid = c.note_node.new.self in let last = c.note_end.new.self in
    if_ok c.common.result _ (λ ts. ts ≡ parts_of (plain_lines x end))
    (λ ts e. tallied_parts x end last.seen last.again ts
    (proof_tallied x end c.new-tally.result.seen c.new-tally.result.again mid.seen mid.again last.seen last.again c.new-tally.ensures.seen c.new-tally.ensures.again
    (record { seen_is = c.in_ok-note_node.ensures.seen; again_is = c.in_ok-note_node.ensures.again }) (record { seen_is = c.in_ok-note_end.ensures.seen; again_is = c.in_ok-note_end.ensures.again })) e)
    c.common.ensures

pub returns-clause-most : goal.returns-clause-most
returns-clause-most c = if_ok c.common.result _ (λ ts. length ts ≤ most_parts) (λ ts e. subst (λ z. length z ≤ most_parts) (sym e) (parts_most c.note_end.new.self.again c.note_end.new.self.seen)) c.common.ensures
