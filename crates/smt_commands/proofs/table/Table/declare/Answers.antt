use Rattle.std.proofs.Common.{◌+◌, ◌∙◌, ap, sym}
use Rattle.smt_commands.proofs.Tables.{declared_less, texts_inserted}
use Rattle.smt_commands.proofs.table.Table.declare.Goals as goal

pub invariant_of-result-clause-same_texts : goal.invariant_of-result-clause-same_texts
invariant_of-result-clause-same_texts c =
    texts_inserted c.args.self.texts.keys c.insert.new.self.keys c.in_ok-from_slice.field-0 c.args.text.now c.args.self.entries c.push.new.self _
    c.args.self.same_texts c.in_ok-from_slice.ensures.items c.in_ok-insert.ensures.keys c.requires.new c.in_ok-push.ensures.ok c.in_ok-text.ensures

pub invariant_of-result-clause-counted : goal.invariant_of-result-clause-counted
invariant_of-result-clause-counted c = ap (λ z. z + 1) c.args.self.counted ∙ sym (declared_less c.push.new.self c.args.self.entries _ c.in_ok-push.ensures.ok)
