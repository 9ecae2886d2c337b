use Rattle.std.proofs.Common.{◌≡◌, ◌∙◌, ap, arith, sym, take}
use Rattle.base_texts.proofs.Kept as kept
use Rattle.smt_commands.specs.Symbols.{texts_of}
use Rattle.smt_commands.proofs.Tables.{kept_all, texts_taken}
use Rattle.smt_commands.proofs.table.Table.keep.Goals as goal

pub invariant_of-result : goal.invariant_of-result
invariant_of-result c =
    let table = c.args.self in
    let is : c.loop-entries.entries ≡ take c.args.count table.entries =
    kept_all c.args.count c.loop-entries.entries (take c.args.count table.entries) (omega (arith, c.loop-entries-test.false, c.len.ensures)) c.loop-entries.invariant.first in
    record {
      same_texts = ap kept.texts_of c.truncate.ensures.keys ∙ texts_taken c.args.count table.texts.keys table.entries table.same_texts ∙ ap texts_of (sym is);
      counted = c.loop-entries.invariant.counted;
    }
