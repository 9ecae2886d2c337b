use Rattle.std.proofs.Common.{sym, ap, ◌∙◌, arith}
use Rattle.smt_names.proofs.Tables.{at_place, found-place, got, got-none}
use Rattle.smt_names.proofs.symbols.Symbols.get.Goals as goal

pub returns-in_default : goal.returns-in_default
returns-in_default c =
    let s = c.args.self.now in
    sym (found-place c.args.text.now s.texts s.meant.items ∙ ap (at_place s.meant.items) (sym c.place.ensures.place ∙ c.in_default.is))

pub returns-then-i-len : goal.returns-then-i-len
returns-then-i-len c =
    let s = c.args.self.now in
    got s.meant.items c.in-Some.i c.index.result.now (omega (arith, c.if-i-len.true, c.len.ensures)) c.index.ensures
    ∙ sym (found-place c.args.text.now s.texts s.meant.items ∙ ap (at_place s.meant.items) (sym c.place.ensures.place ∙ c.in-Some.is))

pub returns-else-i-len : goal.returns-else-i-len
returns-else-i-len c =
    let s = c.args.self.now in
    got-none s.meant.items c.in-Some.i (omega (arith, c.if-i-len.false, c.len.ensures))
    ∙ sym (found-place c.args.text.now s.texts s.meant.items ∙ ap (at_place s.meant.items) (sym c.place.ensures.place ∙ c.in-Some.is))
