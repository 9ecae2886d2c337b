use Rattle.std.proofs.Common.{◌∙◌, sym, ap, arith}
use Rattle.backlist.specs.History.{back}
use Rattle.tree_branch.proofs.Undoing.{left_over, still_earlier, undone-one}
use Rattle.tree_branch.proofs.branch.Branch.leave.Goals as goal

pub undo-requires : goal.undo-requires
undo-requires c =
    let changes = c.requires.1.changes in
    let more = c.loop-i-test.true in
    still_earlier c.loop-i.i c.args.self.now.list c.loop-i.self.list c.loop-i.invariant (omega (arith, changes, more))

pub loop-i-preserved : goal.loop-i-preserved
loop-i-preserved c = c.undo.ensures.undone ∙ ap back c.loop-i.invariant ∙ sym (undone-one c.loop-i.i c.args.self.now.list)

pub undo-requires-2 : goal.undo-requires-2
undo-requires-2 c =
    let changes = c.requires.1.changes in
    let last = c.loop-i.auto.i-end in
    still_earlier c.loop-i.i c.args.self.now.list c.loop-i.self.list c.loop-i.invariant (omega (arith, changes, last))

pub returns : goal.returns
returns c = λ before h.
    let past = c.loop-i-test.false in
    let last = c.loop-i.auto.i-end in
    (λ k. record { list = left_over c.args.entered.pushed c.loop-i.i c.args.self.now.list c.loop-i.self.list c.undo-2.new.self c.undo-2.ensures.undone c.loop-i.invariant (omega (arith, past, last)) k; count = c.args.entered.count }) ∙ h.there
