use Rattle.std.proofs.Common.{◌∙◌, sym}
use Rattle.tree_branch.specs.Choosing.{principal}
use Rattle.tree_branch.proofs.Held.{is_in, member_got}
use Rattle.tree_branch.proofs.Places.{shape_some}
use Rattle.tree_branch.proofs.branch.Branch.taken_by.Goals as goal

pub get-requires : goal.get-requires
get-requires c = is_in (principal c.args.shape c.args.index c.in_ok-at.at) c.args.self.now.list.present (c.in_ok-at.ensures.some c.args.shape)

pub returns-then-takes-clause-fits : goal.returns-then-takes-clause-fits
returns-then-takes-clause-fits c =
    let b = c.args.self.now in
    let got = member_got (principal c.args.shape c.args.index c.in_ok-at.at) b.list.present c.get.result.now (c.in_ok-at.ensures.some c.args.shape) c.get.ensures.value in
    sym c.if-takes.true ∙ c.takes.ensures ∙ sym (shape_some b c.args.shape c.args.index c.get.result.now got)

pub returns-else-takes-clause-fits : goal.returns-else-takes-clause-fits
returns-else-takes-clause-fits c =
    let b = c.args.self.now in
    let got = member_got (principal c.args.shape c.args.index c.in_ok-at.at) b.list.present c.get.result.now (c.in_ok-at.ensures.some c.args.shape) c.get.ensures.value in
    sym c.if-takes.false ∙ c.takes.ensures ∙ sym (shape_some b c.args.shape c.args.index c.get.result.now got)
