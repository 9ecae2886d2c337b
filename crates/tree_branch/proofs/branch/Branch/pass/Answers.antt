use Rattle.std.proofs.Common.{◌∙◌, sym}
use Rattle.tree_branch.proofs.Idle.{no_shape_of, passed_at, passed_more}
use Rattle.tree_branch.proofs.branch.Branch.pass.Goals as goal

pub loop-at-init : goal.loop-at-init
loop-at-init c = (c.requires.passed, c.behind-at.ensures c.args.limit c.requires.passed)

pub get-requires : goal.get-requires
get-requires c = passed_at c.args.limit c.args.self.now c.loop-at.now c.loop-at.invariant.0 c.in-Some.p (sym c.in-Some.is ∙ c.loop-at.invariant.1)

pub next-at-requires : goal.next-at-requires
next-at-requires c = passed_at c.args.limit c.args.self.now c.loop-at.now c.loop-at.invariant.0 c.in-Some.p (sym c.in-Some.is ∙ c.loop-at.invariant.1)

pub loop-at-preserved : goal.loop-at-preserved
loop-at-preserved c =
    passed_more c.args.limit c.args.self.now c.loop-at.now c.loop-at.invariant.0 c.in-Some.p c.get.result.now c.next-at.result (sym c.in-Some.is ∙ c.loop-at.invariant.1) c.get.ensures.value
    (sym c.fits.ensures ∙ no_shape_of c.fits.result (sym c.is_some.ensures ∙ c.if-is_some.false)) c.next-at.ensures.next
