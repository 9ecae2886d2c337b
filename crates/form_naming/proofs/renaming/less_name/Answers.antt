use Rattle.std.proofs.Common.{rules, ◌≡◌, IfOk, to_z-of_z, sym, subst}
use mir.Syntax.{w128}
use mir.Val.{SFits}
use Rattle.linear_term.specs.Linear.{Linear, IsNormal}
use Rattle.form_naming.proofs.Comparing.{less_name_normal, less_name_whole}
use Rattle.form_naming.proofs.renaming.less_name.Goals as goal

pub of-requires : goal.of-requires
of-requires c =
    let f : SFits w128 c.constant.result = search rules in
    rw to_z-of_z (subst IsNormal
    (less_name_whole c.args.n c.args.t.now c.new-pairs.result.items c.push.new.self.items c.extend_from_slice.new.self.items c.pairs-2.result.now c.as_slice.result.now c.constant.result c.new-pairs.ensures.items c.in_ok-push.ensures.ok c.in_ok-extend_from_slice.ensures.ok c.pairs-2.ensures c.as_slice.ensures c.constant.ensures.exact)
    (less_name_normal c.args.n c.args.t.now c.ranges.n.fits c.requires c.know_normal.ensures))

pub returns : goal.returns
returns c =
    let f : SFits w128 c.constant.result = search rules in
    let made : IfOk c.of.result (λ (u : Linear). u ≡ record { pairs = c.as_slice.result.now; constant = c.constant.result }) = simp to_z-of_z at c.of.ensures in
    subst (λ (y : Linear). IfOk c.of.result (λ (u : Linear). u ≡ y))
    (sym (less_name_whole c.args.n c.args.t.now c.new-pairs.result.items c.push.new.self.items c.extend_from_slice.new.self.items c.pairs-2.result.now c.as_slice.result.now c.constant.result c.new-pairs.ensures.items c.in_ok-push.ensures.ok c.in_ok-extend_from_slice.ensures.ok c.pairs-2.ensures c.as_slice.ensures c.constant.ensures.exact))
    made
