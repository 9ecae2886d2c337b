use Rattle.std.proofs.Common.{rules, ◌<◌, ◌^◌, to_z-of_z, subst, sym}
use mir.Syntax.{w128}
use mir.Val.{SFits}
use Rattle.linear_term.specs.Linear.{IsNormal, IsOver}
use Rattle.linear_term.proofs.Pushed.{normal_pushed}
use Rattle.linear_term.proofs.term.Term.push.Goals as goal

pub invariant_of-self-2 : goal.invariant_of-self-2
invariant_of-self-2 c =
    let fits : SFits w128 c.args.k = search rules in
    let normal : IsNormal (record { pairs = c.self.inside.pairs.items; constant = c.self.inside.constant }) = search rules in
    let below : c.args.x < 2 ^ 32 = search rules in
    let over : IsOver c.args.x (record { pairs = c.self.inside.pairs.items; constant = c.self.inside.constant }) = subst (IsOver c.args.x) (sym c.self.view_is) c.requires.above in
    normal_pushed (record { pairs = c.self.inside.pairs.items; constant = c.self.inside.constant }) _ c.args.x c.args.k _ (to_z-of_z fits) (c.in_ok-push.ensures.ok) normal over c.requires.coefficient below
