use Rattle.std.proofs.Common.{subst, arith}
use Rattle.std.specs.Prelude.{Option}
use Rattle.backlist.specs.declared.boxes.Pos.{Pos}
use Rattle.backlist.specs.Walk.{IsWalk}
use Rattle.backlist.proofs.WalkLemmas.{walk_in, walk_next}
use Rattle.tree_branch.proofs.Places.{none_from, place_held, place_none}
use Rattle.tree_branch.proofs.branch.Branch.place_of.Goals as goal

pub next-at-requires : goal.next-at-requires
next-at-requires c = walk_in c.args.self.now.list.present c.loop-i.i c.loop-i.at c.loop-i.invariant c.in-Some.p c.in-Some.is

pub loop-i-preserved : goal.loop-i-preserved
loop-i-preserved c = walk_next c.args.self.now.list.present c.loop-i.i c.loop-i.at c.loop-i.invariant c.in-Some.p c.in-Some.is c.next-at.result c.next-at.ensures.next

pub returns-in-None-clause-none : goal.returns-in-None-clause-none
returns-in-None-clause-none c =
    let more = c.loop-i-test.true in
    none_from c.args.self.now.list.present c.loop-i.i c.args.index (omega (arith, more)) (subst (λ (o : Option Pos). IsWalk c.args.self.now.list.present c.loop-i.i o) c.in-None.is c.loop-i.invariant)

pub returns-clause-some : goal.returns-clause-some
returns-clause-some c = λ k.
    let past = c.loop-i-test.false in
    let last = c.loop-i.auto.i-end in
    place_held c.args.self.now.list.present c.args.index c.loop-i.at (subst (λ n. IsWalk c.args.self.now.list.present n c.loop-i.at) (omega (arith, past, last)) c.loop-i.invariant) k

pub returns-clause-none : goal.returns-clause-none
returns-clause-none c =
    let past = c.loop-i-test.false in
    let last = c.loop-i.auto.i-end in
    place_none c.args.self.now.list.present c.args.index c.loop-i.at (subst (λ n. IsWalk c.args.self.now.list.present n c.loop-i.at) (omega (arith, past, last)) c.loop-i.invariant)
