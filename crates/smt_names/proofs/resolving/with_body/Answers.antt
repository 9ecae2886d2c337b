use Rattle.std.proofs.Common.{◌≡◌, ◌+◌, subst, sym, arith}
use Rattle.smt_names.specs.Scopes.{AreLeavesWithin}
use Rattle.smt_names.specs.declared.body.Leaf.TheVariants as l
use Rattle.smt_names.proofs.Reading.{low-up, low-more, leaf-kept, slot-kept}
use Rattle.smt_names.proofs.resolving.with_body.Goals as goal

pub returns-in-Some-clause-within : goal.returns-in-Some-clause-within
returns-in-Some-clause-within c = λ low.
    subst (AreLeavesWithin c.args.read.count) (sym c.in_ok-push.ensures.items) (low-more c.args.read.count c.args.read.leaves.items c.in-Some.leaf low c.in-Some.ensures.1)

pub returns-in-Some-clause-said : goal.returns-in-Some-clause-said
returns-in-Some-clause-said c = λ D e low count.
    leaf-kept D e c.args.read.kept c.args.read.leaves.items c.push.new.self.items c.args.body c.in-Some.leaf c.in_ok-push.ensures.items c.in-Some.ensures.0

pub returns-clause-within : goal.returns-clause-within
returns-clause-within c = λ low.
    let next : c.in-Some-checked_add.more ≡ c.args.read.count + 1 = c.in-Some-checked_add.ensures.1 in
    subst (AreLeavesWithin c.in-Some-checked_add.more) (sym c.in_ok-push-2.ensures.items)
    (low-more c.in-Some-checked_add.more c.args.read.leaves.items (l.Slot c.args.read.count)
    (low-up c.args.read.count c.in-Some-checked_add.more c.args.read.leaves.items (omega (arith, next)) low) (omega (arith, next)))

pub returns-clause-said : goal.returns-clause-said
returns-clause-said c = λ D e low count.
    slot-kept D e c.args.read.kept c.push-3.new.self c.args.read.leaves.items c.push-2.new.self.items c.args.body c.args.read.count c.in_ok-push-3.ensures.ok c.in_ok-push-2.ensures.items count low
