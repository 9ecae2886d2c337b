use Rattle.std.proofs.Common.{rules, ◌≤◌, arith}
use Rattle.std.proofs.lemmas.Bool.Decides.{nat_tests}
use Rattle.proof_constraint.proofs.Further.{more_named}
use Rattle.proof_constraint.proofs.names.take_names.Goals as goal

pub loop-minus-preserved : goal.loop-minus-preserved
loop-minus-preserved c =
    let up : c.loop-minus.draft.least ≤ c.in-Some.name = let h = c.if-draft-from.false in let e = c.from.ensures in grind (arith, nat_tests) in
    more_named c.args.draft.now c.loop-minus.draft c.add_name.new.self c.in-Some.minus c.in-Some.name c.args.text.now c.loop-minus.rest.now c.in-Some.more.now
    (search rules) up (search rules) c.in-Some.ensures.exact c.in-Some.ensures.shorter c.loop-minus.invariant
