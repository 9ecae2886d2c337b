use Rattle.std.proofs.Common.{rules, ◌≤◌, arith}
use Rattle.std.proofs.lemmas.Bool.Decides.{nat_tests}
use Rattle.proof_constraint.proofs.Skimming.{first_reaches}
use Rattle.proof_constraint.proofs.phrases.begun.Goals as goal

pub returns-clause-exact : goal.returns-clause-exact
returns-clause-exact c =
    let up : c.args.draft.now.least ≤ c.in-Some.name = let h = c.if-draft-from.false in let e = c.from.ensures in grind (arith, nat_tests) in
    first_reaches c.args.draft.now c.add_name.new.self c.in-Some.minus c.in-Some.name c.args.text.now c.in-Some.rest.now (search rules) up (search rules) c.in-Some.ensures.exact
