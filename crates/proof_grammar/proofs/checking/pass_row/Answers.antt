use Rattle.std.proofs.Common.{arith}
use Rattle.proof_grammar.proofs.Passing.{row_passed}
use Rattle.proof_grammar.proofs.checking.pass_row.Goals as goal

pub returns-clause-some : goal.returns-clause-some
returns-clause-some c =
    let low = c.if-level-gt-BRANCH_LIMIT.false in
    row_passed c.args.walk.now c.enter.new.self c.args.owed c.in-Node.level c.in-Node.field-1 (c.in-Ok.rule, c.in-Ok.count) c.args.text.now c.in-Ok.behind.now c.in-Node.is (omega (arith, low)) c.in-Ok.ensures.found.0 c.in-Ok.ensures.found.1 c.in_ok-enter.ensures.ok
