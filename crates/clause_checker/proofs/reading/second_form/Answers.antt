use Rattle.std.proofs.Common.{rules, ◌≡◌, length}
use Rattle.clause_proof.specs.Lines as lines
use Rattle.clause_checker.proofs.Readings.{second_yes, second_no}
use Rattle.clause_checker.proofs.reading.second_form.Goals as goal

pub returns-then-reading-clause-does : goal.returns-then-reading-clause-does
returns-then-reading-clause-does c =
    let len : length c.args.fs.now ≡ 2 = search rules in
    second_yes (lines.reads_atom c.args.x.now c.args.ts.now) c.args.fs.now c.at.result c.at-in-Some.result c.in-Some.a c.in-Some-at.b c.in_ok-reading-in-Some-at.reading len
    c.at.ensures c.in-Some.is c.at-in-Some.ensures c.in-Some-at.is c.in_ok-reading-in-Some-at.ensures.ok c.if-reading.true

pub returns-else-reading-clause-does : goal.returns-else-reading-clause-does
returns-else-reading-clause-does c =
    let len : length c.args.fs.now ≡ 2 = search rules in
    second_no _ (lines.reads_atom c.args.x.now c.args.ts.now) c.args.fs.now c.at.result c.at-in-Some.result c.in-Some.a c.in-Some-at.b c.in_ok-reading-in-Some-at.reading len
    c.at.ensures c.in-Some.is c.at-in-Some.ensures c.in-Some-at.is c.in_ok-reading-in-Some-at.ensures.ok c.if-reading.false
