use Rattle.job_smt.proofs.Making.{alone_with, formed_with, made_short, made_whole}
use Rattle.job_smt.proofs.answering.answer_script.Goals as goal

pub answer_checks-requires-clause-formed : goal.answer_checks-requires-clause-formed
answer_checks-requires-clause-formed g c = formed_with c.args.bytes.now c.args.script.now.checks c.as_slice-2.result.now c.args.script.now.replies c.requires.script c.as_slice-2.ensures

pub answer_checks-requires-clause-alone : goal.answer_checks-requires-clause-alone
answer_checks-requires-clause-alone g c = alone_with c.args.bytes.now c.args.script.now.checks c.as_slice-2.result.now c.args.script.now.replies c.requires.script c.as_slice-2.ensures

pub returns-then-answers : goal.returns-then-answers
returns-then-answers g c =
    made_short c.args.budget c.args.bytes.now c.in_ok-text.text.items c.args.script.now.checks c.as_slice-2.result.now c.args.script.now.replies c.as_slice-3.result.now c.as_slice-given.result.now c.in_ok-answers.answers
    c.in_ok-refused.field-0 c.after.result c.requires.script c.as_slice-2.ensures c.in_ok-answers.ensures c.if-answers.true c.as_slice-3.ensures c.as_slice-given.ensures c.in_ok-text.ensures c.in_ok-refused.ensures c.after.ensures

pub returns : goal.returns
returns g c =
    made_whole c.args.budget c.status_of.result c.args.bytes.now c.in_ok-text.text.items c.args.script.now.checks c.as_slice-2.result.now c.args.script.now.replies c.as_slice-3.result.now c.as_slice-given.result.now
    c.in_ok-answers.answers c.requires.script c.as_slice-2.ensures c.in_ok-answers.ensures c.if-answers.false c.as_slice-3.ensures c.as_slice-given.ensures c.in_ok-text.ensures c.status_of.ensures
