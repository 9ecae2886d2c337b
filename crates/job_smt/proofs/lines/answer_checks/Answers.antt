use Rattle.std.proofs.Common.{◌+◌, drop, refl, subst, arith}
use Rattle.job_smt.specs.Answers.{IsCheckedOutcome}
use Rattle.job_smt.proofs.Listing.{goes_end, goes_next, goes_stop, next_problem, none_left}
use Rattle.job_smt.proofs.lines.answer_checks.Goals as goal

pub returns-in_default : goal.returns-in_default
returns-in_default g c =
    let ps = c.args.problems.now in
    let i = c.loop-p.p-index in
    goes_stop c.args.budget ps (drop (i + 1) ps) (drop i ps) c.p-item.result c.loop-p.given (next_problem ps ps i c.p-item.result refl c.loop-p-test.true c.p-item.is)
    (subst (IsCheckedOutcome c.args.budget c.p-item.result) c.in_default.is c.in_ok-answer.ensures) c.loop-p.invariant

pub loop-p-preserved : goal.loop-p-preserved
loop-p-preserved g c =
    let ps = c.args.problems.now in
    let i = c.loop-p.p-index in
    goes_next c.args.budget ps (drop (i + 1) ps) (drop i ps) c.p-item.result c.in-Some.answer c.loop-p.given c.push.new.self
    (next_problem ps ps i c.p-item.result refl c.loop-p-test.true c.p-item.is) (subst (IsCheckedOutcome c.args.budget c.p-item.result) c.in-Some.is c.in_ok-answer.ensures)
    c.in_ok-push.ensures.ok c.loop-p.invariant

pub returns : goal.returns
returns g c =
    let test = c.loop-p-test.false in
    goes_end c.args.budget c.args.problems.now (drop c.loop-p.p-index c.args.problems.now) c.loop-p.given
    (none_left c.args.problems.now c.args.problems.now c.loop-p.p-index refl (omega (arith, test))) c.loop-p.invariant
