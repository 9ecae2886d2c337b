use Rattle.std.proofs.Common.{◌-◌, arith}
use Rattle.formula.specs.Tree.{form}
use Rattle.search.proofs.Ends.{gets_later, run_made}
use Rattle.search.proofs.run.whole.Goals as goal

pub overflow_sub-run : goal.overflow_sub-run
overflow_sub-run g c =
    let e = c.spent-before.ensures.exact in
    let w = c.spent-before.ensures.within in
    let f = c.spent.ensures.exact in
    let later = (gets_later c.all_rounds-answer.result (omega (arith, e, w)) c.all_rounds-answer.ensures).spent in
    omega (arith, e, f, later)

pub returns : goal.returns
returns g c =
    let e = c.spent-before.ensures.exact in
    let f = c.spent.ensures.exact in
    run_made c.args.keeps (form c.args.root.now) c.args.constants c.all_rounds-answer.result c.new-course.ensures c.all_rounds-answer.ensures (c.spent.result - c.spent-before.result) (omega (arith, e, f))
