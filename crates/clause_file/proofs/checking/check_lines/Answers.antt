use Rattle.clause_checker.specs.Views.{state_of}
use Rattle.clause_file.proofs.Following.{not_started, started}
use Rattle.formula.specs.Tree.{form}
use Rattle.clause_file.proofs.checking.check_lines.Goals as goal

pub returns-in-Err : goal.returns-in-Err
returns-in-Err c = λ f n starts paid. not_started state_of f (form c.args.root.now) n c.args.file.now c.args.text.now c.args.head.now c.as_slice.result.now c.args.purse.now c.begin.new.purse c.in-Err.fault c.at_line.result c.as_slice.ensures c.in-Err.ensures.does c.in-Err.ensures.pays c.at_line.ensures starts paid

pub returns-in-Ok : goal.returns-in-Ok
returns-in-Ok c = λ f n starts paid.
    let both = started state_of f (form c.args.root.now) n c.args.file.now c.args.text.now c.args.head.now c.as_slice.result.now c.args.purse.now c.begin.new.purse c.in-Ok.state c.as_slice.ensures c.in-Ok.ensures.does c.in-Ok.ensures.pays starts paid in
    c.run_lines.ensures f n c.args.head.now both.0 both.1
