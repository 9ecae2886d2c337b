use Rattle.formula.specs.Tree.{form}
use Rattle.search.proofs.Ends.{cut_end, found_end, has_root, memory_cut}
use Rattle.search.proofs.run.prove.Goals as goal

pub ended-requires : goal.ended-requires
ended-requires g c = has_root (form c.args.root.now) c.args.constants c.in-Ok.found _ (rw c.in-Ok.is at c.whole-answer.ensures)

pub returns-in-Ok : goal.returns-in-Ok
returns-in-Ok g c = found_end (form c.args.root.now) c.args.constants c.in-Ok.found _ c.ended.result (rw c.in-Ok.is at c.whole-answer.ensures) c.ended.ensures

pub returns-in_ok-why-in-Err : goal.returns-in_ok-why-in-Err
returns-in_ok-why-in-Err g c = cut_end _ (form c.args.root.now) c.args.constants c.in-Err.fault c.in_ok-why-in-Err.why _ (rw c.in-Err.is at c.whole-answer.ensures) c.in_ok-why-in-Err.ensures

pub returns-in_err-why-in-Err : goal.returns-in_err-why-in-Err
returns-in_err-why-in-Err g c =
    memory_cut _ (form c.args.root.now) c.args.constants c.in-Err.fault _ _ c.from_residual.result c.from_residual.ensures.1 (rw c.in-Err.is at c.whole-answer.ensures) c.in_err-why-in-Err.ensures
