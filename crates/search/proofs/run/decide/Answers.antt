use Rattle.std.proofs.Common.{Ok, subst, sym}
use Rattle.formula.specs.Tree.{form}
use Rattle.search.specs.Outcomes.{DecidesAs}
use Rattle.search.proofs.Ends.{bare_cut, bare_end, bare_memory}
use Rattle.search.proofs.run.decide.Goals as goal

pub returns-in-Ok : goal.returns-in-Ok
returns-in-Ok g c =
    subst (λ d. DecidesAs (form c.args.root.now) c.args.constants c.args.purse.now (Ok d) c.whole-answer.new.purse) (sym c.without_tree.ensures)
    (bare_end (form c.args.root.now) c.args.constants c.in-Ok.found _ (rw c.in-Ok.is at c.whole-answer.ensures))

pub returns-in_ok-why-in-Err : goal.returns-in_ok-why-in-Err
returns-in_ok-why-in-Err g c = bare_cut (form c.args.root.now) c.args.constants c.in-Err.fault c.in_ok-why-in-Err.why _ (rw c.in-Err.is at c.whole-answer.ensures) c.in_ok-why-in-Err.ensures

pub returns-in_err-why-in-Err : goal.returns-in_err-why-in-Err
returns-in_err-why-in-Err g c =
    bare_memory (form c.args.root.now) c.args.constants c.in-Err.fault _ _ c.from_residual.result c.from_residual.ensures.1 (rw c.in-Err.is at c.whole-answer.ensures) c.in_err-why-in-Err.ensures
