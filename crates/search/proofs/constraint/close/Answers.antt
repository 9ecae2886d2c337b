use Rattle.std.proofs.Common.{◌+◌, ◌≤◌, ◌^◌, sym, subst}
use Rattle.formula.specs.Form.{Form}
use Rattle.formula.specs.Sizes.{depth}
use Rattle.formula.specs.Tree.{form}
use Rattle.base_budget.proofs.Charging.{worked_value}
use Rattle.elim_laws.specs.Whole.{eliminating}
use Rattle.sequent.specs.Views.{sequent_of}
use Rattle.pred_unify.specs.Reading.{sequent_at}
use Rattle.pred_unify.specs.Pairs.{closing_of}
use Rattle.search.proofs.Closing.{made_fault, made_then}
use Rattle.search.proofs.constraint.close.Goals as goal

pub eliminate-requires-clause-room : goal.eliminate-requires-clause-room
eliminate-requires-clause-room c = subst (λ (f : Form). c.args.leaf.now.count + depth f ≤ 2 ^ 32) (sym (worked_value c.in-Ok.ensures.works)) c.requires.depth

pub returns-in-Ok : goal.returns-in-Ok
returns-in-Ok c =
    made_then form (closing_of (sequent_of (sequent_at c.args.leaf.now))) (λ f. eliminating c.args.leaf.now.count f) _ _ c.eliminate.result c.in-Ok.ensures c.eliminate.ensures.charged

pub returns-in-Err : goal.returns-in-Err
returns-in-Err c = made_fault form (closing_of (sequent_of (sequent_at c.args.leaf.now))) (λ f. eliminating c.args.leaf.now.count f) _ c.in-Err.fault c.in-Err.ensures c.without_log.ensures
