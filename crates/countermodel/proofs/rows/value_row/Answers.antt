use Rattle.std.proofs.Common.{◌∙◌, ap}
use Rattle.formula.specs.Tree.{form}
use Rattle.formula.proofs.Building.{form-Eq, form-Neq, form-Geq, form-Pred, form-NotPred, form-And, form-Or, form-Forall, form-Exists}
use Rattle.model_trees.specs.Rows as rows
use Rattle.countermodel.proofs.Asking.{nothing_asked}
use Rattle.countermodel.proofs.rows.value_row.Goals as goal

pub returns-in-Eq : goal.returns-in-Eq
returns-in-Eq c = nothing_asked _ _ (ap (rows.value_row c.args.e.now) (ap form c.in-Eq.is ∙ form-Eq _)) c.new.ensures

pub returns-in-Neq : goal.returns-in-Neq
returns-in-Neq c = nothing_asked _ _ (ap (rows.value_row c.args.e.now) (ap form c.in-Neq.is ∙ form-Neq _)) c.new-in-Neq.ensures

pub returns-in-Geq : goal.returns-in-Geq
returns-in-Geq c = nothing_asked _ _ (ap (rows.value_row c.args.e.now) (ap form c.in-Geq.is ∙ form-Geq _)) c.new-in-Geq.ensures

pub returns-in-Pred : goal.returns-in-Pred
returns-in-Pred c = nothing_asked _ _ (ap (rows.value_row c.args.e.now) (ap form c.in-Pred.is ∙ form-Pred _ _)) c.new-in-Pred.ensures

pub returns-in-NotPred : goal.returns-in-NotPred
returns-in-NotPred c = nothing_asked _ _ (ap (rows.value_row c.args.e.now) (ap form c.in-NotPred.is ∙ form-NotPred _ _)) c.new-in-NotPred.ensures

pub returns-in-And : goal.returns-in-And
returns-in-And c = nothing_asked _ _ (ap (rows.value_row c.args.e.now) (ap form c.in-And.is ∙ form-And _)) c.new-in-And.ensures

pub returns-in-Or : goal.returns-in-Or
returns-in-Or c = nothing_asked _ _ (ap (rows.value_row c.args.e.now) (ap form c.in-Or.is ∙ form-Or _)) c.new-in-Or.ensures

pub returns-in-Forall : goal.returns-in-Forall
returns-in-Forall c = nothing_asked _ _ (ap (rows.value_row c.args.e.now) (ap form c.in-Forall.is ∙ form-Forall _)) c.new-in-Forall.ensures

pub returns-in-Exists : goal.returns-in-Exists
returns-in-Exists c = nothing_asked _ _ (ap (rows.value_row c.args.e.now) (ap form c.in-Exists.is ∙ form-Exists _)) c.new-in-Exists.ensures
