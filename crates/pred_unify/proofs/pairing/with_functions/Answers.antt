use Rattle.std.proofs.Common.{◌∙◌, ap, refl}
use Rattle.formula.specs.Tree.{form}
use Rattle.pred_unify.specs.Pairs.{with_functions}
use Rattle.sequent.specs.Views.{members_of}
use Rattle.pred_unify.specs.Reading.{behind}
use Rattle.formula.proofs.Building.{form-Eq, form-Neq, form-Geq, form-Pred, form-NotPred, form-NotFun, form-And, form-Or, form-Forall, form-Exists}
use Rattle.pred_unify.proofs.Making.{nothing_put, functions_made}
use Rattle.pred_unify.proofs.pairing.with_functions.Goals as goal

pub returns-in-Eq : goal.returns-in-Eq
returns-in-Eq c = nothing_put _ _ _ (ap (with_functions (members_of (behind c.args.members.now))) (ap form c.in-Eq.is ∙ form-Eq _)) refl

pub returns-in-Neq : goal.returns-in-Neq
returns-in-Neq c = nothing_put _ _ _ (ap (with_functions (members_of (behind c.args.members.now))) (ap form c.in-Neq.is ∙ form-Neq _)) refl

pub returns-in-Geq : goal.returns-in-Geq
returns-in-Geq c = nothing_put _ _ _ (ap (with_functions (members_of (behind c.args.members.now))) (ap form c.in-Geq.is ∙ form-Geq _)) refl

pub returns-in-Pred : goal.returns-in-Pred
returns-in-Pred c = nothing_put _ _ _ (ap (with_functions (members_of (behind c.args.members.now))) (ap form c.in-Pred.is ∙ form-Pred _ _)) refl

pub returns-in-NotPred : goal.returns-in-NotPred
returns-in-NotPred c = nothing_put _ _ _ (ap (with_functions (members_of (behind c.args.members.now))) (ap form c.in-NotPred.is ∙ form-NotPred _ _)) refl

pub returns-in-And : goal.returns-in-And
returns-in-And c = nothing_put _ _ _ (ap (with_functions (members_of (behind c.args.members.now))) (ap form c.in-And.is ∙ form-And _)) refl

pub returns-in-Or : goal.returns-in-Or
returns-in-Or c = nothing_put _ _ _ (ap (with_functions (members_of (behind c.args.members.now))) (ap form c.in-Or.is ∙ form-Or _)) refl

pub returns-in-Forall : goal.returns-in-Forall
returns-in-Forall c = nothing_put _ _ _ (ap (with_functions (members_of (behind c.args.members.now))) (ap form c.in-Forall.is ∙ form-Forall _)) refl

pub returns-in-Exists : goal.returns-in-Exists
returns-in-Exists c = nothing_put _ _ _ (ap (with_functions (members_of (behind c.args.members.now))) (ap form c.in-Exists.is ∙ form-Exists _)) refl

pub returns-in-NotFun : goal.returns-in-NotFun
returns-in-NotFun c = functions_made _ _ _ _ _ _ _ _ _ (ap form c.in-NotFun.is ∙ form-NotFun _ _ _) c.as_slice.ensures c.function_values.ensures
