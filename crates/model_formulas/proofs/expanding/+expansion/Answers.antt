use Rattle.std.proofs.Common.{rules, ◌≡◌, ◌+◌, ◌<◌, ◌≤◌, length, drop, refl, arith}
use Rattle.formula.specs.Tree.{form, forms_of}
use Rattle.model_formulas.proofs.Arms.{arm_eq, arm_neq, arm_geq, arm_pred, arm_not_pred, arm_not_fun, arm_all, arm_some}
use Rattle.model_formulas.proofs.Lists.{all_goes, all_ends, any_goes, any_ends}
use Rattle.model_formulas.proofs.Rests.{rest_goes, rest_ends}
use Rattle.model_formulas.proofs.expanding.+expansion.Goals as goal

pub all_of-loop-f-preserved : goal.all_of-loop-f-preserved
all_of-loop-f-preserved t c =
    let lt : c.loop-f.f-index < length c.args.members.now = omega arith in
    all_goes c.args.model.now c.args.ts.now c.args.names c.args.members.now c.loop-f.f-index c.f-item.result c.in_ok-g.g c.loop-f.out c.push_all.new.out lt c.f-item.is c.in_ok-g.ensures c.in_ok-push_all.ensures c.loop-f.invariant

pub all_of-returns : goal.all_of-returns
all_of-returns t c =
    let le : length c.args.members.now ≤ c.loop-f.f-index = omega arith in
    all_ends c.args.model.now c.args.ts.now c.args.names c.args.members.now c.loop-f.f-index c.loop-f.out (form c.all.result) le c.all.ensures c.loop-f.invariant

pub any_of-loop-i-preserved : goal.any_of-loop-i-preserved
any_of-loop-i-preserved t c =
    let lt : c.loop-i.i < length c.args.members.now = omega arith in
    any_goes c.args.model.now c.args.ts.now c.args.names (drop c.args.from c.args.members.now) c.args.members.now c.loop-i.i c.index-members-i.result c.in_ok-g.g c.loop-i.out c.push_any.new.out lt c.index-members-i.is c.in_ok-g.ensures
    c.in_ok-push_any.ensures c.loop-i.invariant

pub any_of-returns : goal.any_of-returns
any_of-returns t c =
    let le : length c.args.members.now ≤ c.loop-i.i = omega arith in
    any_ends c.args.model.now c.args.ts.now c.args.names (drop c.args.from c.args.members.now) c.args.members.now c.loop-i.i c.loop-i.out (form c.any.result) le c.any.ensures c.loop-i.invariant

pub expand-returns-in_ok-g-in-Eq : goal.expand-returns-in_ok-g-in-Eq
expand-returns-in_ok-g-in-Eq t c = arm_eq c.args.model.now c.args.f.now _ c.args.ts.now c.args.names _ c.in-Eq.is c.in_ok-g-in-Eq.ensures

pub expand-returns-in_ok-g-in-Neq : goal.expand-returns-in_ok-g-in-Neq
expand-returns-in_ok-g-in-Neq t c = arm_neq c.args.model.now c.args.f.now _ c.args.ts.now c.args.names _ c.in-Neq.is c.in_ok-g-in-Neq.ensures

pub expand-returns-in_ok-g-in-Geq : goal.expand-returns-in_ok-g-in-Geq
expand-returns-in_ok-g-in-Geq t c = arm_geq c.args.model.now c.args.f.now _ c.args.ts.now c.args.names _ c.in-Geq.is c.in_ok-g-in-Geq.ensures

pub expand-returns-in_ok-g-in-Pred : goal.expand-returns-in_ok-g-in-Pred
expand-returns-in_ok-g-in-Pred t c = arm_pred c.args.model.now c.args.f.now _ _ c.as_slice.result.now c.args.ts.now c.args.names _ c.in-Pred.is c.as_slice.ensures c.in_ok-g-in-Pred.ensures

pub expand-returns-in_ok-g-in-NotPred : goal.expand-returns-in_ok-g-in-NotPred
expand-returns-in_ok-g-in-NotPred t c = arm_not_pred c.args.model.now c.args.f.now _ _ c.as_slice-in-NotPred.result.now c.args.ts.now c.args.names _ c.in-NotPred.is c.as_slice-in-NotPred.ensures c.in_ok-g-in-NotPred.ensures

pub expand-returns-in_ok-g-in-NotFun : goal.expand-returns-in_ok-g-in-NotFun
expand-returns-in_ok-g-in-NotFun t c = arm_not_fun c.args.model.now c.args.f.now _ _ c.as_slice-in-NotFun.result.now _ c.args.ts.now c.args.names _ c.in-NotFun.is c.as_slice-in-NotFun.ensures c.in_ok-g-in-NotFun.ensures

pub expand-returns-in_ok-h-in-None : goal.expand-returns-in_ok-h-in-None
expand-returns-in_ok-h-in-None t c =
    arm_all c.args.model.now c.args.f.now _ _ _ c.args.ts.now _ _ c.args.names (c.args.names + 1) _ c.in_ok-g-in-None.ensures c.in_ok-h-in-None.ensures c.in-Forall.is c.get-in-None.ensures c.as_slice-in-None.ensures c.in_ok-inner-in-None.ensures refl c.requires

pub expand-returns-in_ok-h-in-Exists : goal.expand-returns-in_ok-h-in-Exists
expand-returns-in_ok-h-in-Exists t c =
    arm_some c.args.model.now c.args.f.now _ _ _ c.args.ts.now _ _ c.args.names (c.args.names + 1) _ c.in_ok-g-in-Exists.ensures c.in_ok-h-in-Exists.ensures c.in-Exists.is c.get-in-Exists.ensures c.as_slice-in-Exists.ensures c.in_ok-inner-in-Exists.ensures refl c.requires

pub rest_of-loop-guard-preserved : goal.rest_of-loop-guard-preserved
rest_of-loop-guard-preserved t c =
    let lt : c.loop-guard.guard-index < length c.args.guards.now = omega arith in
    rest_goes c.args.model.now (form c.args.body.now) c.args.ts.now c.in_ok-inner.inner c.as_slice-in-loop-guard.result.now c.args.names c.in-Or.members c.as_slice.result.now c.args.guards.now c.loop-guard.guard-index c.guard-item.result c.loop-guard.out c.push_any.new.out
    c.in_ok-when.when c.in_ok-rest.rest c.in_ok-g.g c.in_ok-push_any.ensures c.in_ok-g.ensures c.in_ok-rest.ensures c.loop-guard.invariant c.as_slice-in-loop-guard.ensures c.in_ok-inner.ensures lt c.guard-item.is c.in_ok-when.ensures c.as_slice.ensures c.requires.read

pub rest_of-returns : goal.rest_of-returns
rest_of-returns t c =
    let le : length c.args.guards.now ≤ c.loop-guard.guard-index = omega arith in
    rest_ends c.args.model.now c.args.body.now c.args.ts.now c.args.names c.in-Or.members c.args.guards.now c.loop-guard.guard-index c.loop-guard.out (form c.any.result) c.in-Or.is le c.requires.read c.any.ensures c.loop-guard.invariant
