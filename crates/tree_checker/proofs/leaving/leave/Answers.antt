use Rattle.std.proofs.Common.{◌≡◌, ◌∙◌, Some, refl, sym, ap}
use Rattle.tree_branch.specs.Standing.{held, rule_at, standing}
use Rattle.tree_branch.proofs.Keeping.{within_room}
use Rattle.proof_tree.specs.Walk.{eliminates}
use Rattle.base_budget.specs.declared.log.ElimLog.{ElimLog}
use Rattle.tree_checker.proofs.Left.{left_cut, left_memory, left_with, log_is}
use Rattle.tree_checker.proofs.leaving.leave.Goals as goal

pub redo-requires-clause-room : goal.redo-requires-clause-room
redo-requires-clause-room g c = (within_room c.requires.within.0 (held c.args.branch.now) c.requires.within.1).constants

pub returns-in_err-gives-clause-walk : goal.returns-in_err-gives-clause-walk
returns-in_err-gives-clause-walk g c = λ es d ls none coming.
    let p = c.args.principal.now in left_memory c.args.number (standing c.args.branch.now) (rule_at p.shape p.index) es d c.args.ds c.from_residual.result refl c.from_residual.ensures.1

pub returns-in_err-made-in-Some-clause-walk : goal.returns-in_err-made-in-Some-clause-walk
returns-in_err-made-in-Some-clause-walk g c = λ es d ls none coming.
    let p = c.args.principal.now in
    let rule = rule_at p.shape p.index in
    let read = (rw c.rule.ensures at c.in_ok-gives.ensures) es d ls coming in
    let log = log_is (eliminates rule) c.log.result.now es (λ e. ap (λ (z : ElimLog). z.entries) c.log.ensures ∙ read.2 e) none in
    left_cut c.args.number (standing c.args.branch.now) rule es d c.args.ds c.from_residual-in_err-made-in-Some.result c.back.ensures.hand (c.in_err-made-in-Some.ensures.work es c.back.new.self.hand log)
    c.from_residual-in_err-made-in-Some.ensures.1

pub returns-in_ok-made-in-Some-clause-walk : goal.returns-in_ok-made-in-Some-clause-walk
returns-in_ok-made-in-Some-clause-walk g c = λ es d ls none coming.
    let p = c.args.principal.now in
    let rule = rule_at p.shape p.index in
    let read = (rw c.rule.ensures at c.in_ok-gives.ensures) es d ls coming in
    let log = log_is (eliminates rule) c.log.result.now es (λ e. ap (λ (z : ElimLog). z.entries) c.log.ensures ∙ read.2 e) none in
    let gives : c.in-Some.gives ≡ d = (let z : Some c.in-Some.gives ≡ Some d = sym c.in-Some.is ∙ read.0 in cc) in
    left_with c.args.number (standing c.args.branch.now) rule es d c.as_slice.result.now c.args.ds c.confirmed.result c.back.ensures.hand (c.as_slice.ensures ∙ gives) (c.in_ok-made-in-Some.ensures.work es c.back.new.self.hand log)
    (c.confirmed.ensures.work c.redo.new.purse c.back.new.self.hand) c.confirmed.ensures.same read.1
