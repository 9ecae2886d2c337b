use Rattle.std.proofs.Common.{◌≡◌, ◌∙◌, [], Some, refl, sym, ap}
use Rattle.tree_branch.proofs.Keeping.{within_depth, within_room}
use Rattle.base_budget.specs.declared.log.ElimLog.{ElimLog}
use Rattle.sequent.specs.Views.{sequent_of}
use Rattle.pred_unify.specs.Reading.{sequent_at}
use Rattle.sequent.specs.declared.member.Pick.TheVariants.{Close}
use Rattle.tree_checker.proofs.Left.{left_cut, left_memory, left_with}
use Rattle.tree_checker.proofs.leaving.leave_leaf.Goals as goal

pub redo_leaf-requires-clause-room : goal.redo_leaf-requires-clause-room
redo_leaf-requires-clause-room g c = within_room c.requires.within.0 (sequent_at c.args.leaf.now) c.requires.within.1

pub redo_leaf-requires-clause-depth : goal.redo_leaf-requires-clause-depth
redo_leaf-requires-clause-depth g c = within_depth c.requires.within.0 (sequent_of (sequent_at c.args.leaf.now)) c.requires.within.1

pub returns-in_err-gives-clause-walk : goal.returns-in_err-gives-clause-walk
returns-in_err-gives-clause-walk g c = λ es d ls coming. left_memory c.args.number (sequent_of (sequent_at c.args.leaf.now)) Close es d [] c.from_residual.result refl c.from_residual.ensures.1

pub returns-in_err-made-in-Some-clause-walk : goal.returns-in_err-made-in-Some-clause-walk
returns-in_err-made-in-Some-clause-walk g c = λ es d ls coming.
    let read = c.in_ok-gives.ensures es d ls coming in
    let log : c.log.result.now.entries ≡ es = ap (λ (z : ElimLog). z.entries) c.log.ensures ∙ read.2 refl in
    left_cut c.args.number (sequent_of (sequent_at c.args.leaf.now)) Close es d [] c.from_residual-in_err-made-in-Some.result c.back.ensures.hand (rw log at (c.in_err-made-in-Some.ensures.work c.back.new.self.hand))
    c.from_residual-in_err-made-in-Some.ensures.1

pub returns-in_ok-made-in-Some-clause-walk : goal.returns-in_ok-made-in-Some-clause-walk
returns-in_ok-made-in-Some-clause-walk g c = λ es d ls coming.
    let read = c.in_ok-gives.ensures es d ls coming in
    let log : c.log.result.now.entries ≡ es = ap (λ (z : ElimLog). z.entries) c.log.ensures ∙ read.2 refl in
    let gives : c.in-Some.gives ≡ d = (let z : Some c.in-Some.gives ≡ Some d = sym c.in-Some.is ∙ read.0 in cc) in
    left_with c.args.number (sequent_of (sequent_at c.args.leaf.now)) Close es d c.as_slice.result.now [] c.confirmed.result c.back.ensures.hand (c.as_slice.ensures ∙ gives) (rw log at (c.in_ok-made-in-Some.ensures.work c.back.new.self.hand))
    (c.confirmed.ensures.work c.redo_leaf.new.purse c.back.new.self.hand) c.confirmed.ensures.same read.1
