use Rattle.std.proofs.Common.{◌∙◌, sym, ap, subst, Some, None, false, arith}
use Rattle.backlist.specs.Trail.{IsEnd, next_cells, prev_cells}
use Rattle.backlist.proofs.Trails.{end_update}
use Rattle.backlist.proofs.Calls.{end_prev_cells, marks, top_found, top_logged, back_before, back_behind, unlink_undone, unlink_undone_len, push_before, push_taken, push_undone_len, no_top}
use Rattle.backlist.proofs.list.BackList.undo.Goals as goal

pub get-n-requires : goal.get-n-requires
get-n-requires g c = top_found c.self.inside.log.changes (record { cells = c.self.inside.nodes.cells; first = c.self.inside.first; last = c.self.inside.last; top = c.self.inside.top }) c.self.invariant.0 c.in-Some.p c.in-Some.is

pub set_prev-requires : goal.set_prev-requires
set_prev-requires g c = subst (λ cs. IsEnd cs c.get-n.result.now.next) (sym c.mark.ensures) (end_update c.in-Some.p.at (marks false None) c.self.inside.nodes.cells c.get-n.result.now.next (back_behind c.self.inside.log.changes (record { cells = c.self.inside.nodes.cells; first = c.self.inside.first; last = c.self.inside.last; top = c.self.inside.top }) c.self.invariant.0 c.in-Some.p c.in-Some.is c.get-n.result.now c.get-n.ensures c.if-n.true))

pub set_next-requires : goal.set_next-requires
set_next-requires g c = subst (λ cs. IsEnd cs c.get-n.result.now.prev) (sym c.set_prev.ensures.nodes) (end_prev_cells c.get-n.result.now.next (Some c.in-Some.p) c.mark.new.nodes.cells c.get-n.result.now.prev
    (subst (λ cs. IsEnd cs c.get-n.result.now.prev) (sym c.mark.ensures) (end_update c.in-Some.p.at (marks false None) c.self.inside.nodes.cells c.get-n.result.now.prev (back_before c.self.inside.log.changes (record { cells = c.self.inside.nodes.cells; first = c.self.inside.first; last = c.self.inside.last; top = c.self.inside.top }) c.self.invariant.0 c.in-Some.p c.in-Some.is c.get-n.result.now c.get-n.ensures c.if-n.true))))

pub overflow_add-self : goal.overflow_add-self
overflow_add-self g c = let d = top_logged c.self.inside.log.changes (record { cells = c.self.inside.nodes.cells; first = c.self.inside.first; last = c.self.inside.last; top = c.self.inside.top }) c.self.invariant.0 c.in-Some.p c.in-Some.is in omega (arith, (unlink_undone_len c.self.inside.log.changes (record { cells = c.self.inside.nodes.cells; first = c.self.inside.first; last = c.self.inside.last; top = c.self.inside.top }) c.self.invariant.0 c.in-Some.p c.in-Some.is c.get-n.result.now c.get-n.ensures c.if-n.true d.1 d.0 c.self.inside.len d.2 c.self.invariant.1).1)

pub undone-requires : goal.undone-requires
undone-requires g c = top_logged c.self.inside.log.changes (record { cells = c.self.inside.nodes.cells; first = c.self.inside.first; last = c.self.inside.last; top = c.self.inside.top }) c.self.invariant.0 c.in-Some.p c.in-Some.is

pub invariant_of-self : goal.invariant_of-self
invariant_of-self g c = (
  unlink_undone c.self.inside.log.changes (record { cells = c.self.inside.nodes.cells; first = c.self.inside.first; last = c.self.inside.last; top = c.self.inside.top }) c.self.invariant.0 c.in-Some.p c.in-Some.is c.get-n.result.now c.get-n.ensures c.if-n.true c.undone.new.self.changes c.undone.ensures.0 (record { cells = c.set_next.new.nodes.cells; first = c.set_next.new.first; last = c.set_prev.new.last; top = c.get-n.result.now.unlinked_after }) c.undone.ensures.1
      (c.set_next.ensures.nodes ∙ ap (next_cells c.get-n.result.now.prev (Some c.in-Some.p)) (c.set_prev.ensures.nodes ∙ ap (prev_cells c.get-n.result.now.next (Some c.in-Some.p)) c.mark.ensures)) c.set_next.ensures.first c.set_prev.ensures.last (λ i. c.get-n.result.now.unlinked_after),
  (unlink_undone_len c.self.inside.log.changes (record { cells = c.self.inside.nodes.cells; first = c.self.inside.first; last = c.self.inside.last; top = c.self.inside.top }) c.self.invariant.0 c.in-Some.p c.in-Some.is c.get-n.result.now c.get-n.ensures c.if-n.true c.undone.new.self.changes c.undone.ensures.0 c.self.inside.len c.undone.ensures.1 c.self.invariant.1).0,
)

pub set_next-requires-else-n : goal.set_next-requires-else-n
set_next-requires-else-n g c = push_before c.self.inside.log.changes (record { cells = c.self.inside.nodes.cells; first = c.self.inside.first; last = c.self.inside.last; top = c.self.inside.top }) c.self.invariant.0 c.in-Some.p c.in-Some.is c.get-n.result.now c.get-n.ensures c.if-n.false

pub take-node-requires : goal.take-node-requires
take-node-requires g c = push_taken c.self.inside.log.changes (record { cells = c.self.inside.nodes.cells; first = c.self.inside.first; last = c.self.inside.last; top = c.self.inside.top }) c.self.invariant.0 c.in-Some.p c.in-Some.is c.get-n.result.now c.get-n.ensures c.if-n.false c.set_next-else-n.new.nodes.cells c.set_next-else-n.ensures.nodes

pub overflow_sub-self : goal.overflow_sub-self
overflow_sub-self g c = let d = top_logged c.self.inside.log.changes (record { cells = c.self.inside.nodes.cells; first = c.self.inside.first; last = c.self.inside.last; top = c.self.inside.top }) c.self.invariant.0 c.in-Some.p c.in-Some.is in (push_undone_len c.self.inside.log.changes (record { cells = c.self.inside.nodes.cells; first = c.self.inside.first; last = c.self.inside.last; top = c.self.inside.top }) c.self.invariant.0 c.in-Some.p c.in-Some.is c.get-n.result.now c.get-n.ensures c.if-n.false d.1 d.0 c.self.inside.len d.2 c.self.invariant.1).1

pub undone-requires-else-n : goal.undone-requires-else-n
undone-requires-else-n g c = top_logged c.self.inside.log.changes (record { cells = c.self.inside.nodes.cells; first = c.self.inside.first; last = c.self.inside.last; top = c.self.inside.top }) c.self.invariant.0 c.in-Some.p c.in-Some.is

pub returns-in_default : goal.returns-in_default
returns-in_default g c = absurd (no_top c.self.inside.log.changes (record { cells = c.self.inside.nodes.cells; first = c.self.inside.first; last = c.self.inside.last; top = c.self.inside.top }) c.self.invariant.0 c.args.self.now c.self.view_is c.requires c.in_default.is)
