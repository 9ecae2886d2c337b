use Rattle.std.proofs.Common.{◌∙◌, sym, ap, subst, List, Some, true}
use Rattle.backlist.specs.Cells.{update}
use Rattle.backlist.specs.History.{History, Change, replay, without}
use Rattle.backlist.specs.Trail.{IsEnd, prev_cells}
use Rattle.backlist.proofs.Calls.{found_in, unlink_others, end_before, end_behind, end_next_cells, end_prev_cells, unlink_done, unlink_len, marks}
use Rattle.backlist.proofs.list.BackList.unlink.Goals as goal

pub get-n-requires : goal.get-n-requires
get-n-requires g c = found_in c.self.inside.log.changes (record { cells = c.self.inside.nodes.cells; first = c.self.inside.first; last = c.self.inside.last; top = c.self.inside.top }) c.args.self.now c.self.view_is c.self.invariant.0 c.args.p c.requires

pub set_next-requires : goal.set_next-requires
set_next-requires g c = end_before c.self.inside.log.changes (record { cells = c.self.inside.nodes.cells; first = c.self.inside.first; last = c.self.inside.last; top = c.self.inside.top }) c.args.self.now c.self.view_is c.self.invariant.0 c.args.p c.get-n.result.now c.get-n.ensures c.requires.0 c.requires.1 c.requires.2 c.requires.3

pub set_prev-requires : goal.set_prev-requires
set_prev-requires g c = subst (λ cs. IsEnd cs c.get-n.result.now.next) (sym c.set_next.ensures.nodes) (end_next_cells c.get-n.result.now.prev c.get-n.result.now.next c.self.inside.nodes.cells c.get-n.result.now.next (end_behind c.self.inside.log.changes (record { cells = c.self.inside.nodes.cells; first = c.self.inside.first; last = c.self.inside.last; top = c.self.inside.top }) c.args.self.now c.self.view_is c.self.invariant.0 c.args.p c.get-n.result.now c.get-n.ensures c.requires.0 c.requires.1 c.requires.2 c.requires.3))

pub mark-requires : goal.mark-requires
mark-requires g c = subst (λ cs. IsEnd cs (Some c.args.p)) (sym c.set_prev.ensures.nodes) (end_prev_cells c.get-n.result.now.next c.get-n.result.now.prev c.set_next.new.nodes.cells (Some c.args.p)
    (subst (λ cs. IsEnd cs (Some c.args.p)) (sym c.set_next.ensures.nodes) (end_next_cells c.get-n.result.now.prev c.get-n.result.now.next c.self.inside.nodes.cells (Some c.args.p) (c.get-n.result.now, c.get-n.ensures))))

pub invariant_of-self : goal.invariant_of-self
invariant_of-self g c = (
  unlink_done c.self.inside.log.changes (record { cells = c.self.inside.nodes.cells; first = c.self.inside.first; last = c.self.inside.last; top = c.self.inside.top }) c.args.self.now c.self.view_is c.self.invariant.0 c.args.p c.requires c.get-n.result.now c.get-n.ensures c.unlinked.new.self.changes (record { cells = c.mark.new.nodes.cells; first = c.set_next.new.first; last = c.set_prev.new.last; top = Some c.args.p }) c.unlinked.ensures
      (c.mark.ensures ∙ ap (update c.args.p.at (marks true c.self.inside.top)) (c.set_prev.ensures.nodes ∙ ap (prev_cells c.get-n.result.now.next c.get-n.result.now.prev) c.set_next.ensures.nodes))
      c.set_next.ensures.first c.set_prev.ensures.last (λ i. Some c.args.p),
  unlink_len c.self.inside.log.changes (record { cells = c.self.inside.nodes.cells; first = c.self.inside.first; last = c.self.inside.last; top = c.self.inside.top }) c.args.self.now c.self.view_is c.self.invariant.0 c.args.p c.requires c.get-n.result.now c.get-n.ensures c.unlinked.new.self.changes c.self.inside.len c.unlinked.ensures c.self.invariant.1,
)

pub returns-clause-others : goal.returns-clause-others
returns-clause-others g c = λ xs v ys e.
    ap (λ (ds : List (Change _)). (replay ds).present) c.unlinked.ensures ∙ ap (λ (h : History _). without c.args.p h.present) c.self.view_is
    ∙ unlink_others c.self.inside.log.changes (record { cells = c.self.inside.nodes.cells; first = c.self.inside.first; last = c.self.inside.last; top = c.self.inside.top }) c.args.self.now c.self.view_is c.self.invariant.0 c.args.p c.requires c.get-n.result.now c.get-n.ensures xs v ys e
