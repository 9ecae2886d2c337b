use Rattle.std.proofs.Common.{◌∙◌, sym, ap, Some, arith}
use Rattle.backlist.specs.Trail.{next_cells}
use Rattle.backlist.proofs.Calls.{end_last, push_done, push_len, pushed_value, fresh_place}
use Rattle.backlist.proofs.list.BackList.push_back.Goals as goal

pub set_next-requires : goal.set_next-requires
set_next-requires g c = end_last c.self.inside.log.changes (record { cells = c.self.inside.nodes.cells; first = c.self.inside.first; last = c.self.inside.last; top = c.self.inside.top }) c.self.invariant.0 c.put-p.result c.put-p.ensures.fresh c.of.result.value c.put-p.new.self.cells c.put-p.ensures.cells

pub invariant_of-self : goal.invariant_of-self
invariant_of-self g c =
    let made = c.of.ensures ∙ c.in-Ok.ensures.ok in let n = c.of.result.value in (
      push_done c.self.inside.log.changes (record { cells = c.self.inside.nodes.cells; first = c.self.inside.first; last = c.self.inside.last; top = c.self.inside.top }) c.self.invariant.0 c.put-p.result c.put-p.ensures.fresh c.pushed.new.self.changes (record { cells = c.set_next.new.nodes.cells; first = c.set_next.new.first; last = Some c.put-p.result; top = Some c.put-p.result })
          n c.get-n.result.now.value c.put-p.new.self.cells c.pushed.ensures (sym (pushed_value c.self.inside.last (Some c.put-p.result) c.put-p.result n c.self.inside.nodes.cells c.set_next.new.nodes.cells c.get-n.result.now (c.set_next.ensures.nodes ∙ ap (next_cells c.self.inside.last (Some c.put-p.result)) c.put-p.ensures.cells) c.get-n.ensures))
          c.put-p.ensures.cells c.set_next.ensures.nodes c.set_next.ensures.first (λ i. Some c.put-p.result) (λ i. Some c.put-p.result)
          (ap (λ m. m.prev) made) (ap (λ m. m.next) made) (ap (λ m. m.pushed_after) made) (ap (λ m. m.away) made) (ap (λ m. m.unlinked_after) made)
          (omega (arith, c.self.invariant.1, c.if-self.false, c.self.ranges)),
      push_len c.self.inside.log.changes (record { cells = c.self.inside.nodes.cells; first = c.self.inside.first; last = c.self.inside.last; top = c.self.inside.top }) c.self.invariant.0 c.put-p.result c.put-p.ensures.fresh c.pushed.new.self.changes c.get-n.result.now.value c.self.inside.len c.pushed.ensures c.self.invariant.1,
    )

pub returns-in-Ok-clause-fresh : goal.returns-in-Ok-clause-fresh
returns-in-Ok-clause-fresh g c = fresh_place c.self.inside.log.changes (record { cells = c.self.inside.nodes.cells; first = c.self.inside.first; last = c.self.inside.last; top = c.self.inside.top }) c.self.invariant.0 c.args.self.now c.self.view_is c.put-p.result c.put-p.ensures.fresh
