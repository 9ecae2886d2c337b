use Rattle.std.proofs.Common.{rules, ◌≡◌, None, to_z-of_z}
use mir.Syntax.{w128}
use mir.Val.{SFits}
use Rattle.clause_set.specs.Table.{ends_at}
use Rattle.clause_set.proofs.Ends.{put-first, put-again}
use Rattle.clause_set.proofs.table.put_bound.Goals as goal

pub returns-else-is_some : goal.returns-else-is_some
returns-else-is_some c = λ q.
    let fits : SFits w128 c.args.k = c.ranges.k in
    let none : c.in_ok-held.held ≡ None = search rules in
    put-first (ends_at c.args.table.now) (ends_at c.put_at.new.table) c.args.p.now q c.in_ok-led.field-0.items c.args.k c.leads_negative-opposite.result c.in_ok-held.held _
    c.in_ok-led.ensures c.leads_negative-opposite.ensures c.in_ok-held.ensures.held none
    (simp to_z-of_z at c.with_end.ensures) (c.in_ok-held.ensures.put _)

pub returns-in_ok-put_at : goal.returns-in_ok-put_at
returns-in_ok-put_at c = λ q.
    let fits : SFits w128 c.args.k = c.ranges.k in
    put-again (ends_at c.args.table.now) (ends_at c.put_at.new.table) (ends_at c.put_at-then-is_some.new.table) c.args.p.now q c.in_ok-led.field-0.items c.in_ok-led-2.field-0.items c.args.k
    c.leads_negative-opposite.result c.in_ok-held.held _ _
    c.in_ok-led.ensures c.in_ok-led-2.ensures c.leads_negative-opposite.ensures c.in_ok-held.ensures.held
    (simp to_z-of_z at c.with_end-then-is_some.ensures) (c.in_ok-held.ensures.put _) (c.in_ok-put_at.ensures.put _)
