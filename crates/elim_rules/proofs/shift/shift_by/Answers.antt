use Rattle.std.proofs.Common.{rules, to_z-of_z}
use mir.Syntax.{w128}
use mir.Val.{SFits}
use Rattle.clause_set.specs.Literals.{term_of}
use Rattle.base_budget.proofs.Charging.{work_ok, work_just}
use Rattle.elim_rules.proofs.Merging.{without_at}
use Rattle.elim_rules.proofs.Shifting.{shift_formed}
use Rattle.elim_rules.proofs.shift.shift_by.Goals as goal

pub returns : goal.returns
returns c =
    let g : SFits w128 c.args.z.now.g = search rules in
    work_ok _ _ c.in_ok-shifted.ensures.work
    (work_just _ _
    (shift_formed c.args.x c.args.z.now.g (term_of c.args.l.now) c.in_ok-t.t c.in_ok-literals.literals c.in_ok-shifted.shifted c.append.new.self c.in_ok-in_form.field-0
    (without_at c.args.x c.args.l.now c.term.result.now c.in_ok-t.t c.in_ok-t.ensures c.term.ensures) (simp to_z-of_z at c.in_ok-literals.ensures) c.in_ok-append.ensures c.in_ok-in_form.ensures))
