use Rattle.std.proofs.Common.{rules, true, false, length, IfSome, ◌∙◌, ap, sym, subst}
use Rattle.std.specs.Prelude.{◌==◌}
use Rattle.linear_term.specs.Range.{InRange}
use Rattle.clause_set.specs.Normal.{negated}
use Rattle.clause_set.specs.Table.{end_of, ends_at}
use Rattle.clause_set.proofs.Ends.{own_negative, opposite_negative, own_other, opposite_other, opposite_none}
use Rattle.clause_set.proofs.table.bounds_at.Goals as goal

pub returns-then-leads_negative-clause-own : goal.returns-then-leads_negative-clause-own
returns-then-leads_negative-clause-own c =
    c.end_of.ensures ∙ ap (end_of true) c.ends_at-ends.ensures
    ∙ own_negative c.args.table.now c.args.t.now.pairs c.as_slice.result.now (search rules) (c.as_slice.ensures.value ∙ c.in_ok-opposite.ensures ∙ ap negated c.pairs-then-leads_negative.ensures)

pub returns-then-leads_negative-clause-opposite : goal.returns-then-leads_negative-clause-opposite
returns-then-leads_negative-clause-opposite c =
    c.end_of-then-leads_negative.ensures ∙ ap (end_of false) c.ends_at-ends.ensures
    ∙ opposite_negative c.args.table.now c.args.t.now.pairs c.as_slice.result.now (search rules) (c.as_slice.ensures.value ∙ c.in_ok-opposite.ensures ∙ ap negated c.pairs-then-leads_negative.ensures)

pub returns-then-is_empty-clause-own : goal.returns-then-is_empty-clause-own
returns-then-is_empty-clause-own c =
    c.end_of-own.ensures ∙ ap (end_of false) (c.ends_at-ends-2.ensures ∙ ap (ends_at c.args.table.now) c.pairs-2.ensures)
    ∙ own_other c.args.table.now c.args.t.now.pairs (search rules)

pub returns-then-is_empty-clause-opposite : goal.returns-then-is_empty-clause-opposite
returns-then-is_empty-clause-opposite c =
    c.end_of-own.ensures ∙ ap (end_of false) (c.ends_at-ends-2.ensures ∙ ap (ends_at c.args.table.now) c.pairs-2.ensures)
    ∙ opposite_none c.args.table.now c.args.t.now.pairs (ap (λ z. length z == 0) (sym c.pairs-3.ensures) ∙ sym c.is_empty.ensures ∙ c.if-is_empty.true)

pub returns-clause-own : goal.returns-clause-own
returns-clause-own c =
    c.end_of-own.ensures ∙ ap (end_of false) (c.ends_at-ends-2.ensures ∙ ap (ends_at c.args.table.now) c.pairs-2.ensures)
    ∙ own_other c.args.table.now c.args.t.now.pairs (search rules)

pub returns-clause-opposite : goal.returns-clause-opposite
returns-clause-opposite c =
    c.end_of-2.ensures ∙ ap (end_of true) (c.ends_at-ends-2.ensures ∙ ap (ends_at c.args.table.now) c.pairs-2.ensures)
    ∙ opposite_other c.args.table.now c.args.t.now c.know_normal.ensures
    (ap (λ z. length z == 0) (sym c.pairs-3.ensures) ∙ sym c.is_empty.ensures ∙ c.if-is_empty.false) (search rules)

pub returns-then-leads_negative-clause-own_range : goal.returns-then-leads_negative-clause-own_range
returns-then-leads_negative-clause-own_range c = subst (λ z. IfSome z (λ k. InRange k)) (sym (returns-then-leads_negative-clause-own c)) (c.requires c.args.t.now.pairs)

pub returns-then-leads_negative-clause-opposite_range : goal.returns-then-leads_negative-clause-opposite_range
returns-then-leads_negative-clause-opposite_range c = subst (λ z. IfSome z (λ k. InRange k)) (sym (returns-then-leads_negative-clause-opposite c)) (c.requires (negated c.args.t.now.pairs))

pub returns-then-is_empty-clause-own_range : goal.returns-then-is_empty-clause-own_range
returns-then-is_empty-clause-own_range c = subst (λ z. IfSome z (λ k. InRange k)) (sym (returns-then-is_empty-clause-own c)) (c.requires c.args.t.now.pairs)

pub returns-then-is_empty-clause-opposite_range : goal.returns-then-is_empty-clause-opposite_range
returns-then-is_empty-clause-opposite_range c = subst (λ z. IfSome z (λ k. InRange k)) (sym (returns-then-is_empty-clause-opposite c)) (c.requires (negated c.args.t.now.pairs))

pub returns-clause-own_range : goal.returns-clause-own_range
returns-clause-own_range c = subst (λ z. IfSome z (λ k. InRange k)) (sym (returns-clause-own c)) (c.requires c.args.t.now.pairs)

pub returns-clause-opposite_range : goal.returns-clause-opposite_range
returns-clause-opposite_range c = subst (λ z. IfSome z (λ k. InRange k)) (sym (returns-clause-opposite c)) (c.requires (negated c.args.t.now.pairs))
