use Rattle.std.proofs.Common.{sym, ◌∙◌}
use Rattle.form_typed.specs.Formula.{formula}
use Rattle.pred_interpolant.proofs.Choosing.{case_first, case_none, case_second, chosen_arithmetic, chosen_within, marks_many, not_within, some_symbol}
use Rattle.pred_interpolant.proofs.symbols.choose.Goals as goal

pub returns-then-are_unset : goal.returns-then-are_unset
returns-then-are_unset c =
    chosen_arithmetic c.args.p.now (formula c.args.first.now) (formula c.args.second.now) _ _ c.requires.first (c.deref.ensures.value ∙ c.in_ok-own.ensures) c.are_unset.ensures c.if-are_unset.true

pub are_within-requires : goal.are_within-requires
are_within-requires c =
    marks_many c.args.p.now (formula c.args.second.now) _ (c.deref-else-are_unset-2.ensures.value ∙ c.in_ok-others.ensures)
    ∙ sym (marks_many c.args.p.now (formula c.args.first.now) _ (c.deref-else-are_unset.ensures.value ∙ c.in_ok-own.ensures))

pub returns-then-are_within : goal.returns-then-are_within
returns-then-are_within c =
    let f = formula c.args.first.now in
    let g = formula c.args.second.now in
    case_first f g (some_symbol c.args.p.now f _ _ (c.deref.ensures.value ∙ c.in_ok-own.ensures) c.are_unset.ensures c.if-are_unset.false)
    (chosen_within c.args.p.now f g _ _ _ c.requires.first (c.deref-else-are_unset.ensures.value ∙ c.in_ok-own.ensures) (c.deref-else-are_unset-2.ensures.value ∙ c.in_ok-others.ensures)
    c.are_within.ensures c.if-are_within.true)

pub are_within-requires-else-are_within : goal.are_within-requires-else-are_within
are_within-requires-else-are_within c =
    marks_many c.args.p.now (formula c.args.first.now) _ (c.deref-else-are_within-2.ensures.value ∙ c.in_ok-own.ensures)
    ∙ sym (marks_many c.args.p.now (formula c.args.second.now) _ (c.deref-else-are_within.ensures.value ∙ c.in_ok-others.ensures))

pub returns-then-are_within-2 : goal.returns-then-are_within-2
returns-then-are_within-2 c =
    let f = formula c.args.first.now in
    let g = formula c.args.second.now in
    case_second f g (some_symbol c.args.p.now f _ _ (c.deref.ensures.value ∙ c.in_ok-own.ensures) c.are_unset.ensures c.if-are_unset.false)
    (not_within c.args.p.now f g _ _ _ (c.deref-else-are_unset.ensures.value ∙ c.in_ok-own.ensures) (c.deref-else-are_unset-2.ensures.value ∙ c.in_ok-others.ensures) c.are_within.ensures
    c.if-are_within.false)
    (chosen_within c.args.p.now g f _ _ _ c.requires.second (c.deref-else-are_within.ensures.value ∙ c.in_ok-others.ensures) (c.deref-else-are_within-2.ensures.value ∙ c.in_ok-own.ensures)
    c.are_within-else-are_within.ensures c.if-are_within-2.true)

pub returns : goal.returns
returns c =
    let f = formula c.args.first.now in
    let g = formula c.args.second.now in
    case_none f g (some_symbol c.args.p.now f _ _ (c.deref.ensures.value ∙ c.in_ok-own.ensures) c.are_unset.ensures c.if-are_unset.false)
    (not_within c.args.p.now f g _ _ _ (c.deref-else-are_unset.ensures.value ∙ c.in_ok-own.ensures) (c.deref-else-are_unset-2.ensures.value ∙ c.in_ok-others.ensures) c.are_within.ensures
    c.if-are_within.false)
    (not_within c.args.p.now g f _ _ _ (c.deref-else-are_within.ensures.value ∙ c.in_ok-others.ensures) (c.deref-else-are_within-2.ensures.value ∙ c.in_ok-own.ensures)
    c.are_within-else-are_within.ensures c.if-are_within-2.false)
