use Rattle.std.proofs.Common.{◌∙◌, ap, filter}
use Rattle.elim_rules.specs.declared.shadow.Shadow.TheVariants.{Real}
use Rattle.elim_rules.proofs.Results.{filter_divisors, shadows_divisors, append_divisors, exact_done, exact_failed}
use Rattle.elim_rules.proofs.exact_shadow.exact.Goals as goal

pub returns-in_err-shadows : goal.returns-in_err-shadows
returns-in_err-shadows c =
    exact_failed c.args.x c.args.c.now c.in_ok-literals.literals c.args.lows.now c.args.ups.now c.in_err-shadows.field-0.0 c.from_residual-in_err-shadows.result c.len.result c.in_ok-charge.field-0
    (c.in_ok-literals.ensures ∙ ap (filter _) c.literals.ensures) c.requires.lows c.requires.ups c.len.ensures c.in_ok-step.ensures c.in_ok-charge.ensures c.in_err-shadows.ensures c.from_residual-in_err-shadows.ensures.1

pub in_form-requires : goal.in_form-requires
in_form-requires c =
    append_divisors c.in_ok-literals.literals c.in_ok-shadows.field-0 c.append.new.self c.in_ok-append.ensures
    (filter_divisors _ c.args.c.now c.literals.result.now c.in_ok-literals.literals c.know_clause.ensures.divisors c.literals.ensures c.in_ok-literals.ensures)
    (shadows_divisors Real c.args.x c.args.lows.now c.args.ups.now c.in_ok-shadows.field-0 c.in_ok-shadows.ensures)

pub returns : goal.returns
returns c =
    exact_done c.args.x c.args.c.now c.in_ok-literals.literals c.args.lows.now c.args.ups.now c.in_ok-shadows.field-0 c.append.new.self c.in_ok-in_form.field-0 c.len.result c.in_ok-charge.field-0
    (c.in_ok-literals.ensures ∙ ap (filter _) c.literals.ensures) c.requires.lows c.requires.ups c.len.ensures c.in_ok-step.ensures c.in_ok-charge.ensures c.in_ok-shadows.ensures c.in_ok-append.ensures c.in_ok-in_form.ensures
