use Rattle.std.proofs.Common.{◌∙◌, ap, cond, sym}
use Rattle.base_budget.specs.declared.log.Entry.TheVariants.{OneSided, Exact, Dark}
use Rattle.clause_set.specs.Shadows.{one_sided, exact, dark}
use Rattle.omega_elim.proofs.Choice.{two_sided_is, entry-one_sided, entry-two_sided, one_sided_rule, exact_rule, dark_rule, done_by, failed_by}
use Rattle.omega_elim.proofs.bounded.by_bounds.Goals as goal

pub returns-in_err-one_sided : goal.returns-in_err-one_sided
returns-in_err-one_sided c =
    failed_by c.args.x c.args.c.now OneSided (one_sided c.args.x c.args.c.now) c.in_err-one_sided.field-0.0 c.from_residual.result
    (entry-one_sided c.args.x c.args.c.now c.args.lows.now c.args.ups.now c.is_two_sided.result c.requires.bounded c.requires.lows c.requires.ups c.is_two_sided.ensures c.if-not-is_two_sided.true)
    (one_sided_rule c.args.x c.args.c.now) c.in_err-one_sided.ensures c.from_residual.ensures.1

pub returns-then-not-is_two_sided : goal.returns-then-not-is_two_sided
returns-then-not-is_two_sided c =
    done_by c.args.x c.args.c.now OneSided (one_sided c.args.x c.args.c.now) c.in_ok-one_sided.field-0
    (entry-one_sided c.args.x c.args.c.now c.args.lows.now c.args.ups.now c.is_two_sided.result c.requires.bounded c.requires.lows c.requires.ups c.is_two_sided.ensures c.if-not-is_two_sided.true)
    (one_sided_rule c.args.x c.args.c.now) c.in_ok-one_sided.ensures

pub returns-in_err-exact : goal.returns-in_err-exact
returns-in_err-exact c =
    let two = two_sided_is c.args.x c.args.c.now c.args.lows.now c.args.ups.now c.requires.bounded c.requires.lows c.requires.ups ∙ sym c.is_two_sided.ensures ∙ c.if-not-is_two_sided.false in
    failed_by c.args.x c.args.c.now Exact (exact c.args.x c.args.c.now) c.in_err-exact.field-0.0 c.from_residual-in_err-exact.result
    (entry-two_sided c.args.x c.args.c.now c.args.lows.now c.args.ups.now c.is_unit.result c.requires.bounded two c.requires.lows c.requires.ups c.is_unit.ensures ∙ ap (λ b. cond b Exact Dark) c.if-is_unit.true)
    (exact_rule c.args.x c.args.c.now) c.in_err-exact.ensures c.from_residual-in_err-exact.ensures.1

pub returns-then-is_unit : goal.returns-then-is_unit
returns-then-is_unit c =
    let two = two_sided_is c.args.x c.args.c.now c.args.lows.now c.args.ups.now c.requires.bounded c.requires.lows c.requires.ups ∙ sym c.is_two_sided.ensures ∙ c.if-not-is_two_sided.false in
    done_by c.args.x c.args.c.now Exact (exact c.args.x c.args.c.now) c.in_ok-exact.field-0
    (entry-two_sided c.args.x c.args.c.now c.args.lows.now c.args.ups.now c.is_unit.result c.requires.bounded two c.requires.lows c.requires.ups c.is_unit.ensures ∙ ap (λ b. cond b Exact Dark) c.if-is_unit.true)
    (exact_rule c.args.x c.args.c.now) c.in_ok-exact.ensures

pub dark-requires-clause-two_sided : goal.dark-requires-clause-two_sided
dark-requires-clause-two_sided c =
    two_sided_is c.args.x c.args.c.now c.args.lows.now c.args.ups.now c.requires.bounded c.requires.lows c.requires.ups ∙ sym c.is_two_sided.ensures ∙ c.if-not-is_two_sided.false

pub returns-in_err-dark : goal.returns-in_err-dark
returns-in_err-dark c =
    let two = two_sided_is c.args.x c.args.c.now c.args.lows.now c.args.ups.now c.requires.bounded c.requires.lows c.requires.ups ∙ sym c.is_two_sided.ensures ∙ c.if-not-is_two_sided.false in
    failed_by c.args.x c.args.c.now Dark (dark c.args.x c.args.c.now) c.in_err-dark.field-0.0 c.from_residual-in_err-dark.result
    (entry-two_sided c.args.x c.args.c.now c.args.lows.now c.args.ups.now c.is_unit.result c.requires.bounded two c.requires.lows c.requires.ups c.is_unit.ensures ∙ ap (λ b. cond b Exact Dark) c.if-is_unit.false)
    (dark_rule c.args.x c.args.c.now) c.in_err-dark.ensures c.from_residual-in_err-dark.ensures.1

pub returns : goal.returns
returns c =
    let two = two_sided_is c.args.x c.args.c.now c.args.lows.now c.args.ups.now c.requires.bounded c.requires.lows c.requires.ups ∙ sym c.is_two_sided.ensures ∙ c.if-not-is_two_sided.false in
    done_by c.args.x c.args.c.now Dark (dark c.args.x c.args.c.now) c.in_ok-dark.field-0
    (entry-two_sided c.args.x c.args.c.now c.args.lows.now c.args.ups.now c.is_unit.result c.requires.bounded two c.requires.lows c.requires.ups c.is_unit.ensures ∙ ap (λ b. cond b Exact Dark) c.if-is_unit.false)
    (dark_rule c.args.x c.args.c.now) c.in_ok-dark.ensures
