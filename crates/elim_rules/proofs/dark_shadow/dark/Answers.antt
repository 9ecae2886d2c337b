use Rattle.std.proofs.Common.{rules, ap, ◌∙◌, filter, to_z-of_z}
use mir.Syntax.{w128}
use mir.Val.{SFits}
use Rattle.clause_set.specs.Clauses.{clauses_of}
use Rattle.elim_rules.specs.declared.shadow.Shadow.TheVariants.{Dark}
use Rattle.elim_rules.proofs.Results.{filter_divisors, shadows_divisors, append_divisors}
use Rattle.elim_rules.proofs.Darkness.{greatest-positive, lows-positive, dark_refused, dark_starved, dark_unshadowed, dark_unsplintered, dark_done, collected, splinters_divisors, all_divisors}
use Rattle.elim_rules.proofs.dark_shadow.dark.Goals as goal

pub pay-requires-clause-a_positive : goal.pay-requires-clause-a_positive
pay-requires-clause-a_positive c =
    let a : SFits w128 c.greatest_factor-a.result = search rules in
    simp to_z-of_z (greatest-positive c.args.x c.args.c.now c.args.ups.now c.greatest_factor-a.result c.requires.two_sided c.requires.ups c.greatest_factor-a.ensures.exact)

pub returns-in_err-pay : goal.returns-in_err-pay
returns-in_err-pay c =
    let a : SFits w128 c.greatest_factor-a.result = search rules in
    dark_refused c.args.x c.args.c.now c.args.ups.now c.greatest_factor-a.result c.in_err-pay.field-0.0 c.from_residual-in_err-pay.result c.requires.ups c.greatest_factor-a.ensures.exact
    (simp to_z-of_z at c.in_err-pay.ensures) c.from_residual-in_err-pay.ensures.1

pub returns-in_err-shadows : goal.returns-in_err-shadows
returns-in_err-shadows c =
    let a : SFits w128 c.greatest_factor-a.result = search rules in
    dark_unshadowed c.args.x c.args.c.now c.args.lows.now c.args.ups.now c.greatest_factor-a.result c.in_err-shadows.field-0.0 c.from_residual-in_err-shadows.result c.requires.lows c.requires.ups
    c.greatest_factor-a.ensures.exact (simp to_z-of_z at c.in_ok-pay.ensures) c.in_err-shadows.ensures c.from_residual-in_err-shadows.ensures.1

pub returns-in_err-append : goal.returns-in_err-append
returns-in_err-append c =
    let a : SFits w128 c.greatest_factor-a.result = search rules in
    dark_starved c.args.x c.args.c.now c.args.ups.now c.greatest_factor-a.result c.from_residual-in_err-append.result c.requires.ups c.greatest_factor-a.ensures.exact
    (simp to_z-of_z at c.in_ok-pay.ensures) c.from_residual-in_err-append.ensures.1

pub returns-in_err-push : goal.returns-in_err-push
returns-in_err-push c =
    let a : SFits w128 c.greatest_factor-a.result = search rules in
    dark_starved c.args.x c.args.c.now c.args.ups.now c.greatest_factor-a.result c.from_residual-in_err-push.result c.requires.ups c.greatest_factor-a.ensures.exact
    (simp to_z-of_z at c.in_ok-pay.ensures) c.from_residual-in_err-push.ensures.1

pub splinters-requires-clause-a_positive : goal.splinters-requires-clause-a_positive
splinters-requires-clause-a_positive c =
    let a : SFits w128 c.greatest_factor-a.result = search rules in
    simp to_z-of_z (greatest-positive c.args.x c.args.c.now c.args.ups.now c.greatest_factor-a.result c.requires.two_sided c.requires.ups c.greatest_factor-a.ensures.exact)

pub splinters-requires-clause-b_positive : goal.splinters-requires-clause-b_positive
splinters-requires-clause-b_positive c = lows-positive c.args.x c.args.c.now c.args.lows.now c.requires.lows

pub returns-in_err-splinters : goal.returns-in_err-splinters
returns-in_err-splinters c =
    let a : SFits w128 c.greatest_factor-a.result = search rules in
    dark_unsplintered c.args.x c.args.c.now c.args.lows.now c.args.ups.now c.in_ok-shadows.field-0 c.greatest_factor-a.result c.in_err-splinters.field-0.0 c.from_residual-in_err-splinters.result c.requires.lows
    c.requires.ups c.greatest_factor-a.ensures.exact (simp to_z-of_z at c.in_ok-pay.ensures) c.in_ok-shadows.ensures
    (rw c.literals-2.ensures at (simp to_z-of_z at c.in_err-splinters.ensures)) c.from_residual-in_err-splinters.ensures.1

pub returns-in_err-append-2 : goal.returns-in_err-append-2
returns-in_err-append-2 c =
    let a : SFits w128 c.greatest_factor-a.result = search rules in
    dark_starved c.args.x c.args.c.now c.args.ups.now c.greatest_factor-a.result c.from_residual-in_err-append-2.result c.requires.ups c.greatest_factor-a.ensures.exact
    (simp to_z-of_z at c.in_ok-pay.ensures) c.from_residual-in_err-append-2.ensures.1

pub clauses-requires : goal.clauses-requires
clauses-requires c =
    let a : SFits w128 c.greatest_factor-a.result = search rules in
    all_divisors c.append.new.self c.in_ok-splinters.field-0 c.as_slice.result.now
    (c.as_slice.ensures ∙ collected c.append.new.self c.new-all.result c.push.new.self c.append-2.new.self c.in_ok-splinters.field-0 c.new-all.ensures c.in_ok-push.ensures.ok c.in_ok-append-2.ensures)
    (append_divisors c.in_ok-first.first c.in_ok-shadows.field-0 c.append.new.self c.in_ok-append.ensures
    (filter_divisors _ c.args.c.now c.literals.result.now c.in_ok-first.first c.know_clause.ensures.divisors c.literals.ensures c.in_ok-first.ensures)
    (shadows_divisors Dark c.args.x c.args.lows.now c.args.ups.now c.in_ok-shadows.field-0 c.in_ok-shadows.ensures))
    (splinters_divisors c.args.x c.args.c.now c.args.lows.now c.greatest_factor-a.result c.in_ok-splinters.field-0 c.know_clause.ensures.divisors
    (rw c.literals-2.ensures at (simp to_z-of_z at c.in_ok-splinters.ensures)))

pub returns-in_err-clauses : goal.returns-in_err-clauses
returns-in_err-clauses c =
    let a : SFits w128 c.greatest_factor-a.result = search rules in
    dark_starved c.args.x c.args.c.now c.args.ups.now c.greatest_factor-a.result c.from_residual-in_err-clauses.result c.requires.ups c.greatest_factor-a.ensures.exact
    (simp to_z-of_z at c.in_ok-pay.ensures) c.from_residual-in_err-clauses.ensures.1

pub returns : goal.returns
returns c =
    let a : SFits w128 c.greatest_factor-a.result = search rules in
    dark_done c.args.x c.args.c.now c.in_ok-first.first c.args.lows.now c.args.ups.now c.in_ok-shadows.field-0 c.append.new.self c.in_ok-splinters.field-0 c.append-2.new.self c.in_ok-clauses.field-0
    c.greatest_factor-a.result (c.in_ok-first.ensures ∙ ap (filter _) c.literals.ensures) c.requires.lows c.requires.ups c.greatest_factor-a.ensures.exact (simp to_z-of_z at c.in_ok-pay.ensures)
    c.in_ok-shadows.ensures (rw c.literals-2.ensures at (simp to_z-of_z at c.in_ok-splinters.ensures)) c.in_ok-append.ensures
    (collected c.append.new.self c.new-all.result c.push.new.self c.append-2.new.self c.in_ok-splinters.field-0 c.new-all.ensures c.in_ok-push.ensures.ok c.in_ok-append-2.ensures)
    (c.in_ok-clauses.ensures ∙ ap clauses_of c.as_slice.ensures)
