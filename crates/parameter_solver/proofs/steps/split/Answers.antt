use Rattle.std.proofs.Common.{◌+◌, drop, None, Some, ap, ◌∙◌}
use Rattle.clause_set.specs.Names.{is_divisibility, is_indivisibility}
use Rattle.clause_set.specs.Rules.{rule}
use Rattle.base_budget.specs.declared.log.Entry.TheVariants.{Apart, Merge}
use Rattle.parameter_solver.specs.Splits.{splitting}
use Rattle.parameter_solver.proofs.Parting.{found_at, apart_place, merge_place, split_apart, split_merge, split_no, split_one, rule_ok, rule_err, rule_none}
use Rattle.parameter_solver.proofs.steps.split.Goals as goal

pub apart-requires : goal.apart-requires
apart-requires c =
    apart_place c.args.j c.in-Some.i c.args.c.now (found_at (is_indivisibility c.args.j) c.literals.result.now c.args.c.now c.indivisibility_place.result (Some c.in-Some.i) c.literals.ensures c.indivisibility_place.ensures c.in-Some.is)

pub returns-in_err-apart : goal.returns-in_err-apart
returns-in_err-apart c =
    let at = found_at (is_indivisibility c.args.j) c.literals.result.now c.args.c.now c.indivisibility_place.result (Some c.in-Some.i) c.literals.ensures c.indivisibility_place.ensures c.in-Some.is in
    rule_err (splitting c.args.j c.args.c.now) (rule c.args.j c.args.c.now (Apart c.in-Some.i)) _ c.from_residual.result (split_apart c.args.j c.in-Some.i c.args.c.now at) c.in_err-apart.ensures c.from_residual.ensures.1

pub returns-in-Some : goal.returns-in-Some
returns-in-Some c =
    let at = found_at (is_indivisibility c.args.j) c.literals.result.now c.args.c.now c.indivisibility_place.result (Some c.in-Some.i) c.literals.ensures c.indivisibility_place.ensures c.in-Some.is in
    rule_ok (splitting c.args.j c.args.c.now) (rule c.args.j c.args.c.now (Apart c.in-Some.i)) _ (split_apart c.args.j c.in-Some.i c.args.c.now at) c.in_ok-apart.ensures

pub returns-in_default-divisibility_place : goal.returns-in_default-divisibility_place
returns-in_default-divisibility_place c =
    rule_none (splitting c.args.j c.args.c.now)
    (split_no c.args.j c.args.c.now
    (found_at (is_indivisibility c.args.j) c.literals.result.now c.args.c.now c.indivisibility_place.result None c.literals.ensures c.indivisibility_place.ensures c.in_default.is)
    (found_at (is_divisibility c.args.j) c.literals-2.result.now c.args.c.now c.divisibility_place.result None c.literals-2.ensures c.divisibility_place.ensures c.in_default-divisibility_place.is))

pub returns-in_default-divisibility_place-2 : goal.returns-in_default-divisibility_place-2
returns-in_default-divisibility_place-2 c =
    rule_none (splitting c.args.j c.args.c.now)
    (split_one c.args.j c.in-Some-divisibility_place.i c.args.c.now
    (found_at (is_indivisibility c.args.j) c.literals.result.now c.args.c.now c.indivisibility_place.result None c.literals.ensures c.indivisibility_place.ensures c.in_default.is)
    (found_at (is_divisibility c.args.j) c.literals-2.result.now c.args.c.now c.divisibility_place.result (Some c.in-Some-divisibility_place.i) c.literals-2.ensures c.divisibility_place.ensures c.in-Some-divisibility_place.is)
    (found_at (is_divisibility c.args.j) c.behind.result.now (drop (c.in-Some-divisibility_place.i + 1) c.args.c.now) c.divisibility_place-2.result None (c.behind.ensures ∙ ap (λ z. drop (c.in-Some-divisibility_place.i + 1) z) c.literals-3.ensures) c.divisibility_place-2.ensures c.in_default-divisibility_place-2.is))

pub merged-requires : goal.merged-requires
merged-requires c =
    merge_place c.args.j c.in-Some-divisibility_place.i c.in-Some-divisibility_place-2.k c.args.c.now
    (found_at (is_divisibility c.args.j) c.literals-2.result.now c.args.c.now c.divisibility_place.result (Some c.in-Some-divisibility_place.i) c.literals-2.ensures c.divisibility_place.ensures c.in-Some-divisibility_place.is)
    (found_at (is_divisibility c.args.j) c.behind.result.now (drop (c.in-Some-divisibility_place.i + 1) c.args.c.now) c.divisibility_place-2.result (Some c.in-Some-divisibility_place-2.k) (c.behind.ensures ∙ ap (λ z. drop (c.in-Some-divisibility_place.i + 1) z) c.literals-3.ensures) c.divisibility_place-2.ensures c.in-Some-divisibility_place-2.is)

pub returns-in_err-merged : goal.returns-in_err-merged
returns-in_err-merged c =
    rule_err (splitting c.args.j c.args.c.now) (rule c.args.j c.args.c.now (Merge c.in-Some-divisibility_place.i (c.in-Some-divisibility_place.i + 1 + c.in-Some-divisibility_place-2.k))) _ c.from_residual-in_err-merged.result
    (split_merge c.args.j c.in-Some-divisibility_place.i c.in-Some-divisibility_place-2.k c.args.c.now
    (found_at (is_indivisibility c.args.j) c.literals.result.now c.args.c.now c.indivisibility_place.result None c.literals.ensures c.indivisibility_place.ensures c.in_default.is)
    (found_at (is_divisibility c.args.j) c.literals-2.result.now c.args.c.now c.divisibility_place.result (Some c.in-Some-divisibility_place.i) c.literals-2.ensures c.divisibility_place.ensures c.in-Some-divisibility_place.is)
    (found_at (is_divisibility c.args.j) c.behind.result.now (drop (c.in-Some-divisibility_place.i + 1) c.args.c.now) c.divisibility_place-2.result (Some c.in-Some-divisibility_place-2.k) (c.behind.ensures ∙ ap (λ z. drop (c.in-Some-divisibility_place.i + 1) z) c.literals-3.ensures) c.divisibility_place-2.ensures c.in-Some-divisibility_place-2.is))
    c.in_err-merged.ensures c.from_residual-in_err-merged.ensures.1

pub returns : goal.returns
returns c =
    rule_ok (splitting c.args.j c.args.c.now) (rule c.args.j c.args.c.now (Merge c.in-Some-divisibility_place.i (c.in-Some-divisibility_place.i + 1 + c.in-Some-divisibility_place-2.k))) _
    (split_merge c.args.j c.in-Some-divisibility_place.i c.in-Some-divisibility_place-2.k c.args.c.now
    (found_at (is_indivisibility c.args.j) c.literals.result.now c.args.c.now c.indivisibility_place.result None c.literals.ensures c.indivisibility_place.ensures c.in_default.is)
    (found_at (is_divisibility c.args.j) c.literals-2.result.now c.args.c.now c.divisibility_place.result (Some c.in-Some-divisibility_place.i) c.literals-2.ensures c.divisibility_place.ensures c.in-Some-divisibility_place.is)
    (found_at (is_divisibility c.args.j) c.behind.result.now (drop (c.in-Some-divisibility_place.i + 1) c.args.c.now) c.divisibility_place-2.result (Some c.in-Some-divisibility_place-2.k) (c.behind.ensures ∙ ap (λ z. drop (c.in-Some-divisibility_place.i + 1) z) c.literals-3.ensures) c.divisibility_place-2.ensures c.in-Some-divisibility_place-2.is))
    c.in_ok-merged.ensures
