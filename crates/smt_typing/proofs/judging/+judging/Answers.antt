use Rattle.std.proofs.Common.{option_copied, length, nat_eq, Some, ◌≡◌, ◌∙◌, ap, sym, IfOk, get_or, refl}
use Rattle.smt_terms.specs.Term.{bindings_of, phrase, phrases_of}
use Rattle.smt_terms.specs.Evaluation.{names_of, texts_of, with_names}
use Rattle.smt_typing.specs.Bounds.{bound_at, judged, symbols_at}
use Rattle.smt_commands.specs.Symbols.{entry_of}
use Rattle.smt_terms.specs.declared.operator.Sort.TheVariants as sort
use Rattle.smt_commands.specs.Least.{least_from}
use Rattle.smt_terms.specs.Operators.{found, operator_of}
use Rattle.smt_typing.specs.Judging.{argument_faults}
use Rattle.smt_typing.specs.Faults.{bound_faults, faults, term_faults}
use Rattle.smt_typing.specs.Sorts.{bound_sorts, term_sort, variables}
use Rattle.smt_typing.proofs.Verdicts.{alike_is, bound_more, bound_use, branches_are, each_end, each_more, let_is, needed_is, ok_map, operator_is, operator_use, quantifier_is, sorts_more, symbol_use}
use Rattle.smt_typing.proofs.judging.+judging.Goals as goal

pub judge_needed-returns : goal.judge_needed-returns
judge_needed-returns t c =
    needed_is c.args.found c.with_kind_fault.result (faults (symbols_at c.args.site.now) (bound_at c.args.site.now) (phrase c.args.term.now)) c.args.want
    (term_sort (symbols_at c.args.site.now) (bound_at c.args.site.now) (phrase c.args.term.now)) _ c.first_byte.result c.in_ok-judged.judged c.in_ok-judged.ensures c.first_byte.ensures c.with_kind_fault.ensures

pub judge_alike-returns : goal.judge_alike-returns
judge_alike-returns t c =
    let g = symbols_at c.args.site.now in
    let b = bound_at c.args.site.now in
    alike_is g b c.args.terms.now c.in-Some.first.now c.in-Some.rest.now c.args.found c.loop-term.found c.in_ok-judged.judged c.in-Some.ensures.cases.0 c.in_ok-judged.ensures
    (each_end g b c.in_ok-judged.judged.sort c.in-Some.rest.now c.loop-term.term-index c.loop-term.found c.in_ok-judged.judged.found c.loop-term-test.false c.loop-term.invariant)

pub judge_alike-loop-term-preserved : goal.judge_alike-loop-term-preserved
judge_alike-loop-term-preserved t c =
    each_more (symbols_at c.args.site.now) (bound_at c.args.site.now) c.in_ok-judged.judged.sort c.in-Some.rest.now c.loop-term.term-index c.term-item.result c.loop-term.found c.in_ok-found.field-0.found _ c.in_ok-found.field-0 _
    c.loop-term-test.true (c.in_ok-found.ensures ∙ ap (λ z. judged c.loop-term.found (term_faults (symbols_at c.args.site.now) (bound_at c.args.site.now) c.in_ok-judged.judged.sort (phrase z)) (term_sort (symbols_at c.args.site.now) (bound_at c.args.site.now) (phrase z))) c.term-item.is) refl c.loop-term.invariant

pub judge_each-loop-term-preserved : goal.judge_each-loop-term-preserved
judge_each-loop-term-preserved t c =
    each_more (symbols_at c.args.site.now) (bound_at c.args.site.now) c.args.want c.args.terms.now c.loop-term.term-index c.term-item.result c.loop-term.found c.in_ok-found.field-0.found _ c.in_ok-found.field-0 _
    c.loop-term-test.true (c.in_ok-found.ensures ∙ ap (λ z. judged c.loop-term.found (term_faults (symbols_at c.args.site.now) (bound_at c.args.site.now) c.args.want (phrase z)) (term_sort (symbols_at c.args.site.now) (bound_at c.args.site.now) (phrase z))) c.term-item.is) refl c.loop-term.invariant

pub judge_operator-returns : goal.judge_operator-returns
judge_operator-returns t c =
    operator_is (symbols_at c.args.site.now) (bound_at c.args.site.now) c.args.operator c.args.at c.args.arguments.now c.args.found c.with_arity_fault-found.result c.with_product_fault-found.result c.takes.result c.wants.result
    c.in_ok-judged.judged c.operator_sort.result c.takes.ensures c.with_arity_fault-found.ensures c.with_product_fault-found.ensures c.wants.ensures c.in_ok-judged.ensures.found c.in_ok-judged.ensures.sort c.operator_sort.ensures

pub judge_quantified-returns : goal.judge_quantified-returns
judge_quantified-returns t c =
    quantifier_is (symbols_at c.args.site.now) (bound_at c.args.site.now) (variables (texts_of c.args.variables.now) (bound_at c.args.site.now)) c.args.variables.now (phrase c.args.body.now) c.args.found
    c.with_variable_faults-found.result c.in_ok-judged.judged _ refl c.with_variable_faults-found.ensures c.in_ok-judged.ensures

pub judge_bindings-loop-binding-preserved : goal.judge_bindings-loop-binding-preserved
judge_bindings-loop-binding-preserved t c =
    let g = symbols_at c.args.site.now in
    let b = bound_at c.args.site.now in
    let d = get_or c.args.bindings.now c.loop-binding.binding-index c.binding-item.result in
    let is : c.in_ok-judged.judged ≡ judged c.loop-binding.found (faults g b (phrase d.term)) (term_sort g b (phrase d.term)) =
    c.in_ok-judged.ensures ∙ ap (λ z. judged c.loop-binding.found (faults g b (phrase z.term)) (term_sort g b (phrase z.term))) c.binding-item.is in
    record {
      found = bound_more g b c.args.bindings.now c.loop-binding.binding-index c.binding-item.result c.loop-binding.found _ c.in_ok-judged.judged (term_sort g b (phrase d.term)) c.loop-binding-test.true is c.loop-binding.invariant.found;
      sorts = sorts_more g b c.args.bindings.now c.loop-binding.binding-index c.binding-item.result c.loop-binding.sorts _ _ c.in_ok-judged.judged c.loop-binding.found (faults g b (phrase d.term))
          c.loop-binding-test.true is c.in_ok-push.ensures.ok c.loop-binding.invariant.sorts;
    }

pub judge-returns-in_ok-outside-in-Let : goal.judge-returns-in_ok-outside-in-Let
judge-returns-in_ok-outside-in-Let t c =
    let g = symbols_at c.args.site.now in
    let b = bound_at c.args.site.now in
    let outside = c.in_ok-outside-in-Let.outside in
    let inner = with_names (names_of (bindings_of c.as_slice-in-Let-2.result.now)) c.as_slice-in-Let-3.result.now b in
    let given : IfOk c.judge.result (λ j. j ≡ judged outside.found (faults g inner (phrase c.get.result.now)) (term_sort g inner (phrase c.get.result.now))) = c.judge.ensures in
    let same : inner ≡ with_names (names_of (bindings_of c.in-Let.bindings)) outside.sorts b =
    ap (λ z. with_names (names_of (bindings_of z)) c.as_slice-in-Let-3.result.now b) c.as_slice-in-Let-2.ensures ∙ ap (λ z. with_names (names_of (bindings_of c.in-Let.bindings)) z b) c.as_slice-in-Let-3.ensures in
    ok_map c.judge.result _ _
    (λ j e. let_is g b inner c.args.term.now c.in-Let.field-0 c.in-Let.bindings c.in-Let.body outside.sorts c.args.found outside.found j c.in-Let.is same
    (c.in_ok-outside-in-Let.ensures.found ∙ ap (λ z. least_from c.args.found (bound_faults g b (bindings_of z))) c.as_slice-in-Let.ensures)
    (c.in_ok-outside-in-Let.ensures.sorts ∙ ap (λ z. bound_sorts g b (bindings_of z)) c.as_slice-in-Let.ensures)
    (e ∙ ap (λ z. judged outside.found (faults g inner (phrase z)) (term_sort g inner (phrase z))) c.get.ensures)) given

pub judge_arguments-returns-in_ok-judged-in-Branches-clause-found : goal.judge_arguments-returns-in_ok-judged-in-Branches-clause-found
judge_arguments-returns-in_ok-judged-in-Branches-clause-found t c =
    let g = symbols_at c.args.site.now in
    let b = bound_at c.args.site.now in
    ok_map c.judge_alike-in-Branches.result _ _
    (λ j e. ap (λ z. z.found) (branches_are g b c.args.arguments.now c.in-Some.condition.now c.in-Some.branches.now c.args.found c.in_ok-judged-in-Branches.judged j c.in-Some.ensures.cases.0 c.in_ok-judged-in-Branches.ensures e)
    ∙ ap (λ z. least_from c.args.found (argument_faults g b z (phrases_of c.args.arguments.now))) (sym c.in-Branches.is)) c.judge_alike-in-Branches.ensures

pub judge_use-returns-in-Some : goal.judge_use-returns-in-Some
judge_use-returns-in-Some t c =
    let g = symbols_at c.args.site.now in
    let b = bound_at c.args.site.now in
    bound_use g b c.args.name.now c.args.arguments.now c.args.found c.with_arity_fault-found.result c.in_ok-found.found c.in-Some.sort (nat_eq (length c.args.arguments.now) 0)
    (ap (λ z. found z b) (sym c.as_slice.ensures) ∙ sym c.sort_at.ensures ∙ c.in-Some.is) refl c.with_arity_fault-found.ensures c.in_ok-found.ensures

pub judge_use-returns-in-Some-named_operator : goal.judge_use-returns-in-Some-named_operator
judge_use-returns-in-Some-named_operator t c =
    let g = symbols_at c.args.site.now in
    let b = bound_at c.args.site.now in
    ok_map c.judge_operator.result _ _
    (λ j e. operator_use g b c.args.name.now c.args.arguments.now c.args.found c.in-Some-named_operator.operator j (ap (λ z. found z b) (sym c.as_slice.ensures) ∙ sym c.sort_at.ensures ∙ c.in_default.is)
    (ap operator_of (sym c.as_slice-2.ensures) ∙ sym c.named_operator.ensures ∙ c.in-Some-named_operator.is) e) c.judge_operator.ensures

pub judge_use-returns-in-Some-entry : goal.judge_use-returns-in-Some-entry
judge_use-returns-in-Some-entry t c =
    let g = symbols_at c.args.site.now in
    let b = bound_at c.args.site.now in
    let e = c.in-Some-entry.entry.now in
    symbol_use g b c.args.name.now c.args.arguments.now c.args.found c.with_arity_fault-found-in-Some-entry.result c.in_ok-found-2.found (Some e) (Some sort.Int) (Some e.sort)
    (ap (λ z. found z b) (sym c.as_slice.ensures) ∙ sym c.sort_at.ensures ∙ c.in_default.is)
    (ap operator_of (sym c.as_slice-2.ensures) ∙ sym c.named_operator.ensures ∙ c.in_default-named_operator.is)
    (ap (λ z. entry_of z g) (sym c.as_slice-3.ensures) ∙ sym c.entry.ensures ∙ ap option_copied c.in-Some-entry.is)
    c.with_arity_fault-found-in-Some-entry.ensures refl refl c.in_ok-found-2.ensures
