use Rattle.std.proofs.Common.{◌∙◌, sym, ap, Some, if◌then◌else◌}
use Rattle.smt_terms.specs.declared.operator.Sort.TheVariants as sort
use Rattle.smt_terms.specs.Evaluation.{names_of}
use Rattle.smt_terms.specs.Operators.{found}
use Rattle.smt_terms.specs.Term.{bindings_of}
use Rattle.smt_typing.specs.Bounds.{last_of, sorts_at}
use Rattle.smt_typing.proofs.Walking.{at_let, at_variables}
use Rattle.smt_typing.proofs.bound.+sort_at.Goals as goal

pub returns-then-is_variable : goal.returns-then-is_variable
returns-then-is_variable t c =
    let e = at_variables c.args.text.now c.args.bound.now c.in-Variables.variables c.in-Variables.outer c.in-Variables.is in
    sym (e ∙ ap (λ z. if z then Some (Some sort.Int) else found c.args.text.now (sorts_at c.in-Variables.outer.now)) (sym c.is_variable.ensures ∙ c.if-is_variable.true))

pub returns-else-is_variable : goal.returns-else-is_variable
returns-else-is_variable t c =
    let e = at_variables c.args.text.now c.args.bound.now c.in-Variables.variables c.in-Variables.outer c.in-Variables.is in
    c.sort_at.ensures ∙ sym (e ∙ ap (λ z. if z then Some (Some sort.Int) else found c.args.text.now (sorts_at c.in-Variables.outer.now)) (sym c.is_variable.ensures ∙ c.if-is_variable.false))

pub returns-in-Let : goal.returns-in-Let
returns-in-Let t c =
    c.last_sort.ensures ∙ ap (λ z. last_of c.args.text.now z (names_of (bindings_of c.in-Let.bindings.now)) c.in-Let.sorts.now) c.sort_at-in-Let.ensures
    ∙ sym (at_let c.args.text.now c.args.bound.now c.in-Let.bindings c.in-Let.sorts c.in-Let.outer c.in-Let.is)
