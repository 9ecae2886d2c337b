use Rattle.std.proofs.Common.{◌++◌, ap, sym, ◌∙◌}
use Rattle.pri_typing.specs.declared.scope.Category.TheVariants.{Formula, Term}
use Rattle.pri_typing.specs.Phrase.{phrase, phrases_of, addends_of, count}
use Rattle.pri_typing.specs.Sites.{scope_at}
use Rattle.pri_typing.specs.Scope.{refers}
use Rattle.pri_typing.specs.Faults.{faults, all_faults, addend_faults, least, needs, product_faults, use_faults}
use Rattle.pri_typing.proofs.Faulting.{form_is, with_operand, with_operands, least_of_two, count_is, operand_faults}
use Rattle.pri_typing.proofs.Folds.{phrase-Use, phrase-If, phrase-Min, phrase-Max, phrase-Product, phrase-Sum, phrase-Compare, phrase-Implies, phrase-Iff}
use Rattle.pri_typing.proofs.faults.+faults.Goals as goal

pub fault_at-returns-in-Min : goal.fault_at-returns-in-Min
fault_at-returns-in-Min t c =
    let s = scope_at c.args.site.now in
    with_operands s Term (needs c.args.want Term c.args.at) c.get-in-Min.result.now c.in-Min.left c.get-in-Min-2.result.now c.in-Min.right
    c.with_two-in-Min.ensures c.get-in-Min.ensures c.get-in-Min-2.ensures c.kind_fault-term.ensures
    ∙ ap (λ p. least (faults s c.args.want c.args.at p)) (sym (form_is c.args.expr.now _ c.in-Min.is ∙ phrase-Min c.in-Min.left c.in-Min.right c.args.expr.now.at))

pub fault_at-returns-in-Max : goal.fault_at-returns-in-Max
fault_at-returns-in-Max t c =
    let s = scope_at c.args.site.now in
    with_operands s Term (needs c.args.want Term c.args.at) c.get-in-Max.result.now c.in-Max.left c.get-in-Max-2.result.now c.in-Max.right
    c.with_two-in-Max.ensures c.get-in-Max.ensures c.get-in-Max-2.ensures c.kind_fault-term.ensures
    ∙ ap (λ p. least (faults s c.args.want c.args.at p)) (sym (form_is c.args.expr.now _ c.in-Max.is ∙ phrase-Max c.in-Max.left c.in-Max.right c.args.expr.now.at))

pub fault_at-returns-in-Compare : goal.fault_at-returns-in-Compare
fault_at-returns-in-Compare t c =
    let s = scope_at c.args.site.now in
    with_operands s Term (needs c.args.want Formula c.args.at) c.get-in-Compare.result.now c.in-Compare.left c.get-in-Compare-2.result.now c.in-Compare.right
    c.with_two-in-Compare.ensures c.get-in-Compare.ensures c.get-in-Compare-2.ensures c.kind_fault-formula.ensures
    ∙ ap (λ p. least (faults s c.args.want c.args.at p)) (sym (form_is c.args.expr.now _ c.in-Compare.is ∙ phrase-Compare c.in-Compare.field-0 c.in-Compare.left c.in-Compare.right c.args.expr.now.at))

pub fault_at-returns-in-Implies : goal.fault_at-returns-in-Implies
fault_at-returns-in-Implies t c =
    let s = scope_at c.args.site.now in
    with_operands s Formula (needs c.args.want Formula c.args.at) c.get-in-Implies.result.now c.in-Implies.left c.get-in-Implies-2.result.now c.in-Implies.right
    c.with_two-in-Implies.ensures c.get-in-Implies.ensures c.get-in-Implies-2.ensures c.kind_fault-formula.ensures
    ∙ ap (λ p. least (faults s c.args.want c.args.at p)) (sym (form_is c.args.expr.now _ c.in-Implies.is ∙ phrase-Implies c.in-Implies.left c.in-Implies.right c.args.expr.now.at))

pub fault_at-returns-in-Iff : goal.fault_at-returns-in-Iff
fault_at-returns-in-Iff t c =
    let s = scope_at c.args.site.now in
    with_operands s Formula (needs c.args.want Formula c.args.at) c.get-in-Iff.result.now c.in-Iff.left c.get-in-Iff-2.result.now c.in-Iff.right
    c.with_two-in-Iff.ensures c.get-in-Iff.ensures c.get-in-Iff-2.ensures c.kind_fault-formula.ensures
    ∙ ap (λ p. least (faults s c.args.want c.args.at p)) (sym (form_is c.args.expr.now _ c.in-Iff.is ∙ phrase-Iff c.in-Iff.left c.in-Iff.right c.args.expr.now.at))

pub fault_at-returns-in-If : goal.fault_at-returns-in-If
fault_at-returns-in-If t c =
    let s = scope_at c.args.site.now in
    let one = needs c.args.want Term c.args.at ++ operand_faults s Formula c.in-If.condition in
    with_operands s Term one c.get-in-If-2.result.now c.in-If.yes c.get-in-If-3.result.now c.in-If.no c.with_two.ensures c.get-in-If-2.ensures c.get-in-If-3.ensures
    (with_operand s Formula (needs c.args.want Term c.args.at) c.get-in-If.result.now c.in-If.condition c.with_one-test.ensures c.get-in-If.ensures c.kind_fault-term.ensures)
    ∙ ap (λ p. least (faults s c.args.want c.args.at p)) (sym (form_is c.args.expr.now _ c.in-If.is ∙ phrase-If c.in-If.condition c.in-If.yes c.in-If.no c.args.expr.now.at))

pub fault_at-returns-in-Product : goal.fault_at-returns-in-Product
fault_at-returns-in-Product t c =
    let s = scope_at c.args.site.now in
    let one = needs c.args.want Term c.args.at ++ product_faults (phrase c.in-Product.left) c.in-Product.star (phrase c.in-Product.right) in
    with_operands s Term one c.get-in-Product-3.result.now c.in-Product.left c.get-in-Product-4.result.now c.in-Product.right
    c.with_two-in-Product.ensures c.get-in-Product-3.ensures c.get-in-Product-4.ensures
    (least_of_two (needs c.args.want Term c.args.at) (product_faults (phrase c.in-Product.left) c.in-Product.star (phrase c.in-Product.right)) c.earlier_of-own.ensures c.kind_fault-term.ensures
    (c.product_fault.ensures ∙ ap (λ z. least (product_faults (phrase z) c.in-Product.star (phrase c.get-in-Product-2.result.now))) c.get-in-Product.ensures
    ∙ ap (λ z. least (product_faults (phrase c.in-Product.left) c.in-Product.star (phrase z))) c.get-in-Product-2.ensures))
    ∙ ap (λ p. least (faults s c.args.want c.args.at p)) (sym (form_is c.args.expr.now _ c.in-Product.is ∙ phrase-Product c.in-Product.left c.in-Product.star c.in-Product.right c.args.expr.now.at))

pub fault_at-returns-in-Sum : goal.fault_at-returns-in-Sum
fault_at-returns-in-Sum t c =
    let s = scope_at c.args.site.now in
    let one = needs c.args.want Term c.args.at ++ operand_faults s Term c.in-Sum.first in
    least_of_two one (addend_faults s (addends_of c.in-Sum.more)) c.earlier_of-in-Sum.ensures
    (with_operand s Term (needs c.args.want Term c.args.at) c.get-in-Sum.result.now c.in-Sum.first c.with_one-in-Sum.ensures c.get-in-Sum.ensures c.kind_fault-term.ensures)
    (c.faults_of_terms.ensures ∙ ap (λ z. least (addend_faults s (addends_of z))) c.as_slice-in-Sum.ensures)
    ∙ ap (λ p. least (faults s c.args.want c.args.at p)) (sym (form_is c.args.expr.now _ c.in-Sum.is ∙ phrase-Sum c.in-Sum.first c.in-Sum.more c.args.expr.now.at))

pub fault_at-returns-in-Use : goal.fault_at-returns-in-Use
fault_at-returns-in-Use t c =
    let s = scope_at c.args.site.now in
    let x = c.in-Use.name in
    least_of_two (use_faults c.args.want c.args.at x.at (count (phrases_of c.in-Use.arguments)) (refers s x.text)) (all_faults s Term (phrases_of c.in-Use.arguments)) c.earlier_of.ensures
    (c.use_fault.ensures ∙ ap (λ n. least (use_faults c.args.want c.args.at x.at n (refers s x.text))) (c.len.ensures ∙ sym (count_is c.in-Use.arguments)))
    (c.faults_of.ensures ∙ ap (λ z. least (all_faults s Term (phrases_of z))) c.as_slice.ensures)
    ∙ ap (λ p. least (faults s c.args.want c.args.at p)) (sym (form_is c.args.expr.now _ c.in-Use.is ∙ phrase-Use x c.in-Use.arguments c.args.expr.now.at))
