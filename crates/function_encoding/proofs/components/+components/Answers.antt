use Rattle.std.proofs.Common.{◌≡◌, ◌++◌, OnOk, sym, ap, ◌∙◌, subst, refl}
use Rattle.std.specs.List.{filter}
use Rattle.form_typed.specs.Formula.{formula, negation}
use Rattle.form_typed.proofs.Folds.{formula-Truth, formula-Rel, formula-Pred, formula-Not, formula-Iff, formula-Forall, formula-Exists}
use Rattle.pri_typing.specs.WellFormed.{formula_components}
use Rattle.function_encoding.specs.Encoded.{all_signed, is_in}
use Rattle.function_encoding.proofs.Chosen.{none_collected}
use Rattle.function_encoding.proofs.components.+components.Goals as goal

pub collect-returns-in-Not : goal.collect-returns-in-Not
collect-returns-in-Not t c =
    subst (λ e. OnOk c.collect.result (all_signed c.collect.new.out ≡ all_signed c.args.out.now ++ filter (is_in c.args.set.now) (formula_components c.args.plus e)))
    (sym (ap formula c.in-Not.is ∙ formula-Not _ ∙ ap (λ g. negation (formula g)) (sym c.get.ensures))) c.collect.ensures

pub collect-returns-in-Truth : goal.collect-returns-in-Truth
collect-returns-in-Truth t c = none_collected c.args.out.now c.args.plus c.args.set.now c.args.f.now _ (ap formula c.in-Truth.is ∙ formula-Truth _) refl

pub collect-returns-in-Rel : goal.collect-returns-in-Rel
collect-returns-in-Rel t c = none_collected c.args.out.now c.args.plus c.args.set.now c.args.f.now _ (ap formula c.in-Rel.is ∙ formula-Rel _ _ _) refl

pub collect-returns-in-Pred : goal.collect-returns-in-Pred
collect-returns-in-Pred t c = none_collected c.args.out.now c.args.plus c.args.set.now c.args.f.now _ (ap formula c.in-Pred.is ∙ formula-Pred _ _) refl

pub collect-returns-in-Iff : goal.collect-returns-in-Iff
collect-returns-in-Iff t c = none_collected c.args.out.now c.args.plus c.args.set.now c.args.f.now _ (ap formula c.in-Iff.is ∙ formula-Iff _ _) refl

pub collect-returns-in-Forall : goal.collect-returns-in-Forall
collect-returns-in-Forall t c = none_collected c.args.out.now c.args.plus c.args.set.now c.args.f.now _ (ap formula c.in-Forall.is ∙ formula-Forall _ _) refl

pub collect-returns-in-Exists : goal.collect-returns-in-Exists
collect-returns-in-Exists t c = none_collected c.args.out.now c.args.plus c.args.set.now c.args.f.now _ (ap formula c.in-Exists.is ∙ formula-Exists _ _) refl
