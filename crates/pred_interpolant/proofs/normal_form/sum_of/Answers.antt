use Rattle.std.proofs.Common.{◌++◌, ◌∷◌, [], ap, sym, to_z-of_z, ◌∙◌}
use Rattle.std.proofs.lemmas.Bool.{false≢true}
use Rattle.form_typed.proofs.Folds.{expression-Sum}
use Rattle.pred_interpolant.proofs.Sums.{rest_is, several_are}
use Rattle.pred_interpolant.proofs.normal_form.sum_of.Goals as goal

pub returns : goal.returns
returns c =
    let rest = c.put_constant.new.out in
    let head = c.in_ok-head.head in
    expression-Sum c.append.new.self
    ∙ several_are c.args.first.now c.args.more.now c.args.k head rest c.append.new.self c.in_ok-head.ensures
    (rest_is c.new-rest.result c.put_later.new.out rest c.args.more.now c.args.k c.new-rest.ensures c.in_ok-put_later.ensures (simp (to_z-of_z, c.ranges.k) at c.in_ok-put_constant.ensures))
    (λ e. false≢true (sym c.if-is_empty.false ∙ c.is_empty.ensures.1 e))
    (c.in_ok-append.ensures ∙ ap (λ l. l ++ rest) (c.in_ok-push.ensures.ok ∙ ap (λ l. l ++ head ∷ []) c.new-members.ensures))
