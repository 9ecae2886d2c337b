use Rattle.std.proofs.Common.{◌≡◌, pos, [], ◌∷◌, ◌++◌, ◌∙◌, ap, to_z}
use Rattle.std.proofs.lemmas.Int.{to_z_pos}
use mir.Syntax.{w128}
use Rattle.clause_set.specs.declared.literal.Literal.TheVariants.{Eq}
use Rattle.elim_rules.proofs.Counting.{splinter_failed, splinter_done}
use Rattle.elim_rules.proofs.splinter.splinter.Goals as goal

pub returns-in_err-u : goal.returns-in_err-u
returns-in_err-u c =
    let p : to_z w128 c.args.i ≡ pos c.args.i = to_z_pos w128 c.args.i c.requires in
    splinter_failed c.args.c.now c.args.low.now c.args.i c.term.result.now c.number.result c.in_err-u.field-0.0 c.from_residual.result c.term.ensures (rw p at c.number.ensures) c.in_err-u.ensures c.from_residual.ensures.1

pub returns : goal.returns
returns c =
    let p : to_z w128 c.args.i ≡ pos c.args.i = to_z_pos w128 c.args.i c.requires in
    splinter_done c.args.c.now c.args.low.now c.args.i c.term.result.now c.number.result c.in_ok-u.u c.push-2.new.self c.term.ensures (rw p at c.number.ensures) c.in_ok-u.ensures
    (c.in_ok-push-2.ensures.ok ∙ ap (λ z. z ++ c.push.new.self ∷ []) c.new-out.ensures ∙ ap (λ z. z ∷ []) (c.in_ok-push.ensures.ok ∙ ap (λ z. z ++ Eq c.in_ok-u.u ∷ []) c.in_ok-literals.ensures))
