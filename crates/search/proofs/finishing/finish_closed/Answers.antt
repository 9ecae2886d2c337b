use Rattle.std.proofs.Common.{[], refl, subst, sym}
use Rattle.sequent.specs.Views.{sequent_of}
use Rattle.pred_unify.specs.Reading.{sequent_at}
use Rattle.sequent.specs.declared.member.Pick.TheVariants.{Close}
use Rattle.search.specs.Walking.{AreKept}
use Rattle.search.proofs.Growing.{finish_built, finish_cut, finish_memory, no_kept}
use Rattle.search.proofs.finishing.finish_closed.Goals as goal

pub returns-in_err-constraint : goal.returns-in_err-constraint
returns-in_err-constraint c = λ n. finish_cut n (sequent_of (sequent_at c.args.leaf.now)) Close [] [] c.from_residual.result (c.back.ensures n) refl c.from_residual.ensures.1 c.in_err-constraint.ensures.work

pub returns-in_err-root : goal.returns-in_err-root
returns-in_err-root c = λ n.
    finish_memory n (sequent_of (sequent_at c.args.leaf.now)) Close [] [] (c.in_ok-constraint.constraint, c.in_ok-constraint.log) c.from_residual-in_err-root.result (c.back.ensures n) refl c.from_residual-in_err-root.ensures.1 c.in_ok-constraint.ensures.work

pub returns : goal.returns
returns c = λ n.
    finish_built n (sequent_of (sequent_at c.args.leaf.now)) Close [] [] c.args.keeps _ (c.in_ok-constraint.constraint, c.in_ok-constraint.log) (c.back.ensures n) refl c.in_ok-constraint.ensures.work c.in_ok-constraint.ensures.nodes refl
    (c.in_ok-root.ensures [] (subst (AreKept c.args.keeps []) (sym c.new.ensures) (no_kept c.args.keeps))) c.requires.open
