use Rattle.std.proofs.Common.{rules, arith, refl, sym, subst}
use Rattle.pri_reader.specs.declared.tree.Form.TheViews.{the_lemmas}
use Rattle.pri_typing.specs.Sites.{scope_at}
use Rattle.pri_typing.specs.Phrase.{phrase}
use Rattle.pri_typing.specs.Limits.{IsReady}
use Rattle.pri_typing.proofs.Building.{members_from, terms_from, sum_from, ready_member, ready_addend, ready_body}
use Rattle.pri_typing.proofs.build.+build.Goals as goal

pub build_members-returns : goal.build_members-returns
build_members-returns t c = members_from (scope_at c.args.here.now) _ c.args.exprs.now c.loop-expr.expr-index (omega arith) c.loop-expr.invariant

pub build_terms-returns : goal.build_terms-returns
build_terms-returns t c = terms_from (scope_at c.args.here.now) _ c.args.exprs.now c.loop-expr.expr-index (omega arith) c.loop-expr.invariant

pub build_sum-returns : goal.build_sum-returns
build_sum-returns t c = sum_from (scope_at c.args.here.now) _ c.args.first c.args.more.now c.loop-added.added-index (omega arith) c.loop-added.invariant

pub build_members-build_formula-requires : goal.build_members-build_formula-requires
build_members-build_formula-requires t c = (search (rules, the_lemmas), subst (λ e. IsReady c.args.here.now (phrase e)) (sym c.expr-item.is) (ready_member c.args.here.now c.args.exprs.now c.loop-expr.expr-index c.expr-item.result c.requires c.loop-expr-test.true))

pub build_terms-build_term-requires : goal.build_terms-build_term-requires
build_terms-build_term-requires t c = (search (rules, the_lemmas), subst (λ e. IsReady c.args.here.now (phrase e)) (sym c.expr-item.is) (ready_member c.args.here.now c.args.exprs.now c.loop-expr.expr-index c.expr-item.result c.requires c.loop-expr-test.true))

pub build_sum-build_signed-requires : goal.build_sum-build_signed-requires
build_sum-build_signed-requires t c = (search (rules, the_lemmas), subst (λ a. IsReady c.args.here.now (phrase a.term)) (sym c.added-item.is) (ready_addend c.args.here.now c.args.more.now c.loop-added.added-index c.added-item.result c.requires c.loop-added-test.true))

pub build_quantified-build_formula-requires : goal.build_quantified-build_formula-requires
build_quantified-build_formula-requires t c = (search (rules, the_lemmas), ready_body c.args.here.now _ c.args.names.now (phrase c.args.body.now) c.requires refl refl refl)
