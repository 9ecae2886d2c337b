use Rattle.std.proofs.Common.{◌+◌, ◌*◌, max, ◌≡◌, take, map, ◌∷◌}
use Rattle.form_typed.specs.Formula.{formula, expression}
use Rattle.pri_reader.specs.declared.tree.Expr.{size-Expr}
use Rattle.pri_typing.specs.Sites.{scope_at}
use Rattle.pri_typing.specs.Phrase.{phrase}
use Rattle.pri_typing.specs.Typing.{says, value, signed}
use Rattle.pri_typing.proofs.build.+build.Given as goal

abbrev pub invariant-build_members-loop-expr : goal.invariant-build_members-loop-expr
invariant-build_members-loop-expr l = map formula l.out ≡ map (λ e. says (scope_at l.here) (phrase e)) (take l.expr-index l.exprs)

abbrev pub invariant-build_terms-loop-expr : goal.invariant-build_terms-loop-expr
invariant-build_terms-loop-expr l = map expression l.out ≡ map (λ e. value (scope_at l.here) (phrase e)) (take l.expr-index l.exprs)

abbrev pub invariant-build_sum-loop-added : goal.invariant-build_sum-loop-added
invariant-build_sum-loop-added l =
    map expression l.out ≡ expression l.fn.first ∷ map (λ a. signed a.minus (value (scope_at l.here) (phrase a.term))) (take l.added-index l.more)

abbrev pub decreases-build_formula : goal.decreases-build_formula
decreases-build_formula l = 4 * goal.size-build_formula l

abbrev pub decreases-build_term : goal.decreases-build_term
decreases-build_term l = 4 * goal.size-build_term l

abbrev pub decreases-boxed_formula : goal.decreases-boxed_formula
decreases-boxed_formula l = 4 * goal.size-boxed_formula l + 1

abbrev pub decreases-boxed_term : goal.decreases-boxed_term
decreases-boxed_term l = 4 * goal.size-boxed_term l + 1

abbrev pub decreases-boxed_formulas : goal.decreases-boxed_formulas
decreases-boxed_formulas l = 4 * max (size-Expr l.left.now) (size-Expr l.right.now) + 2

abbrev pub decreases-boxed_terms : goal.decreases-boxed_terms
decreases-boxed_terms l = 4 * max (size-Expr l.left.now) (size-Expr l.right.now) + 2

abbrev pub decreases-build_comparison : goal.decreases-build_comparison
decreases-build_comparison l = 4 * max (size-Expr l.left.now) (size-Expr l.right.now) + 2

abbrev pub decreases-build_quantified : goal.decreases-build_quantified
decreases-build_quantified l = 4 * goal.size-build_quantified l + 1

abbrev pub decreases-build_members : goal.decreases-build_members
decreases-build_members l = 4 * goal.size-build_members l + 1

abbrev pub decreases-build_terms : goal.decreases-build_terms
decreases-build_terms l = 4 * goal.size-build_terms l + 1

abbrev pub decreases-build_signed : goal.decreases-build_signed
decreases-build_signed l = 4 * goal.size-build_signed l + 2

abbrev pub decreases-build_sum : goal.decreases-build_sum
decreases-build_sum l = 4 * goal.size-build_sum l + 3
