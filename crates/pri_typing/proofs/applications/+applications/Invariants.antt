use Rattle.std.proofs.Common.{◌+◌, ◌*◌, max, ◌≡◌, take}
use Rattle.pri_reader.specs.declared.tree.Expr.{size-Expr}
use Rattle.pri_typing.specs.Sites.{scope_at}
use Rattle.pri_typing.specs.Phrase.{phrases_of, addends_of}
use Rattle.pri_typing.specs.Typing.{all_applications, addend_applications, first_of}
use Rattle.pri_typing.proofs.applications.+applications.Given as goal

abbrev pub invariant-first_of_all-loop-expr : goal.invariant-first_of_all-loop-expr
invariant-first_of_all-loop-expr l = l.first ≡ first_of (all_applications (scope_at l.here) (phrases_of (take l.expr-index l.exprs)))

abbrev pub invariant-first_of_terms-loop-added : goal.invariant-first_of_terms-loop-added
invariant-first_of_terms-loop-added l = l.first ≡ first_of (addend_applications (scope_at l.here) (addends_of (take l.added-index l.terms)))

abbrev pub decreases-first_application : goal.decreases-first_application
decreases-first_application l = 2 * goal.size-first_application l

abbrev pub decreases-first_of_all : goal.decreases-first_of_all
decreases-first_of_all l = 2 * goal.size-first_of_all l + 1

abbrev pub decreases-first_of_terms : goal.decreases-first_of_terms
decreases-first_of_terms l = 2 * goal.size-first_of_terms l + 1

abbrev pub decreases-first_of_two : goal.decreases-first_of_two
decreases-first_of_two l = 2 * max (size-Expr l.left.now) (size-Expr l.right.now) + 1
