use Rattle.std.proofs.Common.{◌+◌, ◌*◌, max, ◌≡◌, take, ◌++◌}
use Rattle.pri_reader.specs.declared.tree.Expr.{size-Expr}
use Rattle.pri_typing.specs.Phrase.{phrases_of, addends_of}
use Rattle.pri_typing.specs.Typing.{all_parts, addend_parts}
use Rattle.pri_typing.proofs.collect.+collect.Given as goal

abbrev pub invariant-collect_all-loop-expr : goal.invariant-collect_all-loop-expr
invariant-collect_all-loop-expr l = l.out ≡ l.initial.out ++ all_parts (phrases_of (take l.expr-index l.exprs))

abbrev pub invariant-collect_terms-loop-added : goal.invariant-collect_terms-loop-added
invariant-collect_terms-loop-added l = l.out ≡ l.initial.out ++ addend_parts (addends_of (take l.added-index l.terms))

abbrev pub decreases-collect : goal.decreases-collect
decreases-collect l = 2 * goal.size-collect l

abbrev pub decreases-collect_all : goal.decreases-collect_all
decreases-collect_all l = 2 * goal.size-collect_all l + 1

abbrev pub decreases-collect_terms : goal.decreases-collect_terms
decreases-collect_terms l = 2 * goal.size-collect_terms l + 1

abbrev pub decreases-collect_two : goal.decreases-collect_two
decreases-collect_two l = 2 * max (size-Expr l.left.now) (size-Expr l.right.now) + 1
