use Rattle.std.proofs.Common.{◌+◌, ◌*◌, max, ◌≡◌, take}
use Rattle.pri_reader.specs.declared.tree.Expr.{size-Expr}
use Rattle.pri_typing.specs.Sites.{scope_at}
use Rattle.pri_typing.specs.Faults.{all_faults, addend_faults, least}
use Rattle.pri_typing.specs.Phrase.{phrases_of, addends_of}
use Rattle.pri_typing.proofs.faults.+faults.Given as goal

abbrev pub invariant-faults_of-loop-expr : goal.invariant-faults_of-loop-expr
invariant-faults_of-loop-expr l = l.least ≡ least (all_faults (scope_at l.site) l.category (phrases_of (take l.expr-index l.exprs)))

abbrev pub invariant-faults_of_terms-loop-added : goal.invariant-faults_of_terms-loop-added
invariant-faults_of_terms-loop-added l = l.least ≡ least (addend_faults (scope_at l.site) (addends_of (take l.added-index l.terms)))

abbrev pub decreases-fault_at : goal.decreases-fault_at
decreases-fault_at l = 4 * goal.size-fault_at l

abbrev pub decreases-fault : goal.decreases-fault
decreases-fault l = 4 * goal.size-fault l + 1

abbrev pub decreases-with_one : goal.decreases-with_one
decreases-with_one l = 4 * goal.size-with_one l + 2

abbrev pub decreases-with_two : goal.decreases-with_two
decreases-with_two l = 4 * max (size-Expr l.left.now) (size-Expr l.right.now) + 3

abbrev pub decreases-faults_of : goal.decreases-faults_of
decreases-faults_of l = 4 * goal.size-faults_of l + 2

abbrev pub decreases-faults_of_terms : goal.decreases-faults_of_terms
decreases-faults_of_terms l = 4 * goal.size-faults_of_terms l + 2
