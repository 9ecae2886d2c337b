use Rattle.std.proofs.Common.{rules, ◌++◌, ◌∷◌, [], subst}
use Rattle.clause_checker.specs.Marking.{IsMarking}
use Rattle.clause_checker.proofs.Lefts.{clash_yes, clash_no, clash_on}
use Rattle.clause_checker.proofs.resolving.clashes.Goals as goal

pub returns-in-Nothing-clause-ok : goal.returns-in-Nothing-clause-ok
returns-in-Nothing-clause-ok c = λ fs mk.
    clash_yes c.args.clauses.now c.args.hints.now c.loop-h.h-index _ c.loop-h.marks c.args.marks.now fs c.left_at.result c.loop-h-test.true (search rules) c.loop-h.invariant c.left_at.ensures c.in-Nothing.is mk

pub returns-in-More-clause-ok : goal.returns-in-More-clause-ok
returns-in-More-clause-ok c = λ fs mk.
    clash_no c.args.clauses.now c.args.hints.now c.loop-h.h-index _ c.loop-h.marks c.args.marks.now fs c.left_at.result c.loop-h-test.true (search rules) c.loop-h.invariant c.left_at.ensures c.in-More.is mk

pub loop-h-preserved : goal.loop-h-preserved
loop-h-preserved c =
    clash_on c.args.clauses.now c.args.hints.now c.loop-h.h-index _ c.loop-h.marks c.mark.new.marks c.args.marks.now c.left_at.result c.in-One.l c.loop-h-test.true (search rules) c.loop-h.invariant c.left_at.ensures c.in-One.is
    (λ ff mk. subst (λ o. IsMarking c.mark.new.marks (ff ++ o ∷ [])) c.opposite.ensures (c.in_ok-mark-in-One.ensures.ok ff mk))
