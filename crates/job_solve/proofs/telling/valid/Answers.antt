use Rattle.std.proofs.Common.{◌≢◌, [], IsTrue, refl, subst}
use Rattle.job_solve.specs.Told.{lines}
use Rattle.job_solve.proofs.telling.valid.Goals as goal

pub closed-requires-clause-holds : goal.closed-requires-clause-holds
closed-requires-clause-holds c = c.requires.holds (c.is_empty.ensures.0 c.if-is_empty.true)

pub returns : goal.returns
returns c = let some : c.args.problem.now.existentials ≢ [] = λ none. (let bad = subst IsTrue c.if-is_empty.false (c.is_empty.ensures.1 none) in cc) in lines c.in_ok-text.text.items some c.in_ok-text.ensures refl
