-- Each rule's work is done in a log of its own.
use Rattle.std.proofs.Common.{◌≡◌, []}
use Rattle.base_budget.proofs.Advancing.{followed_later}
use Rattle.tree_checker.proofs.Redoing.{in_its_log}
use Rattle.tree_checker.proofs.constraints.redo.Goals as goal

pub returns-in-Trivial-clause-work : goal.returns-in-Trivial-clause-work
returns-in-Trivial-clause-work c = λ es n log. let none : es ≡ [] = rw c.in-Trivial.is at log in rw (c.in-Trivial.is, none) (in_its_log _ c.trivial.result n (c.trivial.ensures c.args.purse.now n))

pub returns-in-Alpha-clause-work : goal.returns-in-Alpha-clause-work
returns-in-Alpha-clause-work c = λ es n log. let none : es ≡ [] = rw c.in-Alpha.is at log in rw (c.in-Alpha.is, none) (in_its_log _ c.alpha.result n (c.alpha.ensures c.args.purse.now n))

pub returns-in-Delta-clause-work : goal.returns-in-Delta-clause-work
returns-in-Delta-clause-work c = λ es n log.
    let whole : c.args.log.now.entries ≡ es = rw c.in-Delta.is at log in rw c.in-Delta.is (in_its_log _ c.delta.result n (rw c.count.ensures at (rw whole at (c.delta.ensures n))))

pub returns-in-Beta-clause-work : goal.returns-in-Beta-clause-work
returns-in-Beta-clause-work c = λ es n log.
    let none : es ≡ [] = rw c.in-Beta.is at log in rw (c.in-Beta.is, none) (in_its_log _ c.beta.result n (rw c.as_slice.ensures at (c.beta.ensures n)))

pub returns-in-Gamma-clause-work : goal.returns-in-Gamma-clause-work
returns-in-Gamma-clause-work c = λ es n log.
    let whole : c.args.log.now.entries ≡ es = rw c.in-Gamma.is at log in rw c.in-Gamma.is (in_its_log _ c.gamma.result n (rw c.count-in-Gamma.ensures at (rw whole at (c.gamma.ensures n))))

pub returns-in-Trivial-clause-later : goal.returns-in-Trivial-clause-later
returns-in-Trivial-clause-later c = followed_later c.trivial.result c.requires.funds (c.trivial.ensures c.args.purse.now 0)

pub returns-in-Alpha-clause-later : goal.returns-in-Alpha-clause-later
returns-in-Alpha-clause-later c = followed_later c.alpha.result c.requires.funds (c.alpha.ensures c.args.purse.now 0)

pub returns-in-Delta-clause-later : goal.returns-in-Delta-clause-later
returns-in-Delta-clause-later c = followed_later c.delta.result c.requires.funds (c.delta.ensures 0)

pub returns-in-Beta-clause-later : goal.returns-in-Beta-clause-later
returns-in-Beta-clause-later c = followed_later c.beta.result c.requires.funds (c.beta.ensures 0)

pub returns-in-Gamma-clause-later : goal.returns-in-Gamma-clause-later
returns-in-Gamma-clause-later c = followed_later c.gamma.result c.requires.funds (c.gamma.ensures 0)
