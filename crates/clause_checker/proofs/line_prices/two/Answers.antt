use Rattle.std.proofs.Common.{rules, ◌≡◌, length}
use Rattle.clause_checker.proofs.Prices.{two_are}
use Rattle.clause_checker.proofs.line_prices.two.Goals as goal

pub returns-in-Some-at : goal.returns-in-Some-at
returns-in-Some-at c =
    let len : length c.args.fs.now ≡ 2 = search rules in
    two_are c.args.fs.now c.at.result c.at-in-Some.result c.in-Some.f c.in-Some-at.g len c.at.ensures c.in-Some.is c.at-in-Some.ensures c.in-Some-at.is
