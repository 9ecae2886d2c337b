use Rattle.std.proofs.Common.{arith}
use Rattle.formula.specs.Sizes.{depth, size}
use Rattle.formula.specs.Tree.{form}
use Rattle.clause_file.proofs.Paying.{preparation_pays}
use Rattle.clause_file.proofs.checking.charge_preparation.Goals as goal

pub returns-clause-pays : goal.returns-clause-pays
returns-clause-pays c =
    preparation_pays c.charge.result c.args.purse.now c.charge.new.self c.size.result c.from.result (size (form c.args.root.now)) (depth (form c.args.root.now)) c.saturating_mul-walks.result c.saturating_add.result c.args.steps c.size.ensures (omega (arith, c.from.ensures, c.depth.ensures)) c.requires.flat c.saturating_mul-walks.ensures (omega (arith, c.saturating_add.ensures, c.from-2.ensures)) c.requires.few c.charge.ensures.ok
    c.charge.ensures.spends
