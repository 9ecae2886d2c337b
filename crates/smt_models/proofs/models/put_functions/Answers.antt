use Rattle.std.proofs.Common.{◌≡◌, get_or}
use Rattle.smt_models.proofs.Defining.{functions_step}
use Rattle.smt_models.proofs.models.put_functions.Goals as goal

pub loop-i-preserved : goal.loop-i-preserved
loop-i-preserved c =
    let is : get_or c.args.symbols.now c.loop-i.i c.index-symbols-i.result ≡ c.index-symbols-i.result = cc (c.index-symbols-i.is) in
    functions_step _ _ _ c.args.symbols.now c.args.tables.now c.loop-i.i c.index-symbols-i.result c.loop-i-test.true is c.in_ok-put_function.ensures c.loop-i.invariant
