use Rattle.std.proofs.Common.{◌+◌, ◌-◌, ◌||◌, ℕ, Bool, arith}
use Rattle.function_encoding.specs.Counted.{counted}
use Rattle.function_encoding.specs.Marks.{is_marked}
use Rattle.function_encoding.proofs.Kept.{item_back}
use Rattle.function_encoding.proofs.conditions.behind_conditions.Goals as goal

pub loop-i-preserved : goal.loop-i-preserved
loop-i-preserved c =
    let kept : ℕ → Bool = λ x. c.args.all || is_marked c.args.marks.now x in
    (omega arith, item_back kept c.args.first c.loop-i.i (c.loop-i.i - 1) c.args.sorts.now _ _ _ (counted c.args.e) _ (omega arith) (omega arith) c.is_kept.ensures c.loop-i.invariant.1 c.behind_kept-extent.ensures)
