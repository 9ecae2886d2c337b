use Rattle.std.proofs.Common.{◌≡◌, ◌+◌, ◌-◌, length, refl, arith}
use Rattle.function_encoding.proofs.Bounding.{last_start, item_step, last_end, last_more, same_fault}
use Rattle.function_encoding.proofs.problem.for_last.Goals as goal

pub loop-i-init : goal.loop-i-init
loop-i-init c = (omega arith, λ work m. last_start c.args.first (length c.args.sorts.now) c.args.sorts.now work c.args.f (omega arith) m)

pub returns-in_err-all : goal.returns-in_err-all
returns-in_err-all c = λ work m.
    same_fault _ c.from_residual.ensures.1
    (last_more c.args.first (c.loop-i.i - 1) c.args.sorts.now work _
    (item_step c.args.first c.loop-i.i (c.loop-i.i - 1) c.args.sorts.now _ work c.loop-i.all _ (omega arith) (omega arith) (c.loop-i.invariant.1 work m) c.in_err-all.ensures))

pub loop-i-preserved : goal.loop-i-preserved
loop-i-preserved c = (
  omega arith,
  λ work m. item_step c.args.first c.loop-i.i (c.loop-i.i - 1) c.args.sorts.now _ work c.loop-i.all _ (omega arith) (omega arith) (c.loop-i.invariant.1 work m) c.in_ok-all.ensures,
)

pub returns : goal.returns
returns c = λ work m. last_end c.args.first c.loop-i.i c.args.sorts.now work c.loop-i.all (omega arith) (c.loop-i.invariant.1 work m)
