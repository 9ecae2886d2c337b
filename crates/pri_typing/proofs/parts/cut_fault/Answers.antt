use Rattle.std.proofs.Common.{arith}
use Rattle.pri_typing.proofs.Cutting.{set_given, set_fault, whole_fault}
use Rattle.pri_typing.proofs.parts.cut_fault.Goals as goal

pub loop-set-preserved : goal.loop-set-preserved
loop-set-preserved c = record {
  given_are = set_given c.args.sets.now c.loop-set.set-index c.set-item.result c.as_slice.result.now c.loop-set.given c.names_fault.new.given c.loop-set-test.true c.set-item.is c.as_slice.ensures
      c.loop-set.invariant.given_are c.in_ok-of_set.ensures.given;
  fault_is = set_fault c.args.parts.now c.args.sets.now c.loop-set.set-index c.set-item.result c.as_slice.result.now c.loop-set.given c.loop-set-test.true c.set-item.is c.as_slice.ensures
      c.loop-set.invariant.given_are c.loop-set.invariant.fault_is c.in_ok-of_set.ensures.fault c.earlier_of-fault.ensures;
}

pub returns : goal.returns
returns c = whole_fault c.args.parts.now c.loop-set.given c.args.existential c.args.at c.args.sets.now c.loop-set.set-index c.misses_some.result (omega arith)
    c.loop-set.invariant.given_are c.loop-set.invariant.fault_is c.misses_some.ensures c.with_block_fault.ensures
