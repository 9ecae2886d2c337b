use Rattle.std.proofs.Common.{◌≤◌, ◌<◌, ◌^◌, length}
use Rattle.function_encoding.specs.Marks.{is_marked}
use Rattle.interpolant.specs.Run.{others_out}
use Rattle.interpolant.proofs.Steps.{Left}
use Rattle.interpolant.proofs.projection.others_out.Given as goal

abbrev pub invariant-loop-x : goal.invariant-loop-x
invariant-loop-x l = record {
  work : Left (others_out (is_marked l.marks) l.x l.left) l.purse (others_out (is_marked l.marks) (length l.marks) l.fn.d) l.fn.purse;
  within : l.x ≤ length l.marks;
  budget : l.purse.budget < 2 ^ 32;
}

abbrev pub decreases-loop-x : goal.decreases-loop-x
decreases-loop-x l = l.x
