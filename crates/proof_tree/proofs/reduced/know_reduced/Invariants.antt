use Rattle.proof_tree.proofs.Knowing.{MembersBefore}
use Rattle.proof_tree.proofs.reduced.know_reduced.Given as goal

abbrev pub invariant-loop-m : goal.invariant-loop-m
invariant-loop-m l = MembersBefore l.s.members l.m-index
