use Rattle.cdcl_matching.proofs.join.Join.+extend.Given as goal

abbrev pub decreases-extend : goal.decreases-extend
decreases-extend l = l.left
