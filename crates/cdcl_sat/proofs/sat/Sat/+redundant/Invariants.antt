use Rattle.cdcl_sat.proofs.sat.Sat.+redundant.Given as goal

abbrev pub decreases-redundant : goal.decreases-redundant
decreases-redundant g l = l.depth
