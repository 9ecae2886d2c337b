use Rattle.clause_root.proofs.preparing.+unquantified.Given as goal

abbrev pub decreases-unquantified : goal.decreases-unquantified
decreases-unquantified l = l.most
