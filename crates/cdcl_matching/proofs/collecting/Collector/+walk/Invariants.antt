use Rattle.cdcl_matching.proofs.collecting.Collector.+walk.Given as goal

abbrev pub decreases-walk : goal.decreases-walk
decreases-walk l = l.room
