use Rattle.cdcl_models.proofs.pure.Purifier.+purifying.Given as goal

abbrev pub decreases-formula : goal.decreases-formula
decreases-formula l = l.room

abbrev pub decreases-members : goal.decreases-members
decreases-members l = l.room

abbrev pub decreases-under_name : goal.decreases-under_name
decreases-under_name l = l.room

abbrev pub decreases-read : goal.decreases-read
decreases-read l = l.room

abbrev pub decreases-at_value : goal.decreases-at_value
decreases-at_value l = l.room
