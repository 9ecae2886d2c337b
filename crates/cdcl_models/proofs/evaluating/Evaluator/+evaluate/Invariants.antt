use Rattle.cdcl_models.proofs.evaluating.Evaluator.+evaluate.Given as goal

abbrev pub decreases-evaluate : goal.decreases-evaluate
decreases-evaluate l = l.room
