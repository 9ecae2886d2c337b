use Rattle.cdcl_forms.proofs.tree.Tree.+take.Given as goal

abbrev pub decreases-take : goal.decreases-take
decreases-take l = l.room
