use Rattle.clause_set.specs.Normal.{is_residue}
use Rattle.clause_set.proofs.Walks.{Passes}
use Rattle.clause_set.proofs.normal_form.are_residues.Given as goal

abbrev pub invariant-loop-pair : goal.invariant-loop-pair
invariant-loop-pair l = Passes (is_residue l.d) l.pairs l.pair-index
