use Rattle.std.proofs.Common.{[], ◌∷◌}
use Rattle.clause_set.specs.Normal.{residues}
use Rattle.clause_set.proofs.Walks.{FlatMaps}
use Rattle.clause_set.proofs.normal_form.residues.Given as goal

abbrev pub invariant-loop-pair : goal.invariant-loop-pair
invariant-loop-pair l = FlatMaps (λ p. residues l.d (p ∷ [])) l.pairs l.pair-index l.out.items
