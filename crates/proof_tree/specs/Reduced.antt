-- Sequents whose terms are reduced, as those of the code are.
use Rattle.std.specs.List.{AllByRecursion}
use Rattle.formula.specs.Reduced.{HasReducedTerms}
use Rattle.sequent.specs.Sequent.{Member, Sequent}

abbrev pub IsReducedSequent : Sequent → Type 0
IsReducedSequent s = AllByRecursion (λ m. HasReducedTerms m.formula) s.members
