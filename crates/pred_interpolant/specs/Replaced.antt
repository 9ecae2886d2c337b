-- The fields of a problem once more, in code.
use Rattle.std.specs.Prelude.{◌≡◌}
use Rattle.pri_typing.specs.declared.problem.Problem.{Problem}
use Rattle.pred_interpolant.specs.declared.replaced.Constants.{Constants}
use Rattle.pred_interpolant.specs.declared.replaced.Others.{Others}

-- these are the constants of the problem
pub record AreConstantsOf (p : Problem) (c : Constants) : Type 0 where
  pub existentials : c.existentials ≡ p.existentials
  pub existential_types : c.existential_types ≡ p.existential_types
  pub universals : c.universals ≡ p.universals
  pub universal_types : c.universal_types ≡ p.universal_types

-- these are its other symbols, and its parts
pub record AreOthersOf (p : Problem) (o : Others) : Type 0 where
  pub functions : o.functions ≡ p.functions
  pub predicates : o.predicates ≡ p.predicates
  pub parts : o.parts ≡ p.parts
