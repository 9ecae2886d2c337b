-- Clauses in form, by the names that they speak of.
use Rattle.std.specs.Prelude.{◌≢◌, ◌<◌, ℕ, List, All}
use Rattle.std.specs.List.{AllByRecursion}
use Rattle.clause_set.specs.declared.literal.Literal.{Literal}
use Rattle.clause_set.specs.Formed.{IsFormed}
use Rattle.clause_set.specs.Kept.{AreFormed}
use Rattle.clause_set.specs.Primitive.{IsShaped}
use Rattle.elim_laws.specs.Whole.{AreOver, Lacks}

-- the literals of c are in form, and speak of j alone
pub record IsOfName (j : ℕ) (c : List Literal) : Type 0 where
  pub formed : All IsFormed c
  pub shaped : All IsShaped c
  pub lacks : (y : ℕ) → y ≢ j → Lacks y c

-- the literals of d are in form, and speak of names from j on and below n
pub record IsOfNames (j n : ℕ) (d : List (List Literal)) : Type 0 where
  pub formed : AreFormed d
  pub shaped : AllByRecursion (All IsShaped) d
  pub lacks : (y : ℕ) → y < j → AllByRecursion (Lacks y) d
  pub over : AreOver n d
