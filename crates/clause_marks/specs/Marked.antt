-- Which literals are marked: those whose stamp is the present one.
use Rattle.std.specs.Prelude.{ℕ, ◌≡◌, ◌≤◌, ◌||◌, Bool, false, cond, nat_eq, List, All, Option, None, Some}
use Rattle.std.specs.List.{slice_get}
use Rattle.clause_proof.specs.declared.line.Literal.{Literal}

-- the stamp is there, and is s
abbrev pub has_stamp : ℕ → Option ℕ → Bool
has_stamp s None = false
has_stamp s (Some k) = nat_eq k s

-- the literal's stamp, in the table of its sign, is s
abbrev pub is_marked : ℕ → List ℕ → List ℕ → Literal → Bool
is_marked s ps ns l = has_stamp s (slice_get (cond l.positive ps ns) l.variable)

-- no stamp of the table is above s
abbrev pub AreAtMost : ℕ → List ℕ → Type 0
AreAtMost s ks = All (λ k. k ≤ s) ks

-- the tables have the stamp s at the same places
pub record HasSameStamps (s : ℕ) (ks js : List ℕ) : Type 0 where
  pub same : (i : ℕ) → has_stamp s (slice_get js i) ≡ has_stamp s (slice_get ks i)

-- the second table has the stamp s at i too
pub record HasStampAt (s i : ℕ) (ks js : List ℕ) : Type 0 where
  pub set : (j : ℕ) → has_stamp s (slice_get js j) ≡ (has_stamp s (slice_get ks j) || nat_eq j i)
