-- The integers of a residue class between two bounds that are nearest to 0.
use Rattle.std.specs.Prelude.{◌≡◌, ℤ, pos, negsuc, Bool, true, int_le, nat_lt, nat_le, cond, List, [], ◌∷◌, ◌++◌, Option, Some, None}
use Rattle.std.specs.List.{list_all, list_any}
use Rattle.std.specs.Int.{int_max, int_min}
use Rattle.base_integers.specs.Residue.{least_from, greatest_to}
use Rattle.solve_laws.specs.Best.{rank}

-- the first of u and v by rank, v where they are one
abbrev pub nearer : ℤ → ℤ → ℤ
nearer u v = cond (nat_lt (rank u) (rank v)) u v

-- the first by rank of v and the numbers vs
abbrev pub nearest_of : ℤ → List ℤ → ℤ
nearest_of v [] = v
nearest_of v (u ∷ us) = nearest_of (nearer u v) us

-- the first by rank of the numbers vs; 0 where there are none
abbrev pub nearest : List ℤ → ℤ
nearest [] = pos 0
nearest (v ∷ vs) = nearest_of v vs

-- each of vs satisfies p, and for each integer that satisfies p one of vs does not come after it
pub record AreCandidates (p : ℤ → Bool) (vs : List ℤ) : Type 0 where
  pub sound : list_all p vs ≡ true
  pub near : (u : ℤ) → p u ≡ true → list_any (λ v. nat_le (rank v) (rank u)) vs ≡ true

-- a bound that is missing forbids nothing
abbrev pub is_at_most : ℤ → Option ℤ → Bool
is_at_most v None = true
is_at_most v (Some k) = int_le v k

abbrev pub is_at_least : ℤ → Option ℤ → Bool
is_at_least v None = true
is_at_least v (Some k) = int_le k v

-- the greater of a bound and 0, and the lesser of a bound and −1
abbrev pub not_below_zero : Option ℤ → ℤ
not_below_zero None = pos 0
not_below_zero (Some k) = int_max k (pos 0)

abbrev pub below_zero : Option ℤ → ℤ
below_zero None = negsuc 0
below_zero (Some k) = int_min k (negsuc 0)

-- the least number of the class r modulo m that is neither below 0 nor below lo, and the greatest that is below 0 and at most hi
abbrev pub upward : ℤ → ℤ → Option ℤ → ℤ
upward m r lo = least_from m r (not_below_zero lo)

abbrev pub downward : ℤ → ℤ → Option ℤ → ℤ
downward m r hi = greatest_to m r (below_zero hi)

abbrev pub when : Bool → ℤ → List ℤ
when b v = cond b (v ∷ []) []

-- the one number of the class r modulo m from lo to hi that is nearest to 0 from above, and the one that is nearest from below
abbrev pub between : ℤ → ℤ → Option ℤ → Option ℤ → List ℤ
between m r lo hi =
    when (is_at_most (upward m r lo) hi) (upward m r lo) ++ when (is_at_least (downward m r hi) lo) (downward m r hi)
