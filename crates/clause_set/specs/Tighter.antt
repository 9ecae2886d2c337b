-- Literals beside which another one need not stand.
use Rattle.std.specs.Prelude.{◌≡◌, ◌≤ℤ◌, List, [], ◌∷◌, ◌++◌, ◌⊎◌}
use Rattle.clause_set.specs.declared.literal.Literal.{Literal}
use Rattle.clause_set.specs.declared.literal.Literal.TheVariants.{Eq, Geq, Div, NDiv}

-- l bounds the same coefficients as m, at least as tightly, or both are the same
abbrev pub IsTighter : Literal → Literal → Type 0
IsTighter (Geq s) (Geq t) = (s.pairs ≡ t.pairs) × (s.constant ≤ℤ t.constant)
IsTighter (Geq s) (Eq t) = Geq s ≡ Eq t
IsTighter (Geq s) (Div d t) = Geq s ≡ Div d t
IsTighter (Geq s) (NDiv d t) = Geq s ≡ NDiv d t
IsTighter (Eq s) m = Eq s ≡ m
IsTighter (Div d s) m = Div d s ≡ m
IsTighter (NDiv d s) m = NDiv d s ≡ m

-- one of the literals is as tight as l
abbrev pub IsImpliedLiteral : List Literal → Literal → Type 0
IsImpliedLiteral [] l = ⊥
IsImpliedLiteral (m ∷ ls) l = IsTighter m l ⊎ IsImpliedLiteral ls l

-- next is the first literal of left or of right, and the others are left
abbrev pub IsFirstLiteral : List Literal → List Literal → Literal → List Literal → List Literal → Type 0
IsFirstLiteral left right next more rest = ((left ≡ next ∷ more) × (right ≡ rest)) ⊎ ((right ≡ next ∷ rest) × (left ≡ more))

-- what becomes of a list where l is put after it, unless one of it is as tight
abbrev pub IsPut : List Literal → Literal → List Literal → Type 0
IsPut out l new = ((new ≡ out) × IsImpliedLiteral out l) ⊎ (new ≡ out ++ l ∷ [])
