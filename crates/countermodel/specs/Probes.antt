-- The values of the existential constants with which a counterexample is sought.
use Rattle.std.specs.Prelude.{◌≡◌, ◌≤◌, ℤ, pos, cond, int_lt, unsigned_abs, List, [], ◌∷◌, Option, Some, None}
use Rattle.form_typed.specs.Sorts.{IsValueOf}
use Rattle.form_typed.specs.declared.typed.Sort.{Sort}
use Rattle.form_typed.specs.declared.typed.Sort.TheVariants.{Int, Nat, Range}

-- of the integers from a to b, where there is one, the nearest to 0
abbrev pub nearest : ℤ → ℤ → ℤ
nearest a b = cond (int_lt (pos 0) a) a (cond (int_lt b (pos 0)) b (pos 0))

-- the value of the type that is nearest to 0, if it has a value
abbrev pub probe_value : Sort → Option ℤ
probe_value Int = Some (pos 0)
probe_value Nat = Some (pos 0)
probe_value (Range a b) = cond (int_lt b a) None (Some (nearest a b))

-- v and the further values, where there are such
abbrev pub with_value : Option ℤ → Option (List ℤ) → Option (List ℤ)
with_value None vs = None
with_value (Some v) None = None
with_value (Some v) (Some vs) = Some (v ∷ vs)

-- one value for each type, if each has one
abbrev pub probe_values : List Sort → Option (List ℤ)
probe_values [] = Some []
probe_values (s ∷ ss) = with_value (probe_value s) (probe_values ss)

-- v is the value of the type with the least absolute value, and no other one has the same
pub record IsProbe (s : Sort) (v : ℤ) : Type 0 where
  pub value : IsValueOf s v
  pub least : (u : ℤ) → IsValueOf s u → unsigned_abs v ≤ unsigned_abs u
  pub alone : (u : ℤ) → IsValueOf s u → unsigned_abs u ≡ unsigned_abs v → u ≡ v

-- each value is that of its type
abbrev pub AreProbes : List Sort → List ℤ → Type 0
AreProbes [] [] = Unit {0}
AreProbes [] (v ∷ vs) = ⊥
AreProbes (s ∷ ss) [] = ⊥
AreProbes (s ∷ ss) (v ∷ vs) = IsProbe s v × AreProbes ss vs
