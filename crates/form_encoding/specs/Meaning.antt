-- What an encoding is of a formula: its truth, with a sign, at the integers that the names stand for.
use Rattle.std.specs.Prelude.{◌≡◌, ℕ, zero, suc, ℤ, Bool, true, false, List, [], ◌∷◌, map}
use Rattle.base_integers.specs.Entry.{entry}
use Rattle.form_typed.specs.declared.typed.Sort.{Sort}
use Rattle.form_typed.specs.declared.typed.Sort.TheVariants.{Int}
use Rattle.form_typed.specs.Formula.{Formula}
use Rattle.form_typed.specs.Sorts.{IsValueOf}
use Rattle.form_encoding.specs.Occurrences.{occurs}

-- A with plus, not A with minus
abbrev pub Signed : Bool → Type 0 → Type 0
Signed true A = A
Signed false A = ¬ A

-- the integers of e at these names
abbrev pub entries : List ℕ → List ℤ → List ℤ
entries at e = map (entry e) at

-- the type of the x-th name; of one without a type it is `int`
abbrev pub type_at : List Sort → ℕ → Sort
type_at [] x = Int
type_at (s ∷ ss) zero = s
type_at (s ∷ ss) (suc x) = type_at ss x

-- each name that stands in the formula has a value of its type
abbrev pub AreTypedIn : List Sort → Formula → List ℤ → Type 0
AreTypedIn ss f e = (x : ℕ) → occurs x f ≡ true → IsValueOf (type_at ss x) (entry e x)
