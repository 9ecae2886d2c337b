-- What a symbol of a script becomes, by what it is.
use Rattle.std.specs.Prelude.{◌≡◌, ◌<◌, ℕ, List, [], ◌∷◌, map, length, nat_eq, Option, Some, None, if◌then◌else◌}
use Rattle.form_typed.specs.Formula as logic
use Rattle.form_typed.specs.Formula.{expressions}
use Rattle.smt_terms.specs.Operators.{found}
use Rattle.smt_terms.specs.Evaluation.{Globals}
use Rattle.smt_terms.specs.Translation.{a_formula, a_term, term_in, Standing, at_depth, symbol_said}
use Rattle.smt_names.specs.declared.body.Body.{Body}
use Rattle.smt_names.specs.declared.symbols.Meant.{Meant}
use Rattle.smt_names.specs.declared.symbols.Meant.TheVariants as m
use Rattle.smt_names.specs.declared.symbols.Symbols.{Symbols}
use Rattle.smt_names.specs.Saying.{Calls, nothing, calls_of}
use Rattle.smt_names.specs.Uses.{AreUses}

-- texts with what stands at the same places
abbrev pub paired : {A : Type 0} → List (List ℕ) → List A → List (List ℕ × A)
paired [] xs = []
paired (t ∷ ts) [] = []
paired (t ∷ ts) (x ∷ xs) = (t, x) ∷ paired ts xs

-- what a symbol is
abbrev pub looked_up : Symbols → List ℕ → Option Meant
looked_up s x = found x (paired s.texts s.meant.items)

-- what it becomes at what its arguments are replaced by
abbrev pub meant_as : Calls → Option Meant → List Standing → Standing
meant_as D None ss n = nothing n
meant_as D (Some (m.Constant k)) ss n = a_term (logic.name k)
meant_as D (Some (m.Function k)) ss n = a_term (logic.call k (expressions (map term_in (at_depth n ss))))
meant_as D (Some (m.Predicate k)) ss n = a_formula (logic.applies k (expressions (map term_in (at_depth n ss))))
meant_as D (Some (m.Defined k arity)) ss n = if nat_eq (length ss) arity then D k ss n else nothing n

-- the number of a defined function is among the first n
abbrev pub IsMeantWithin : ℕ → Meant → Type 0
IsMeantWithin n (m.Defined k arity) = k < n
IsMeantWithin n (m.Constant k) = Unit {0}
IsMeantWithin n (m.Function k) = Unit {0}
IsMeantWithin n (m.Predicate k) = Unit {0}

abbrev pub AreMeantWithin : ℕ → List Meant → Type 0
AreMeantWithin n [] = Unit {0}
AreMeantWithin n (x ∷ xs) = IsMeantWithin n x × AreMeantWithin n xs

-- The symbols of the code, with the bodies of the defined functions, are those of a script: each text has what it is at its place,
-- each defined function has its body, and a symbol becomes what it becomes in the script.
abbrev pub StandsFor : Globals → Symbols → List Body → Type 0
StandsFor gs s ds = (length s.texts ≡ length s.meant.items) × AreMeantWithin (length ds) s.meant.items
    × ((x : List ℕ) (ss : List Standing) (n : ℕ) → symbol_said gs x ss n ≡ meant_as (calls_of ds) (looked_up s x) ss n)

-- and it is known which bound names the body of each uses
abbrev pub Agrees : Globals → Symbols → List Body → Type 0
Agrees gs s ds = StandsFor gs s ds × AreUses s.used ds
