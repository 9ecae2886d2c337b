-- What the bound names stand for where a term stands.
use Rattle.std.specs.Prelude.{ℕ, ◌<◌, List, [], ◌∷◌, map, Option, Some, None, if◌then◌else◌}
use Rattle.base_texts.specs.Texts.{is_text}
use Rattle.smt_terms.specs.Translation.{Standing, Replacements}
use Rattle.smt_names.specs.declared.body.Leaf.{Leaf}
use Rattle.smt_names.specs.declared.body.Leaf.TheVariants as l
use Rattle.smt_names.specs.declared.scope.Named.{Named}
use Rattle.smt_names.specs.declared.scope.Scope.{Scope, Nothing, Names'}
use Rattle.smt_names.specs.Saying.{leaf_said}

-- bound names with what they stand for, the innermost first
abbrev pub BoundNames : Type 0
BoundNames = List (List ℕ × Leaf)

-- those of a list put before others, so that the last one comes first
abbrev pub named_onto : List Named → BoundNames → BoundNames
named_onto [] outer = outer
named_onto (x ∷ xs) outer = named_onto xs ((x.text.now, x.leaf) ∷ outer)

abbrev pub leaves_at : Scope → BoundNames
leaves_at Nothing = []
leaves_at (Names' xs p outer) = named_onto xs.now (leaves_at outer)

-- the first, if it is there, else the second
abbrev pub or_else : {A : Type 0} → Option A → Option A → Option A
or_else (Some x) other = Some x
or_else None other = other

-- what the last one of a text stands for
abbrev pub last_named : List ℕ → List Named → Option Leaf
last_named t [] = None
last_named t (x ∷ xs) = or_else (last_named t xs) (if is_text t x.text.now then Some x.leaf else None)

-- the bound names with what replaces them
abbrev pub names_in : List Standing → BoundNames → Replacements
names_in e = map (λ x. (x.0, leaf_said e x.1))

-- a leaf is none of the bound names from this number on
abbrev pub IsLeafWithin : ℕ → Leaf → Type 0
IsLeafWithin n (l.Slot k) = k < n
IsLeafWithin n (l.Number v) = Unit {0}
IsLeafWithin n (l.Truth b) = Unit {0}
IsLeafWithin n (l.Constant k) = Unit {0}

-- all are such
abbrev pub AreWithin : ℕ → BoundNames → Type 0
AreWithin n [] = Unit {0}
AreWithin n (x ∷ xs) = IsLeafWithin n x.1 × AreWithin n xs

-- all leaves of a list are such
abbrev pub AreLeavesWithin : ℕ → List Leaf → Type 0
AreLeavesWithin n [] = Unit {0}
AreLeavesWithin n (x ∷ xs) = IsLeafWithin n x × AreLeavesWithin n xs
