-- Components of a problem's formula, and what keeps its parts from being cut into sets.
use Rattle.std.specs.Prelude.{ℕ, Bool, true, false, not, List, [], ◌∷◌, ◌++◌, map, if◌then◌else◌}
use Rattle.std.specs.List.{flat_map}
use Rattle.pri_reader.specs.declared.tree.Name.{Name}
use Rattle.pri_reader.specs.declared.tree.NameSet.{NameSet}
use Rattle.pri_reader.specs.declared.tree.Block.{Block}
use Rattle.pri_reader.specs.declared.tree.Block.TheVariants as block
use Rattle.pri_typing.specs.declared.problem.Cut.{Cut}
use Rattle.pri_typing.specs.declared.problem.TypeRefusal.{TypeRefusal}
use Rattle.pri_typing.specs.declared.problem.TypeRefusal.TheVariants.{Parts}
use Rattle.pri_typing.specs.Phrase.{Phrase, truth, group, negation, part, conjunction, disjunction, implication, Phrases, no_phrase, and_phrase, first_token}
use Rattle.base_texts.specs.Texts.{is_among, place, with_text, misses}
use Rattle.pri_typing.specs.Typing.{distinct_from, parts_in}

-- a formula with its sign, true for plus
pub record Component : Type 0 where
  pub plus : Bool
  pub what : Phrase

abbrev pub component : Bool → Phrase → Component
component plus p = record { plus = plus; what = p }

abbrev mutual
  -- the components of a formula that stands with this sign
  pub components : Bool → Phrase → List Component
  components plus (group _ p) = components plus p
  components plus (negation _ p) = components (not plus) p
  components true (implication _ p q) = components false p ++ components true q
  components true (disjunction _ ps) = all_components true ps
  components false (conjunction _ ps) = all_components false ps
  components plus p = component plus p ∷ []

  pub all_components : Bool → Phrases → List Component
  all_components plus no_phrase = []
  all_components plus (and_phrase p ps) = components plus p ++ all_components plus ps

abbrev pub parts_at : List Name → List TypeRefusal
parts_at = map (λ n. Parts n.at)

-- The faults of a component: it is neither a part nor a truth; and each `\part` inside it is no component.
abbrev pub component_faults : Phrase → List TypeRefusal
component_faults (part at x p) = parts_at (parts_in p)
component_faults (truth at b) = []
component_faults p = Parts (first_token p) ∷ parts_at (parts_in p)

-- In a file with cuts the problem is a combination of parts and truths: the faults of a formula with this sign.
abbrev pub formula_faults : Bool → Phrase → List TypeRefusal
formula_faults plus p = flat_map (λ c. component_faults c.what) (components plus p)

-- The blocks that ask for cuts.

-- a name that no part has, and one that is given before
abbrev pub own_name_faults : Bool → Bool → ℕ → List TypeRefusal
own_name_faults known given at = (if known then [] else Parts at ∷ []) ++ (if given then Parts at ∷ [] else [])

-- the faults of names, after those that are given
abbrev pub name_faults : List (List ℕ) → List (List ℕ) → List Name → List TypeRefusal
name_faults parts given [] = []
name_faults parts given (n ∷ names) = own_name_faults (is_among n.text parts) (is_among n.text given) n.at ++ name_faults parts (with_text n.text given) names

-- the names of all sets
abbrev pub names_of : List NameSet → List Name
names_of = flat_map (λ s. s.names)

-- the faults of the sets of a block, whose first token is `at`
abbrev pub cut_faults : List (List ℕ) → Bool → ℕ → List NameSet → List TypeRefusal
cut_faults parts existential at sets =
    name_faults parts [] (names_of sets)
    ++ (if misses parts (distinct_from [] (names_of sets)) then Parts at ∷ [] else [])
    ++ (if existential then Parts at ∷ [] else [])

abbrev pub block_faults : List (List ℕ) → Bool → Block → List TypeRefusal
block_faults parts existential (block.Interpolant at sets) = cut_faults parts existential at sets
block_faults parts existential _ = []

-- the cut that a block asks for: the numbers of the parts in its sets
abbrev pub cut_of : List (List ℕ) → List NameSet → Cut
cut_of parts sets = record { sets = map (λ s. map (λ n. place n.text parts) s.names) sets }

abbrev pub cuts_in : List (List ℕ) → Block → List Cut
cuts_in parts (block.Interpolant at sets) = cut_of parts sets ∷ []
cuts_in parts _ = []

abbrev pub is_cut : Block → Bool
is_cut (block.Interpolant at sets) = true
is_cut _ = false
