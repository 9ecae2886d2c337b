-- What typing asks of the blocks of a file: it is so in every file that is read from fewer than 2^32 bytes.
use Rattle.std.specs.List.{flat_map}
use Rattle.std.specs.Prelude.{ℕ, ◌≡◌, true, ◌+◌, ◌<◌, ◌≤◌, ◌^◌, List, length, All}
use Rattle.pri_tokens.specs.Written.{IsIdentifier}
use Rattle.pri_reader.specs.declared.tree.Block.{Block}
use Rattle.pri_reader.specs.declared.tree.Block.TheVariants as block
use Rattle.pri_reader.specs.declared.tree.Declared.{Declared}
use Rattle.pri_reader.specs.declared.tree.NameSet.{NameSet}
use Rattle.pri_typing.specs.declared.scope.Site.{Site}
use Rattle.pri_typing.specs.Phrase.{Phrase, number, truth, used, group, choice, absolute, lesser, greater, minus, product, sum, compared, negation, quantified, part, conjunction, disjunction, implication, equivalence, Phrases, no_phrase, and_phrase, Addends, no_addend, and_addend}
use Rattle.pri_reader.specs.Grammar.{has_problem}
use Rattle.pri_typing.specs.Files.{problem_of}
use Rattle.pri_typing.specs.Ranges.{IsRanged}
use Rattle.pri_typing.specs.Scope.{declarations}
use Rattle.form_typed.specs.Sorts.{IsSortRanged}
use Rattle.pri_typing.specs.Sorts.{existential_sorts, universal_sorts}
use Rattle.pri_typing.specs.Typing.{part_names}
use Rattle.pri_typing.specs.Sites.{bound_texts, most_bound, IsFit}

abbrev mutual
  -- where n names are bound around the phrase, at most 200 are bound at each place inside it
  pub IsShallow : ℕ → Phrase → Type 0
  IsShallow n (number _ k) = Unit {0}
  IsShallow n (truth _ b) = Unit {0}
  IsShallow n (used _ x ps) = AreShallow n ps
  IsShallow n (group _ p) = IsShallow n p
  IsShallow n (choice _ c p q) = IsShallow n c × IsShallow n p × IsShallow n q
  IsShallow n (absolute _ p) = IsShallow n p
  IsShallow n (lesser _ p q) = IsShallow n p × IsShallow n q
  IsShallow n (greater _ p q) = IsShallow n p × IsShallow n q
  IsShallow n (minus _ p) = IsShallow n p
  IsShallow n (product _ p sign q) = IsShallow n p × IsShallow n q
  IsShallow n (sum _ p more) = IsShallow n p × AddendsAreShallow n more
  IsShallow n (compared _ c p q) = IsShallow n p × IsShallow n q
  IsShallow n (negation _ p) = IsShallow n p
  IsShallow n (quantified _ all names p) = (length names + n ≤ most_bound) × IsShallow (length names + n) p
  IsShallow n (part _ x p) = IsShallow n p
  IsShallow n (conjunction _ ps) = AreShallow n ps
  IsShallow n (disjunction _ ps) = AreShallow n ps
  IsShallow n (implication _ p q) = IsShallow n p × IsShallow n q
  IsShallow n (equivalence _ p q) = IsShallow n p × IsShallow n q

  pub AreShallow : ℕ → Phrases → Type 0
  AreShallow n no_phrase = Unit {0}
  AreShallow n (and_phrase p ps) = IsShallow n p × AreShallow n ps

  pub AddendsAreShallow : ℕ → Addends → Type 0
  AddendsAreShallow n no_addend = Unit {0}
  AddendsAreShallow n (and_addend is_minus p more) = IsShallow n p × AddendsAreShallow n more

-- a phrase at a place where all numbers of its names fit
pub record IsReady (here : Site) (p : Phrase) : Type 0 where
  pub fit : IsFit here
  pub shallow : IsShallow (length (bound_texts here.bound.now)) p

pub record AreReady (here : Site) (ps : Phrases) : Type 0 where
  pub fit : IsFit here
  pub shallow : AreShallow (length (bound_texts here.bound.now)) ps

pub record AddendsAreReady (here : Site) (more : Addends) : Type 0 where
  pub fit : IsFit here
  pub shallow : AddendsAreShallow (length (bound_texts here.bound.now)) more

-- a phrase that stands under a quantifier for these names
pub record IsReadyUnder (here : Site) (names : List Declared) (p : Phrase) : Type 0 where
  pub fit : IsFit here
  pub bindable : length names + length (bound_texts here.bound.now) ≤ most_bound
  pub shallow : IsShallow (length names + length (bound_texts here.bound.now)) p

-- at least two sets, none of which is empty
pub record AreSets (sets : List NameSet) : Type 0 where
  pub several : 2 ≤ length sets
  pub filled : All (λ s. 1 ≤ length s.names) sets

-- the block asks for no cut, or it has such sets
abbrev pub HasSets : Block → Type 0
HasSets (block.Interpolant at sets) = AreSets sets
HasSets _ = Unit {0}

-- The blocks have a `\problem` block, with at most 200 bound names at each place of its formula, fewer than 2^32 parts and
-- numerals and endpoints of types in the range. They declare identifiers, and those that ask for a cut have sets.
pub record IsResolvable (blocks : List Block) : Type 0 where
  pub problem : has_problem blocks ≡ true
  pub shallow : IsShallow 0 (problem_of blocks)
  pub countable : length (part_names (problem_of blocks)) < 2 ^ 32
  pub numerals : IsRanged (problem_of blocks)
  pub existential_sorts : All IsSortRanged (flat_map existential_sorts blocks)
  pub universal_sorts : All IsSortRanged (flat_map universal_sorts blocks)
  pub identifiers : All (λ d. IsIdentifier d.text) (declarations blocks)
  pub sets : All HasSets blocks
