-- The two sides of a cut after its first j sets, and which formula stands between them.
use Rattle.std.specs.Prelude.{ℕ, cond, List, [], take, drop, slice_index_or}
use Rattle.std.specs.List.{concat}
use Rattle.form_typed.specs.Formula.{Formula}
use Rattle.form_typed.specs.Truth.{Meaning}
use Rattle.pri_typing.specs.declared.problem.Cut.{Cut}
use Rattle.pri_typing.specs.declared.problem.Problem.{Problem}
use Rattle.pri_typing.specs.Problems.{assumed_by}
use Rattle.itp_sides.specs.Between.{Condition, IsStrongest, IsWeakest}
use Rattle.itp_sides.specs.Symbols.{is_empty, is_within, symbols_in}

-- the cut of a problem with this number
abbrev pub cut_of : Problem → ℕ → Cut
cut_of p k = slice_index_or p.cuts k (record { sets = [] })

-- the parts of the first j sets
abbrev pub first_sets : Cut → ℕ → List ℕ
first_sets cut j = concat (take j cut.sets)

-- the parts of the other sets
abbrev pub other_sets : Cut → ℕ → List ℕ
other_sets cut j = concat (drop j cut.sets)

-- what the parts of the first j sets assume
abbrev pub first_side : Problem → Cut → ℕ → Formula
first_side p cut j = assumed_by p (first_sets cut j)

-- what the parts of the other sets assume
abbrev pub other_side : Problem → Cut → ℕ → Formula
other_side p cut j = assumed_by p (other_sets cut j)

-- what the parts of the set with this number, from 0 on, assume
abbrev pub set_side : Problem → Cut → ℕ → Formula
set_side p cut j = assumed_by p (slice_index_or cut.sets j [])

-- which formula stands between two sides: the first without quantifiers; the first itself or the negation of the second, with
-- own constants bound; or none
pub data Case : Type 0 where
  arithmetic : Case
  first_itself : Case
  second_denied : Case
  none : Case

-- the first side has no symbol; all of its symbols stand in the second; all of the second stand in the first
abbrev pub case_between : Formula → Formula → Case
case_between f g = cond (is_empty (symbols_in f)) arithmetic (cond (is_within f g) first_itself (cond (is_within g f) second_denied none))

-- which one after the first j sets of a cut
abbrev pub case_of : Problem → Cut → ℕ → Case
case_of p cut j = case_between (first_side p cut j) (other_side p cut j)

-- the condition is the one that the case asks for
abbrev pub StandsBy : Meaning → Problem → Formula → Formula → Condition → Case → Type 0
StandsBy w p f g c arithmetic = IsStrongest w p f g c
StandsBy w p f g c first_itself = IsStrongest w p f g c
StandsBy w p f g c second_denied = IsWeakest w p f g c
StandsBy w p f g c none = ⊥

-- and after the first j sets of a cut
abbrev pub Stands : Meaning → Problem → Cut → ℕ → Condition → Type 0
Stands w p cut j c = StandsBy w p (first_side p cut j) (other_side p cut j) c (case_of p cut j)
