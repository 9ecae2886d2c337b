-- Where the lines of `\interpolant` blocks stand: between the first sets of a block and its others.
use Rattle.std.specs.Prelude.{ℕ, zero, suc, ◌-◌, List, [], ◌∷◌, length, flat_map}
use Rattle.form_typed.specs.Formula.{Formula}
use Rattle.pri_typing.specs.declared.problem.Cut.{Cut}
use Rattle.pri_typing.specs.declared.problem.Problem.{Problem}
use Rattle.itp_sides.specs.Sides.{first_side, other_side, set_side}

-- a place between the sets of a block: this many sets stand before it
pub record Seam : Type 0 where
  pub cut : Cut
  pub at : ℕ

-- what the sets before the seam assume
abbrev pub before : Problem → Seam → Formula
before p s = first_side p s.cut s.at

-- what those after it assume
abbrev pub behind : Problem → Seam → Formula
behind p s = other_side p s.cut s.at

-- what the set right after it assumes
abbrev pub set_behind : Problem → Seam → Formula
set_behind p s = set_side p s.cut s.at

-- the next seam of the same block
abbrev pub next_seam : Seam → Seam
next_seam s = record { cut = s.cut; at = suc s.at }

-- n seams of a block, from the one at this place on
abbrev pub seams_from : Cut → ℕ → ℕ → List Seam
seams_from b at zero = []
seams_from b at (suc n) = record { cut = b; at = at } ∷ seams_from b (suc at) n

-- the seams of a block of k sets: those at 1 to k − 1
abbrev pub seams_of : Cut → List Seam
seams_of b = seams_from b 1 (length b.sets - 1)

-- the seams of blocks, in their order
abbrev pub seams : List Cut → List Seam
seams bs = flat_map seams_of bs
