-- What sorts come to, where some are defined by others (SMT-LIB 2.6, section 4.2.3). A defined sort comes to Int, to Bool, to
-- one of its parameters, or to something else, which has no place in a script here.
use Rattle.std.specs.Prelude.{ℕ, ◌==◌, ◌&&◌, not, Bool, true, false, List, [], ◌∷◌, length, slice_get, position, codes, Option, Some, None, if◌then◌else◌}
use Rattle.std.specs.List.{find}
use Rattle.base_texts.specs.Texts.{is_text}
use Rattle.smt_lists.specs.Expressions.{Expr, Exprs, atom, list, no_expr, and_expr}
use Rattle.smt_commands.specs.Commands.{Symbol, symbol_of, symbol_in}
use Rattle.smt_shorthand.specs.declared.sorts.Sense.{Sense}
use Rattle.smt_shorthand.specs.declared.sorts.Sense.TheVariants as sense
use Rattle.smt_shorthand.specs.declared.sorts.DefinedSort.{DefinedSort}

-- the defined sort of a name
abbrev pub sort_named : List ℕ → List DefinedSort → Option DefinedSort
sort_named text sorts = find (λ d. is_text text d.text) sorts

-- some come to something else
abbrev pub has_other : List Sense → Bool
has_other [] = false
has_other (sense.Other ∷ ss) = true
has_other (s ∷ ss) = has_other ss

-- what a sort without parameters comes to, at these arguments
abbrev pub alone : Sense → List Sense → Sense
alone s [] = s
alone s _ = sense.Other

abbrev pub or_other : Option Sense → Sense
or_other None = sense.Other
or_other (Some s) = s

-- what is meant, where the parameters come to these
abbrev pub chosen : Sense → List Sense → Sense
chosen (sense.Parameter i) ss = or_other (slice_get ss i)
chosen s ss = s

-- what a defined sort comes to at these arguments: as many as it has parameters, none of them something else
abbrev pub applied : DefinedSort → List Sense → Sense
applied d ss = if length ss == d.arity && not (has_other ss) then chosen d.sense ss else sense.Other

abbrev pub applied_by : Option DefinedSort → List Sense → Sense
applied_by None ss = sense.Other
applied_by (Some d) ss = applied d ss

-- what a name comes to that is no parameter
abbrev pub sense_global : List DefinedSort → List ℕ → List Sense → Sense
sense_global sorts x ss =
    if is_text x (codes "Int") then alone sense.Int ss else
    (if is_text x (codes "Bool") then alone sense.Bool ss else
    applied_by (sort_named x sorts) ss)

-- what a name comes to, under these names of parameters
abbrev pub sense_named : List DefinedSort → List (List ℕ) → List ℕ → List Sense → Sense
sense_named sorts parameters x ss = elim (position (is_text x) parameters) [
  | Some i ↦ alone (sense.Parameter i) ss
  | None ↦ sense_global sorts x ss
]

abbrev pub sense_by : List DefinedSort → List (List ℕ) → Option Symbol → List Sense → Sense
sense_by sorts parameters None ss = sense.Other
sense_by sorts parameters (Some x) ss = sense_named sorts parameters x.text ss

-- the same in a list, which has arguments
abbrev pub sense_applied : List DefinedSort → List (List ℕ) → Option Symbol → List Sense → Sense
sense_applied sorts parameters x [] = sense.Other
sense_applied sorts parameters x (s ∷ ss) = sense_by sorts parameters x (s ∷ ss)

abbrev mutual
  -- what a sort comes to
  pub sense_of : List DefinedSort → List (List ℕ) → Expr → Sense
  sense_of sorts parameters (atom a) = sense_by sorts parameters (symbol_in a.at a.kind) []
  sense_of sorts parameters (list at no_expr) = sense.Other
  sense_of sorts parameters (list at (and_expr h es)) = sense_applied sorts parameters (symbol_of h) (senses_of sorts parameters es)

  pub senses_of : List DefinedSort → List (List ℕ) → Exprs → List Sense
  senses_of sorts parameters no_expr = []
  senses_of sorts parameters (and_expr e es) = sense_of sorts parameters e ∷ senses_of sorts parameters es
