-- What the loops keep that read lists.
use Rattle.std.proofs.Common.{ℕ, List, ◌++◌, map, Option}
use Rattle.std.specs.Option.{option_map}
use Rattle.smt_terms.specs.declared.term.Binding.{Binding}
use Rattle.smt_terms.specs.Term.{bound}

-- these, with what comes after them, if it comes
abbrev pub joined : {A : Type 0} → List A → Option (List A) → Option (List A)
joined xs o = option_map (λ ys. xs ++ ys) o

-- the symbols that bindings bind
abbrev pub symbols : List Binding → List (List ℕ)
symbols bs = map (λ c. c.text) (map bound bs)
