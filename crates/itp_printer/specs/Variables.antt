-- The names of bound variables in a printed formula: v0, v1, .. without those that symbols of the problem have.
use Rattle.std.specs.Prelude.{ℕ, zero, suc, cond, List, [], ◌∷◌, ◌++◌, codes}
use Rattle.std.specs.Fmt.{decimal}
use Rattle.pri_typing.specs.declared.problem.Problem.{Problem}
use Rattle.base_texts.specs.Texts.{is_among}
use Rattle.pri_typing.specs.WellFormed.{names_of_symbols}

-- `v` and a number
abbrev pub variable_name : ℕ → List ℕ
variable_name n = codes "v" ++ decimal n

-- the first number from n on, of this many, whose name is not among these
abbrev pub free_from : ℕ → ℕ → List (List ℕ) → ℕ
free_from zero n names = n
free_from (suc more) n names = cond (is_among (variable_name n) names) (free_from more (suc n) names) n

-- the least number from n on such that no symbol of the problem is named v with it; there are at most 1,000 symbols
unfoldable pub next_number : Problem → ℕ → ℕ
next_number p n = free_from 1000 n (names_of_symbols p)

-- the d-th, from 0 on, of the numbers such that no symbol of the problem is named v with it
abbrev pub variable_number : Problem → ℕ → ℕ
variable_number p zero = next_number p 0
variable_number p (suc d) = next_number p (suc (variable_number p d))

-- the name of the variable that a quantifier with d others around it binds
abbrev pub variable_text : Problem → ℕ → List ℕ
variable_text p d = variable_name (variable_number p d)

-- the names of the variables that d quantifiers bind, the innermost first
abbrev pub bound_names : Problem → ℕ → List (List ℕ)
bound_names p zero = []
bound_names p (suc d) = variable_text p d ∷ bound_names p d
