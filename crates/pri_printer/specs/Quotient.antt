-- The name of the quotient in a printed divisibility.
use Rattle.std.specs.Prelude.{ℕ, zero, suc, cond, List, ◌++◌, codes}
use Rattle.std.specs.Fmt.{decimal}
use Rattle.pri_typing.specs.declared.problem.Problem.{Problem}
use Rattle.base_texts.specs.Texts.{is_among}
use Rattle.pri_typing.specs.WellFormed.{names_of_symbols}

-- `k` and a number
abbrev pub quotient_name : ℕ → List ℕ
quotient_name n = codes "k" ++ decimal n

-- the first number from n on, of this many, whose name is not among these
abbrev pub free_from : ℕ → ℕ → List (List ℕ) → ℕ
free_from zero n names = n
free_from (suc more) n names = cond (is_among (quotient_name n) names) (free_from more (suc n) names) n

-- the least number N such that no symbol of the problem is named kN; there are at most 1,000 symbols
unfoldable pub quotient_number : Problem → ℕ
quotient_number p = free_from 1000 0 (names_of_symbols p)
