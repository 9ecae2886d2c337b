-- Numbers as words: decimal digits without a leading zero, and a `-` before them.
use Rattle.std.specs.Prelude.{ℕ, ◌^◌, ◌==◌, ℤ, pos, neg_ℤ, Bool, true, List, [], ◌∷◌, Option, Some, None, cond, nat_eq}
use Rattle.std.specs.Option.{option_map}
use Rattle.proof_tokens.specs.Words.{numeral_of}

-- a number below 2^32
abbrev pub index_of : List ℕ → Option ℕ
index_of ds = numeral_of (2 ^ 32) ds

-- a number below 2^127
abbrev pub size_of : List ℕ → Option ℕ
size_of ds = numeral_of (2 ^ 127) ds

-- n or -n
abbrev pub signed : Bool → ℕ → ℤ
signed minus n = cond minus (neg_ℤ (pos n)) (pos n)

-- the number, unless it is 0
abbrev pub some_size : Option ℕ → Option ℕ
some_size None = None
some_size (Some n) = cond (nat_eq n 0) None (Some n)

-- an integer
abbrev pub integer_of : List ℕ → Option ℤ
integer_of [] = None
integer_of (b ∷ bs) = cond (b == 45) (option_map (signed true) (some_size (size_of bs))) (option_map pos (size_of (b ∷ bs)))
