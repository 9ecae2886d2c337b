-- How each token is written.
use Rattle.std.specs.Prelude.{ℕ, ◌≡◌, ◌<◌, ◌^◌, Bool, true, false, List, [], ◌∷◌, ◌++◌, codes}
use Rattle.std.specs.Fmt.{decimal}
use Rattle.std.specs.List.{flat_map}
use Rattle.base_budget.specs.declared.log.Entry.{Entry}
use Rattle.base_budget.specs.declared.log.Entry.TheVariants as e
use Rattle.proof_tokens.specs.declared.tokens.Token.{Token}
use Rattle.proof_tokens.specs.declared.tokens.Token.TheVariants as t
use Rattle.proof_tokens.specs.declared.tokens.Word.{Word}
use Rattle.proof_tokens.specs.declared.tokens.Word.TheVariants as w

-- an entry: a letter, and the positions that it has, with a `,` between two
abbrev pub entry_spelling : Entry → List ℕ
entry_spelling (e.Equation i) = 101 ∷ decimal i
entry_spelling (e.Apart i) = 110 ∷ decimal i
entry_spelling (e.Merge i j) = 109 ∷ (decimal i ++ (44 ∷ decimal j))
entry_spelling (e.Shift i) = 115 ∷ decimal i
entry_spelling e.OneSided = codes "o"
entry_spelling e.Exact = codes "x"
entry_spelling e.Dark = codes "d"

-- the one spelling of a token
abbrev pub spelling : Token → List ℕ
spelling t.PrincessProof = codes "princess-proof"
spelling t.Parts = codes "parts"
spelling t.Part = codes "part"
spelling t.Charges = codes "charges"
spelling t.Trivial = codes "trivial"
spelling t.Alpha = codes "alpha"
spelling t.Beta = codes "beta"
spelling t.Delta = codes "delta"
spelling t.Gamma = codes "gamma"
spelling t.Close = codes "close"
spelling t.Log = codes "log"
spelling t.Gives = codes "gives"
spelling t.Solution = codes "solution"
spelling t.Nothing = codes "none"
spelling t.True = codes "true"
spelling t.False = codes "false"
spelling t.Divides = codes "divides"
spelling t.NotDivides = codes "notdivides"
spelling (t.Number n) = decimal n
spelling (t.Name x) = 99 ∷ decimal x
spelling (t.Use i) = 117 ∷ decimal i
spelling (t.Step e) = entry_spelling e
spelling t.Equal = codes "="
spelling t.AtLeast = codes ">="
spelling t.Plus = codes "+"
spelling t.Minus = codes "-"
spelling t.Times = codes "*"
spelling t.And = codes "&"
spelling t.Or = codes "|"
spelling t.Blank = codes " "
spelling t.LineFeed = codes "\n"
spelling t.Bad = []

-- the token of a word
abbrev pub token_of : Word → Token
token_of w.PrincessProof = t.PrincessProof
token_of w.Parts = t.Parts
token_of w.Part = t.Part
token_of w.Charges = t.Charges
token_of w.Log = t.Log
token_of w.Gives = t.Gives

-- the bytes of tokens, one after another
abbrev pub spelled : List Token → List ℕ
spelled = flat_map spelling

-- a token that texts have
abbrev pub IsGood : Token → Type 0
IsGood x = x ≡ t.Bad → ⊥

-- the positions of an entry fit 32 bits
abbrev pub IsEntry : Entry → Type 0
IsEntry (e.Equation i) = i < 2 ^ 32
IsEntry (e.Apart i) = i < 2 ^ 32
IsEntry (e.Merge i j) = (i < 2 ^ 32) × (j < 2 ^ 32)
IsEntry (e.Shift i) = i < 2 ^ 32
IsEntry _ = Unit {0}

-- a token that a text can have, with its numbers in their ranges
abbrev pub IsProofToken : Token → Type 0
IsProofToken (t.Number n) = n < 2 ^ 127
IsProofToken (t.Name x) = x < 2 ^ 32
IsProofToken (t.Use i) = i < 2 ^ 32
IsProofToken (t.Step e) = IsEntry e
IsProofToken t.Bad = ⊥
IsProofToken _ = Unit {0}

-- the same, and any token that no text has
abbrev pub IsRangedToken : Token → Type 0
IsRangedToken (t.Number n) = n < 2 ^ 127
IsRangedToken (t.Name x) = x < 2 ^ 32
IsRangedToken (t.Use i) = i < 2 ^ 32
IsRangedToken (t.Step e) = IsEntry e
IsRangedToken _ = Unit {0}

-- a sign, a blank or the end of a line: anything may stand directly before and after it
abbrev pub is_sign : Token → Bool
is_sign t.Equal = true
is_sign t.AtLeast = true
is_sign t.Plus = true
is_sign t.Minus = true
is_sign t.Times = true
is_sign t.And = true
is_sign t.Or = true
is_sign t.Blank = true
is_sign t.LineFeed = true
is_sign _ = false

-- a sign comes next
abbrev pub NextIsSign : List Token → Type 0
NextIsSign [] = ⊥
NextIsSign (x ∷ xs) = is_sign x ≡ true

-- tokens as a text has them: after each word stands a sign
abbrev pub AreSpaced : List Token → Type 0
AreSpaced [] = Unit {0}
AreSpaced (x ∷ xs) = IsProofToken x × (is_sign x ≡ false → NextIsSign xs) × AreSpaced xs
