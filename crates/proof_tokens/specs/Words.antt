-- Which token a word or a sign is.
use Rattle.std.specs.Prelude.{ℕ, ◌^◌, ◌==◌, ◌&&◌, ◌||◌, not, Bool, true, false, List, [], ◌∷◌, take, drop, codes, nat_lt, Option, Some, None, if◌then◌else◌}
use Rattle.std.specs.Option.{option_map}
use Rattle.std.specs.List.{prefix_len, list_all}
use Rattle.std.specs.Str.{bytes_eq}
use Rattle.std.specs.Char.{is_ascii_digit}
use Rattle.base_numerals.specs.Numerals.{decimal_value}
use Rattle.base_budget.specs.declared.log.Entry.{Entry}
use Rattle.base_budget.specs.declared.log.Entry.TheVariants as e
use Rattle.proof_tokens.specs.declared.tokens.Token.{Token}
use Rattle.proof_tokens.specs.declared.tokens.Token.TheVariants as t

abbrev pub is_empty : List ℕ → Bool
is_empty [] = true
is_empty (b ∷ bs) = false

-- digits, the first of which is not 0 where there are more
abbrev pub is_numeral : List ℕ → Bool
is_numeral [] = false
is_numeral (d ∷ ds) = is_ascii_digit d && list_all is_ascii_digit ds && (not (d == 48) || is_empty ds)

-- the value of a numeral below the bound
abbrev pub numeral_of : ℕ → List ℕ → Option ℕ
numeral_of bound ds = if is_numeral ds && nat_lt (decimal_value ds) bound then Some (decimal_value ds) else None

-- a position or the number of a constant
abbrev pub index_of : List ℕ → Option ℕ
index_of = numeral_of (2 ^ 32)

abbrev pub merge_with : Option ℕ → Option ℕ → Option Entry
merge_with (Some i) (Some j) = Some (e.Merge i j)
merge_with _ _ = None

abbrev pub merge_behind : List ℕ → List ℕ → Option Entry
merge_behind first [] = None
merge_behind first (b ∷ second) = if b == 44 then merge_with (index_of first) (index_of second) else None

-- two positions with a `,` between them
abbrev pub merge_of : List ℕ → Option Entry
merge_of text = merge_behind (take (prefix_len is_ascii_digit text) text) (drop (prefix_len is_ascii_digit text) text)

-- the entry with the first letter b: `e`, `n`, `s` and a position, `m` and two, `o`, `x`, `d` alone
abbrev pub entry_of : ℕ → List ℕ → Option Entry
entry_of b bs =
    if b == 101 then option_map e.Equation (index_of bs) else
    (if b == 110 then option_map e.Apart (index_of bs) else
    (if b == 115 then option_map e.Shift (index_of bs) else
    (if b == 109 then merge_of bs else
    (if not (is_empty bs) then None else
    (if b == 111 then Some e.OneSided else
    (if b == 120 then Some e.Exact else
    (if b == 100 then Some e.Dark else
    None)))))))

abbrev pub token_or_bad : {A : Type 0} → (A → Token) → Option A → Token
token_or_bad f None = t.Bad
token_or_bad f (Some a) = f a

-- a number, a name, the use of a part or an entry
abbrev pub figure_of : List ℕ → Token
figure_of [] = t.Bad
figure_of (b ∷ bs) =
    if is_ascii_digit b then token_or_bad t.Number (numeral_of (2 ^ 127) (b ∷ bs)) else
    (if b == 99 then token_or_bad t.Name (index_of bs) else
    (if b == 117 then token_or_bad t.Use (index_of bs) else
    token_or_bad t.Step (entry_of b bs)))

-- the words of the parts of a text, and figures
abbrev pub part_word_of : List ℕ → Token
part_word_of w =
    if bytes_eq w (codes "parts") then t.Parts else
    (if bytes_eq w (codes "part") then t.Part else
    figure_of w)

-- the words that begin a row, and others
abbrev pub row_word_of : List ℕ → Token
row_word_of w =
    if bytes_eq w (codes "trivial") then t.Trivial else
    (if bytes_eq w (codes "alpha") then t.Alpha else
    (if bytes_eq w (codes "beta") then t.Beta else
    (if bytes_eq w (codes "delta") then t.Delta else
    (if bytes_eq w (codes "gamma") then t.Gamma else
    (if bytes_eq w (codes "close") then t.Close else
    part_word_of w)))))

-- the token that a word is
abbrev pub word_of : List ℕ → Token
word_of w =
    if bytes_eq w (codes "princess-proof") then t.PrincessProof else
    (if bytes_eq w (codes "charges") then t.Charges else
    (if bytes_eq w (codes "log") then t.Log else
    (if bytes_eq w (codes "gives") then t.Gives else
    (if bytes_eq w (codes "solution") then t.Solution else
    (if bytes_eq w (codes "none") then t.Nothing else
    (if bytes_eq w (codes "true") then t.True else
    (if bytes_eq w (codes "false") then t.False else
    (if bytes_eq w (codes "divides") then t.Divides else
    (if bytes_eq w (codes "notdivides") then t.NotDivides else
    row_word_of w)))))))))

-- the token of a byte that is no letter and no digit
abbrev pub sign_of : ℕ → Token
sign_of b =
    if b == 10 then t.LineFeed else
    (if b == 32 then t.Blank else
    (if b == 38 then t.And else
    (if b == 42 then t.Times else
    (if b == 43 then t.Plus else
    (if b == 45 then t.Minus else
    (if b == 61 then t.Equal else
    (if b == 124 then t.Or else
    t.Bad)))))))
