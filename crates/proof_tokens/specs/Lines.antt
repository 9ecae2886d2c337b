-- The lines of a proof that speak of no sequent, as tokens.
use Rattle.std.specs.Prelude.{ℕ, ◌≤◌, ◌<◌, ◌^◌, ℤ, pos, int_lt, unsigned_abs, cond, List, [], ◌∷◌, ◌++◌, Option, Some, None}
use Rattle.std.specs.List.{AllByRecursion}
use Rattle.base_limits.specs.Limits.{most_budget}
use Rattle.linear_term.specs.Range.{InRange}
use Rattle.base_budget.specs.declared.log.Entry.{Entry}
use Rattle.proof_tokens.specs.declared.tokens.Token.{Token}
use Rattle.proof_tokens.specs.declared.tokens.Token.TheVariants as t
use Rattle.proof_tokens.specs.declared.part_lines.SaidLog.{SaidLog}
use Rattle.proof_tokens.specs.declared.part_lines.SaidLog.TheVariants as said
use Rattle.proof_tokens.specs.Reading.{Cuts}

-- a blank, a number and the end of the line
abbrev pub numbered_text : ℕ → List Token
numbered_text n = t.Blank ∷ t.Number n ∷ t.LineFeed ∷ []

-- the first line of a proof, with its format
abbrev pub head_text : ℕ → List Token
head_text n = t.PrincessProof ∷ numbered_text n

-- the line that says how many parts a text has
abbrev pub parts_text : ℕ → List Token
parts_text n = t.Parts ∷ numbered_text n

-- the line that says for how many charges the proof is
abbrev pub charges_text : ℕ → List Token
charges_text n = t.Charges ∷ numbered_text n

-- the number is from `least` to `most`
abbrev pub LiesBetween : ℕ → ℕ → ℕ → Type 0
LiesBetween least most n = (least ≤ n) × (n ≤ most)

-- the formats of a proof: in the second one a log that stands on several lines may be written once
abbrev pub IsFormat : ℕ → Type 0
IsFormat = LiesBetween 1 2

-- a proof is for at most this many charges
abbrev pub IsCharges : ℕ → Type 0
IsCharges = LiesBetween 0 most_budget

-- entries of a log, each after a blank, to the end of the line
abbrev pub entries_text : List Entry → List Token
entries_text [] = t.LineFeed ∷ []
entries_text (s ∷ es) = t.Blank ∷ t.Step s ∷ entries_text es

-- the log of an elimination
abbrev pub log_text : List Entry → List Token
log_text es = t.Log ∷ entries_text es

-- the conclusion that no values solve the problem, with the log that shows it
abbrev pub none_text : List Entry → List Token
none_text es = t.Nothing ∷ entries_text es

-- a part of a text: entries that its logs may use
abbrev pub part_text : List Entry → List Token
part_text es = t.Part ∷ entries_text es

-- a part has an entry
abbrev pub IsPart : List Entry → Type 0
IsPart [] = ⊥
IsPart (s ∷ es) = Unit {0}

-- the use of a part, in the place of entries
abbrev pub use_text : ℕ → List Token
use_text i = t.Blank ∷ t.Use i ∷ t.LineFeed ∷ []

-- what stands after the word of a line with a log
abbrev pub said_text : SaidLog → List Token
said_text (said.Entries log) = entries_text log.entries
said_text (said.Part i) = use_text i

-- a text of this many parts can say it
abbrev pub IsSaidLog : ℕ → SaidLog → Type 0
IsSaidLog parts (said.Entries log) = Unit {0}
IsSaidLog parts (said.Part i) = i < parts

-- no part of this many is used there
abbrev pub HasNoUse : ℕ → List ℕ → Type 0
HasNoUse parts bytes = (i : ℕ) (rest : List ℕ) → i < parts → Cuts (t.Blank ∷ t.Use i ∷ []) bytes rest → ⊥

-- any list of entries stands in a log
abbrev pub AnyEntries : List Entry → Type 0
AnyEntries es = Unit {0}

-- the token is a number from `least` to `most`
abbrev pub IsNumberIn : ℕ → ℕ → Token → Type 0
IsNumberIn least most (t.Number n) = (least ≤ n) × (n ≤ most)
IsNumberIn least most _ = ⊥

-- the token is a number below 2^32
abbrev pub IsSmallNumber : Token → Type 0
IsSmallNumber (t.Number n) = n < 2 ^ 32
IsSmallNumber _ = ⊥

-- the token is a name
abbrev pub IsName : Token → Type 0
IsName (t.Name x) = Unit {0}
IsName _ = ⊥

-- the token is an entry
abbrev pub IsStep : Token → Type 0
IsStep (t.Step s) = Unit {0}
IsStep _ = ⊥

-- the token stands after an item of a line: a blank before the next one, or the line's end
abbrev pub IsSeparator : Token → Type 0
IsSeparator t.Blank = Unit {0}
IsSeparator t.LineFeed = Unit {0}
IsSeparator _ = ⊥

-- the token is a number, or the `-` before one
abbrev pub IsValueStart : Token → Type 0
IsValueStart (t.Number n) = Unit {0}
IsValueStart t.Minus = Unit {0}
IsValueStart _ = ⊥

-- a number, or the `-` where there is none
abbrev pub start_token : Option ℕ → Token
start_token None = t.Minus
start_token (Some n) = t.Number n

abbrev pub start_size : Option ℕ → ℕ
start_size None = 0
start_size (Some n) = n

-- an integer, with a `-` before a negative one
abbrev pub value_text : ℤ → List Token
value_text v = cond (int_lt v (pos 0)) (t.Minus ∷ t.Number (unsigned_abs v) ∷ []) (t.Number (unsigned_abs v) ∷ [])

-- the texts of a list, each after a blank, to the end of the line
abbrev pub list_text : {A : Type 0} → (A → List Token) → List A → List Token
list_text text [] = t.LineFeed ∷ []
list_text text (a ∷ more) = t.Blank ∷ (text a ++ list_text text more)

-- integers to the end of the line
abbrev pub values_text : List ℤ → List Token
values_text = list_text value_text

-- the conclusion that these values solve the problem
abbrev pub solution_text : List ℤ → List Token
solution_text vs = t.Solution ∷ values_text vs

-- values are in the range
abbrev pub AreValues : List ℤ → Type 0
AreValues vs = AllByRecursion InRange vs

-- a position fits 32 bits
abbrev pub IsPosition : ℕ → Type 0
IsPosition = LiesBetween 0 4294967295

-- a number of premises, at least one
abbrev pub IsCount : ℕ → Type 0
IsCount = LiesBetween 1 4294967295

-- a position and a number of premises, and the end of the line
abbrev pub counted_text : (ℕ × ℕ) → List Token
counted_text p = t.Blank ∷ t.Number p.0 ∷ numbered_text p.1

abbrev pub IsCounted : (ℕ × ℕ) → Type 0
IsCounted p = IsPosition p.0 × IsCount p.1
