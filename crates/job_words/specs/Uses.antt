-- What the words after a command are there for.
use Rattle.std.specs.Prelude.{◌≡◌, ◌≢◌, ◌⊎◌, ℕ, Bool, true, false, suc, List, [], ◌∷◌, ◌++◌, map, Option, Some, codes, if◌then◌else◌, None, option_map, find}
use Rattle.std.specs.Str.{bytes_eq}

abbrev pub Text : Type 0
Text = List ℕ

-- one use: a positional word, an option with its value, or a flag; options and flags by their names without dashes
pub data Use : Type 0 where
  operand : (word : Text) → Use
  valued : (name value : Text) → Use
  flag : (name : Text) → Use

-- the options of a command: the name of each, and whether it takes a value
abbrev pub Options : Type 0
Options = List (Text × Bool)

-- whether the option of this name takes a value, if there is one
abbrev pub takes_value : Options → Text → Option Bool
takes_value options name = option_map (λ o. o.1) (find (λ o. bytes_eq o.0 name) options)

-- a word that no option can be: '-' alone, or one that does not begin with '-'
abbrev pub IsOperand : Text → Type 0
IsOperand word = (word ≡ codes "-") ⊎ ((rest : Text) → word ≢ 45 ∷ rest)

-- the line spells these uses of a command with these options, in this order
pub data Spells (options : Options) : List Text → List Use → Type 0 where
  over : Spells options [] []
  -- after '--' every word is positional
  behind_dashes : {words : List Text} → Spells options (codes "--" ∷ words) (map operand words)
  positional : {word : Text} {words : List Text} {us : List Use} → IsOperand word → Spells options words us → Spells options (word ∷ words) (operand word ∷ us)
  -- '--name', and its value as the next word
  value_apart : {name value : Text} {words : List Text} {us : List Use} → takes_value options name ≡ Some true → IsOperand value → Spells options words us
      → Spells options ((45 ∷ 45 ∷ name) ∷ value ∷ words) (valued name value ∷ us)
  -- '--name=value'
  value_joined : {name value : Text} {words : List Text} {us : List Use} → takes_value options name ≡ Some true → Spells options words us
      → Spells options ((45 ∷ 45 ∷ (name ++ 61 ∷ value)) ∷ words) (valued name value ∷ us)
  -- '--name' of a flag
  raised : {name : Text} {words : List Text} {us : List Use} → takes_value options name ≡ Some false → Spells options words us
      → Spells options ((45 ∷ 45 ∷ name) ∷ words) (flag name ∷ us)

-- the positional words among the uses
abbrev pub operands : List Use → List Text
operands [] = []
operands (operand word ∷ us) = word ∷ operands us
operands (_ ∷ us) = operands us

-- the values that the uses give to an option
abbrev pub values_of : Text → List Use → List Text
values_of name [] = []
values_of name (valued n v ∷ us) = if bytes_eq n name then v ∷ values_of name us else values_of name us
values_of name (_ ∷ us) = values_of name us

-- how often the uses raise a flag
abbrev pub times : Text → List Use → ℕ
times name [] = 0
times name (flag n ∷ us) = if bytes_eq n name then suc (times name us) else times name us
times name (_ ∷ us) = times name us

-- a value that may be left out, as a list
abbrev pub listed : Option Text → List Text
listed None = []
listed (Some text) = text ∷ []

-- a flag that is raised once or not at all, as a number
abbrev pub tally : Bool → ℕ
tally false = 0
tally true = 1
