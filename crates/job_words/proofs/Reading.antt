-- The words after a command word, read from the left.
use Rattle.std.proofs.Common.{◌==◌, Bool, true, false, List, [], ◌∷◌, map, Option, Some, None, if◌then◌else◌}
use Rattle.std.specs.Prelude.{option_map}
use Rattle.std.specs.List.{list_any, before_first, after_first}
use Rattle.job_words.specs.Uses.{Text, Use, Options, operand, valued, flag, takes_value}

-- what a word is by its first bytes: '--' alone, an option by its name and what stands after a '=', another word with a dash, or a positional word
pub data Look : Type 0 where
  ends : Look
  named : Text → Option Text → Look
  dashed : Look
  plain : Look

-- the name before the first '=', and what stands after it
abbrev pub name_and_value : Text → Text × Option Text
name_and_value text = (
  before_first (λ x. x == 61) text,
  if list_any (λ x. x == 61) text then Some (after_first (λ x. x == 61) text) else None,
)

-- after two dashes
abbrev pub look_long : Text → Look
look_long [] = ends
look_long (b ∷ rest) = named (name_and_value (b ∷ rest)).0 (name_and_value (b ∷ rest)).1

-- after one dash
abbrev pub look_dash : Text → Look
look_dash [] = plain
look_dash (b ∷ rest) = if b == 45 then look_long rest else dashed

abbrev pub look : Text → Look
look [] = plain
look (b ∷ rest) = if b == 45 then look_dash rest else plain

-- an option's word: with its value after '=', waiting for its value, or a flag
abbrev pub option_uses : Text → Option Text → Option Bool → (Option Text → Option (List Use)) → Option (List Use)
option_uses name value None reads = None
option_uses name (Some v) (Some true) reads = option_map (λ us. valued name v ∷ us) (reads None)
option_uses name None (Some true) reads = reads (Some name)
option_uses name (Some v) (Some false) reads = None
option_uses name None (Some false) reads = option_map (λ us. flag name ∷ us) (reads None)

-- a word where none or an option waits for its value; then what the rest is, by what waits before it
abbrev pub word_uses : Options → Option Text → Look → Text → List Text → (Option Text → Option (List Use)) → Option (List Use)
word_uses options None ends word rest reads = Some (map operand rest)
word_uses options None (named name value) word rest reads = option_uses name value (takes_value options name) reads
word_uses options None dashed word rest reads = None
word_uses options None plain word rest reads = option_map (λ us. operand word ∷ us) (reads None)
word_uses options (Some name) plain word rest reads = option_map (λ us. valued name word ∷ us) (reads None)
word_uses options (Some name) _ word rest reads = None

-- the uses that a line of words spells, where 'owed' waits for its value
unfoldable pub uses : Options → Option Text → List Text → Option (List Use)
uses options None [] = Some []
uses options (Some name) [] = None
uses options owed (word ∷ rest) = word_uses options owed (look word) word rest (λ o. uses options o rest)
