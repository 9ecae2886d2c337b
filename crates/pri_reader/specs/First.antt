-- The first refusal of a file: where, of its tokens in their order, the first one stands with which no file goes on, or which
-- leaves a limit. A token is judged by the tokens before it and by itself, never by those after it.
use Rattle.std.specs.Prelude.{ℕ, ◌≡◌, ◌||◌, Bool, true, false, List, [], ◌∷◌, ◌++◌, length, Ok, nat_lt}
use Rattle.pri_tokens.specs.declared.terminals.Terminal.{Terminal}
use Rattle.pri_tokens.specs.declared.terminals.Terminal.TheVariants as t
use Rattle.pri_tokens.specs.declared.terminals.Lexeme.{Lexeme}
use Rattle.pri_reader.specs.declared.tree.File.{File}
use Rattle.pri_reader.specs.declared.tree.ReadRefusal.{ReadRefusal}
use Rattle.pri_reader.specs.declared.tree.ReadRefusal.TheVariants as refusal
use Rattle.pri_reader.specs.Grammar.{Limit, Setting, value_of, IsFile}
use Rattle.pri_reader.specs.MachineStates.{Frame, Want, a_block, Move, on, numeral, level}
use Rattle.pri_reader.specs.Machine.{moves, run}

-- the same bytes with other limits
abbrev pub with_limits : Setting → Limit → Limit → Setting
with_limits s small shallow = record { bytes = s.bytes; small = small; shallow = shallow }

-- a limit that asks of the number alone, and not of the tokens after it
abbrev pub AsksNumber : Limit → Type 0
AsksNumber limit = (one two : List Lexeme) (n : ℕ) → limit one n ≡ limit two n

-- nothing is asked
abbrev pub any : Limit
any rest n = true

-- neither numerals nor levels are limited
abbrev pub unlimited : Setting → Setting
unlimited s = with_limits s any any

-- numerals are limited, and levels are not
abbrev pub without_levels : Setting → Setting
without_levels s = with_limits s s.small any

-- a limit for all tokens but the last ones, which are more
abbrev pub asked_before : List Lexeme → Limit → Limit
asked_before more limit rest n = limit rest n || nat_lt (length rest) (length more)

-- the limits for all tokens but the last ones, which are more
abbrev pub in_front_of : List Lexeme → Setting → Setting
in_front_of more s = with_limits s (asked_before more s.small) (asked_before more s.shallow)

-- The tokens begin a file: some tokens after them make them one, in which their own numerals and the levels that they open
-- themselves keep to the limits.
pub record BeginsFile (s : Setting) (front : List Lexeme) : Type 0 where
  pub more : List Lexeme
  pub file : File
  pub is_file : IsFile (in_front_of more s) file (front ++ more)

-- the token at this offset, with what stands before and after it; and what stands before it begins a file
pub record FirstAt (s : Setting) (tokens : List Lexeme) (at : ℕ) : Type 0 where
  pub front : List Lexeme
  pub x : Lexeme
  pub back : List Lexeme
  pub parts : tokens ≡ front ++ x ∷ back
  pub place : x.at ≡ at
  pub begins : BeginsFile s front

-- the tokens up to and with this one
abbrev pub up_to : {s : Setting} {tokens : List Lexeme} {at : ℕ} → FirstAt s tokens at → List Lexeme
up_to first = first.front ++ first.x ∷ []

-- no file goes on with the token at this offset, whatever its numerals and levels are
pub record SyntaxAt (s : Setting) (tokens : List Lexeme) (at : ℕ) : Type 0 where
  pub first : FirstAt s tokens at
  pub none : BeginsFile (unlimited s) (up_to first) → ⊥

-- some file goes on with the token at this offset, which is a numeral of too large a value
pub record LiteralAt (s : Setting) (tokens : List Lexeme) (at : ℕ) : Type 0 where
  pub first : FirstAt s tokens at
  pub fits : BeginsFile (unlimited s) (up_to first)
  pub numeral : first.x.terminal ≡ t.Number
  pub large : s.small first.back (value_of s first.x) ≡ false

-- the terminals that can open a level: `(`, `!`, `-`, `\part`, a bound name, and the signs that are grouped to the right
abbrev pub opens_level : Terminal → Bool
opens_level t.OpenParenthesis = true
opens_level t.Not = true
opens_level t.Minus = true
opens_level t.Part = true
opens_level t.Identifier = true
opens_level t.Star = true
opens_level t.Implies = true
opens_level t.Iff = true
opens_level _ = false

-- some file goes on with the token at this offset and keeps to the limit of numerals, but none that keeps to the limit of
-- levels, too: the token opens a level, and it is one too many
pub record DeepAt (s : Setting) (tokens : List Lexeme) (at : ℕ) : Type 0 where
  pub first : FirstAt s tokens at
  pub fits : BeginsFile (without_levels s) (up_to first)
  pub opens : opens_level first.x.terminal ≡ true
  pub none : BeginsFile s (up_to first) → ⊥

-- the tokens begin a file and are none
pub record EndsEarly (s : Setting) (tokens : List Lexeme) : Type 0 where
  pub begins : BeginsFile s tokens
  pub none : (file : File) → IsFile s file tokens → ⊥

-- this is the first refusal of tokens that end at this offset
pub data IsFirstRefusal (s : Setting) (end : ℕ) (tokens : List Lexeme) : ReadRefusal → Type 0 where
  first_syntax : {at : ℕ} → SyntaxAt s tokens at → IsFirstRefusal s end tokens (refusal.Syntax at)
  first_literal : {at : ℕ} → LiteralAt s tokens at → IsFirstRefusal s end tokens (refusal.Literal at)
  first_deep : {at : ℕ} → DeepAt s tokens at → IsFirstRefusal s end tokens (refusal.Deep at)
  first_end : EndsEarly s tokens → IsFirstRefusal s end tokens (refusal.Syntax end)

-- how a move leads to a state
pub data LeadsTo (want : Want) (frames : List Frame) : Move → Type 0 where
  leads_on : LeadsTo want frames (on want frames)
  leads_numeral : {n : ℕ} → LeadsTo want frames (numeral n want frames)
  leads_level : {n : ℕ} → LeadsTo want frames (level n want frames)

-- the machine comes to this state
pub data ReachesFrames (s : Setting) : Want → List Frame → Type 0 where
  reaches_first : ReachesFrames s (a_block []) []
  reaches_next : {old want : Want} {before frames : List Frame} → ReachesFrames s old before → (x : Lexeme)
      → LeadsTo want frames (moves s x x.terminal old before) → ReachesFrames s want frames

-- these tokens complete a state to a file
pub record Completes (s : Setting) (want : Want) (frames : List Frame) : Type 0 where
  pub more : List Lexeme
  pub file : File
  pub ends : (end : ℕ) → run (unlimited s) end more want frames ≡ Ok file

-- what a refusal says of tokens that end at this offset: it is their first one; running out of memory says nothing
abbrev pub Refuses : Setting → ℕ → List Lexeme → ReadRefusal → Type 0
Refuses s end tokens refusal.Memory = Unit {0}
Refuses s end tokens e = IsFirstRefusal s end tokens e
