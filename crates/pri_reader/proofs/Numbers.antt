-- How the value of a number is read.
use Rattle.std.proofs.Common.{ℕ, ℤ, ◌≡◌, ◌≤◌, ◌<◌, ◌^◌, List, pos, refl}
use Rattle.pri_tokens.specs.declared.terminals.Terminal.TheVariants as t
use Rattle.pri_tokens.specs.declared.terminals.Lexeme.{Lexeme}
use Rattle.pri_tokens.specs.Bytes.{text_of}
use Rattle.base_numerals.specs.Numerals.{decimal_value}
use Rattle.pri_reader.specs.declared.tree.ReadRefusal.TheVariants as refusal
use Rattle.pri_reader.specs.Grammar.{Takes}
use Rattle.pri_reader.specs.Reading.{TakesValue, RefusesNumber, no_number, too_large, Unwanted}
use Rattle.pri_reader.proofs.TokenSteps.{below}

pub number_found : {b : List ℕ} {x : Lexeme} {value : ℤ} {t0 t1 : List Lexeme}
    → Takes t.Number x t0 t1 → (value ≡ pos (decimal_value (text_of b x))) × (decimal_value (text_of b x) < 2 ^ 127) → TakesValue b value t0 t1
number_found {b} {x} s h = record { x = x; takes = record { takes = s; small = below (decimal_value (text_of b x)) (2 ^ 127) h.1 }; is = h.0 }

pub number_great : {b : List ℕ} {x : Lexeme} {t0 t1 : List Lexeme}
    → Takes t.Number x t0 t1 → 2 ^ 127 ≤ decimal_value (text_of b x) → RefusesNumber b t0 (refusal.Literal x.at)
number_great s h = too_large s h refl

pub ruleset number_lines = (number_found, number_great, no_number)
