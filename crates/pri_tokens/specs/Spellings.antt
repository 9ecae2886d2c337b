-- How each terminal with a fixed spelling is spelled.
use Rattle.std.specs.Prelude.{ℕ, List, codes, if◌then◌else◌, ◌==◌, ◌&&◌}
use Rattle.std.specs.Str.{bytes_eq}
use Rattle.pri_tokens.specs.declared.terminals.Terminal.{Terminal}
use Rattle.pri_tokens.specs.declared.terminals.Terminal.TheVariants as t
use Rattle.pri_tokens.specs.declared.spellings.Sign.{Sign}

-- the words; every other text of this form is an identifier
abbrev pub word_of : List ℕ → Terminal
word_of text =
    if bytes_eq text (codes "int") then t.Int else
    (if bytes_eq text (codes "nat") then t.Nat else
    (if bytes_eq text (codes "true") then t.True else
    (if bytes_eq text (codes "false") then t.False else
    t.Identifier)))

-- the commands; a `\` with other letters is bad
abbrev pub command_of : List ℕ → Terminal
command_of text =
    if bytes_eq text (codes "\\universalConstants") then t.UniversalConstants else
    (if bytes_eq text (codes "\\existentialConstants") then t.ExistentialConstants else
    (if bytes_eq text (codes "\\functions") then t.Functions else
    (if bytes_eq text (codes "\\predicates") then t.Predicates else
    (if bytes_eq text (codes "\\problem") then t.Problem else
    (if bytes_eq text (codes "\\interpolant") then t.Interpolant else
    (if bytes_eq text (codes "\\forall") then t.Forall else
    (if bytes_eq text (codes "\\exists") then t.Exists else
    (if bytes_eq text (codes "\\part") then t.Part else
    (if bytes_eq text (codes "\\if") then t.If else
    (if bytes_eq text (codes "\\then") then t.Then else
    (if bytes_eq text (codes "\\else") then t.Else else
    (if bytes_eq text (codes "\\abs") then t.Abs else
    (if bytes_eq text (codes "\\min") then t.Min else
    (if bytes_eq text (codes "\\max") then t.Max else
    t.Bad))))))))))))))

-- the sign of one byte, or Bad
abbrev pub single_sign_of : ℕ → Terminal
single_sign_of b =
    if b == 123 then t.OpenBrace else
    (if b == 125 then t.CloseBrace else
    (if b == 40 then t.OpenParenthesis else
    (if b == 41 then t.CloseParenthesis else
    (if b == 91 then t.OpenBracket else
    (if b == 93 then t.CloseBracket else
    (if b == 59 then t.Semicolon else
    (if b == 44 then t.Comma else
    (if b == 33 then t.Not else
    (if b == 38 then t.And else
    (if b == 124 then t.Or else
    (if b == 61 then t.Equal else
    (if b == 60 then t.Less else
    (if b == 62 then t.Greater else
    (if b == 43 then t.Plus else
    (if b == 45 then t.Minus else
    (if b == 42 then t.Star else
    t.Bad))))))))))))))))

-- the longest sign that begins with the bytes b, c and d: `<->`, then those of two bytes, then those of one
abbrev pub sign_of : ℕ → ℕ → ℕ → Sign
sign_of b c d =
    if b == 60 && c == 45 && d == 62 then record { len = 3; terminal = t.Iff } else
    (if b == 45 && c == 62 then record { len = 2; terminal = t.Implies } else
    (if b == 33 && c == 61 then record { len = 2; terminal = t.Unequal } else
    (if b == 60 && c == 61 then record { len = 2; terminal = t.AtMost } else
    (if b == 62 && c == 61 then record { len = 2; terminal = t.AtLeast } else
    record { len = 1; terminal = single_sign_of b }))))
