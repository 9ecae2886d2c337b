-- Where a script may be cut in two: after an outermost list, with something left after it.
use Rattle.std.specs.Prelude.{ℕ, zero, suc, ◌+◌, ◌&&◌, Bool, false, List, [], ◌∷◌, length, nat_le, nat_lt, if◌then◌else◌}
use Rattle.smt_tokens.specs.declared.terminals.Terminal.{Terminal}
use Rattle.smt_tokens.specs.declared.terminals.Terminal.TheVariants as t
use Rattle.smt_tokens.specs.declared.terminals.Lexeme.{Lexeme}
use Rattle.smt_tokens.specs.Lexemes.{lexemes_of}

-- how many lists are open after a token, of this many before it
abbrev pub depth_after : Terminal → ℕ → ℕ
depth_after t.Open n = suc n
depth_after t.Close zero = zero
depth_after t.Close (suc n) = n
depth_after _ n = n

-- the token ends an outermost list
abbrev pub ends_outermost : Terminal → ℕ → Bool
ends_outermost t.Close n = nat_le n 1
ends_outermost _ n = false

-- the offset after a token that ends an outermost list, if it is one of those asked for; else the last one before
abbrev pub cut_at : (ℕ → Bool) → Lexeme → ℕ → ℕ → ℕ
cut_at fits x n found = if ends_outermost x.terminal n then (if fits (x.at + 1) then x.at + 1 else found) else found

-- the last cut of those asked for among these tokens, where this many lists are open; else the last one before
abbrev pub cut_from : (ℕ → Bool) → ℕ → ℕ → List Lexeme → ℕ
cut_from fits n found [] = found
cut_from fits n found (x ∷ tokens) = cut_from fits (depth_after x.terminal n) (cut_at fits x n found) tokens

-- the offset is at or before a place, and within the text
abbrev pub is_within : List ℕ → ℕ → ℕ → Bool
is_within bytes place at = nat_le at place && nat_lt at (length bytes)

-- the last cut of a text that is at or before a place; 0 if there is none
abbrev pub last_cut : List ℕ → ℕ → ℕ
last_cut bytes place = cut_from (is_within bytes place) 0 0 (lexemes_of bytes)
