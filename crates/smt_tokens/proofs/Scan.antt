-- How the scanner goes from one piece to the next.
use Rattle.std.proofs.Common.{ℕ, zero, suc, ◌≡◌, ◌≤◌, ◌+◌, ◌-◌, List, [], ◌∷◌, ◌++◌, drop, refl, sym, ap, subst, ◌∙◌, arith, Option, Some, None, add-zero, append_assoc, append-nil}
use Rattle.std.proofs.lemmas.List.Sums.{prefix_len-le-length}
use Rattle.smt_tokens.specs.declared.terminals.Lexeme.{Lexeme}
use Rattle.smt_tokens.specs.declared.terminals.Terminal.{Terminal}
use Rattle.smt_tokens.specs.declared.scanner.Piece.{Piece}
use Rattle.smt_tokens.specs.Lexemes.{first_piece_of, lexemes_from, piece_of, put}

pub ruleset runs = prefix_len-le-length

-- what is left after the bytes that a piece takes
pub lexemes_skip : (at skip : ℕ) (text : List ℕ) → lexemes_from at skip text ≡ lexemes_from (at + skip) 0 (drop skip text)
unfolding lexemes_from
lexemes_skip at zero text = ap (λ k. lexemes_from k 0 text) (sym (add-zero at))
lexemes_skip at (suc skip) [] = refl
lexemes_skip at (suc skip) (b ∷ text) =
    let e : suc at + skip ≡ at + suc skip = omega arith in
    lexemes_skip (suc at) skip text ∙ ap (λ k. lexemes_from k 0 (drop skip text)) e

drop_behind : (n b : ℕ) (text : List ℕ) → 1 ≤ n → drop (n - 1) text ≡ drop n (b ∷ text)
drop_behind zero b text h = absurd (omega arith)
drop_behind (suc n) b text h = let e : suc n - 1 ≡ n = omega arith in rw e refl

-- the first piece, and what is after it
pub lexemes_piece : (at : ℕ) (text : List ℕ) (piece : Piece) → first_piece_of text ≡ Some piece → 1 ≤ piece.len
    → lexemes_from at 0 text ≡ put at piece.len piece.terminal (lexemes_from (at + piece.len) 0 (drop piece.len text))
unfolding lexemes_from
lexemes_piece at [] piece e h = cc
lexemes_piece at (b ∷ text) piece e h =
    let q : piece ≡ piece_of b text = cc in
    let place : suc at + (piece.len - 1) ≡ at + piece.len = omega arith in
    let here = ap (put at piece.len piece.terminal)
    (lexemes_skip (suc at) (piece.len - 1) text
    ∙ ap (λ k. lexemes_from k 0 (drop (piece.len - 1) text)) place
    ∙ ap (lexemes_from (at + piece.len) 0) (drop_behind piece.len b text h)) in
    let P : Piece → Type 0 = λ p. put at p.len p.terminal (lexemes_from (suc at) (p.len - 1) text)
    ≡ put at piece.len piece.terminal (lexemes_from (at + piece.len) 0 (drop piece.len (b ∷ text))) in
    subst P q here

pub lexemes_end : (at : ℕ) (text : List ℕ) → first_piece_of text ≡ None → lexemes_from at 0 text ≡ []
unfolding lexemes_from
lexemes_end at [] e = refl
lexemes_end at (b ∷ text) e = cc

put_before : (at n : ℕ) (terminal : Option Terminal) (more : List Lexeme) → put at n terminal more ≡ put at n terminal [] ++ more
put_before at n None more = refl
put_before at n (Some terminal) more = refl

-- the loop, one piece further
pub lexemes_step : (found longer whole : List Lexeme) (at : ℕ) (text rest : List ℕ) (piece : Piece)
    → first_piece_of text ≡ Some piece → 1 ≤ piece.len → rest ≡ drop piece.len text
    → longer ≡ found ++ put at piece.len piece.terminal [] → found ++ lexemes_from at 0 text ≡ whole
    → longer ++ lexemes_from (at + piece.len) 0 rest ≡ whole
lexemes_step found longer whole at text rest piece e h r l w =
    let more = lexemes_from (at + piece.len) 0 (drop piece.len text) in
    ap (λ z. longer ++ lexemes_from (at + piece.len) 0 z) r
    ∙ ap (λ z. z ++ more) l
    ∙ append_assoc found (put at piece.len piece.terminal []) more
    ∙ ap (λ z. found ++ z) (sym (put_before at piece.len piece.terminal more) ∙ sym (lexemes_piece at text piece e h))
    ∙ w

-- the loop at its end
pub lexemes_done : (found whole : List Lexeme) (at : ℕ) (text : List ℕ) → first_piece_of text ≡ None
    → found ++ lexemes_from at 0 text ≡ whole → found ≡ whole
lexemes_done found whole at text e w = sym (append-nil found) ∙ ap (λ z. found ++ z) (sym (lexemes_end at text e)) ∙ w
