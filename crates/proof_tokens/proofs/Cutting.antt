-- Bytes that are cut into tokens: what they are, and that they are cut in one way.
use Rattle.std.proofs.Common.{ℕ, ◌≡◌, List, [], ◌∷◌, ◌++◌, Some, take, drop, sym, ap, subst, ◌∙◌, append_assoc, inl, inr}
use Rattle.std.specs.List.{AllByRecursion}
use Rattle.std.proofs.lemmas.List.{take-append-drop}
use Rattle.proof_tokens.specs.declared.tokens.Token.{Token}
use Rattle.proof_tokens.specs.declared.tokens.Token.TheVariants as t
use Rattle.proof_tokens.specs.declared.scanner.Piece.{Piece}
use Rattle.proof_tokens.specs.Scanning.{first_piece_of, piece_of}
use Rattle.proof_tokens.specs.Spellings.{IsGood, IsRangedToken, IsProofToken, spelling, spelled}
use Rattle.proof_tokens.specs.Reading.{Cuts}
use Rattle.proof_tokens.proofs.Spelled.{Spelled, piece_spelled}

pub some_same : {A : Type 0} (a b : A) → Some a ≡ Some b → a ≡ b
some_same a b q = cc

token_ranged : (x : Token) → IsProofToken x → IsRangedToken x
token_ranged t.Bad h = absurd h
token_ranged (t.Number n) h = h
token_ranged (t.Name x) h = h
token_ranged (t.Use i) h = h
token_ranged (t.Step e) h = h
token_ranged _ h = tt

by_piece : (bytes : List ℕ) (x : Token) (n : ℕ) → IsGood x → Spelled (take n bytes) x → bytes ≡ spelling x ++ drop n bytes
by_piece bytes x n g (inl q) = absurd (g q)
by_piece bytes x n g (inr q) = sym (take-append-drop n bytes) ∙ ap (λ z. z ++ drop n bytes) q.0

piece_is : (bytes : List ℕ) (x : Token) (n : ℕ) → IsGood x → first_piece_of bytes ≡ Some (record { token = x; len = n }) → bytes ≡ spelling x ++ drop n bytes
piece_is [] x n g q = absurd (cc)
piece_is (b ∷ text) x n g q =
    let P : Piece → Type 0 = λ p. Spelled (take p.len (b ∷ text)) p.token in
    by_piece (b ∷ text) x n g (subst P (some_same (piece_of b text) (record { token = x; len = n }) q) (piece_spelled b text))

ranged_by : (w : List ℕ) (x : Token) → Spelled w x → IsRangedToken x
ranged_by w x (inl q) = subst IsRangedToken (sym q) tt
ranged_by w x (inr q) = token_ranged x q.1

-- the numbers of a token that bytes begin with are in their ranges
pub piece_ranged : (bytes : List ℕ) (p : Piece) → first_piece_of bytes ≡ Some p → IsRangedToken p.token
piece_ranged [] p e = absurd (cc)
piece_ranged (b ∷ text) p e =
    let P : Piece → Type 0 = λ q. Spelled (take q.len (b ∷ text)) q.token in
    ranged_by (take p.len (b ∷ text)) p.token (subst P (some_same (piece_of b text) p e) (piece_spelled b text))

pub cut_ranged : (x : Token) (bytes rest : List ℕ) → Cuts (x ∷ []) bytes rest → IsRangedToken x
cut_ranged x bytes rest c = piece_ranged bytes (record { token = x; len = c.0 }) c.1

-- the bytes of tokens are their spellings
pub spelled_front : (xs : List Token) (bytes rest : List ℕ) → AllByRecursion IsGood xs → Cuts xs bytes rest → bytes ≡ spelled xs ++ rest
spelled_front [] bytes rest a c = c
spelled_front (x ∷ xs) bytes rest a c =
    piece_is bytes x c.0 a.0 c.1
    ∙ ap (λ z. spelling x ++ z) (spelled_front xs (drop c.0 bytes) rest a.1 c.2)
    ∙ sym (append_assoc (spelling x) (spelled xs) rest)

-- tokens after tokens
pub cut_append : (xs ys : List Token) (bytes back rest : List ℕ) → Cuts xs bytes back → Cuts ys back rest → Cuts (xs ++ ys) bytes rest
cut_append [] ys bytes back rest p q = subst (λ z. Cuts ys z rest) (sym p) q
cut_append (x ∷ xs) ys bytes back rest p q = (p.0, p.1, cut_append xs ys (drop p.0 bytes) back rest p.2 q)
