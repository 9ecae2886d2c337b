-- What stands after a line is shorter.
use Rattle.std.proofs.Common.{ℕ, ◌≡◌, ◌≤◌, ◌<◌, ◌+◌, ◌==◌, ◌&&◌, true, List, [], ◌∷◌, length, take, drop, Some, refl, ap, subst, arith, length-drop}
use Rattle.std.specs.Prelude.{cond, slice_index}
use Rattle.std.specs.List.{prefix_len}
use Rattle.base_numerals.proofs.Tests.{if_begins}
use Rattle.sequent.specs.declared.member.Pick.TheVariants as pick
use Rattle.proof_tree.specs.declared.node.Conclusion.TheVariants.{Solution, Nothing}
use Rattle.proof_tokens.specs.declared.tokens.Token.{Token}
use Rattle.proof_tokens.specs.declared.tokens.Token.TheVariants as t
use Rattle.proof_tokens.specs.declared.scanner.Piece.{Piece}
use Rattle.proof_tokens.specs.Scanning.{is_word_byte, joins, word_len, piece_of, first_piece_of}
use Rattle.proof_tokens.specs.Reading.{Cuts}
use Rattle.proof_tokens.proofs.Cutting.{some_same}
use Rattle.proof_grammar.specs.declared.lines.TextLine.{TextLine}
use Rattle.proof_grammar.specs.declared.lines.TextLine.TheVariants as w
use Rattle.proof_grammar.specs.Lines.{line_text}

abbrev len_of : Piece → ℕ
len_of p = p.len

run_some : (b : ℕ) (text : List ℕ) → is_word_byte b ≡ true → 1 ≤ prefix_len is_word_byte (b ∷ text)
run_some b text h = let e : prefix_len is_word_byte (b ∷ text) ≡ 1 + prefix_len is_word_byte text = ap (λ q. cond q (1 + prefix_len is_word_byte text) 0) h in omega arith

word_some : (b : ℕ) (text : List ℕ) → is_word_byte b ≡ true → 1 ≤ word_len (b ∷ text)
word_some b text h =
    let n = prefix_len is_word_byte (b ∷ text) in let some : 1 ≤ n = run_some b text h in
    if_begins (λ k. 1 ≤ k) (joins (take n (b ∷ text)) (drop n (b ∷ text))) (n + 1 + prefix_len is_word_byte (drop 1 (drop n (b ∷ text)))) n (λ e. omega arith) (λ e. some)

piece_some : (b : ℕ) (text : List ℕ) → 1 ≤ (piece_of b text).len
piece_some b text =
    let P : Piece → Type 0 = λ p. 1 ≤ p.len in
    if_begins P (is_word_byte b) _ _ (λ h. word_some b text h)
    (λ _. if_begins P (b == 62 && slice_index text 0 == 61) _ _ (λ h. let q : 1 ≤ 2 = omega arith in q) (λ h. let q : 1 ≤ 1 = omega arith in q))

first_some : (x : Token) (n : ℕ) (bytes : List ℕ) → first_piece_of bytes ≡ Some (record { token = x; len = n }) → (1 ≤ n) × (1 ≤ length bytes)
first_some x n [] e = absurd (cc)
first_some x n (b ∷ text) e = (subst (λ k. 1 ≤ k) (ap len_of (some_same (piece_of b text) (record { token = x; len = n }) e)) (piece_some b text), omega arith)

cut_within : (xs : List Token) (bytes rest : List ℕ) → Cuts xs bytes rest → length rest ≤ length bytes
cut_within [] bytes rest c = let e = ap length c in omega arith
cut_within (x ∷ xs) bytes rest c = let h = cut_within xs (drop c.0 bytes) rest c.2 in let d = length-drop c.0 bytes in omega arith

pub cut_shorter : (x : Token) (xs : List Token) (bytes rest : List ℕ) → Cuts (x ∷ xs) bytes rest → length rest < length bytes
cut_shorter x xs bytes rest c = let h = cut_within xs (drop c.0 bytes) rest c.2 in let d = length-drop c.0 bytes in let s = first_some x c.0 bytes c.1 in let low = s.0 in let some = s.1 in omega arith

shorter_by : (ts : List Token) (x : Token) (xs : List Token) (bytes rest : List ℕ) → ts ≡ x ∷ xs → Cuts ts bytes rest → length rest < length bytes
shorter_by ts x xs bytes rest e c = cut_shorter x xs bytes rest (subst (λ z. Cuts z bytes rest) e c)

-- the first token of a list of tokens, and those after it
abbrev head_of : List Token → Token
head_of [] = t.Bad
head_of (x ∷ xs) = x

abbrev tail_of : List Token → List Token
tail_of [] = []
tail_of (x ∷ xs) = xs

pub line_shorter : (l : TextLine) (bytes rest : List ℕ) → Cuts (line_text l) bytes rest → length rest < length bytes
line_shorter (w.Head n) bytes rest c = shorter_by (line_text (w.Head n)) (head_of (line_text (w.Head n))) (tail_of (line_text (w.Head n))) bytes rest refl c
line_shorter (w.Parts n) bytes rest c = shorter_by (line_text (w.Parts n)) (head_of (line_text (w.Parts n))) (tail_of (line_text (w.Parts n))) bytes rest refl c
line_shorter (w.Part log) bytes rest c = shorter_by (line_text (w.Part log)) (head_of (line_text (w.Part log))) (tail_of (line_text (w.Part log))) bytes rest refl c
line_shorter (w.Charges n) bytes rest c = shorter_by (line_text (w.Charges n)) (head_of (line_text (w.Charges n))) (tail_of (line_text (w.Charges n))) bytes rest refl c
line_shorter (w.Row (pick.Trivial i) k) bytes rest c = shorter_by (line_text (w.Row (pick.Trivial i) k)) (head_of (line_text (w.Row (pick.Trivial i) k))) (tail_of (line_text (w.Row (pick.Trivial i) k))) bytes rest refl c
line_shorter (w.Row (pick.Alpha i) k) bytes rest c = shorter_by (line_text (w.Row (pick.Alpha i) k)) (head_of (line_text (w.Row (pick.Alpha i) k))) (tail_of (line_text (w.Row (pick.Alpha i) k))) bytes rest refl c
line_shorter (w.Row (pick.Delta i) k) bytes rest c = shorter_by (line_text (w.Row (pick.Delta i) k)) (head_of (line_text (w.Row (pick.Delta i) k))) (tail_of (line_text (w.Row (pick.Delta i) k))) bytes rest refl c
line_shorter (w.Row (pick.Beta i) k) bytes rest c = shorter_by (line_text (w.Row (pick.Beta i) k)) (head_of (line_text (w.Row (pick.Beta i) k))) (tail_of (line_text (w.Row (pick.Beta i) k))) bytes rest refl c
line_shorter (w.Row (pick.Gamma i) k) bytes rest c = shorter_by (line_text (w.Row (pick.Gamma i) k)) (head_of (line_text (w.Row (pick.Gamma i) k))) (tail_of (line_text (w.Row (pick.Gamma i) k))) bytes rest refl c
line_shorter (w.Row pick.Close k) bytes rest c = shorter_by (line_text (w.Row pick.Close k)) (head_of (line_text (w.Row pick.Close k))) (tail_of (line_text (w.Row pick.Close k))) bytes rest refl c
line_shorter (w.Log es) bytes rest c = shorter_by (line_text (w.Log es)) (head_of (line_text (w.Log es))) (tail_of (line_text (w.Log es))) bytes rest refl c
line_shorter (w.LogOf i) bytes rest c = shorter_by (line_text (w.LogOf i)) (head_of (line_text (w.LogOf i))) (tail_of (line_text (w.LogOf i))) bytes rest refl c
line_shorter (w.Gives d) bytes rest c = shorter_by (line_text (w.Gives d)) (head_of (line_text (w.Gives d))) (tail_of (line_text (w.Gives d))) bytes rest refl c
line_shorter (w.End (Solution vs)) bytes rest c = shorter_by (line_text (w.End (Solution vs))) (head_of (line_text (w.End (Solution vs)))) (tail_of (line_text (w.End (Solution vs)))) bytes rest refl c
line_shorter (w.End (Nothing log)) bytes rest c = shorter_by (line_text (w.End (Nothing log))) (head_of (line_text (w.End (Nothing log)))) (tail_of (line_text (w.End (Nothing log)))) bytes rest refl c
line_shorter (w.EndOf i) bytes rest c = shorter_by (line_text (w.EndOf i)) (head_of (line_text (w.EndOf i))) (tail_of (line_text (w.EndOf i))) bytes rest refl c
