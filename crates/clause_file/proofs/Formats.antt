-- Which format the proof in a file has.
use Rattle.std.proofs.Common.{ℕ, ℤ, ◌≡◌, ◌+◌, true, false, List, [], ◌∷◌, ◌++◌, take, drop, length, refl, append_assoc, ap, ◌∙◌, ◌⊎◌, inl, inr, arith}
use Rattle.std.specs.Prelude.{codes}
use Rattle.std.specs.Str.{bytes_eq}
use Rattle.std.specs.Fmt.{decimal}
use Rattle.std.proofs.lemmas.Fmt.{decimal_digit}
use Rattle.formula.specs.Form.{Form}
use Rattle.proof_file.specs.Body.{body}
use Rattle.proof_grammar.specs.declared.lines.TextLine.{TextLine}
use Rattle.proof_grammar.specs.declared.lines.TextLine.TheVariants as w
use Rattle.proof_grammar.specs.Lines.{tokens_of}
use Rattle.proof_grammar.specs.Owed.{OwesNothing, Shallow, start}
use Rattle.proof_grammar.specs.Shaped.{IsTextOfProof}
use Rattle.proof_tokens.specs.declared.tokens.Token.{Token}
use Rattle.proof_tokens.specs.declared.tokens.Token.TheVariants as t
use Rattle.proof_tokens.specs.Lines.{head_text, IsFormat}
use Rattle.proof_tokens.specs.Reading.{Cuts}
use Rattle.proof_tokens.proofs.Cutting.{spelled_front}
use Rattle.proof_tree.specs.declared.node.Conclusion.{Conclusion}
use Rattle.proof_tree.specs.Proof.{Proof}
use Rattle.clause_file.specs.Answers.{first_words, is_clause_text}
use Rattle.clause_file.specs.Verdicts.{HoldsClauseProof}

-- a clause proof begins with the words of the third format
pub clause_format : (f : Form) (n : ℕ) (file : List ℕ) (vs : List ℤ) → HoldsClauseProof f n file vs → is_clause_text file ≡ true
clause_format f n file vs p = ap (λ z. bytes_eq (take (length first_words) z) first_words) p.is

-- ---- the first line of the other formats

first_three : (m : ℕ) (more : List Token) (bytes : List ℕ) → Cuts (head_text m ++ more) bytes [] → (rest : List ℕ) × (bytes ≡ codes "princess-proof " ++ (decimal m ++ rest))
first_three m more bytes c =
    let rest = drop c.2.2.0 (drop c.2.0 (drop c.0 bytes)) in (
      rest,
      spelled_front (t.PrincessProof ∷ t.Blank ∷ t.Number m ∷ []) bytes rest (λ e. absurd (cc), (λ e. absurd (cc), (λ e. absurd (cc), tt))) (c.0, c.1, (c.2.0, c.2.1, (c.2.2.0, c.2.2.1, refl)))
          ∙ ap (λ z. codes "princess-proof " ++ z) (append_assoc (decimal m) [] rest),
    )

one_or_two : (m : ℕ) → IsFormat m → (m ≡ 1) ⊎ (m ≡ 2)
one_or_two m h = grind arith

digit_words : (m : ℕ) (bytes rest : List ℕ) → decimal m ≡ (48 + m) ∷ [] → bytes ≡ codes "princess-proof " ++ (decimal m ++ rest)
    → bytes_eq (take (length first_words) bytes) first_words ≡ bytes_eq (take (length first_words) (codes "princess-proof " ++ ((48 + m) ∷ rest))) first_words
digit_words m bytes rest d e = ap (λ z. bytes_eq (take (length first_words) z) first_words) (e ∙ ap (λ k. codes "princess-proof " ++ (k ++ rest)) d)

other_words : (m : ℕ) (bytes rest : List ℕ) → (m ≡ 1) ⊎ (m ≡ 2) → bytes ≡ codes "princess-proof " ++ (decimal m ++ rest) → bytes_eq (take (length first_words) bytes) first_words ≡ false
other_words m bytes rest (inl one) e = digit_words 1 bytes rest (decimal_digit 1 (omega arith)) (e ∙ ap (λ k. codes "princess-proof " ++ (decimal k ++ rest)) one)
other_words m bytes rest (inr two) e = digit_words 2 bytes rest (decimal_digit 2 (omega arith)) (e ∙ ap (λ k. codes "princess-proof " ++ (decimal k ++ rest)) two)

lines_format : (ls : List TextLine) (bytes : List ℕ) → OwesNothing Shallow start ls → Cuts (tokens_of ls) bytes [] → bytes_eq (take (length first_words) bytes) first_words ≡ false
lines_format [] bytes h c = absurd (cc)
lines_format (w.Head m ∷ ls) bytes h c = let q = first_three m (tokens_of ls) bytes c in other_words m bytes q.0 (one_or_two m h.0) q.1
lines_format (w.Parts m ∷ ls) bytes h c = absurd h.0
lines_format (w.Part log ∷ ls) bytes h c = absurd h.0
lines_format (w.Charges m ∷ ls) bytes h c = absurd h.0
lines_format (w.Row p k ∷ ls) bytes h c = absurd h.0
lines_format (w.Log log ∷ ls) bytes h c = absurd h.0
lines_format (w.LogOf i ∷ ls) bytes h c = absurd h.0
lines_format (w.Gives d ∷ ls) bytes h c = absurd h.0
lines_format (w.End c0 ∷ ls) bytes h c = absurd h.0
lines_format (w.EndOf i ∷ ls) bytes h c = absurd h.0

-- a proof in the first or second format does not begin with them
pub other_format : (file : List ℕ) (n : ℕ) (x : Proof) (c : Conclusion) → IsTextOfProof (body file) n x c → is_clause_text file ≡ false
other_format file n x c p = lines_format p.lines (body file) p.whole p.cut
