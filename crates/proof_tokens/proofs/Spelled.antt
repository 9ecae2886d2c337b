-- What is read as a token is spelled as it.
use Rattle.std.proofs.Common.{ℕ, ◌≡◌, ◌<◌, ◌^◌, ◌==◌, ◌&&◌, not, Bool, true, false, List, [], ◌∷◌, ◌++◌, Option, Some, None, if◌then◌else◌, take, drop, refl, sym, ap, subst, ◌∙◌, inl, inr, ◌⊎◌, arith}
use Rattle.std.proofs.lemmas.List.{take-append-drop}
use Rattle.std.specs.Prelude.{slice_index, codes}
use Rattle.std.specs.Option.{option_map}
use Rattle.std.specs.List.{prefix_len}
use Rattle.std.specs.Str.{bytes_eq}
use Rattle.std.specs.Fmt.{decimal}
use Rattle.std.specs.Char.{is_ascii_digit}
use Rattle.std.proofs.lemmas.Bool.{eqb-true}
use Rattle.std.proofs.lemmas.Slice.Eq.{bytes_eq-Decides}
use Rattle.base_numerals.proofs.Tests.{if_begins, left_true}
use Rattle.base_budget.specs.declared.log.Entry.{Entry}
use Rattle.base_budget.specs.declared.log.Entry.TheVariants as e
use Rattle.proof_tokens.specs.declared.tokens.Token.{Token}
use Rattle.proof_tokens.specs.declared.tokens.Token.TheVariants as t
use Rattle.proof_tokens.specs.declared.scanner.Piece.{Piece}
use Rattle.proof_tokens.specs.Words.{is_empty, numeral_of, index_of, merge_with, merge_behind, merge_of, entry_of, token_or_bad, figure_of, part_word_of, row_word_of, word_of, sign_of}
use Rattle.proof_tokens.specs.Scanning.{is_word_byte, word_len, piece_of}
use Rattle.proof_tokens.specs.Spellings.{IsEntry, IsProofToken, entry_spelling, spelling}
use Rattle.proof_tokens.proofs.Numerals.{numeral_spelled}

abbrev pub Spelled : List ℕ → Token → Type 0
Spelled w x = (x ≡ t.Bad) ⊎ ((w ≡ spelling x) × IsProofToken x)

abbrev SpelledBy : List ℕ → Option Entry → Type 0
SpelledBy w None = Unit {0}
SpelledBy w (Some s) = (w ≡ entry_spelling s) × IsEntry s

positioned : (b c : ℕ) (bs : List ℕ) (make : ℕ → Entry) → ((i : ℕ) → entry_spelling (make i) ≡ c ∷ decimal i) → ((i : ℕ) → i < 2 ^ 32 → IsEntry (make i)) → (b == c) ≡ true
    → (o : Option ℕ) → index_of bs ≡ o → SpelledBy (b ∷ bs) (option_map make o)
positioned b c bs make law fits h None q = tt
positioned b c bs make law fits h (Some i) q =
    let n = numeral_spelled (2 ^ 32) bs i (omega arith) q in
    (ap (λ z. z ∷ bs) (eqb-true b c h) ∙ ap (λ z. c ∷ z) n.0 ∙ sym (law i), fits i n.1)

merged : (first second : List ℕ) (o p : Option ℕ) → index_of first ≡ o → index_of second ≡ p → SpelledBy (109 ∷ (first ++ 44 ∷ second)) (merge_with o p)
merged first second None p q r = tt
merged first second (Some i) None q r = tt
merged first second (Some i) (Some j) q r =
    let n = numeral_spelled (2 ^ 32) first i (omega arith) q in let k = numeral_spelled (2 ^ 32) second j (omega arith) r in
    (ap (λ z. 109 ∷ (z ++ 44 ∷ second)) n.0 ∙ ap (λ z. 109 ∷ (decimal i ++ 44 ∷ z)) k.0, (n.1, k.1))

merge_spelled : (first rest : List ℕ) → SpelledBy (109 ∷ (first ++ rest)) (merge_behind first rest)
merge_spelled first [] = tt
merge_spelled first (b ∷ second) = if_begins (SpelledBy (109 ∷ (first ++ b ∷ second))) (b == 44) (merge_with (index_of first) (index_of second)) None
    (λ h. subst (λ z. SpelledBy (109 ∷ (first ++ z ∷ second)) (merge_with (index_of first) (index_of second))) (sym (eqb-true b 44 h)) (merged first second (index_of first) (index_of second) refl refl))
    (λ h. tt)

nothing_behind : (bs : List ℕ) → not (is_empty bs) ≡ false → bs ≡ []
nothing_behind [] h = refl
nothing_behind (b ∷ bs) h = absurd (cc)

alone : (b c : ℕ) (bs : List ℕ) → (b == c) ≡ true → bs ≡ [] → b ∷ bs ≡ c ∷ []
alone b c bs h q = ap (λ z. z ∷ bs) (eqb-true b c h) ∙ ap (λ z. c ∷ z) q

entry_spelled : (b : ℕ) (bs : List ℕ) → SpelledBy (b ∷ bs) (entry_of b bs)
entry_spelled b bs =
    let P : Option Entry → Type 0 = SpelledBy (b ∷ bs) in
    if_begins P (b == 101) _ _ (λ h. positioned b 101 bs e.Equation (λ i. refl) (λ i f. f) h (index_of bs) refl)
    (λ _. if_begins P (b == 110) _ _ (λ h. positioned b 110 bs e.Apart (λ i. refl) (λ i f. f) h (index_of bs) refl)
    (λ _. if_begins P (b == 115) _ _ (λ h. positioned b 115 bs e.Shift (λ i. refl) (λ i f. f) h (index_of bs) refl)
    (λ _. if_begins P (b == 109) _ _
    (λ h. subst (λ z. SpelledBy (z ∷ bs) (merge_of bs)) (sym (eqb-true b 109 h))
    (subst (λ z. SpelledBy (109 ∷ z) (merge_of bs)) (take-append-drop (prefix_len is_ascii_digit bs) bs) (merge_spelled (take (prefix_len is_ascii_digit bs) bs) (drop (prefix_len is_ascii_digit bs) bs))))
    (λ _. if_begins P (not (is_empty bs)) _ _ (λ h. tt)
    (λ n. if_begins P (b == 111) _ _ (λ h. (alone b 111 bs h (nothing_behind bs n), tt))
    (λ _. if_begins P (b == 120) _ _ (λ h. (alone b 120 bs h (nothing_behind bs n), tt))
    (λ _. if_begins P (b == 100) _ _ (λ h. (alone b 100 bs h (nothing_behind bs n), tt))
    (λ _. tt))))))))

step_spelled : (w : List ℕ) (o : Option Entry) → SpelledBy w o → Spelled w (token_or_bad t.Step o)
step_spelled w None h = inl refl
step_spelled w (Some s) h = inr h

number_spelled : (w : List ℕ) (o : Option ℕ) → numeral_of (2 ^ 127) w ≡ o → Spelled w (token_or_bad t.Number o)
number_spelled w None q = inl refl
number_spelled w (Some n) q = inr (numeral_spelled (2 ^ 127) w n (omega arith) q)

-- a letter and an index
lettered_spelled : (b c : ℕ) (bs : List ℕ) (make : ℕ → Token) → ((i : ℕ) → spelling (make i) ≡ c ∷ decimal i) → ((i : ℕ) → i < 2 ^ 32 → IsProofToken (make i)) → (b == c) ≡ true
    → (o : Option ℕ) → index_of bs ≡ o → Spelled (b ∷ bs) (token_or_bad make o)
lettered_spelled b c bs make law fits h None q = inl refl
lettered_spelled b c bs make law fits h (Some i) q =
    let n = numeral_spelled (2 ^ 32) bs i (omega arith) q in
    inr (ap (λ z. z ∷ bs) (eqb-true b c h) ∙ ap (λ z. c ∷ z) n.0 ∙ sym (law i), fits i n.1)

figure_spelled : (w : List ℕ) → Spelled w (figure_of w)
figure_spelled [] = inl refl
figure_spelled (b ∷ bs) = if_begins (Spelled (b ∷ bs)) (is_ascii_digit b) _ _ (λ h. number_spelled (b ∷ bs) (numeral_of (2 ^ 127) (b ∷ bs)) refl)
    (λ _. if_begins (Spelled (b ∷ bs)) (b == 99) _ _ (λ h. lettered_spelled b 99 bs t.Name (λ i. refl) (λ i f. f) h (index_of bs) refl)
    (λ _. if_begins (Spelled (b ∷ bs)) (b == 117) _ _ (λ h. lettered_spelled b 117 bs t.Use (λ i. refl) (λ i f. f) h (index_of bs) refl)
    (λ _. step_spelled (b ∷ bs) (entry_of b bs) (entry_spelled b bs))))

keyword : (w s : List ℕ) (x y : Token) → s ≡ spelling x → IsProofToken x → Spelled w y → Spelled w (if bytes_eq w s then x else y)
keyword w s x y q fits o = if_begins (Spelled w) (bytes_eq w s) x y (λ h. inr ((bytes_eq-Decides w s).0 h ∙ q, fits)) (λ _. o)

part_word_spelled : (w : List ℕ) → Spelled w (part_word_of w)
part_word_spelled w = keyword w (codes "parts") t.Parts _ refl tt (keyword w (codes "part") t.Part _ refl tt (figure_spelled w))

row_word_spelled : (w : List ℕ) → Spelled w (row_word_of w)
row_word_spelled w =
    keyword w (codes "trivial") t.Trivial _ refl tt (keyword w (codes "alpha") t.Alpha _ refl tt (keyword w (codes "beta") t.Beta _ refl tt
    (keyword w (codes "delta") t.Delta _ refl tt (keyword w (codes "gamma") t.Gamma _ refl tt (keyword w (codes "close") t.Close _ refl tt (part_word_spelled w))))))

word_spelled : (w : List ℕ) → Spelled w (word_of w)
word_spelled w =
    keyword w (codes "princess-proof") t.PrincessProof _ refl tt (keyword w (codes "charges") t.Charges _ refl tt (keyword w (codes "log") t.Log _ refl tt
    (keyword w (codes "gives") t.Gives _ refl tt (keyword w (codes "solution") t.Solution _ refl tt (keyword w (codes "none") t.Nothing _ refl tt
    (keyword w (codes "true") t.True _ refl tt (keyword w (codes "false") t.False _ refl tt (keyword w (codes "divides") t.Divides _ refl tt
    (keyword w (codes "notdivides") t.NotDivides _ refl tt (row_word_spelled w))))))))))

one_sign : (b c : ℕ) (x y : Token) → c ∷ [] ≡ spelling x → IsProofToken x → Spelled (b ∷ []) y → Spelled (b ∷ []) (if b == c then x else y)
one_sign b c x y q fits o = if_begins (Spelled (b ∷ [])) (b == c) x y (λ h. inr (ap (λ z. z ∷ []) (eqb-true b c h) ∙ q, fits)) (λ _. o)

sign_spelled : (b : ℕ) → Spelled (b ∷ []) (sign_of b)
sign_spelled b = one_sign b 10 t.LineFeed _ refl tt (one_sign b 32 t.Blank _ refl tt (one_sign b 38 t.And _ refl tt (one_sign b 42 t.Times _ refl tt
    (one_sign b 43 t.Plus _ refl tt (one_sign b 45 t.Minus _ refl tt (one_sign b 61 t.Equal _ refl tt (one_sign b 124 t.Or _ refl tt (inl refl))))))))

at_least : (b : ℕ) (text : List ℕ) → (b == 62) ≡ true → (slice_index text 0 == 61) ≡ true → take 2 (b ∷ text) ≡ spelling t.AtLeast
at_least b [] h k = absurd (cc)
at_least b (c ∷ text) h k = ap (λ z. z ∷ c ∷ []) (eqb-true b 62 h) ∙ ap (λ z. 62 ∷ z ∷ []) (eqb-true c 61 k)

right_true : (a b : Bool) → (a && b) ≡ true → b ≡ true
right_true true b q = q
right_true false b q = absurd (cc)

-- the bytes of the token that a text begins with
pub piece_spelled : (b : ℕ) (text : List ℕ) → Spelled (take (piece_of b text).len (b ∷ text)) (piece_of b text).token
piece_spelled b text =
    let P : Piece → Type 0 = λ p. Spelled (take p.len (b ∷ text)) p.token in
    if_begins P (is_word_byte b) _ _ (λ _. word_spelled (take (word_len (b ∷ text)) (b ∷ text)))
    (λ _. if_begins P (b == 62 && slice_index text 0 == 61) _ _
    (λ h. inr (at_least b text (left_true (b == 62) (slice_index text 0 == 61) h) (right_true (b == 62) (slice_index text 0 == 61) h), tt))
    (λ _. sign_spelled b))
