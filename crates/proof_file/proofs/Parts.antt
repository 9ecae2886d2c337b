-- The lines of a file, one after another, up to the one that is `proof:`.
use Rattle.std.proofs.Common.{ℕ, ◌+◌, ◌-◌, ◌≡◌, ◌≤◌, ◌<◌, ◌==◌, Bool, true, false, cond, not, List, [], ◌∷◌, length, take, drop, Option, Some, None, option_map, unwrap_or, length-drop, refl, sym, ap, ◌∙◌, arith, nat_lt}
use Rattle.std.proofs.lemmas.Bool.Decides.{nat_tests}
use Rattle.std.specs.List.{join_with_byte, onto_first, position, position_or_len}
use Rattle.std.proofs.Math.Seq.{take-length}
use Rattle.std.proofs.lemmas.List.Splits.{join_with_byte-slice_split, slice_split-cons_no, slice_split_first}
use Rattle.proof_file.specs.Body.{behind_marker, body, is_marker, lines_of}

abbrev is_feed : ℕ → Bool
is_feed b = b == 10

unparted_by : (q : Bool) (b : ℕ) (bytes : List ℕ) → is_feed b ≡ q → length (b ∷ bytes) ≤ position_or_len is_feed (b ∷ bytes) → (length bytes ≤ position_or_len is_feed bytes → lines_of bytes ≡ bytes ∷ []) → lines_of (b ∷ bytes) ≡ (b ∷ bytes) ∷ []
unparted_by true b bytes e h go = let z : position_or_len is_feed (b ∷ bytes) ≡ 0 = ap (λ q. cond (not q) (1 + position_or_len is_feed bytes) 0) e in absurd (omega arith)
unparted_by false b bytes e h go =
    let z : position_or_len is_feed (b ∷ bytes) ≡ 1 + position_or_len is_feed bytes = ap (λ q. cond (not q) (1 + position_or_len is_feed bytes) 0) e in
    slice_split-cons_no is_feed b bytes e ∙ ap (onto_first b) (go (omega arith))

unparted : (bytes : List ℕ) → length bytes ≤ position_or_len is_feed bytes → lines_of bytes ≡ bytes ∷ []
unparted [] h = refl
unparted (b ∷ bytes) h = unparted_by (is_feed b) b bytes refl h (unparted bytes)

none_found : (q : Bool) (n : ℕ) → cond q (Some n) None ≡ None → q ≡ false
none_found true n e = absurd (cc)
none_found false n e = refl

some_found : (q : Bool) (n i : ℕ) → cond q (Some n) None ≡ Some i → (q ≡ true) × (n ≡ i)
some_found true n i e = (refl, cc)
some_found false n i e = absurd (cc)

-- where no line feed stands the bytes are one line
pub one_line : (bytes : List ℕ) → position is_feed bytes ≡ None → lines_of bytes ≡ bytes ∷ []
one_line bytes e =
    let n = position_or_len is_feed bytes in let q : nat_lt n (length bytes) ≡ false = none_found (nat_lt n (length bytes)) n e in
    unparted bytes (grind (arith, nat_tests))

rest_all : (n : ℕ) (bytes : List ℕ) → drop n bytes ≡ take (length bytes - n) (drop n bytes)
rest_all n bytes = sym (ap (λ k. take k (drop n bytes)) (sym (length-drop n bytes)) ∙ take-length (drop n bytes))

-- the first line ends at the first line feed
pub line_first : (bytes : List ℕ) (i : ℕ) → position is_feed bytes ≡ Some i → lines_of bytes ≡ take i bytes ∷ lines_of (take (length bytes - (i + 1)) (drop (i + 1) bytes))
line_first bytes i e =
    let n = position_or_len is_feed bytes in let q = some_found (nat_lt n (length bytes)) n i e in let t = q.0 in
    let low : n < length bytes = grind (arith, nat_tests) in
    slice_split_first is_feed bytes 0 low ∙ ap (λ k. take k bytes ∷ lines_of (drop (k + 1) bytes)) q.1 ∙ ap (λ z. take i bytes ∷ lines_of z) (rest_all (i + 1) bytes)

abbrev body_by : List ℕ → Option (List (List ℕ)) → List ℕ
body_by bytes found = unwrap_or (option_map (join_with_byte 10) found) bytes

-- after a line that is `proof:` stands the body
pub marked : (bytes rest line more : List ℕ) → behind_marker (lines_of bytes) ≡ behind_marker (lines_of rest) → lines_of rest ≡ line ∷ lines_of more → is_marker line ≡ true → more ≡ body bytes
marked bytes rest line more e q h =
    sym (ap (body_by bytes) (e ∙ ap behind_marker q ∙ ap (λ b. cond b (Some (lines_of more)) (behind_marker (lines_of more))) h) ∙ join_with_byte-slice_split 10 more)
