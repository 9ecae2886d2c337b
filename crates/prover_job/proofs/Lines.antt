-- Lines that are whole and are not `proof:`, before the line that is: after that stands the part of a file that holds a proof.
use Rattle.std.proofs.Common.{ℕ, ◌≡◌, ◌∙◌, ◌==◌, Bool, true, false, cond, List, [], ◌∷◌, ◌++◌, Option, Some, option_map, unwrap_or, refl, ap, append_assoc, codes}
use Rattle.std.specs.List.{AllByRecursion, join_with_byte, list_all, onto_first}
use Rattle.std.proofs.lemmas.List.Splits.{join_with_byte-slice_split}
use Rattle.base_numerals.proofs.Tests.{left_true, right_true}
use Rattle.base_answers.specs.Answer.{line}
use Rattle.proof_file.specs.Body.{behind_marker, body, is_marker, lines_of}

-- no byte is a line feed
abbrev pub IsInner : ℕ → Type 0
IsInner b = (b == 10) ≡ false

abbrev pub AreInner : List ℕ → Type 0
AreInner bytes = AllByRecursion IsInner bytes

pub inner_append : (xs ys : List ℕ) → AreInner xs → AreInner ys → AreInner (xs ++ ys)
inner_append [] ys h k = k
inner_append (x ∷ xs) ys h k = (h.0, inner_append xs ys h.1 k)

-- a word is seen to have none
pub inner_word : (bytes : List ℕ) → list_all (λ b. cond (b == 10) false true) bytes ≡ true → AreInner bytes
inner_word [] h = tt
inner_word (b ∷ bs) h = (by (b == 10) (left_true (cond (b == 10) false true) _ h), inner_word bs (right_true (cond (b == 10) false true) _ h))
  where
    by : (v : Bool) → cond v false true ≡ true → v ≡ false
    by true z = absurd cc
    by false z = refl

-- a line that is whole and is not the marker
pub record IsPassed (l : List ℕ) : Type 0 where
  pub inner : AreInner l
  pub other : is_marker l ≡ false

first_line : (l rest : List ℕ) → AreInner l → lines_of (l ++ 10 ∷ rest) ≡ l ∷ lines_of rest
first_line [] rest h = refl
first_line (b ∷ l) rest h = ap (λ v. cond v ([] ∷ lines_of (l ++ 10 ∷ rest)) (onto_first b (lines_of (l ++ 10 ∷ rest)))) h.0 ∙ ap (onto_first b) (first_line l rest h.1)

-- lines, one after another, and then these bytes
abbrev pub before : List (List ℕ) → List ℕ → List ℕ
before [] rest = rest
before (l ∷ ls) rest = l ++ 10 ∷ before ls rest

passed : (ls : List (List ℕ)) (rest : List ℕ) → AllByRecursion IsPassed ls → behind_marker (lines_of (before ls rest)) ≡ behind_marker (lines_of rest)
passed [] rest h = refl
passed (l ∷ ls) rest h =
    ap behind_marker (first_line l (before ls rest) (h.0).inner)
    ∙ ap (λ v. cond v (Some (lines_of (before ls rest))) (behind_marker (lines_of (before ls rest)))) (h.0).other
    ∙ passed ls rest h.1

abbrev part_of : List ℕ → Option (List (List ℕ)) → List ℕ
part_of bytes found = unwrap_or (option_map (join_with_byte 10) found) bytes

-- after the marker stands the part
pub part_behind : (ls : List (List ℕ)) (text : List ℕ) → AllByRecursion IsPassed ls → body (before ls (codes "proof:" ++ 10 ∷ text)) ≡ text
part_behind ls text h =
    ap (part_of (before ls (codes "proof:" ++ 10 ∷ text)))
    (passed ls (codes "proof:" ++ 10 ∷ text) h ∙ ap behind_marker (first_line (codes "proof:") text (inner_word (codes "proof:") refl)))
    ∙ join_with_byte-slice_split 10 text

-- a text is made of such lines
pub record IsOfLines (text : List ℕ) : Type 0 where
  pub lines : List (List ℕ)
  pub passed : AllByRecursion IsPassed lines
  pub is : (rest : List ℕ) → text ++ rest ≡ before lines rest

pub no_lines : IsOfLines []
no_lines = record { lines = []; passed = tt; is = λ rest. refl }

pub one_more : (l text : List ℕ) → IsPassed l → IsOfLines text → IsOfLines (line l ++ text)
one_more l text h k = record {
  lines = l ∷ k.lines;
  passed = (h, k.passed);
  is = λ rest. append_assoc (line l) text rest ∙ append_assoc l (10 ∷ []) (text ++ rest) ∙ ap (λ z. l ++ 10 ∷ z) (k.is rest);
}

pub one_alone : (l : List ℕ) → IsPassed l → IsOfLines (line l)
one_alone l h = record { lines = l ∷ []; passed = (h, tt); is = λ rest. append_assoc l (10 ∷ []) rest }

-- the part after a text of such lines, and the line `proof:`
pub part_after : (text part : List ℕ) → IsOfLines text → body (text ++ (line (codes "proof:") ++ part)) ≡ part
part_after text part h = ap body (h.is (line (codes "proof:") ++ part) ∙ ap (before h.lines) (append_assoc (codes "proof:") (10 ∷ []) part)) ∙ part_behind h.lines part h.passed
