-- What clap sees of a word, by its look.
use Rattle.std.proofs.Common.{◌≡◌, ◌∙◌, ◌<◌, ◌==◌, ℕ, Bool, true, false, [], ◌∷◌, Some, None, length, refl, sym, ap, subst, arith, if◌then◌else◌}
use Rattle.std.specs.Prelude.{slice_get}
use Rattle.std.specs.Str.{bytes_eq, chars, IsUtf8, encode_utf8_all}
use Rattle.std.proofs.lemmas.Str.{encodes-chars, IsUtf8-drop, IsCharBoundary-after_ascii}
use Rattle.std.proofs.lemmas.Bool.{eqb-true}
use Rattle.clap.specs.Lexer.{long_of, short_of}
use Rattle.job_words.specs.Uses.{Text}
use Rattle.job_words.proofs.Reading.{Look, ends, named, dashed, plain, look, look_dash, look_long}

pub record IsShort (word : Text) : Type 0 where
  pub flags : Text
  pub first : ℕ
  pub long : long_of word ≡ None
  pub short : short_of word ≡ Some flags
  pub has : 0 < length flags
  pub char : slice_get (chars flags) 0 ≡ Some first

abbrev pub Sees : Text → Look → Type 0
Sees word ends = bytes_eq word (45 ∷ 45 ∷ []) ≡ true
Sees word (named n v) = (bytes_eq word (45 ∷ 45 ∷ []) ≡ false) × (long_of word ≡ Some (n, v))
Sees word dashed = (bytes_eq word (45 ∷ 45 ∷ []) ≡ false) × IsShort word
Sees word plain = (bytes_eq word (45 ∷ 45 ∷ []) ≡ false) × (long_of word ≡ None) × (short_of word ≡ None)

-- text that is not empty has a first character
first_char : (text cs : Text) → chars text ≡ cs → IsUtf8 text → 0 < length text → (c : ℕ) × (slice_get (chars text) 0 ≡ Some c)
first_char text [] e is has =
    let none : [] ≡ text = ap encode_utf8_all (sym e) ∙ encodes-chars text is in
    let bad : 0 < length {A = ℕ} [] = subst (λ t. 0 < length t) (sym none) has in absurd (omega arith)
first_char text (c ∷ cs) e is has = (c, ap (λ x. slice_get x 0) e)

sees_dash : (rest : Text) → (0 < length rest → IsUtf8 rest) → Sees (45 ∷ rest) (look_dash rest)
sees_dash [] is = (refl, refl, refl)
sees_dash (b ∷ rest) is = go (b == 45) refl
  where
    go_long : (rest : Text) → Sees (45 ∷ 45 ∷ rest) (look_long rest)
    go_long [] = refl
    go_long (c ∷ cs) = (refl, refl)

    go : (t : Bool) → (b == 45) ≡ t → Sees (45 ∷ b ∷ rest) (if t then look_long rest else dashed)
    go true e = subst (λ x. Sees (45 ∷ x ∷ rest) (look_long rest)) (sym (eqb-true b 45 e)) (go_long rest)
    go false e =
        let char = first_char (b ∷ rest) (chars (b ∷ rest)) refl (is (omega arith)) (omega arith) in (
          rw e refl,
          record {
            flags = b ∷ rest;
            first = char.0;
            long = rw e refl;
            short = rw e refl;
            has = omega arith;
            char = char.1;
          },
        )

-- what stands after a dash is text
behind_dash : (rest : Text) → IsUtf8 (45 ∷ rest) → IsUtf8 rest
behind_dash rest is = IsUtf8-drop (45 ∷ rest) 1 is (IsCharBoundary-after_ascii (45 ∷ rest) 0 is (omega arith) (omega arith))

pub sees : (word : Text) → IsUtf8 word → Sees word (look word)
sees [] is = (refl, refl, refl)
sees (b ∷ rest) is = go (b == 45) refl
  where
    go : (t : Bool) → (b == 45) ≡ t → Sees (b ∷ rest) (if t then look_dash rest else plain)
    go true e =
        let same = eqb-true b 45 e in
        subst (λ x. Sees (x ∷ rest) (look_dash rest)) (sym same) (sees_dash rest (λ has. behind_dash rest (subst (λ x. IsUtf8 (x ∷ rest)) same is)))
    go false e = (rw e refl, rw e refl, rw e refl)
