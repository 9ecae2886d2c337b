-- Words with digits are no keywords.
use Rattle.std.proofs.Common.{ℕ, ◌≡◌, Bool, true, false, List, [], ◌∷◌, if◌then◌else◌, refl, sym, ap, ◌∙◌}
use Rattle.std.specs.Prelude.{slice_index, codes, ◌||◌}
use Rattle.std.specs.List.{list_any}
use Rattle.std.specs.Str.{bytes_eq}
use Rattle.std.specs.Char.{is_ascii_digit}
use Rattle.std.proofs.lemmas.Bool.{false≢true}
use Rattle.std.proofs.lemmas.Slice.Eq.{bytes_eq-Decides}
use Rattle.proof_tokens.specs.declared.tokens.Token.{Token}
use Rattle.proof_tokens.specs.declared.tokens.Token.TheVariants as t
use Rattle.proof_tokens.specs.Words.{figure_of, word_of}

abbrev pub has_digit : List ℕ → Bool
has_digit = list_any is_ascii_digit

not_same_by : (w k : List ℕ) (v : Bool) → bytes_eq w k ≡ v → has_digit w ≡ true → has_digit k ≡ false → bytes_eq w k ≡ false
not_same_by w k true e h n = absurd (false≢true (sym n ∙ ap has_digit (sym ((bytes_eq-Decides w k).0 e)) ∙ h))
not_same_by w k false e h n = e

pub not_same : (w k : List ℕ) → has_digit w ≡ true → has_digit k ≡ false → bytes_eq w k ≡ false
not_same w k h n = not_same_by w k (bytes_eq w k) refl h n

skip : (w k : List ℕ) (x y : Token) → has_digit w ≡ true → has_digit k ≡ false → (if bytes_eq w k then x else y) ≡ y
skip w k x y h n = ap (λ v. if v then x else y) (not_same w k h n)

pub figure_is : (w : List ℕ) → has_digit w ≡ true → word_of w ≡ figure_of w
figure_is w h =
    skip w (codes "princess-proof") t.PrincessProof _ h refl ∙ skip w (codes "charges") t.Charges _ h refl ∙ skip w (codes "log") t.Log _ h refl
    ∙ skip w (codes "gives") t.Gives _ h refl ∙ skip w (codes "solution") t.Solution _ h refl ∙ skip w (codes "none") t.Nothing _ h refl
    ∙ skip w (codes "true") t.True _ h refl ∙ skip w (codes "false") t.False _ h refl ∙ skip w (codes "divides") t.Divides _ h refl
    ∙ skip w (codes "notdivides") t.NotDivides _ h refl ∙ skip w (codes "trivial") t.Trivial _ h refl ∙ skip w (codes "alpha") t.Alpha _ h refl
    ∙ skip w (codes "beta") t.Beta _ h refl ∙ skip w (codes "delta") t.Delta _ h refl ∙ skip w (codes "gamma") t.Gamma _ h refl ∙ skip w (codes "close") t.Close _ h refl
    ∙ skip w (codes "parts") t.Parts _ h refl ∙ skip w (codes "part") t.Part _ h refl

second_has : (w : List ℕ) → is_ascii_digit (slice_index w 1) ≡ true → has_digit w ≡ true
second_has [] h = absurd (cc)
second_has (b ∷ []) h = absurd (cc)
second_has (b ∷ c ∷ bs) h = later (is_ascii_digit b) (is_ascii_digit c) (has_digit bs) h
  where
    later : (x y z : Bool) → y ≡ true → (x || (y || z)) ≡ true
    later true y z e = refl
    later false true z e = refl
    later false false z e = absurd (cc)

-- a word whose second byte is a digit
pub second_digit : (w : List ℕ) → is_ascii_digit (slice_index w 1) ≡ true → word_of w ≡ figure_of w
second_digit w h = figure_is w (second_has w h)
