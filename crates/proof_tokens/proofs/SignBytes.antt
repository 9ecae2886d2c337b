-- Bytes that do not begin as a token is spelled do not begin with it.
use Rattle.std.proofs.Common.{ℕ, ◌≡◌, ◌==◌, true, false, List, [], ◌∷◌, length, refl, ap, subst}
use Rattle.std.specs.Prelude.{slice_index}
use Rattle.proof_tokens.specs.declared.tokens.Token.{Token}
use Rattle.proof_tokens.specs.declared.tokens.Token.TheVariants as t
use Rattle.proof_tokens.specs.declared.reading.Refusal.TheVariants as e
use Rattle.proof_tokens.specs.Lines.{HasNoUse, IsSeparator}
use Rattle.proof_tokens.specs.Reading.{Cuts, RefusesNext}
use Rattle.proof_tokens.proofs.Cutting.{spelled_front}

blank_first : (bytes rest : List ℕ) → Cuts (t.Blank ∷ []) bytes rest → bytes ≡ 32 ∷ rest
blank_first bytes rest cut = spelled_front (t.Blank ∷ []) bytes rest ((λ h. absurd (cc)), tt) cut

feed_first : (bytes rest : List ℕ) → Cuts (t.LineFeed ∷ []) bytes rest → bytes ≡ 10 ∷ rest
feed_first bytes rest cut = spelled_front (t.LineFeed ∷ []) bytes rest ((λ h. absurd (cc)), tt) cut

other_first : (b c : ℕ) (bytes behind rest : List ℕ) → bytes ≡ b ∷ behind → (b == c) ≡ false → (c == c) ≡ true → bytes ≡ c ∷ rest → ⊥
other_first b c bytes behind rest p n same q = let h : b ≡ c = cc in absurd (cc)

-- another byte comes
pub no_blank : (b : ℕ) (bytes behind : List ℕ) → bytes ≡ b ∷ behind → (b == 32) ≡ false → RefusesNext (λ x. x ≡ t.Blank) bytes (e.Syntax (length bytes))
no_blank b bytes behind p n = (refl, λ x rest cut is. other_first b 32 bytes behind rest p n refl (blank_first bytes rest (subst (λ y. Cuts (y ∷ []) bytes rest) is cut)))

pub no_feed : (b : ℕ) (bytes behind : List ℕ) → bytes ≡ b ∷ behind → (b == 10) ≡ false → RefusesNext (λ x. x ≡ t.LineFeed) bytes (e.Syntax (length bytes))
no_feed b bytes behind p n = (refl, λ x rest cut is. other_first b 10 bytes behind rest p n refl (feed_first bytes rest (subst (λ y. Cuts (y ∷ []) bytes rest) is cut)))

pub neither_sign : (b : ℕ) (bytes behind : List ℕ) → bytes ≡ b ∷ behind → (b == 32) ≡ false → (b == 10) ≡ false → RefusesNext IsSeparator bytes (e.Syntax (length bytes))
neither_sign b bytes behind p n m = (refl, none)
  where
    none : (x : Token) (rest : List ℕ) → Cuts (x ∷ []) bytes rest → IsSeparator x → ⊥
    none t.Blank rest cut is = other_first b 32 bytes behind rest p n refl (blank_first bytes rest cut)
    none t.LineFeed rest cut is = other_first b 10 bytes behind rest p m refl (feed_first bytes rest cut)
    none _ rest cut is = absurd is

-- no use of a part comes after one byte
pub no_use : (parts : ℕ) (bytes : List ℕ) → (slice_index bytes 1 == 117) ≡ false → HasNoUse parts bytes
no_use parts bytes n i rest small cut =
    let h = spelled_front (t.Blank ∷ t.Use i ∷ []) bytes rest ((λ h. absurd (cc)), ((λ h. absurd (cc)), tt)) cut in
    let is : (slice_index bytes 1 == 117) ≡ true = ap (λ z. slice_index z 1 == 117) h in absurd (cc)
