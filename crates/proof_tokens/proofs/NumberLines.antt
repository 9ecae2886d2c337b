-- The end of a line with a number: a blank, the number, and the end.
use Rattle.std.proofs.Common.{ℕ, ◌≡◌, ◌≤◌, List, [], ◌∷◌, refl, subst, arith}
use Rattle.proof_tokens.specs.declared.tokens.Token.{Token}
use Rattle.proof_tokens.specs.declared.tokens.Token.TheVariants as t
use Rattle.proof_tokens.specs.declared.reading.Refusal.{Refusal}
use Rattle.proof_tokens.specs.Lines.{numbered_text, LiesBetween, IsNumberIn}
use Rattle.proof_tokens.specs.Reading.{Cuts, RefusesProof, RefusesNext}
use Rattle.proof_tokens.proofs.Refusals.{lacked, refused_behind, no_word}

-- a number and the end of the line
abbrev number_text : ℕ → List Token
number_text n = t.Number n ∷ t.LineFeed ∷ []

least_is : (least most : ℕ) → least ≤ most → LiesBetween least most least
least_is least most h = (omega arith, h)

pub no_blank : (least most : ℕ) (bytes : List ℕ) (fault : Refusal) → least ≤ most → RefusesNext (λ y. y ≡ t.Blank) bytes fault → RefusesProof (LiesBetween least most) numbered_text bytes fault
no_blank least most bytes fault h lacks = no_word (LiesBetween least most) number_text t.Blank least bytes fault (least_is least most h) lacks

pub no_number : (least most : ℕ) (bytes back : List ℕ) (fault : Refusal) → least ≤ most → Cuts (t.Blank ∷ []) bytes back → RefusesNext (IsNumberIn least most) back fault → RefusesProof (LiesBetween least most) numbered_text bytes fault
no_number least most bytes back fault h cut lacks = refused_behind (LiesBetween least most) number_text t.Blank bytes back fault cut
    (lacked (LiesBetween least most) number_text [] back back (IsNumberIn least most) fault refl lacks
    (record { value = least; is_value = least_is least most h; more = number_text least; parts = refl })
    (λ n x more i q. let same : t.Number n ≡ x = cc in subst (IsNumberIn least most) same i)
    (λ n i q. cc))

pub no_end : (least most n : ℕ) (bytes number back : List ℕ) (fault : Refusal) → LiesBetween least most n → Cuts (t.Blank ∷ []) bytes number → Cuts (t.Number n ∷ []) number back → RefusesNext (λ y. y ≡ t.LineFeed) back fault
    → RefusesProof (LiesBetween least most) numbered_text bytes fault
no_end least most n bytes number back fault i cut has lacks = refused_behind (LiesBetween least most) number_text t.Blank bytes number fault cut
    (lacked (LiesBetween least most) number_text (t.Number n ∷ []) number back (λ y. y ≡ t.LineFeed) fault has lacks
    (record { value = n; is_value = i; more = t.LineFeed ∷ []; parts = refl })
    (λ m x more j q. cc)
    (λ m j q. cc))
