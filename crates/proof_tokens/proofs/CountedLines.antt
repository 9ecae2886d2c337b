-- The end of a line with a position and a number of premises.
use Rattle.std.proofs.Common.{ℕ, ◌≡◌, List, [], ◌∷◌, refl, subst, arith}
use Rattle.proof_tokens.specs.declared.tokens.Token.{Token}
use Rattle.proof_tokens.specs.declared.tokens.Token.TheVariants as t
use Rattle.proof_tokens.specs.declared.reading.Refusal.{Refusal}
use Rattle.proof_tokens.specs.Lines.{numbered_text, counted_text, IsNumberIn, IsPosition, IsCount, IsCounted}
use Rattle.proof_tokens.specs.Reading.{Cuts, RefusesProof, RefusesNext}
use Rattle.proof_tokens.proofs.Refusals.{lacked, refused_behind, no_word}
use Rattle.proof_tokens.proofs.Behind.{refused_case}

abbrev inner_text : (ℕ × ℕ) → List Token
inner_text p = t.Number p.0 ∷ numbered_text p.1

least : IsCounted (0, 1)
least = ((omega arith, omega arith), (omega arith, omega arith))

pub no_blank : (bytes : List ℕ) (fault : Refusal) → RefusesNext (λ y. y ≡ t.Blank) bytes fault → RefusesProof IsCounted counted_text bytes fault
no_blank bytes fault lacks = no_word IsCounted inner_text t.Blank (0, 1) bytes fault least lacks

pub no_place : (bytes back : List ℕ) (fault : Refusal) → Cuts (t.Blank ∷ []) bytes back → RefusesNext (IsNumberIn 0 4294967295) back fault → RefusesProof IsCounted counted_text bytes fault
no_place bytes back fault cut lacks = refused_behind IsCounted inner_text t.Blank bytes back fault cut
    (lacked IsCounted inner_text [] back back (IsNumberIn 0 4294967295) fault refl lacks
    (record { value = (0, 1); is_value = least; more = inner_text (0, 1); parts = refl })
    (λ p x more i q. let same : t.Number p.0 ≡ x = cc in subst (IsNumberIn 0 4294967295) same i.0)
    (λ p i q. cc))

pub no_count : (place : ℕ) (bytes number back : List ℕ) (fault : Refusal) → IsPosition place → Cuts (t.Blank ∷ []) bytes number → Cuts (t.Number place ∷ []) number back → RefusesProof IsCount numbered_text back fault
    → RefusesProof IsCounted counted_text bytes fault
no_count place bytes number back fault i cut has r = refused_behind IsCounted inner_text t.Blank bytes number fault cut
    (refused_case IsCount numbered_text IsCounted inner_text (t.Number place) number back fault has
    (λ k j. ((place, k), (i, j), refl))
    (λ p tail j q. (p.1, j.1, cc))
    r)
