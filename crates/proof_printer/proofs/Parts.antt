-- The lines that speak of no linear term, written in parts.
use Rattle.std.proofs.Common.{ℕ, ◌≡◌, ℤ, List, ◌∷◌, ◌++◌, sym, ap, ◌∙◌, append_assoc}
use Rattle.std.specs.Prelude.{codes}
use Rattle.std.specs.Fmt.{decimal}
use Rattle.proof_tokens.specs.Lines.{counted_text, value_text, values_text}
use Rattle.proof_tokens.specs.Spellings.{spelled}
use Rattle.proof_printer.proofs.Written.{spelled_append}

-- a position and a number of premises
pub beta_written : (place count : ℕ) (old first mid out : List ℕ) → first ≡ old ++ (codes "beta " ++ decimal place) → mid ≡ first ++ (codes " " ++ decimal count) → out ≡ mid ++ codes "\n"
    → out ≡ old ++ (codes "beta" ++ spelled (counted_text (place, count)))
beta_written place count old first mid out e q r =
    r ∙ ap (λ z. z ++ codes "\n") (q ∙ ap (λ z. z ++ (codes " " ++ decimal count)) e)
    ∙ append_assoc (old ++ (codes "beta " ++ decimal place)) (codes " " ++ decimal count) (codes "\n")
    ∙ append_assoc old (codes "beta " ++ decimal place) ((codes " " ++ decimal count) ++ codes "\n")
    ∙ ap (λ z. old ++ z) (append_assoc (codes "beta ") (decimal place) ((codes " " ++ decimal count) ++ codes "\n")
    ∙ ap (λ z. codes "beta " ++ (decimal place ++ z)) (append_assoc (codes " ") (decimal count) (codes "\n")))

-- one integer more
pub value_behind : (v : ℤ) (vs : List ℤ) (old first mid out : List ℕ) → first ≡ old ++ codes " " → mid ≡ first ++ spelled (value_text v) → out ≡ mid ++ spelled (values_text vs) → out ≡ old ++ spelled (values_text (v ∷ vs))
value_behind v vs old first mid out e q r =
    r ∙ ap (λ z. z ++ spelled (values_text vs)) (q ∙ ap (λ z. z ++ spelled (value_text v)) e)
    ∙ ap (λ z. z ++ spelled (values_text vs)) (append_assoc old (codes " ") (spelled (value_text v)))
    ∙ append_assoc old (codes " " ++ spelled (value_text v)) (spelled (values_text vs))
    ∙ ap (λ z. old ++ (codes " " ++ z)) (sym (spelled_append (value_text v) (values_text vs)))
