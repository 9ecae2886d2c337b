-- Terms compared one by one, and a term less a name.
use Rattle.std.proofs.Common.{◌≡◌, ℕ, ◌<◌, ◌^◌, Bool, true, ℤ, negsuc, List, [], ◌∷◌, ◌++◌, length, refl, sym, ap, ◌∙◌, arith}
use Rattle.std.proofs.lemmas.Int.{ints}
use Rattle.std.proofs.lemmas.List.Elements.{All-cons}
use Rattle.linear_term.specs.Linear.{Linear, IsNormal, IsCoefficient}
use Rattle.form_naming.specs.Naming.{same_terms, is_above, less_name}
use Rattle.form_naming.proofs.Keeping.{rising_above}

-- what is left to compare says what all does
pub record AlikeLeft (ss ts : List Linear) (all : Bool) : Type 0 where
  pub is : all ≡ same_terms ss ts
  pub long : length ss ≡ length ts

pub alike_begins : (ss ts : List Linear) → length ss ≡ length ts → AlikeLeft ss ts (same_terms ss ts)
alike_begins ss ts h = record { is = refl; long = h }

pub ruleset alike = (alike_begins)

pub less_name_normal : (n : ℕ) (t : Linear) → n < 2 ^ 32 → is_above n t ≡ true → IsNormal t → IsNormal (less_name n t)
less_name_normal n t lt test h = record {
  rising = (omega arith, rising_above n 0 t.pairs test h.rising);
  coefficients = All-cons (λ (p : ℕ × ℤ). IsCoefficient p.1) (n, negsuc 0) t.pairs (record { in_range = search arith; not_zero = λ e. omega (arith, ints, e) }) h.coefficients;
  names = All-cons (λ (p : ℕ × ℤ). p.0 < 2 ^ 32) (n, negsuc 0) t.pairs lt h.names;
  constant = h.constant;
}

pub ruleset lessening = (less_name_normal)

-- the term, put together
pub less_name_whole : (n : ℕ) (t : Linear) (none one all ps qs : List (ℕ × ℤ)) (z : ℤ) → none ≡ [] → one ≡ none ++ (n, negsuc 0) ∷ [] → all ≡ one ++ ps → ps ≡ t.pairs → qs ≡ all → z ≡ t.constant
    → less_name n t ≡ record { pairs = qs; constant = z }
less_name_whole n t none one all ps qs z hn ho ha hp hq hz =
    let whole : qs ≡ (n, negsuc 0) ∷ t.pairs = hq ∙ ha ∙ (λ i. (ho ∙ ap (λ (l : List (ℕ × ℤ)). l ++ (n, negsuc 0) ∷ []) hn) i ++ hp i) in
    λ i. record { pairs = sym whole i; constant = sym hz i }
