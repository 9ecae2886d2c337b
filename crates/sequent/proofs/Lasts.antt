-- The last name of a list of integers: what is met there, as the rows say it.
use Rattle.std.proofs.Common.{◌≡◌, ℕ, zero, suc, ℤ, Bool, true, List, [], ◌∷◌, ◌++◌, length, refl, ap, subst, arith}
use Rattle.base_integers.specs.Entry.{put}
use Rattle.sequent.specs.Covers.{RuleTruth}
use Rattle.formula.specs.Form.{Form, existential}

pub put_end : (e : List ℤ) (n : ℕ) (v : ℤ) → length e ≡ n → put e n v ≡ e ++ v ∷ []
put_end [] zero v len = refl
put_end [] (suc n) v len = absurd (omega (arith, len))
put_end (x ∷ e) zero v len = absurd (omega (arith, len))
put_end (x ∷ e) (suc n) v len = ap (λ l. x ∷ l) (put_end e n v (omega (arith, len)))

-- some value of the last name: what `gamma` asks of its constraint
pub met_gamma : (f : Form) (d : List ℤ → Bool) (e : List ℤ) (n : ℕ) → length e ≡ n → (v : ℤ) × (d (put e n v) ≡ true) → RuleTruth (existential f) (d ∷ []) e
met_gamma f d e n len m = λ none. none m.0 (subst (λ l. d l ≡ true) (put_end e n m.0 len) m.1, tt)
