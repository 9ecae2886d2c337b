-- Where parameters have values, each is found by its name, and no operator is hidden.
use Rattle.std.proofs.Common.{◌≡◌, ℕ, suc, ◌+◌, ◌<◌, ◌≤◌, ◌^◌, ℤ, Bool, true, false, List, [], ◌∷◌, length, map, Some, None, refl, ap, ◌∙◌, arith, cond}
use Rattle.std.specs.Prelude.{codes}
use Rattle.std.specs.Fmt.{decimal}
use Rattle.std.proofs.lemmas.Fmt.{decimal_injective}
use Rattle.std.specs.Bool.{Decides}
use Rattle.std.proofs.lemmas.Bool.Decides.{Decides-eqb}
use Rattle.std.proofs.lemmas.Slice.Eq.{slice_eq-Decides}
use Rattle.base_texts.specs.Texts.{is_text}
use Rattle.smt_terms.specs.Operators.{integer, found}
use Rattle.smt_terms.specs.Evaluation.{Values, with_names}
use Rattle.smt_models.specs.Terms.{argument}
use Rattle.smt_models.specs.Defined.{parameters}

text_decided : (xs ys : List ℕ) → Decides (is_text xs ys) (xs ≡ ys)
text_decided xs ys = slice_eq-Decides Decides-eqb xs ys _ refl

not_true : (b : Bool) → ¬ (b ≡ true) → b ≡ false
not_true true h = absurd (h refl)
not_true false h = refl

-- two parameters have two names
other_argument : (j k : ℕ) → j < 2 ^ 64 → k < 2 ^ 64 → ¬ (j ≡ k) → is_text (argument j) (argument k) ≡ false
other_argument j k small short other =
    not_true (is_text (argument j) (argument k)) (λ e. other (decimal_injective j k small short ((text_decided (decimal j) (decimal k)).0 e)))

same_argument : (k : ℕ) → is_text (argument k) (argument k) ≡ true
same_argument k = (text_decided (argument k) (argument k)).1 refl

-- a name that is none of the parameters is found behind them
pub found_behind : (x : List ℕ) (k : ℕ) (xs : List ℤ) (outer : Values) → ((j : ℕ) → k ≤ j → j < k + length xs → is_text x (argument j) ≡ false)
    → found x (with_names (parameters k (length xs)) (map integer xs) outer) ≡ found x outer
found_behind x k [] outer none = refl
found_behind x k (v ∷ xs) outer none =
    found_behind x (suc k) xs ((argument k, integer v) ∷ outer) (λ j above below. none j (omega (arith, above)) (omega (arith, below)))
    ∙ ap (λ b. cond b (Some (integer v)) (found x outer)) (none k (omega arith) (omega arith))

-- the parameters from number k on are found with these values
abbrev pub Finds : Values → ℕ → List ℤ → Type 0
Finds b k [] = Unit {0}
Finds b k (v ∷ vs) = (found (argument k) b ≡ Some (integer v)) × Finds b (suc k) vs

pub finds : (k : ℕ) (xs : List ℤ) (outer : Values) → k + length xs < 2 ^ 64 → Finds (with_names (parameters k (length xs)) (map integer xs) outer) k xs
finds k [] outer small = tt
finds k (v ∷ xs) outer small = (
  found_behind (argument k) (suc k) xs ((argument k, integer v) ∷ outer) (λ j above below. other_argument k j (omega (arith, small)) (omega (arith, small, below)) (λ e. absurd (omega (arith, e, above))))
      ∙ ap (λ b. cond b (Some (integer v)) (found (argument k) outer)) (same_argument k),
  finds (suc k) xs ((argument k, integer v) ∷ outer) (omega (arith, small)),
)

-- the operators of a model's terms are no parameters
pub record ShowsOperators (b : Values) : Type 0 where
  pub minus : found (codes "-") b ≡ None
  pub equal : found (codes "=") b ≡ None
  pub both : found (codes "and") b ≡ None
  pub choice : found (codes "ite") b ≡ None
  pub yes : found (codes "true") b ≡ None
  pub no : found (codes "false") b ≡ None

pub shown : (k : ℕ) (xs : List ℤ) → ShowsOperators (with_names (parameters k (length xs)) (map integer xs) [])
shown k xs = record {
  minus = found_behind (codes "-") k xs [] (λ j a b. refl);
  equal = found_behind (codes "=") k xs [] (λ j a b. refl);
  both = found_behind (codes "and") k xs [] (λ j a b. refl);
  choice = found_behind (codes "ite") k xs [] (λ j a b. refl);
  yes = found_behind (codes "true") k xs [] (λ j a b. refl);
  no = found_behind (codes "false") k xs [] (λ j a b. refl);
}
