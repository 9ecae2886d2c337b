-- A negated divisibility is split into its remainders.
use Rattle.std.proofs.Common.{◌≡◌, ◌+◌, ◌-◌, ◌<◌, ◌≤◌, ℕ, zero, suc, ℤ, pos, ◌+ℤ◌, ◌*ℤ◌, ◌<ℤ◌, unsigned_abs, Bool, true, false, not, ◌&&◌, ◌||◌, List, [], ◌∷◌, map, Some, refl, sym, ◌∙◌, ap, arith}
use Rattle.std.specs.Bool.{Decides}
use Rattle.std.specs.List.{list_any}
use Rattle.std.specs.Prelude.{remove, slice_get, slice_set}
use Rattle.std.proofs.lemmas.Int.{ints}
use Rattle.std.proofs.lemmas.Bool.Decides.{same_from_decides}
use Rattle.base_integers.specs.Divides.{divides}
use Rattle.linear_term.specs.Linear.{Linear, value_of, number}
use Rattle.linear_term.proofs.Totals.{value_of-combination, value_of-number}
use Rattle.clause_set.specs.declared.literal.Literal.{Literal}
use Rattle.clause_set.specs.declared.literal.Literal.TheVariants.{Div, NDiv}
use Rattle.clause_set.specs.Literals.{literal_truth, clause_truth, dnf_truth}
use Rattle.clause_set.specs.Divisibilities.{numbers_from}
use Rattle.elim_rule_laws.specs.EquationResults.{raised, split_at}
use Rattle.elim_rule_laws.proofs.EquationLists.{all-apart, all-replaced}
use Rattle.elim_rule_laws.specs.Divisions.{HasRemainder}
use Rattle.elim_rule_laws.proofs.Dividing.{remainder-of, remainder-excludes}

-- ---- some number of a row passes a test
abbrev Found : (ℕ → Bool) → ℕ → ℕ → Type 0
Found p k n = (r : ℕ) × (k ≤ r) × (r < k + n) × (p r ≡ true)

found_step : (p : ℕ → Bool) (k n : ℕ) (b : Bool) → p k ≡ b → (b || list_any p (numbers_from (suc k) n)) ≡ true
    → (list_any p (numbers_from (suc k) n) ≡ true → Found p (suc k) n) → Found p k (suc n)
found_step p k n true e t below = (k, omega arith, omega arith, e)
found_step p k n false e t below = let h = below t in (h.0, omega (arith, h.1), omega (arith, h.2), h.3)

pub any-found : (p : ℕ → Bool) (k n : ℕ) → list_any p (numbers_from k n) ≡ true → Found p k n
any-found p k zero t = absurd (cc)
any-found p k (suc n) t = found_step p k n (p k) refl t (λ u. any-found p (suc k) n u)

or_left : (a b : Bool) → a ≡ true → (a || b) ≡ true
or_left true b e = refl
or_left false b e = absurd (cc)

or_right : (a b : Bool) → b ≡ true → (a || b) ≡ true
or_right true b e = refl
or_right false b e = e

by_least : {P : Type 0} (k r : ℕ) → k ≤ r → (k ≡ r → P) → (suc k ≤ r → P) → P
by_least zero zero le same more = same refl
by_least zero (suc r) le same more = more (omega arith)
by_least (suc k) zero le same more = absurd (omega arith)
by_least (suc k) (suc r) le same more = by_least k r (omega arith) (λ e. same (ap suc e)) (λ m. more (omega arith))

pub any-given : (p : ℕ → Bool) (k n : ℕ) → Found p k n → list_any p (numbers_from k n) ≡ true
any-given p k zero h = absurd (omega (arith, h.1, h.2))
any-given p k (suc n) h =
    by_least k h.0 h.1
    (λ same. or_left (p k) _ (ap p same ∙ h.3))
    (λ more. or_right (p k) _ (any-given p (suc k) n (h.0, more, omega (arith, h.2), h.3)))

-- ---- d divides t + r for some r from 1 to d − 1 exactly where it does not divide t
not_true : (b : Bool) → not b ≡ true → b ≡ false
not_true true e = absurd (cc)
not_true false e = refl

pub remainders-truth : (d : ℕ) (t : ℤ) → 0 < d → list_any (λ r. divides d (t +ℤ pos r)) (numbers_from 1 (d - 1)) ≡ not (divides d t)
remainders-truth d t some =
    let found : Decides (list_any (λ r. divides d (t +ℤ pos r)) (numbers_from 1 (d - 1))) (HasRemainder d t) = (
      λ yes. let h = any-found (λ r. divides d (t +ℤ pos r)) 1 (d - 1) yes in
          (h.0, omega (arith, h.1), omega (arith, h.2), h.3),
      λ h. any-given (λ r. divides d (t +ℤ pos r)) 1 (d - 1) (h.0, omega (arith, h.1), omega (arith, h.2), h.3),
    ) in
    let fails : Decides (not (divides d t)) (HasRemainder d t) =
    (λ yes. remainder-of d t some (not_true (divides d t) yes), λ h. ap not (remainder-excludes d t h)) in
    same_from_decides (list_any (λ r. divides d (t +ℤ pos r)) (numbers_from 1 (d - 1))) (not (divides d t)) found fails

-- ---- the rule
and_any : {X : Type 0} (p : X → Bool) (b : Bool) (xs : List X) → list_any (λ x. p x && b) xs ≡ (list_any p xs && b)
and_any p b [] = refl
and_any p b (x ∷ xs) = ap (λ c. (p x && b) || c) (and_any p b xs) ∙ spread (p x) (list_any p xs) b
  where
    spread : (a c b : Bool) → ((a && b) || (c && b)) ≡ ((a || c) && b)
    spread true c true = refl
    spread true true false = refl
    spread true false false = refl
    spread false c b = refl

any_same : {X : Type 0} (p q : X → Bool) → ((x : X) → p x ≡ q x) → (xs : List X) → list_any p xs ≡ list_any q xs
any_same p q h [] = refl
any_same p q h (x ∷ xs) = ap (λ b. b || list_any p xs) (h x) ∙ ap (λ b. q x || b) (any_same p q h xs)

any_map : {X Y : Type 0} (p : Y → Bool) (f : X → Y) (xs : List X) → list_any p (map f xs) ≡ list_any (λ x. p (f x)) xs
any_map p f [] = refl
any_map p f (x ∷ xs) = ap (λ b. p (f x) || b) (any_map p f xs)

raised-value : (t : Linear) (r : ℕ) (e : List ℤ) → value_of (raised t r) e ≡ value_of t e +ℤ pos r
raised-value t r e =
    value_of-combination (pos 1) (pos 1) t (number (pos r)) e ∙ ap (λ z. (pos 1 *ℤ value_of t e) +ℤ (pos 1 *ℤ z)) (value_of-number (pos r) e) ∙ omega (arith, ints)

pub apart-truth : (i : ℕ) (c : List Literal) (d : ℤ) (t : Linear) (e : List ℤ) → slice_get c i ≡ Some (NDiv d t) → pos 0 <ℤ d
    → dnf_truth (split_at i c (Some (NDiv d t))) e ≡ clause_truth c e
apart-truth i c d t e at dp =
    let n : ℕ = unsigned_abs d in
    let rest : Bool = clause_truth (remove c i) e in
    let one : (r : ℕ) → clause_truth (slice_set c i (Div d (raised t r))) e ≡ (divides n (value_of t e +ℤ pos r) && rest) =
    (λ r. all-replaced (λ l. literal_truth l e) c i (NDiv d t) (Div d (raised t r)) at ∙ ap (λ z. divides n z && rest) (raised-value t r e)) in
    any_map (λ k. clause_truth k e) (λ r. slice_set c i (Div d (raised t r))) (numbers_from 1 (n - 1))
    ∙ any_same (λ r. clause_truth (slice_set c i (Div d (raised t r))) e) (λ r. divides n (value_of t e +ℤ pos r) && rest) one (numbers_from 1 (n - 1))
    ∙ and_any (λ r. divides n (value_of t e +ℤ pos r)) rest (numbers_from 1 (n - 1))
    ∙ ap (λ b. b && rest) (remainders-truth n (value_of t e) (omega (arith, ints)))
    ∙ sym (all-apart (λ l. literal_truth l e) c i (NDiv d t) at)
