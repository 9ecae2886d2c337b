-- Sums and products that stop at the greatest u64.
use Rattle.std.proofs.Common.{◌≡◌, ◌<◌, ◌≤◌, ◌+◌, ◌-◌, ◌*◌, ◌^◌, ℕ, zero, suc, List, drop, length, get_or, ◌∙◌, ap, arith}
use Rattle.std.specs.Prelude.{sum_by}
use Rattle.std.proofs.Common.{Bool, true, false, nat_le}
use Rattle.std.proofs.lemmas.Bool.{leb-true, leb-false}
use Rattle.linear_term.proofs.Totals.{by_test}
use Rattle.std.proofs.lemmas.List.Sums.{sum_by-cons}
use Rattle.base_budget.specs.Trace.{capped}
use Rattle.base_budget.proofs.Charging.{drop-item, drop_all}

-- the capped sum so far, with what is left
pub record Sums {X : Type 0} (f : X → ℕ) (xs : List X) (i sum : ℕ) : Type 0 where
  pub is : capped (sum + sum_by f (drop i xs)) ≡ capped (sum_by f xs)
  pub fits : sum < 2 ^ 64

pub sums_none : {X : Type 0} (f : X → ℕ) (xs : List X) → Sums f xs 0 0
sums_none f xs = record { is = ap capped (omega arith); fits = omega arith }

sums_capped : (s r v w a b c : ℕ) → r ≡ capped (s + v) → v ≡ capped w → a ≡ w + b → capped (s + a) ≡ c → capped (r + b) ≡ c
sums_capped s r v w a b c e f g h = omega arith

pub sums_more : {X : Type 0} (f : X → ℕ) (xs : List X) (i : ℕ) (x : X) (sum new w : ℕ) → i < length xs → x ≡ get_or xs i x → w ≡ capped (f x) → new ≡ capped (sum + w) → Sums f xs i sum → Sums f xs (i + 1) new
sums_more f xs i x sum new w lt is e step h = record {
  is = sums_capped sum new w (f x) (sum_by f (drop i xs)) (sum_by f (drop (i + 1) xs)) (capped (sum_by f xs)) step e (ap (λ z. sum_by f z) (drop-item xs i x lt is) ∙ sum_by-cons f x (drop (i + 1) xs)) h.is;
  fits = omega arith;
}

pub sums_all : {X : Type 0} (f : X → ℕ) (xs : List X) (i sum : ℕ) → length xs ≤ i → Sums f xs i sum → sum ≡ capped (sum_by f xs)
sums_all f xs i sum le h =
    let none : sum_by f (drop i xs) ≡ 0 = ap (λ z. sum_by f z) (drop_all xs i le) in
    let is = h.is in
    let fits = h.fits in
    omega (arith, is, fits, none)

-- a product with a capped number, where it is capped again
pub capped_product : (n w v : ℕ) → v ≡ capped w → capped (n * v) ≡ capped (n * w)
capped_product zero w v e = omega (arith, e)
capped_product (suc n) w v e =
    by_test (λ (b : Bool). capped (suc n * v) ≡ capped (suc n * w)) (nat_le w (2 ^ 64 - 1)) true false
    (λ t. let le : w ≤ 2 ^ 64 - 1 = leb-true _ _ t in let same : v ≡ w = omega (arith, e) in ap (λ z. capped (suc n * z)) same)
    (λ f. let lt : 2 ^ 64 - 1 < w = leb-false _ _ f in let most : v ≡ 2 ^ 64 - 1 = omega (arith, e) in omega (arith, most, lt))

pub ruleset weights = (sums_more, sums_all)

pub ruleset products = (capped_product)
