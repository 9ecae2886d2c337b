-- What the tests of names say, and parts of a call that found something.
use Rattle.std.proofs.Common.{◌≡◌, ℕ, suc, ◌+◌, ◌<◌, ◌≤◌, ℤ, nat_lt, true, List, [], ◌∷◌, All, Option, Some, None, refl, subst, arith}
use Rattle.std.specs.List.{AllByRecursion, list_all}
use Rattle.std.proofs.lemmas.Bool.{and_parts}
use Rattle.std.proofs.lemmas.Bool.Decides.{nat_tests}
use Rattle.std.proofs.lemmas.List.Elements.{All-nil, All-cons}
use Rattle.linear_term.specs.Linear.{Linear, IsOver}
use Rattle.clause_proof.specs.Lines.{found, is_over, are_over}

over_pairs : (n : ℕ) (ps : List (ℕ × ℤ)) → list_all (λ (p : ℕ × ℤ). nat_lt p.0 n) ps ≡ true → All (λ (p : ℕ × ℤ). p.0 < n) ps
over_pairs n [] h = All-nil (λ (p : ℕ × ℤ). p.0 < n)
over_pairs n (p ∷ ps) h =
    let two = and_parts (nat_lt p.0 n) (list_all (λ (q : ℕ × ℤ). nat_lt q.0 n) ps) h in
    let first : nat_lt p.0 n ≡ true = two.0 in
    All-cons (λ (q : ℕ × ℤ). q.0 < n) p ps (below p.0 n first) (over_pairs n ps two.1)
  where
    below : (x n : ℕ) → nat_lt x n ≡ true → x < n
    below x n h = grind (arith, nat_tests)

pub over_is : (n : ℕ) (t : Linear) → is_over n t ≡ true → IsOver n t
over_is n t h = over_pairs n t.pairs h

pub overs_are : (n : ℕ) (ts : List Linear) → are_over n ts ≡ true → AllByRecursion (IsOver n) ts
overs_are n [] h = tt
overs_are n (t ∷ ts) h = let two = and_parts (is_over n t) (are_over n ts) h in (over_is n t two.0, overs_are n ts two.1)

-- what was found first, and what of it
pub record Parts {A B : Type 0} (o : Option A) (f : A → Option B) (y : B) : Type 0 where
  pub one : A
  pub at : o ≡ Some one
  pub rest : f one ≡ Some y

pub parts_of : {A B : Type 0} (o : Option A) (f : A → Option B) (y : B) → found o f ≡ Some y → Parts o f y
parts_of None f y is = absurd (cc)
parts_of (Some x) f y is = record { one = x; at = refl; rest = is }
