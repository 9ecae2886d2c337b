-- The nearest of several numbers, found one by one; remainders in the range.
use Rattle.std.proofs.Common.{◌≡◌, ◌+◌, ◌<◌, ◌≤◌, ℕ, ℤ, pos, ◌+ℤ◌, ◌-ℤ◌, ◌<ℤ◌, true, false, cond, nat_lt, List, [], ◌∷◌, length, get_or, drop, sym, ◌∙◌, ap, arith, refl}
use Rattle.std.specs.Int.{int_rem_euclid}
use Rattle.std.proofs.lemmas.Int.{ints}
use Rattle.std.proofs.lemmas.List.{drop_more}
use Rattle.base_budget.proofs.Charging.{drop_all}
use Rattle.base_integers.proofs.Residues.{residue-is, residue-only}
use Rattle.base_integers.proofs.Ring.{add-mul}
use Rattle.linear_term.specs.Range.{InRange}
use Rattle.clause_set.specs.Literals.{IsDivisor}
use Rattle.clause_set.proofs.Quotients.{rem_in_range}
use Rattle.solve_laws.specs.Best.{rank}
use Rattle.solve_laws.specs.Nearest.{nearer, nearest_of, nearest}
use Rattle.solve_laws.proofs.Ranks.{rank-up}

-- the remainder of a difference is that of the difference of a remainder
pub rem-rem : (a r m : ℤ) → pos 0 <ℤ m → int_rem_euclid (int_rem_euclid a m -ℤ r) m ≡ int_rem_euclid (a -ℤ r) m
rem-rem a r m h =
    let one = residue-is m a h in
    let two = residue-is m (a -ℤ r) h in
    let three = residue-is m (int_rem_euclid a m -ℤ r) h in
    residue-only m (a -ℤ r) (int_rem_euclid (int_rem_euclid a m -ℤ r) m) (int_rem_euclid (a -ℤ r) m) h
    (record {
      not_negative = three.not_negative;
      below = three.below;
      congruent = record {
        quotient = (one.congruent).quotient +ℤ (three.congruent).quotient;
        is = omega (arith, ints, (one.congruent).is, (three.congruent).is, add-mul (one.congruent).quotient (three.congruent).quotient m);
      };
    })
    two

pub rem-range : (a m : ℤ) → IsDivisor m → InRange (int_rem_euclid a m)
rem-range a m h = rem_in_range a m h

pub ruleset remainders = (rem-rem, rem-range)

pub ruleset ranks = (rank-up)

nearest_drop : (vs : List ℤ) (i : ℕ) (b : ℤ) → i < length vs → nearest_of b (drop i vs) ≡ nearest_of (nearer (get_or vs i (pos 0)) b) (drop (i + 1) vs)
nearest_drop vs i b lt = ap (nearest_of b) (drop_more vs i (pos 0) lt)

pub nearest_yes : (vs : List ℤ) (i : ℕ) (b v n : ℤ) → i < length vs → v ≡ get_or vs i (pos 0) → nat_lt (rank v) (rank b) ≡ true → nearest_of b (drop i vs) ≡ n → nearest_of v (drop (i + 1) vs) ≡ n
nearest_yes vs i b v n lt is t h =
    ap (λ k. nearest_of k (drop (i + 1) vs)) (sym (ap (λ y. cond y v b) t)) ∙ ap (λ w. nearest_of (nearer w b) (drop (i + 1) vs)) is ∙ sym (nearest_drop vs i b lt) ∙ h

pub nearest_no : (vs : List ℤ) (i : ℕ) (b v n : ℤ) → i < length vs → v ≡ get_or vs i (pos 0) → nat_lt (rank v) (rank b) ≡ false → nearest_of b (drop i vs) ≡ n → nearest_of b (drop (i + 1) vs) ≡ n
nearest_no vs i b v n lt is t h =
    ap (λ k. nearest_of k (drop (i + 1) vs)) (sym (ap (λ y. cond y v b) t)) ∙ ap (λ w. nearest_of (nearer w b) (drop (i + 1) vs)) is ∙ sym (nearest_drop vs i b lt) ∙ h

pub nearest_first : (vs : List ℤ) (v : ℤ) → 0 < length vs → v ≡ get_or vs 0 (pos 0) → nearest_of v (drop 1 vs) ≡ nearest vs
nearest_first [] v lt is = absurd (omega arith)
nearest_first (w ∷ vs) v lt is = ap (λ k. nearest_of k vs) is

pub nearest_done : (vs : List ℤ) (i : ℕ) (b n : ℤ) → length vs ≤ i → nearest_of b (drop i vs) ≡ n → b ≡ n
nearest_done vs i b n le h = sym (ap (nearest_of b) (drop_all vs i le)) ∙ h

pub nearest_empty : (vs : List ℤ) → length vs ≡ 0 → nearest vs ≡ pos 0
nearest_empty [] e = refl
nearest_empty (v ∷ vs) e = absurd (omega arith)

pub ruleset nearest_steps = (nearest_yes, nearest_no, nearest_first, nearest_done, nearest_empty)
