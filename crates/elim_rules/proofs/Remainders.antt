-- The clauses of the remainders of a negated divisibility, and their charge.
use Rattle.std.proofs.Common.{◌≡◌, ◌≢◌, ◌<◌, ◌≤◌, ◌+◌, ◌-◌, ◌*◌, ℕ, suc, refl, ℤ, pos, true, List, [], ◌∷◌, Some, length, Result, Ok, Err, IsErrAnd, unsigned_abs, sym, ◌∙◌, ap, subst, arith}
use Rattle.std.specs.Prelude.{All, remove, slice_get, ◌++◌}
use Rattle.std.proofs.lemmas.Option.{slice_get_within}
use Rattle.std.proofs.lemmas.List.Elements.{recursion_from_All}
use Rattle.linear_term.specs.Linear.{Linear, number}
use Rattle.base_budget.specs.declared.fault.StepFault.{StepFault}
use Rattle.base_budget.specs.declared.log.Entry.TheVariants.{Apart}
use Rattle.base_budget.specs.Trace.{Funds, Traced, capped, just, next, pay, each}
use Rattle.base_budget.specs.Work.{Charged, Worked}
use Rattle.base_budget.proofs.Charging.{Left, then_ok, then_err, free, work_ok, work_err, work_just, left_all, left_next, left_ends}
use Rattle.base_budget.proofs.Tracing.{next-same}
use Rattle.clause_set.specs.declared.literal.Literal.{Literal}
use Rattle.clause_set.specs.declared.literal.Literal.TheVariants.{Div, NDiv}
use Rattle.clause_set.specs.Clauses.{clauses_of, found}
use Rattle.clause_set.specs.Divisibilities.{numbers_from, with_remainder, apart_at, apart}
use Rattle.base_budget.specs.Trace.{combining}
use Rattle.clause_set.specs.Literals.{HasDivisor, IsDivisor, term_of}
use Rattle.clause_set.specs.Names.{area}
use Rattle.clause_set.specs.Order.{divisor_of}
use Rattle.clause_set.specs.Rules.{applies, rule}
use Rattle.clause_set.specs.Clause.{IsClause}
use Rattle.clause_set.specs.Formed.{IsNormalized}
use Rattle.clause_set.proofs.Joining.{clause_of-set, literals-normalized, removed-normalized}
use Rattle.clause_set.proofs.Weights.{capped_product}
use Rattle.elim_rule_laws.proofs.Applying.{IndivisibilityAt, apart_applies}
use Rattle.elim_rule_laws.proofs.EquationLists.{kept-got}
use Rattle.elim_rules.specs.Congruences.{remainder_beside}
use Rattle.elim_rules.proofs.Calls.{got_same}
use Rattle.elim_rules.proofs.Steps.{one_divisor}

-- the product of capped numbers, capped again
product_of_capped : (n m k l : ℕ) → n ≡ capped k → m ≡ capped l → capped (n * m) ≡ capped (k * l)
product_of_capped n m k l f g =
    let first : n * l ≡ l * n = omega arith in
    let second : l * k ≡ k * l = omega arith in
    capped_product n l m g ∙ ap capped first ∙ capped_product l k n f ∙ ap capped second

pub charge_is : (count places product total k a : ℕ) → count ≡ capped k → places ≡ capped a → product ≡ capped (count * places) → total ≡ capped (product + 1) → total ≡ capped (1 + k * a)
charge_is count places product total k a c p w t =
    let whole : product ≡ capped (k * a) = w ∙ product_of_capped count places k a c p in
    omega (arith, whole, t)

-- ---- one remainder
pub remainder_failed : (rest : List Literal) (l : Literal) (u k : Linear) (r : ℕ) (e : StepFault) (result : Result (List (List Literal)) StepFault) → u ≡ term_of l → k ≡ number (pos r)
    → Worked (combining (pos 1) u (pos 1) k) (Err e) → IsErrAnd result (λ z. z ≡ e) → Worked (remainder_beside rest l r) result
remainder_failed rest l u k r e result is_u is_k w h =
    work_err _ _ result h (subst (λ z. Worked (combining (pos 1) z (pos 1) (number (pos r))) (Err e)) is_u (subst (λ z. Worked (combining (pos 1) u (pos 1) z) (Err e)) is_k w))

pub remainder_done : (rest new : List Literal) (l : Literal) (n : ℤ) (u k s : Linear) (r : ℕ) (value : List (List Literal)) → u ≡ term_of l → k ≡ number (pos r)
    → Worked (combining (pos 1) u (pos 1) k) (Ok s) → n ≡ divisor_of l → new ≡ Div n s ∷ [] → value ≡ clauses_of ((rest ++ new) ∷ []) → Worked (remainder_beside rest l r) (Ok value)
remainder_done rest new l n u k s r value is_u is_k w is_d is_new formed =
    work_ok _ _ (subst (λ z. Worked (combining (pos 1) z (pos 1) (number (pos r))) (Ok s)) is_u (subst (λ z. Worked (combining (pos 1) u (pos 1) z) (Ok s)) is_k w))
    (work_just _ _ (formed ∙ ap (λ z. clauses_of ((rest ++ z) ∷ [])) (is_new ∙ ap (λ z. Div z s ∷ []) is_d)))

-- beside copies of the other literals
pub remainder_copied : (rest copy : List Literal) (l : Literal) (r : ℕ) (result : Result (List (List Literal)) StepFault) → copy ≡ rest → Worked (remainder_beside copy l r) result → Worked (remainder_beside rest l r) result
remainder_copied rest copy l r result same w = subst (λ z. Worked (remainder_beside z l r) result) same w

-- in the place of its literal and beside the other ones
remainder_same : (i : ℕ) (c : List Literal) (l : Literal) (r : ℕ) → i < length c → remainder_beside (remove c i) l r ≡ with_remainder i c (divisor_of l) (term_of l) r
remainder_same i c l r lt = next-same (combining (pos 1) (term_of l) (pos 1) (number (pos r))) _ _ (ap (λ o. just (found o ++ [])) (clause_of-set c i (Div (divisor_of l) _) lt))

remainders_same : (i : ℕ) (c : List Literal) (l : Literal) → i < length c → (rs : List ℕ) (out : List (List Literal))
    → each (remainder_beside (remove c i) l) rs out ≡ each (with_remainder i c (divisor_of l) (term_of l)) rs out
remainders_same i c l lt [] out = refl
remainders_same i c l lt (r ∷ rs) out =
    ap (λ m. next m (λ ds. each (remainder_beside (remove c i) l) rs (out ++ ds))) (remainder_same i c l r lt)
    ∙ next-same (with_remainder i c (divisor_of l) (term_of l) r) _ _ (remainders_same i c l lt rs (out ++ (with_remainder i c (divisor_of l) (term_of l) r).value))

pub new_divisor : (new : List Literal) (d n : ℤ) (s : Linear) → IsDivisor d → n ≡ d → new ≡ Div n s ∷ [] → All HasDivisor new
new_divisor new d n s divisor is_d is_new = one_divisor (Div n s) new is_new (subst IsDivisor (sym is_d) divisor)

-- ---- all of them
module _ (f : ℕ → Traced (List (List Literal))) where
  pub remainders_begin : (count : ℕ) (out : List (List Literal)) → count ≢ 0 → out ≡ [] → Left (each f (numbers_from 1 (suc (count - 1))) out) (each f (numbers_from 1 count) []) × (1 ≤ count)
  remainders_begin count out some none =
      let whole : suc (count - 1) ≡ count = omega (arith, some) in
      (subst (λ z. Left (each f (numbers_from 1 z) out) (each f (numbers_from 1 count) [])) (sym whole) (subst (λ z. Left (each f (numbers_from 1 count) z) (each f (numbers_from 1 count) [])) (sym none) (left_all _)), omega (arith, some))

  pub remainders_more : (r count : ℕ) (out new ds : List (List Literal)) {work : Traced (List (List Literal))} → r < count → Left (each f (numbers_from r (suc (count - r))) out) work → Worked (f r) (Ok ds) → new ≡ out ++ ds
      → Left (each f (numbers_from (r + 1) (suc (count - (r + 1)))) new) work
  remainders_more r count out new ds {work} lt inv did is =
      let left : count - r ≡ suc (count - (r + 1)) = omega (arith, lt) in
      let next : suc r ≡ r + 1 = omega arith in
      subst (λ z. Left (each f (numbers_from z (suc (count - (r + 1)))) new) work) next
      (subst (λ n. Left (each f (numbers_from (suc r) n) new) work) left (subst (λ o. Left (each f (numbers_from (suc r) (count - r)) o) work) (sym is) (left_next (f r) _ inv did)))

  pub remainders_fail : (r count : ℕ) (out : List (List Literal)) {e : StepFault} {work : Traced (List (List Literal))} (result : Result (List (List Literal)) StepFault) → Left (each f (numbers_from r (suc (count - r))) out) work
      → IsErrAnd result (λ z. z ≡ e) → Worked (f r) (Err e) → Worked work result
  remainders_fail r count out result inv h did = left_ends inv (work_err (f r) _ result h did)

  -- the last one
  last_is : (r count : ℕ) → r ≤ count → count ≤ r → numbers_from r (suc (count - r)) ≡ count ∷ []
  last_is r count le ge =
      let none : count - r ≡ 0 = omega (arith, le, ge) in
      let same : r ≡ count = omega (arith, le, ge) in
      ap (λ n. r ∷ numbers_from (suc r) n) none ∙ ap (λ k. k ∷ []) same

  pub remainders_last : (r count : ℕ) (out new ds : List (List Literal)) {work : Traced (List (List Literal))} → r ≤ count → count ≤ r → Left (each f (numbers_from r (suc (count - r))) out) work → Worked (f count) (Ok ds) → new ≡ out ++ ds
      → Worked work (Ok new)
  remainders_last r count out new ds {work} le ge inv did is =
      left_ends (subst (λ z. Left (each f z out) work) (last_is r count le ge) inv) (work_ok (f count) _ did (work_just _ _ is))

  pub remainders_fail_last : (r count : ℕ) (out : List (List Literal)) {e : StepFault} {work : Traced (List (List Literal))} (result : Result (List (List Literal)) StepFault) → r ≤ count → count ≤ r
      → Left (each f (numbers_from r (suc (count - r))) out) work → IsErrAnd result (λ z. z ≡ e) → Worked (f count) (Err e) → Worked work result
  remainders_fail_last r count out {work = work} result le ge inv h did = left_ends (subst (λ z. Left (each f z out) work) (last_is r count le ge) inv) (work_err (f count) _ result h did)

-- ---- in the clause
indivisibility_is : (x i : ℕ) (c : List Literal) (l : Literal) (d : IndivisibilityAt x i c) → slice_get c i ≡ Some l → NDiv d.divisor d.term ≡ l
indivisibility_is x i c l d is = let both : Some (NDiv d.divisor d.term) ≡ Some l = sym d.stands ∙ is in cc

pub apart_below : (x i : ℕ) (c : List Literal) → applies x c (Apart i) ≡ true → i < length c
apart_below x i c h = let d = apart_applies x i c h in slice_get_within c i (NDiv d.divisor d.term) d.stands

pub apart_divisor : (x i : ℕ) (c : List Literal) (l : Literal) → All HasDivisor c → applies x c (Apart i) ≡ true → slice_get c i ≡ Some l → IsDivisor (divisor_of l)
apart_divisor x i c l divisors h is =
    let d = apart_applies x i c h in
    let divisor : IsDivisor d.divisor = kept-got HasDivisor c i (NDiv d.divisor d.term) d.stands (recursion_from_All HasDivisor c divisors) in
    subst (λ k. IsDivisor (divisor_of k)) (indivisibility_is x i c l d is) divisor

pub apart_work : (x i : ℕ) (c : List Literal) (l : Literal) (old new : Funds) (r : Result (List (List Literal)) StepFault) → applies x c (Apart i) ≡ true → slice_get c i ≡ Some l
    → Charged (apart_at i c (Some (NDiv (divisor_of l) (term_of l)))) old r new → Charged (rule x c (Apart i)) old r new
unfolding rule apart
apart_work x i c l old new r h is w =
    let d = apart_applies x i c h in
    subst (λ o. Charged (apart_at i c o) old r new) (sym d.stands)
    (subst (λ k. Charged (apart_at i c (Some (NDiv (divisor_of k) (term_of k)))) old r new) (sym (indivisibility_is x i c l d is)) w)

pub by_count : (i : ℕ) (c : List Literal) (d : ℤ) (t : Linear) (k : ℕ) (old new : Funds) (r : Result (List (List Literal)) StepFault) → k ≡ unsigned_abs d - 1
    → Charged (next (pay (1 + k * area (length c) c)) (λ _. each (with_remainder i c d t) (numbers_from 1 k) [])) old r new → Charged (apart_at i c (Some (NDiv d t))) old r new
by_count i c d t k old new r is w = subst (λ n. Charged (next (pay (1 + n * area (length c) c)) (λ _. each (with_remainder i c d t) (numbers_from 1 n) [])) old r new) is w

pub apart_refused : (x i : ℕ) (c : List Literal) (l : Literal) (k : ℕ) {old paid : Funds} {e : StepFault} (r : Result (List (List Literal)) StepFault) → applies x c (Apart i) ≡ true → slice_get c i ≡ Some l
    → k ≡ unsigned_abs (divisor_of l) - 1 → IsErrAnd r (λ z. z ≡ e) → Charged (pay (1 + k * area (length c) c)) old (Err e) paid → Charged (rule x c (Apart i)) old r paid
apart_refused x i c l k r h is is_k fails w = apart_work x i c l _ _ r h is (by_count i c (divisor_of l) (term_of l) k _ _ r is_k (then_err _ _ r fails w))

-- the literal that was looked at is the one that is taken out
pub apart_done : (x i : ℕ) (c ls rest : List Literal) (l m : Literal) (k : ℕ) {old paid : Funds} {v : Unit {0}} (r : Result (List (List Literal)) StepFault) → applies x c (Apart i) ≡ true → slice_get c i ≡ Some l
    → k ≡ unsigned_abs (divisor_of l) - 1 → ls ≡ c → slice_get ls i ≡ Some m → rest ≡ remove ls i → Charged (pay (1 + k * area (length c) c)) old (Ok v) paid
    → Worked (each (remainder_beside rest m) (numbers_from 1 k) []) r → Charged (rule x c (Apart i)) old r paid
apart_done x i c ls rest l m k r h is is_k same is_m is_rest first w =
    let one : l ≡ m = let both : Some l ≡ Some m = sym is ∙ got_same i c ls m same is_m in cc in
    let beside : Worked (each (remainder_beside (remove c i) l) (numbers_from 1 k) []) r =
    subst (λ z. Worked (each (remainder_beside z l) (numbers_from 1 k) []) r) (is_rest ∙ ap (λ z. remove z i) same) (subst (λ z. Worked (each (remainder_beside rest z) (numbers_from 1 k) []) r) (sym one) w) in
    apart_work x i c l _ _ r h is
    (by_count i c (divisor_of l) (term_of l) k _ _ r is_k (then_ok _ _ first (free r (subst (λ z. Worked z r) (remainders_same i c l (apart_below x i c h) (numbers_from 1 k) []) beside))))

pub apart_normalized : (i : ℕ) (ls rest : List Literal) → IsClause ls → rest ≡ remove ls i → All IsNormalized rest
apart_normalized i ls rest h is = removed-normalized ls rest i (literals-normalized ls ls h refl) is

pub count_is : (d e : ℤ) (n : ℕ) → n ≡ unsigned_abs d → d ≡ e → n - 1 ≡ unsigned_abs e - 1
count_is d e n h is = ap (λ z. z - 1) (h ∙ ap unsigned_abs is)
