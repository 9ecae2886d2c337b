-- The rules of divisibilities at their places in the clause.
use Rattle.std.proofs.Common.{◌≡◌, ◌<◌, ◌+◌, ℕ, zero, suc, true, List, [], ◌∷◌, Some, length, Result, Ok, Err, IsErrAnd, refl, sym, ◌∙◌, ap, subst, arith}
use Rattle.std.specs.Prelude.{All, remove, slice_get}
use Rattle.std.proofs.lemmas.Option.{slice_get_within}
use Rattle.std.proofs.lemmas.List.Edits.{length-remove}
use Rattle.std.proofs.lemmas.List.Elements.{recursion_from_All}
use Rattle.linear_term.specs.Linear.{coef_of}
use Rattle.base_budget.specs.declared.fault.StepFault.{StepFault}
use Rattle.base_budget.specs.declared.log.Entry.TheVariants.{Merge, Shift}
use Rattle.base_budget.specs.Trace.{Funds, pay}
use Rattle.base_budget.specs.Work.{Charged, Worked}
use Rattle.base_budget.proofs.Charging.{then_ok, then_err, free}
use Rattle.clause_set.specs.declared.literal.Literal.{Literal}
use Rattle.clause_set.specs.declared.literal.Literal.TheVariants.{Div}
use Rattle.clause_set.specs.Bezout.{Bezout, bezout}
use Rattle.clause_set.specs.Clause.{IsClause}
use Rattle.clause_set.specs.Formed.{IsFormed, IsNormalized}
use Rattle.clause_set.specs.Literals.{HasDivisor, IsDivisor, term_of}
use Rattle.clause_set.specs.Names.{area}
use Rattle.clause_set.specs.Order.{divisor_of}
use Rattle.clause_set.specs.Divisibilities.{merged, merge_at, merge, shift_by, shift_at, shift}
use Rattle.clause_set.specs.Rules.{applies, rule}
use Rattle.clause_set.proofs.Formed.{clause-is_formed}
use Rattle.clause_set.proofs.Joining.{literals-normalized, removed-normalized}
use Rattle.elim_rule_laws.proofs.Applying.{DivisibilityAt, merge_applies, shift_applies, mentioned-positive}
use Rattle.elim_rule_laws.proofs.EquationLists.{kept-got}
use Rattle.elim_rules.specs.Congruences.{IsCongruence, merged_beside, shifted_beside}
use Rattle.elim_rules.proofs.Calls.{got_same}

-- ---- a divisibility with x in a clause
pub divisibility_below : (x i : ℕ) (c : List Literal) → DivisibilityAt x i c → i < length c
divisibility_below x i c d = slice_get_within c i (Div d.divisor d.term) d.stands

divisibility_is : (x i : ℕ) (c : List Literal) (l : Literal) (d : DivisibilityAt x i c) → slice_get c i ≡ Some l → Div d.divisor d.term ≡ l
divisibility_is x i c l d is = let both : Some (Div d.divisor d.term) ≡ Some l = sym d.stands ∙ is in cc

congruence_in : (x i : ℕ) (c : List Literal) → IsClause c → (d : DivisibilityAt x i c) → IsCongruence x (Div d.divisor d.term)
congruence_in x i c h d =
    let formed = kept-got IsFormed c i (Div d.divisor d.term) d.stands (recursion_from_All IsFormed c (clause-is_formed c h)) in
    let divisor : IsDivisor d.divisor = kept-got HasDivisor c i (Div d.divisor d.term) d.stands (recursion_from_All HasDivisor c h.divisors) in
    record { divisor = divisor; coefficient = mentioned-positive d.term x formed.literal.term formed.coefficients d.mentioned }

pub congruence_at : (x i : ℕ) (c : List Literal) (l : Literal) → IsClause c → DivisibilityAt x i c → slice_get c i ≡ Some l → IsCongruence x l
congruence_at x i c l h d is = subst (IsCongruence x) (divisibility_is x i c l d is) (congruence_in x i c h d)

-- ---- two of them
got_before : (c : List Literal) (i j : ℕ) → i < j → slice_get (remove c j) i ≡ slice_get c i
got_before c i zero lt = absurd (omega (arith, lt))
got_before [] i (suc j) lt = refl
got_before (l ∷ c) zero (suc j) lt = refl
got_before (l ∷ c) (suc i) (suc j) lt = got_before c i j (omega (arith, lt))

pub first_below : (x i j : ℕ) (c : List Literal) → applies x c (Merge i j) ≡ true → i < length c
first_below x i j c h = divisibility_below x i c (merge_applies x i j c h).first

pub second_below : (x i j : ℕ) (c ls : List Literal) → applies x c (Merge i j) ≡ true → ls ≡ c → j < length ls
second_below x i j c ls h same = subst (λ z. j < length z) (sym same) (divisibility_below x j c (merge_applies x i j c h).second)

pub first_before : (x i j : ℕ) (c : List Literal) → applies x c (Merge i j) ≡ true → i < j
first_before x i j c h = (merge_applies x i j c h).before

pub first_left : (x i j : ℕ) (c ls others : List Literal) → applies x c (Merge i j) ≡ true → ls ≡ c → others ≡ remove ls j → i < length others
first_left x i j c ls others h same is =
    let before = first_before x i j c h in
    let within = second_below x i j c ls h same in
    let long : length others + 1 ≡ length ls = ap (λ z. length z + 1) is ∙ length-remove ls j within in
    omega (arith, before, within, long)

-- the literals at i and j, taken out of the clause, and the others
pub record AreTaken (i j : ℕ) (c rest : List Literal) (l m : Literal) : Type 0 where
  pub first : slice_get c i ≡ Some l
  pub second : slice_get c j ≡ Some m
  pub others : rest ≡ remove (remove c j) i

pub both_taken : (x i j : ℕ) (c ls others rest : List Literal) (l m : Literal) → applies x c (Merge i j) ≡ true → ls ≡ c → slice_get ls j ≡ Some m → others ≡ remove ls j → slice_get others i ≡ Some l
    → rest ≡ remove others i → AreTaken i j c rest l m
both_taken x i j c ls others rest l m h same is_m left is_l last = record {
  first = sym (got_before c i j (first_before x i j c h)) ∙ ap (λ z. slice_get (remove z j) i) (sym same) ∙ ap (λ z. slice_get z i) (sym left) ∙ is_l;
  second = got_same j c ls m same is_m;
  others = last ∙ ap (λ z. remove z i) left ∙ ap (λ z. remove (remove z j) i) same;
}

pub two_normalized : (i j : ℕ) (ls others rest : List Literal) → IsClause ls → others ≡ remove ls j → rest ≡ remove others i → All IsNormalized rest
two_normalized i j ls others rest h left last = removed-normalized others rest i (removed-normalized ls others j (literals-normalized ls ls h refl) left) last

pub merge_work : (x i j : ℕ) (c rest : List Literal) (l m : Literal) {old paid : Funds} {v : Unit {0}} (r : Result (List (List Literal)) StepFault) → applies x c (Merge i j) ≡ true → AreTaken i j c rest l m
    → Charged (pay (1 + area (length c) c)) old (Ok v) paid → Worked (merged_beside x rest l m) r → Charged (rule x c (Merge i j)) old r paid
unfolding rule merge
merge_work x i j c rest l m {old} {paid} r h taken first w =
    let p = merge_applies x i j c h in
    let done : Charged (merged x c rest (divisor_of l) (term_of l) (divisor_of m) (term_of m)) old r paid = then_ok _ _ first (free r w) in
    subst (λ z. Charged (merge_at x c z (slice_get c i) (slice_get c j)) old r paid) taken.others
    (subst (λ o. Charged (merge_at x c rest o (slice_get c j)) old r paid) (sym (p.first).stands)
    (subst (λ o. Charged (merge_at x c rest (Some (Div (p.first).divisor (p.first).term)) o) old r paid) (sym (p.second).stands)
    (subst (λ z. Charged (merged x c rest (divisor_of z) (term_of z) (p.second).divisor (p.second).term) old r paid) (sym (divisibility_is x i c l p.first taken.first))
    (subst (λ z. Charged (merged x c rest (divisor_of l) (term_of l) (divisor_of z) (term_of z)) old r paid) (sym (divisibility_is x j c m p.second taken.second)) done))))

pub merge_refused : (x i j : ℕ) (c : List Literal) {old paid : Funds} {e : StepFault} (r : Result (List (List Literal)) StepFault) → applies x c (Merge i j) ≡ true → IsErrAnd r (λ z. z ≡ e)
    → Charged (pay (1 + area (length c) c)) old (Err e) paid → Charged (rule x c (Merge i j)) old r paid
unfolding rule merge
merge_refused x i j c {old} {paid} r h fails w =
    let p = merge_applies x i j c h in
    subst (λ o. Charged (merge_at x c (remove (remove c j) i) o (slice_get c j)) old r paid) (sym (p.first).stands)
    (subst (λ o. Charged (merge_at x c (remove (remove c j) i) (Some (Div (p.first).divisor (p.first).term)) o) old r paid) (sym (p.second).stands) (then_err _ _ r fails w))

-- ---- the only one
pub shift_below : (x i : ℕ) (c : List Literal) → applies x c (Shift i) ≡ true → i < length c
shift_below x i c h = divisibility_below x i c (shift_applies x i c h).literal

pub shift_work : (x i : ℕ) (c ls rest : List Literal) (l : Literal) (z : Bezout) {old paid : Funds} {v : Unit {0}} (r : Result (List (List Literal)) StepFault) → applies x c (Shift i) ≡ true → ls ≡ c
    → slice_get ls i ≡ Some l → rest ≡ remove ls i → z ≡ bezout (coef_of (term_of l) x) (divisor_of l) → Charged (pay (1 + area (length c) c)) old (Ok v) paid → Worked (shifted_beside x rest z l) r
    → Charged (rule x c (Shift i)) old r paid
unfolding rule shift
shift_work x i c ls rest l z {old} {paid} r h same is_l is is_z first w =
    let d = (shift_applies x i c h).literal in
    let this = divisibility_is x i c l d (got_same i c ls l same is_l) in
    let done : Charged (shift_by x c rest (divisor_of l) z (term_of l)) old r paid = then_ok _ _ first (free r w) in
    let at_bezout : Charged (shift_by x c (remove c i) (divisor_of l) (bezout (coef_of (term_of l) x) (divisor_of l)) (term_of l)) old r paid =
    subst (λ k. Charged (shift_by x c (remove c i) (divisor_of l) k (term_of l)) old r paid) is_z
    (subst (λ k. Charged (shift_by x c k (divisor_of l) z (term_of l)) old r paid) (is ∙ ap (λ k. remove k i) same) done) in
    subst (λ o. Charged (shift_at x c (remove c i) o) old r paid) (sym d.stands)
    (subst (λ k. Charged (shift_by x c (remove c i) (divisor_of k) (bezout (coef_of (term_of k) x) (divisor_of k)) (term_of k)) old r paid) (sym this) at_bezout)

pub shift_refused : (x i : ℕ) (c : List Literal) {old paid : Funds} {e : StepFault} (r : Result (List (List Literal)) StepFault) → applies x c (Shift i) ≡ true → IsErrAnd r (λ z. z ≡ e)
    → Charged (pay (1 + area (length c) c)) old (Err e) paid → Charged (rule x c (Shift i)) old r paid
unfolding rule shift
shift_refused x i c {old} {paid} r h fails w = subst (λ o. Charged (shift_at x c (remove c i) o) old r paid) (sym (shift_applies x i c h).literal.stands) (then_err _ _ r fails w)
