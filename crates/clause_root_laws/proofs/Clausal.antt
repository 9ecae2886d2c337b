-- The formula of a disjunction of clauses is true where the disjunction is.
use Rattle.std.proofs.Common.{ℕ, suc, ◌≡◌, ◌<◌, ◌≤◌, ◌↔◌, ◌&&◌, ◌||◌, Bool, true, false, not, cond, nat_eq, nat_lt, List, [], ◌∷◌, ◌++◌, length, map, All, refl, sym, ap, subst, ◌∙◌, arith, ℤ, pos, negsuc, neg_ℤ, ◌+ℤ◌, ◌*ℤ◌, ◌≤ℤ◌, ◌<ℤ◌, int_le}
use Rattle.std.specs.Prelude.{unsigned_abs}
use Rattle.std.proofs.lemmas.Bool.{false≢true}
use Rattle.std.proofs.lemmas.Bool.Decides.{Decides-int_eq, nat_tests}
use Rattle.std.proofs.lemmas.Int.{ints}
use Rattle.std.proofs.lemmas.List.Elements.{All-nil, All-cons, All-head, All-tail}
use lib.IntN.{*ℤ_comm}
use Rattle.base_integers.specs.Divides.{divides}
use Rattle.base_integers.proofs.Divisors.{Divides_from_test, test_from_Divides}
use Rattle.base_integers.proofs.Ring.{neg-mul}
use Rattle.linear_term.specs.Linear.{Linear, value_of, has_name, mentions, IsOver}
use Rattle.linear_term.proofs.Euclid.{positive_size}
use Rattle.linear_term.proofs.Pushed.{value-push, over-push}
use Rattle.form_typed.specs.Truth.{Meaning}
use Rattle.formula.specs.Form.{FormTruth, AreFormsFalse, IsFormOver, AreFormsOver, forms}
use Rattle.formula.proofs.Extending.{value_extends, extends_more, entry_last, over_more}
use Rattle.clause_set.specs.declared.literal.Literal.{Literal}
use Rattle.clause_set.specs.declared.literal.Literal.TheVariants.{Eq, Geq, Div, NDiv}
use Rattle.clause_set.specs.Formed.{IsFormed}
use Rattle.clause_set.specs.Kept.{AreFormed}
use Rattle.clause_set.specs.Literals.{term_of, HasPositiveDivisor, literal_truth, clause_truth, dnf_truth}
use Rattle.elim_laws.specs.Whole.{AreOver, Lacks}
use Rattle.clause_root_laws.specs.Clausal.{AreTermsOver, remainder, literal_form, clause_form, dnf_form}

pub through : {A B C : Type 0} → A ↔ B → B ↔ C → A ↔ C
through f g = (λ a. g.0 (f.0 a), λ c. f.1 (g.1 c))

-- ---- the names of a disjunction over n

rest_lacks : (b r : Bool) → cond b true r ≡ false → r ≡ false
rest_lacks true r h = absurd (cc)
rest_lacks false r h = h

pairs_over : (n : ℕ) (ps : List (ℕ × ℤ)) → ((y : ℕ) → n ≤ y → has_name ps y ≡ false) → All (λ (p : ℕ × ℤ). p.0 < n) ps
pairs_over n [] h = All-nil (λ (p : ℕ × ℤ). p.0 < n)
pairs_over n (p ∷ ps) h = All-cons (λ (q : ℕ × ℤ). q.0 < n) p ps (by (nat_lt p.0 n) refl) (pairs_over n ps (λ y le. rest_lacks (nat_eq p.0 y) (has_name ps y) (h y le)))
  where
    same_name : (x : ℕ) → nat_eq x x ≡ true
    same_name x = grind (arith, nat_tests)

    by : (b : Bool) → nat_lt p.0 n ≡ b → p.0 < n
    by true e = grind (arith, nat_tests)
    by false e =
        let le : n ≤ p.0 = grind (arith, nat_tests) in
        let here = sym (ap (λ b. cond b true (has_name ps p.0)) (same_name p.0)) ∙ h p.0 le in
        absurd (false≢true (sym here))

literals_over : (n : ℕ) (c : List Literal) → ((y : ℕ) → n ≤ y → Lacks y c) → AreTermsOver n c
unfolding mentions
literals_over n [] h = All-nil (λ (l : Literal). IsOver n (term_of l))
literals_over n (l ∷ c) h = All-cons (λ (m : Literal). IsOver n (term_of m)) l c (pairs_over n (term_of l).pairs (λ y le. (h y le).0)) (literals_over n c (λ y le. (h y le).1))

pub clauses_over : (n : ℕ) (d : List (List Literal)) → AreOver n d → All (AreTermsOver n) d
clauses_over n [] h = All-nil (AreTermsOver n)
clauses_over n (c ∷ d) h = All-cons (AreTermsOver n) c d (literals_over n c (λ y le. (h y le).0)) (clauses_over n d (λ y le. (h y le).1))

-- ---- the formula is over n

remainder_over : (n : ℕ) (d : ℤ) (t : Linear) → IsOver n t → IsOver (suc n) (remainder n d t)
remainder_over n d t h = over-push (suc n) t n (neg_ℤ d) (over_more n (suc n) t (omega arith) h) (omega arith)

literal_over : (n : ℕ) (l : Literal) → IsOver n (term_of l) → IsFormOver n (literal_form n l)
literal_over n (Eq t) h = h
literal_over n (Geq t) h = h
literal_over n (Div d t) h = remainder_over n d t h
literal_over n (NDiv d t) h = remainder_over n d t h

clause_over : (n : ℕ) (c : List Literal) → AreTermsOver n c → AreFormsOver n (forms (map (literal_form n) c))
clause_over n [] h = tt
clause_over n (l ∷ c) h =
    (literal_over n l (All-head (λ (m : Literal). IsOver n (term_of m)) l c h), clause_over n c (All-tail (λ (m : Literal). IsOver n (term_of m)) l c h))

all_over : (n : ℕ) (d : List (List Literal)) → All (AreTermsOver n) d → AreFormsOver n (forms (map (clause_form n) d))
all_over n [] h = tt
all_over n (c ∷ d) h = (clause_over n c (All-head (AreTermsOver n) c d h), all_over n d (All-tail (AreTermsOver n) c d h))

pub dnf_over : (n : ℕ) (d : List (List Literal)) → AreOver n d → IsFormOver n (dnf_form n d)
dnf_over n d h = all_over n d (clauses_over n d h)

-- ---- truth

remainder_value : (n : ℕ) (d : ℤ) (t : Linear) (e : List ℤ) (v : ℤ) → length e ≡ n → IsOver n t → value_of (remainder n d t) (e ++ v ∷ []) ≡ value_of t e +ℤ (neg_ℤ d *ℤ v)
remainder_value n d t e v len h =
    value-push t n (neg_ℤ d) (e ++ v ∷ [])
    ∙ (λ i. value_extends n (suc n) e (e ++ v ∷ []) t (extends_more n e v len) h i +ℤ (neg_ℤ d *ℤ entry_last n e v len i))

zero_gives : (z d v r : ℤ) → r ≡ z +ℤ (neg_ℤ d *ℤ v) → r ≡ pos 0 → z ≡ v *ℤ d
zero_gives z d v r is h =
    let turn : neg_ℤ d *ℤ v ≡ neg_ℤ (v *ℤ d) = neg-mul d v ∙ ap neg_ℤ (*ℤ_comm d v) in
    omega (arith, ints, turn, is, h)

zero_from : (z d v r : ℤ) → r ≡ z +ℤ (neg_ℤ d *ℤ v) → z ≡ v *ℤ d → r ≡ pos 0
zero_from z d v r is h =
    let turn : neg_ℤ d *ℤ v ≡ neg_ℤ (v *ℤ d) = neg-mul d v ∙ ap neg_ℤ (*ℤ_comm d v) in
    omega (arith, ints, turn, is, h)

test_stable : (b : Bool) → ¬ (¬ (b ≡ true)) → b ≡ true
test_stable b h = grind arith

-- some q makes t − d·q zero exactly where d divides t
divides_is : (n : ℕ) (d : ℤ) (t : Linear) (e : List ℤ) → length e ≡ n → IsOver n t → pos 0 <ℤ d
    → (¬ ((v : ℤ) → ¬ (value_of (remainder n d t) (e ++ v ∷ []) ≡ pos 0))) ↔ (divides (unsigned_abs d) (value_of t e) ≡ true)
divides_is n d t e len over positive =
    let size : d ≡ pos (unsigned_abs d) = positive_size d (unsigned_abs d) positive refl in (
      λ u. test_stable _ (λ no. u (λ v b. no (test_from_Divides (unsigned_abs d) (value_of t e)
          (record { quotient = v; is = subst (λ k. value_of t e ≡ v *ℤ k) size (zero_gives (value_of t e) d v _ (remainder_value n d t e v len over) b) })))),
      λ b all. let q = Divides_from_test (unsigned_abs d) (value_of t e) b in
          all q.quotient (zero_from (value_of t e) d q.quotient _ (remainder_value n d t e q.quotient len over) (subst (λ k. value_of t e ≡ q.quotient *ℤ k) (sym size) q.is)),
    )

not_true : (b : Bool) → (¬ (b ≡ true)) ↔ (not b ≡ true)
not_true true = (λ h. absurd (h refl), λ h. absurd (false≢true h))
not_true false = (λ h. refl, λ h e. false≢true e)

at_least_zero : (z : ℤ) → (pos 0 ≤ℤ z) ↔ (int_le (pos 0) z ≡ true)
at_least_zero (pos n) = (λ h. grind (arith, nat_tests), λ h. grind (arith, ints))
at_least_zero (negsuc n) = (λ h. absurd (grind (arith, ints)), λ h. absurd (false≢true h))

literal_is : (w : Meaning) (n : ℕ) (l : Literal) (e : List ℤ) → length e ≡ n → IsOver n (term_of l) → HasPositiveDivisor l → FormTruth w (literal_form n l) e ↔ (literal_truth l e ≡ true)
literal_is w n (Eq t) e len over p = let d = Decides-int_eq (value_of t e) (pos 0) in (d.1, d.0)
literal_is w n (Geq t) e len over p = at_least_zero (value_of t e)
literal_is w n (Div d t) e len over p = divides_is n d t e len over p
literal_is w n (NDiv d t) e len over p =
    let i = divides_is n d t e len over p in
    through (λ no b. i.1 b no, λ no v z. no (i.0 (λ all. all v z))) (not_true (divides (unsigned_abs d) (value_of t e)))

both_true : (a b : Bool) → ((a ≡ true) × (b ≡ true)) ↔ ((a && b) ≡ true)
both_true true b = (λ h. h.1, λ h. (refl, h))
both_true false b = (λ h. absurd (false≢true h.0), λ h. absurd (false≢true h))

clause_is : (w : Meaning) (n : ℕ) (c : List Literal) (e : List ℤ) → length e ≡ n → AreTermsOver n c → All IsFormed c → FormTruth w (clause_form n c) e ↔ (clause_truth c e ≡ true)
clause_is w n [] e len over formed = (λ u. refl, λ u. tt)
clause_is w n (l ∷ c) e len over formed =
    let i = literal_is w n l e len (All-head (λ (m : Literal). IsOver n (term_of m)) l c over) (All-head IsFormed l c formed).literal.divisor in
    let j = clause_is w n c e len (All-tail (λ (m : Literal). IsOver n (term_of m)) l c over) (All-tail IsFormed l c formed) in
    through (λ u. (i.0 u.0, j.0 u.1), λ u. (i.1 u.0, j.1 u.1)) (both_true (literal_truth l e) (clause_truth c e))

either_true : (a b : Bool) → ((¬ (a ≡ true)) × (b ≡ false)) ↔ ((a || b) ≡ false)
either_true true b = (λ h. absurd (h.0 refl), λ h. absurd (false≢true (sym h)))
either_true false b = (λ h. h.1, λ h. (false≢true, h))

none_is : (w : Meaning) (n : ℕ) (d : List (List Literal)) (e : List ℤ) → length e ≡ n → All (AreTermsOver n) d → AreFormed d → AreFormsFalse w (forms (map (clause_form n) d)) e ↔ (dnf_truth d e ≡ false)
none_is w n [] e len over formed = (λ u. refl, λ u. tt)
none_is w n (c ∷ d) e len over formed =
    let i = clause_is w n c e len (All-head (AreTermsOver n) c d over) formed.0 in
    let j = none_is w n d e len (All-tail (AreTermsOver n) c d over) formed.1 in
    through (λ u. (λ b. u.0 (i.1 b), j.0 u.1), λ u. (λ b. u.0 (i.0 b), j.1 u.1)) (either_true (clause_truth c e) (dnf_truth d e))

not_false : (b : Bool) → (¬ (b ≡ false)) ↔ (b ≡ true)
not_false true = (λ h. refl, λ h e. false≢true (sym e))
not_false false = (λ h. absurd (h refl), λ h. absurd (false≢true h))

-- the formula of a disjunction of clauses is true where the disjunction is
pub dnf_is : (w : Meaning) (n : ℕ) (d : List (List Literal)) (e : List ℤ) → length e ≡ n → AreFormed d → AreOver n d → FormTruth w (dnf_form n d) e ↔ (dnf_truth d e ≡ true)
dnf_is w n d e len formed over =
    let i = none_is w n d e len (clauses_over n d over) formed in
    through (λ no b. no (i.1 b), λ no u. no (i.0 u)) (not_false (dnf_truth d e))
