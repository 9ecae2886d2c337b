-- Numbers, terms and literals of two divisibilities.
use Rattle.std.proofs.Common.{◌≡◌, ℕ, ℤ, pos, neg_ℤ, ◌*ℤ◌, ◌<ℤ◌, true, false, List, [], ◌∷◌, ◌++◌, Ok, Result, refl, sym, ◌∙◌, ap, subst}
use Rattle.linear_term.specs.Linear.{Linear, coef_of, without, mentions}
use Rattle.linear_term.specs.Range.{stays, all_stay}
use Rattle.linear_term.specs.declared.range.Place.{Place}
use Rattle.base_budget.specs.declared.fault.StepFault.{StepFault}
use Rattle.base_budget.specs.Trace.{compute}
use Rattle.base_budget.specs.Work.{Worked}
use Rattle.base_budget.proofs.Charging.{raw_ok, worked_value}
use Rattle.base_budget.proofs.Tracing.{value-step}
use Rattle.clause_set.specs.declared.literal.Literal.{Literal}
use Rattle.clause_set.specs.declared.literal.Literal.TheVariants.{Div}
use Rattle.clause_set.specs.Bezout.{Bezout, bezout}
use Rattle.clause_set.specs.Clauses.{clauses_of, found}
use Rattle.clause_set.proofs.Joining.{clause_of-turned}
use Rattle.clause_set.specs.Divisibilities.{with_name}
use Rattle.base_budget.specs.Trace.{combining}
use Rattle.clause_set.specs.Literals.{IsDivisor, term_of}
use Rattle.clause_set.specs.Names.{product}
use Rattle.clause_set.specs.Order.{divisor_of}
use Rattle.elim_rules.specs.Congruences.{IsCongruence, merge_numbers}
use Rattle.elim_rules.proofs.Named.{combination-free}
use Rattle.elim_rules.proofs.Products.{third_of_three, divisor_product, positive_product, first_of_two, second_of_two, first_of_three, second_of_three}

-- the numbers of l and m
pub record IsPair (x : ℕ) (l m : Literal) (a1 d1 a2 d2 : ℤ) : Type 0 where
  pub a1_is : a1 ≡ coef_of (term_of l) x
  pub d1_is : d1 ≡ divisor_of l
  pub a2_is : a2 ≡ coef_of (term_of m) x
  pub d2_is : d2 ≡ divisor_of m

pub pair : (x : ℕ) (l m : Literal) (t u : Linear) (a1 d1 a2 d2 : ℤ) → t ≡ term_of l → u ≡ term_of m → a1 ≡ coef_of t x → a2 ≡ coef_of u x → d1 ≡ divisor_of l → d2 ≡ divisor_of m
    → IsPair x l m a1 d1 a2 d2
pair x l m t u a1 d1 a2 d2 is_t is_u a b d e = record { a1_is = a ∙ ap (λ z. coef_of z x) is_t; d1_is = d; a2_is = b ∙ ap (λ z. coef_of z x) is_u; d2_is = e }

product_at : (p : Place) (m a n b : ℤ) → p ≡ product m a → m ≡ n → a ≡ b → p ≡ product n b
product_at p m a n b is h k = is ∙ ap (λ z. product z a) h ∙ ap (product n) k

joint_numbers : (x : ℕ) (l m : Literal) (a1 d1 a2 d2 : ℤ) (p q r : Place) → IsPair x l m a1 d1 a2 d2 → p ≡ product a1 d2 → q ≡ product a2 d1 → r ≡ product d1 d2
    → p ∷ q ∷ r ∷ [] ≡ merge_numbers (coef_of (term_of l) x) (divisor_of l) (coef_of (term_of m) x) (divisor_of m)
joint_numbers x l m a1 d1 a2 d2 p q r h is_p is_q is_r =
    ap (λ z. z ∷ q ∷ r ∷ []) (product_at p a1 d2 (coef_of (term_of l) x) (divisor_of m) is_p h.a1_is h.d2_is)
    ∙ ap (λ z. product (coef_of (term_of l) x) (divisor_of m) ∷ z ∷ r ∷ []) (product_at q a2 d1 (coef_of (term_of m) x) (divisor_of l) is_q h.a2_is h.d1_is)
    ∙ ap (λ z. product (coef_of (term_of l) x) (divisor_of m) ∷ product (coef_of (term_of m) x) (divisor_of l) ∷ z ∷ [])
    (product_at r d1 d2 (divisor_of l) (divisor_of m) is_r h.d1_is h.d2_is)

pub joint_work : (x : ℕ) (l m : Literal) (a1 d1 a2 d2 : ℤ) (p q r : Place) → IsPair x l m a1 d1 a2 d2 → p ≡ product a1 d2 → q ≡ product a2 d1 → r ≡ product d1 d2 → all_stay (p ∷ q ∷ r ∷ []) ≡ true
    → Worked (compute (merge_numbers (coef_of (term_of l) x) (divisor_of l) (coef_of (term_of m) x) (divisor_of m))) (Ok (tt {0}))
joint_work x l m a1 d1 a2 d2 p q r h is_p is_q is_r stay = raw_ok _ tt tt (sym (ap all_stay (joint_numbers x l m a1 d1 a2 d2 p q r h is_p is_q is_r)) ∙ stay) refl

pub joint_product : (x : ℕ) (l m : Literal) (a1 d1 a2 d2 : ℤ) (p q r : Place) → IsPair x l m a1 d1 a2 d2 → r ≡ product d1 d2 → all_stay (p ∷ q ∷ r ∷ []) ≡ true
    → stays (product (divisor_of l) (divisor_of m)) ≡ true
joint_product x l m a1 d1 a2 d2 p q r h is stay =
    sym (ap stays (product_at r d1 d2 (divisor_of l) (divisor_of m) is h.d1_is h.d2_is)) ∙ third_of_three p q r stay

pub left_positive : (x : ℕ) (l m : Literal) (a1 d1 a2 d2 n : ℤ) → IsPair x l m a1 d1 a2 d2 → IsCongruence x l → IsCongruence x m → n ≡ a1 *ℤ d2 → pos 0 <ℤ n
left_positive x l m a1 d1 a2 d2 n h f g is =
    subst (λ z. pos 0 <ℤ z) (sym (is ∙ ap (λ z. z *ℤ d2) h.a1_is ∙ ap (λ z. coef_of (term_of l) x *ℤ z) h.d2_is))
    (positive_product (coef_of (term_of l) x) (divisor_of m) f.coefficient g.divisor.positive)

pub right_positive : (x : ℕ) (l m : Literal) (a1 d1 a2 d2 n : ℤ) → IsPair x l m a1 d1 a2 d2 → IsCongruence x l → IsCongruence x m → n ≡ a2 *ℤ d1 → pos 0 <ℤ n
right_positive x l m a1 d1 a2 d2 n h f g is =
    subst (λ z. pos 0 <ℤ z) (sym (is ∙ ap (λ z. z *ℤ d1) h.a2_is ∙ ap (λ z. coef_of (term_of m) x *ℤ z) h.d1_is))
    (positive_product (coef_of (term_of m) x) (divisor_of l) g.coefficient f.divisor.positive)

pub joint_bezout : (x : ℕ) (l m : Literal) (a1 d1 a2 d2 n k : ℤ) (z : Bezout) → IsPair x l m a1 d1 a2 d2 → n ≡ a1 *ℤ d2 → k ≡ a2 *ℤ d1 → z ≡ bezout n k
    → z ≡ bezout (coef_of (term_of l) x *ℤ divisor_of m) (coef_of (term_of m) x *ℤ divisor_of l)
joint_bezout x l m a1 d1 a2 d2 n k z h is_n is_k is =
    is ∙ ap (λ w. bezout w k) (is_n ∙ ap (λ w. w *ℤ d2) h.a1_is ∙ ap (λ w. coef_of (term_of l) x *ℤ w) h.d2_is)
    ∙ ap (bezout (coef_of (term_of l) x *ℤ divisor_of m)) (is_k ∙ ap (λ w. w *ℤ d1) h.a2_is ∙ ap (λ w. coef_of (term_of m) x *ℤ w) h.d1_is)

pub ruleset merging = (first_of_two, second_of_two, first_of_three, second_of_three)

-- ---- work at other names of the same numbers and terms
pub two_computed : (m a n b : ℤ) (a' b' : ℤ) (p q : Place) (r : Result (Unit {0}) StepFault) → p ≡ product m a → q ≡ product n b → a ≡ a' → b ≡ b' → Worked (compute (p ∷ q ∷ [])) r
    → Worked (compute (product m a' ∷ product n b' ∷ [])) r
two_computed m a n b a' b' p q r is_p is_q h k w =
    subst (λ z. Worked (compute (z ∷ product n b' ∷ [])) r) (is_p ∙ ap (product m) h) (subst (λ z. Worked (compute (p ∷ z ∷ [])) r) (is_q ∙ ap (product n) k) w)

pub combining_at : (m n m' n' : ℤ) (s t s' t' : Linear) (r : Result Linear StepFault) → m ≡ m' → s ≡ s' → n ≡ n' → t ≡ t' → Worked (combining m s n t) r → Worked (combining m' s' n' t') r
combining_at m n m' n' s t s' t' r is_m is_s is_n is_t w =
    subst (λ z. Worked (combining z s' n' t') r) is_m (subst (λ z. Worked (combining m z n' t') r) is_s (subst (λ z. Worked (combining m s z t') r) is_n (subst (λ z. Worked (combining m s n z) r) is_t w)))

pub without_at : (x : ℕ) (l : Literal) (t s : Linear) → s ≡ without t x → t ≡ term_of l → s ≡ without (term_of l) x
without_at x l t s is h = is ∙ ap (λ z. without z x) h

pub coefficient_at : (x : ℕ) (l : Literal) (t : Linear) (a : ℤ) → a ≡ coef_of t x → t ≡ term_of l → a ≡ coef_of (term_of l) x
coefficient_at x l t a is h = is ∙ ap (λ z. coef_of z x) h

pub negated_at : (x : ℕ) (l : Literal) (t : Linear) (a b : ℤ) → b ≡ neg_ℤ a → a ≡ coef_of t x → t ≡ term_of l → b ≡ neg_ℤ (coef_of (term_of l) x)
negated_at x l t a b opposite is h = opposite ∙ ap neg_ℤ (coefficient_at x l t a is h)

pub multiplied_at : (n m a a' : ℤ) → n ≡ m *ℤ a → a ≡ a' → n ≡ m *ℤ a'
multiplied_at n m a a' is h = is ∙ ap (λ z. m *ℤ z) h

pub combined-free : (x : ℕ) (m n : ℤ) (s t u v w : Linear) → s ≡ without u x → t ≡ without v x → Worked (combining m s n t) (Ok w) → mentions w x ≡ false
combined-free x m n s t u v w is_s is_t h = combination-free m n s t u v w x is_s is_t (worked_value h ∙ value-step _ _)

pub joint_divisor : (l m : Literal) (d1 d2 n : ℤ) → d1 ≡ divisor_of l → d2 ≡ divisor_of m → n ≡ d1 *ℤ d2 → IsDivisor (divisor_of l) → IsDivisor (divisor_of m) → stays (product (divisor_of l) (divisor_of m)) ≡ true
    → IsDivisor n
joint_divisor l m d1 d2 n h k is f g stay =
    subst IsDivisor (sym (is ∙ ap (λ z. z *ℤ d2) h ∙ ap (λ z. divisor_of l *ℤ z) k)) (divisor_product (divisor_of l) (divisor_of m) f g stay)

pub merged_formed : (x : ℕ) (l m : Literal) (g d1 d2 n : ℤ) (v w : Linear) (rest ls : List Literal) (result : List (List Literal)) → d1 ≡ divisor_of l → d2 ≡ divisor_of m → n ≡ d1 *ℤ d2
    → ls ≡ Div n (with_name x g v) ∷ Div g w ∷ [] → result ≡ clauses_of ((rest ++ ls) ∷ []) → result ≡ clauses_of ((Div (divisor_of l *ℤ divisor_of m) (with_name x g v) ∷ Div g w ∷ rest) ∷ [])
merged_formed x l m g d1 d2 n v w rest ls result h k is whole formed =
    formed ∙ ap (λ o. found o ++ []) (clause_of-turned rest ls) ∙ ap (λ z. clauses_of ((z ++ rest) ∷ []))
    (whole ∙ ap (λ z. Div z (with_name x g v) ∷ Div g w ∷ []) (is ∙ ap (λ z. z *ℤ d2) h ∙ ap (λ z. divisor_of l *ℤ z) k))
