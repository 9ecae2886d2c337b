-- Two lists of integers put together, at which what speaks of the one's names or of what both have alike keeps its truth.
use Rattle.std.proofs.Common.{◌≡◌, ◌≢◌, ◌<◌, ◌≤◌, ℕ, zero, suc, ℤ, Bool, true, false, cond, nat_eq, nat_lt, List, [], ◌∷◌, length, refl, sym, ◌∙◌, ap, subst, arith, ◌||◌, inl, inr}
use Rattle.std.specs.List.{AllByRecursion}
use Rattle.std.proofs.lemmas.Bool.{cases_lt}
use Rattle.std.proofs.lemmas.Bool.Decides.{nat_tests}
use Rattle.base_integers.specs.Entry.{entry, put}
use Rattle.base_integers.proofs.Entries.{entry-past, entry-put_other, entry-put_same, length-put}
use Rattle.form_typed.specs.declared.typed.Sort.{Sort}
use Rattle.form_typed.specs.declared.typed.Sort.TheVariants.{Int}
use Rattle.form_typed.specs.Formula.{Formula}
use Rattle.form_typed.specs.Sorts.{IsValueOf, AreValuesOf}
use Rattle.form_typed.specs.Truth.{Meaning, Truth}
use Rattle.pri_typing.specs.declared.problem.Problem.{Problem}
use Rattle.clause_set.specs.declared.literal.Literal.{Literal}
use Rattle.clause_set.specs.Literals.{clause_truth, dnf_truth}
use Rattle.clause_set.specs.Names.{has}
use Rattle.elim_rule_laws.proofs.EquationLists.{none-any}
use Rattle.elim_rule_laws.proofs.Solving.{unused-truth}
use Rattle.elim_laws.specs.Whole as clauses
use Rattle.form_encoding.specs.Meaning.{AreTypedIn, type_at}
use Rattle.form_encoding.specs.Occurrences.{occurs}
use Rattle.form_encoding.specs.Problems.{constants, types}
use Rattle.form_encoding.proofs.Conditions.{pointwise}
use Rattle.interpolant.proofs.Alike.{put_alike}
use Rattle.interpolant.proofs.Occurrences.{absent_is}

other_name : (kept : ℕ → Bool) (x y : ℕ) → kept x ≡ false → kept y ≡ true → x ≢ y
other_name kept x y gone stands is = let both : kept x ≡ kept y = ap kept is in cc

-- d at the names below n that are kept, e at the others
abbrev pub mixed : (ℕ → Bool) → ℕ → List ℤ → List ℤ → List ℤ
mixed kept zero d e = d
mixed kept (suc x) d e = cond (kept x) (mixed kept x d e) (put (mixed kept x d e) x (entry e x))

-- the x-th step, as x is kept or not
step_of : (kept : ℕ → Bool) (x : ℕ) (d e : List ℤ) (P : List ℤ → Type 0) → (kept x ≡ true → P (mixed kept x d e)) → (kept x ≡ false → P (put (mixed kept x d e) x (entry e x))) → P (mixed kept (suc x) d e)
step_of kept x d e P stands gone = by (kept x) refl
  where
    by : (b : Bool) → kept x ≡ b → P (cond b (mixed kept x d e) (put (mixed kept x d e) x (entry e x)))
    by true is = stands is
    by false is = gone is

pub length-mixed : (kept : ℕ → Bool) (m : ℕ) (d e : List ℤ) → m ≤ length d → length (mixed kept m d e) ≡ length d
length-mixed kept zero d e le = refl
length-mixed kept (suc x) d e le =
    let rest = length-mixed kept x d e (omega (arith, le)) in
    step_of kept x d e (λ l. length l ≡ length d) (λ is. rest) (λ is. length-put (mixed kept x d e) x (entry e x) (omega (arith, le, rest)) ∙ rest)

-- names from m on are those of d
mixed_above : (kept : ℕ → Bool) (m : ℕ) (d e : List ℤ) (y : ℕ) → m ≤ y → entry (mixed kept m d e) y ≡ entry d y
mixed_above kept zero d e y le = refl
mixed_above kept (suc x) d e y le =
    let rest = mixed_above kept x d e y (omega (arith, le)) in
    step_of kept x d e (λ l. entry l y ≡ entry d y) (λ is. rest) (λ is. entry-put_other (mixed kept x d e) x y (entry e x) (λ s. omega (arith, le, s)) ∙ rest)

mixed_kept : (kept : ℕ → Bool) (m : ℕ) (d e : List ℤ) (y : ℕ) → kept y ≡ true → entry (mixed kept m d e) y ≡ entry d y
mixed_kept kept zero d e y stands = refl
mixed_kept kept (suc x) d e y stands =
    let rest = mixed_kept kept x d e y stands in
    step_of kept x d e (λ l. entry l y ≡ entry d y) (λ is. rest) (λ is. entry-put_other (mixed kept x d e) x y (entry e x) (other_name kept x y is stands) ∙ rest)

mixed_other : (kept : ℕ → Bool) (m : ℕ) (d e : List ℤ) (y : ℕ) → kept y ≡ false → y < m → entry (mixed kept m d e) y ≡ entry e y
mixed_other kept zero d e y gone lt = absurd (omega (arith, lt))
mixed_other kept (suc x) d e y gone lt = by (nat_eq x y) refl (λ (below : y < x). mixed_other kept x d e y gone below)
  where
    by : (b : Bool) → nat_eq x y ≡ b → (y < x → entry (mixed kept x d e) y ≡ entry e y) → entry (mixed kept (suc x) d e) y ≡ entry e y
    by true eq deep =
        let own : x ≡ y = grind (arith, nat_tests) in
        step_of kept x d e (λ l. entry l y ≡ entry e y) (λ is. absurd (other_name kept y x gone is (sym own)))
        (λ is. subst (λ z. entry (put (mixed kept x d e) z (entry e z)) y ≡ entry e y) (sym own) (entry-put_same (mixed kept x d e) y (entry e y)))
    by false eq deep =
        let apart : x ≢ y = λ s. grind (arith, nat_tests) in
        let rest = deep (grind (arith, nat_tests, lt, apart)) in
        step_of kept x d e (λ l. entry l y ≡ entry e y) (λ is. rest) (λ is. entry-put_other (mixed kept x d e) x y (entry e x) apart ∙ rest)

-- what speaks of names that are kept alone
pub mixed_first : (w : Meaning) (a : Formula) (m : ℕ) (d e : List ℤ) → m ≤ length d → Truth w a d → Truth w a (mixed (λ x. occurs x a) m d e)
mixed_first w a zero d e le t = t
mixed_first w a (suc x) d e le t =
    let kept : ℕ → Bool = λ y. occurs y a in
    let rest = mixed_first w a x d e (omega (arith, le)) t in
    let long = length-mixed kept x d e (omega (arith, le)) in
    step_of kept x d e (Truth w a) (λ is. rest) (λ is. put_alike x w a (mixed kept x d e) (entry e x) (omega (arith, le, long)) ((absent_is x a).0 is) rest)

type_past : (ss : List Sort) (x : ℕ) → length ss ≤ x → type_at ss x ≡ Int
type_past [] x le = refl
type_past (s ∷ ss) zero le = absurd (omega (arith, le))
type_past (s ∷ ss) (suc x) le = type_past ss x (omega (arith, le))

typed_at : (kept : ℕ → Bool) (ss : List Sort) (n : ℕ) (d e : List ℤ) (x : ℕ) → length ss ≡ n → length e ≡ n → AreValuesOf ss e → ((y : ℕ) → kept y ≡ true → IsValueOf (type_at ss y) (entry d y))
    → IsValueOf (type_at ss x) (entry (mixed kept n d e) x)
typed_at kept ss n d e x few long typed own = by (kept x) refl
  where
    past : (b : Bool) → nat_lt x n ≡ b → kept x ≡ false → IsValueOf (type_at ss x) (entry (mixed kept n d e) x)
    past true lt gone = subst (IsValueOf (type_at ss x)) (sym (mixed_other kept n d e x gone (grind (arith, nat_tests, lt)))) ((pointwise ss e (long ∙ sym few)).0 typed x)
    past false lt gone = subst (λ s. IsValueOf s (entry (mixed kept n d e) x)) (sym (type_past ss x (grind (arith, nat_tests, lt, few)))) tt

    by : (b : Bool) → kept x ≡ b → IsValueOf (type_at ss x) (entry (mixed kept n d e) x)
    by true stands = subst (IsValueOf (type_at ss x)) (sym (mixed_kept kept n d e x stands)) (own x stands)
    by false gone = past (nat_lt x n) refl gone

-- where d has values of the types of the names that are kept, and e of all, so has the mixed list of all
pub mixed_typed : (p : Problem) (a : Formula) (d e : List ℤ) → length d ≡ constants p → length (types p) ≡ constants p → length e ≡ constants p → AreValuesOf (types p) e
    → AreTypedIn (types p) a d → AreValuesOf (types p) (mixed (λ x. occurs x a) (constants p) d e)
mixed_typed p a d e many few long typed own =
    (pointwise (types p) (mixed (λ x. occurs x a) (constants p) d e) (length-mixed (λ x. occurs x a) (constants p) d e (omega (arith, many)) ∙ many ∙ sym few)).1
    (λ x. typed_at (λ y. occurs y a) (types p) (constants p) d e x few long typed own)

-- ---- lists that are alike at some names

-- a list of n integers that is e at the names that stay
pub record IsSameAt (stays : ℕ → Bool) (n : ℕ) (e d : List ℤ) : Type 0 where
  pub many : length d ≡ n
  pub same : (x : ℕ) → stays x ≡ true → entry d x ≡ entry e x

pub same_put : (stays : ℕ → Bool) (n : ℕ) (e d : List ℤ) (x : ℕ) (v : ℤ) → x < n → stays x ≡ false → IsSameAt stays n e d → IsSameAt stays n e (put d x v)
same_put stays n e d x v lt is h =
    let m = h.many in
    record { many = length-put d x v (omega (arith, lt, m)) ∙ m; same = λ y stands. entry-put_other d x y v (other_name stays x y is stands) ∙ h.same y stands }

-- where both lists have a name alike, so has the mixed one
pub mixed_same : (kept : ℕ → Bool) (n : ℕ) (d e : List ℤ) (x : ℕ) → x < n → entry d x ≡ entry e x → entry (mixed kept n d e) x ≡ entry e x
mixed_same kept n d e x lt same = by (kept x) refl
  where
    by : (b : Bool) → kept x ≡ b → entry (mixed kept n d e) x ≡ entry e x
    by true is = mixed_kept kept n d e x is ∙ same
    by false is = mixed_other kept n d e x is lt

-- past their ends lists are alike
pub agree_past : (n : ℕ) (d e : List ℤ) (x : ℕ) → length d ≡ n → length e ≡ n → (x < n → entry d x ≡ entry e x) → entry d x ≡ entry e x
agree_past n d e x m l h = elim (cases_lt x n) [ inl lt ↦ h lt | inr le ↦ entry-past d x (omega (arith, m, le)) ∙ sym (entry-past e x (omega (arith, l, le))) ]

same_list : (e d : List ℤ) → length e ≡ length d → ((x : ℕ) → entry e x ≡ entry d x) → e ≡ d
same_list [] [] l h = refl
same_list [] (v ∷ d) l h = absurd (omega (arith, l))
same_list (u ∷ e) [] l h = absurd (omega (arith, l))
same_list (u ∷ e) (v ∷ d) l h = ap (λ z. z ∷ e) (h 0) ∙ ap (λ z. v ∷ z) (same_list e d (omega (arith, l)) (λ x. h (suc x)))

clauses_unused : (x : ℕ) (d : List (List Literal)) (e : List ℤ) (v : ℤ) → AllByRecursion (clauses.Lacks x) d → dnf_truth d (put e x v) ≡ dnf_truth d e
clauses_unused x [] e v h = refl
clauses_unused x (c ∷ d) e v h = ap (λ b. b || dnf_truth d (put e x v)) (unused-truth x c e v (none-any (has x) c h.0)) ∙ ap (λ b. clause_truth c e || b) (clauses_unused x d e v h.1)

mixed_left : (kept : ℕ → Bool) (n : ℕ) (left : List (List Literal)) (d e : List ℤ) → ((x : ℕ) → x < n → kept x ≡ false → AllByRecursion (clauses.Lacks x) left)
    → (m : ℕ) → m ≤ n → dnf_truth left (mixed kept m d e) ≡ dnf_truth left d
mixed_left kept n left d e gone zero le = refl
mixed_left kept n left d e gone (suc x) le =
    let rest = mixed_left kept n left d e gone x (omega (arith, le)) in
    step_of kept x d e (λ l. dnf_truth left l ≡ dnf_truth left d) (λ is. rest) (λ is. clauses_unused x left (mixed kept x d e) (entry e x) (gone x (omega (arith, le)) is) ∙ rest)

-- clauses without the names that do not stay are true alike at lists that are alike at those that do
pub left_same : (stays : ℕ → Bool) (n : ℕ) (left : List (List Literal)) (d e : List ℤ) → length d ≡ n → length e ≡ n → ((x : ℕ) → x < n → stays x ≡ false → AllByRecursion (clauses.Lacks x) left)
    → ((x : ℕ) → stays x ≡ true → entry d x ≡ entry e x) → dnf_truth left d ≡ dnf_truth left e
left_same stays n left d e m l gone same =
    sym (mixed_left stays n left d e gone n (omega arith))
    ∙ ap (dnf_truth left) (same_list (mixed stays n d e) e (length-mixed stays n d e (omega (arith, m)) ∙ m ∙ sym l) (λ x. by x (stays x) refl))
  where
    by : (x : ℕ) (b : Bool) → stays x ≡ b → entry (mixed stays n d e) x ≡ entry e x
    by x true is = mixed_kept stays n d e x is ∙ same x is
    by x false is = agree_past n (mixed stays n d e) e x (length-mixed stays n d e (omega (arith, m)) ∙ m) l (λ lt. mixed_other stays n d e x is lt)
