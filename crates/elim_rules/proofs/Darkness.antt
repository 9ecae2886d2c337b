-- The charge and the work of the dark shadow.
use Rattle.std.proofs.Common.{◌≡◌, ◌+◌, ◌*◌, ◌<◌, ◌<ℤ◌, ℕ, ℤ, pos, unsigned_abs, Bool, true, false, cond, ◌||◌, List, [], ◌∷◌, ◌++◌, map, length, get_or, Result, Ok, Err, IsErrAnd, arith, refl, sym, ◌∙◌, ap, subst}
use Rattle.std.specs.Prelude.{All, sum_by}
use Rattle.std.specs.Cmp.{second_so}
use Rattle.std.specs.List.{list_any}
use Rattle.std.proofs.Math.Nat.{le-max_left}
use Rattle.std.proofs.lemmas.Int.{ints}
use Rattle.std.proofs.lemmas.List.Elements.{All-append, All-cons, All-map, All-nil, filter_passes}
use Rattle.base_budget.specs.declared.fault.StepFault.{StepFault}
use Rattle.base_budget.specs.declared.fault.StepFault.TheVariants.{Memory}
use Rattle.base_budget.specs.Trace.{Funds, capped, pay, each}
use Rattle.base_budget.specs.Work.{Charged, Worked}
use Rattle.base_budget.proofs.Charging.{then_ok, then_err, then_just, free, no_memory, worked_value}
use Rattle.clause_set.specs.declared.literal.Literal.{Literal}
use Rattle.clause_set.specs.Literals.{HasDivisor}
use Rattle.clause_set.specs.Clauses.{clauses_of}
use Rattle.clause_set.specs.Divisibilities.{numbers_from}
use Rattle.clause_set.specs.Names.{area, coefficient, is_lower, is_upper, others}
use Rattle.clause_set.specs.Rules.{is_bounded, is_two_sided}
use Rattle.clause_set.specs.Shadows.{lowers, uppers, factor, greatest_factor, splinter_count, splinters, dark, dark_with, dark_pairs}
use Rattle.clause_set.proofs.Weights.{capped_product}
use Rattle.elim_rule_laws.specs.ShadowResults.{with_splinter, splinters_of}
use Rattle.elim_rule_laws.proofs.ShadowLists.{All-flat_map}
use Rattle.elim_rule_laws.proofs.Split.{lower-positive, upper-positive}
use Rattle.elim_rule_laws.proofs.ShadowValues.{splinters-value}
use Rattle.elim_rules.specs.declared.shadow.Shadow.TheVariants.{Dark}
use Rattle.elim_rules.specs.Shadows.{row_of, dark_charge}

-- the product of capped numbers, capped again
product_of_capped : (n m k l : ℕ) → n ≡ capped k → m ≡ capped l → capped (n * m) ≡ capped (k * l)
product_of_capped n m k l f g =
    let first : n * l ≡ l * n = omega arith in
    let second : l * k ≡ k * l = omega arith in
    capped_product n l m g ∙ ap capped first ∙ capped_product l k n f ∙ ap capped second

pub charge_is : (shadow each count product total k a b : ℕ) → shadow ≡ capped a → each ≡ capped b → count ≡ capped k → product ≡ capped (count * each) → total ≡ capped (shadow + product)
    → total ≡ capped (a + k * b)
charge_is shadow each count product total k a b s e n p t =
    let whole : product ≡ capped (k * b) = p ∙ product_of_capped count each k b n e in
    omega (arith, s, whole, t)

pub count_item : (a b : ℤ) (x : ℕ) (low : Literal) (w : ℕ) → w ≡ capped (splinter_count a b) → b ≡ factor x low → w ≡ capped (splinter_count a (factor x low))
count_item a b x low w is same = is ∙ ap (λ z. capped (splinter_count a z)) same

-- the charge by the bounds
pub same_charge : (x : ℕ) (c lows ups : List Literal) (a : ℤ) (m n count : ℕ) → m ≡ length (others x c) → lows ≡ lowers x c → ups ≡ uppers x c
    → count ≡ capped (sum_by (λ low. splinter_count a (factor x low)) lows)
    → ((k : ℕ) → count ≡ capped k → n ≡ capped (1 + area (m + length lows * length ups) c + k * area (length c + 1) c)) → n ≡ capped (dark_charge x c a)
same_charge x c lows ups a m n count is l u counted charge =
    charge (sum_by (λ low. splinter_count a (factor x low)) (lowers x c)) (counted ∙ ap (λ z. capped (sum_by (λ low. splinter_count a (factor x low)) z)) l)
    ∙ ap (λ z. capped (1 + area z c + sum_by (λ low. splinter_count a (factor x low)) (lowers x c) * area (length c + 1) c))
    (ap (λ z. z + length lows * length ups) is ∙ ap (λ z. length (others x c) + length z * length ups) l ∙ ap (λ z. length (others x c) + length (lowers x c) * length z) u)

-- ---- coefficients
pub lows-positive : (x : ℕ) (c lows : List Literal) → lows ≡ lowers x c → All (λ low. pos 0 <ℤ factor x low) lows
lows-positive x c lows same =
    let is_low = filter_passes (is_lower x) c in
    subst (All (λ low. pos 0 <ℤ factor x low)) (sym same) (λ k d lt. lower-positive x [] (get_or (lowers x c) k d) (is_low k d lt))

first-above : (x : ℕ) (l : Literal) (c : List Literal) (b : Bool) → b ≡ is_upper x l → (list_any (is_upper x) c ≡ true → 0 < greatest_factor x (uppers x c))
    → (b || list_any (is_upper x) c) ≡ true → 0 < greatest_factor x (cond b (l ∷ uppers x c) (uppers x c))
first-above x l c true e later h =
    let size : pos 0 <ℤ factor x l = upper-positive x [] l (sym e) in
    let most = le-max_left (unsigned_abs (coefficient x l)) (greatest_factor x (uppers x c)) in
    omega (arith, ints)
first-above x l c false e later h = later h

greatest-above : (x : ℕ) (c : List Literal) → list_any (is_upper x) c ≡ true → 0 < greatest_factor x (uppers x c)
greatest-above x [] h = absurd (cc)
greatest-above x (l ∷ c) h = first-above x l c (is_upper x l) refl (greatest-above x c) h

pub greatest-positive : (x : ℕ) (c ups : List Literal) (a : ℤ) → is_two_sided x c ≡ true → ups ≡ uppers x c → a ≡ pos (greatest_factor x ups) → pos 0 <ℤ a
greatest-positive x c ups a two same is =
    let some : list_any (is_upper x) c ≡ true = second_so (list_any (is_lower x) c) _ (second_so (is_bounded x c) _ two) in
    let above = greatest-above x c some in
    let value : a ≡ pos (greatest_factor x (uppers x c)) = is ∙ ap (λ z. pos (greatest_factor x z)) same in
    omega (arith, ints, value)

-- ---- the work
shadows_at : (x : ℕ) (c lows ups : List Literal) (r : Result (List Literal) StepFault) → lows ≡ lowers x c → ups ≡ uppers x c → Worked (each (row_of Dark x ups) lows []) r
    → Worked (each (dark_pairs x (uppers x c)) (lowers x c) []) r
shadows_at x c lows ups r l u h = subst (λ z. Worked (each (dark_pairs x (uppers x c)) z []) r) l (subst (λ z. Worked (each (dark_pairs x z) lows []) r) u h)

-- the greatest coefficient of the upper bounds
most_of : (x : ℕ) (c ups : List Literal) (a : ℤ) → ups ≡ uppers x c → a ≡ pos (greatest_factor x ups) → a ≡ pos (greatest_factor x (uppers x c))
most_of x c ups a u g = g ∙ ap (λ z. pos (greatest_factor x z)) u

pub dark_refused : (x : ℕ) (c ups : List Literal) (a : ℤ) (e : StepFault) (result : Result (List (List Literal)) StepFault) {f h : Funds} → ups ≡ uppers x c → a ≡ pos (greatest_factor x ups)
    → Charged (pay (dark_charge x c a)) f (Err e) h → IsErrAnd result (λ z. z ≡ e) → Charged (dark x c) f result h
unfolding dark
dark_refused x c ups a e result {f} {h} u g paid failed = subst (λ z. Charged (dark_with x c z) f result h) (most_of x c ups a u g) (then_err _ _ result failed paid)

-- running out of memory after the charge
pub dark_starved : (x : ℕ) (c ups : List Literal) (a : ℤ) (result : Result (List (List Literal)) StepFault) {f h : Funds} {v : Unit {0}} → ups ≡ uppers x c → a ≡ pos (greatest_factor x ups)
    → Charged (pay (dark_charge x c a)) f (Ok v) h → IsErrAnd result (λ z. z ≡ Memory) → Charged (dark x c) f result h
unfolding dark
dark_starved x c ups a result {f} {h} u g paid failed = subst (λ z. Charged (dark_with x c z) f result h) (most_of x c ups a u g) (then_ok _ _ paid (no_memory result failed))

pub dark_unshadowed : (x : ℕ) (c lows ups : List Literal) (a : ℤ) (e : StepFault) (result : Result (List (List Literal)) StepFault) {f h : Funds} {v : Unit {0}}
    → lows ≡ lowers x c → ups ≡ uppers x c → a ≡ pos (greatest_factor x ups) → Charged (pay (dark_charge x c a)) f (Ok v) h
    → Worked (each (row_of Dark x ups) lows []) (Err e) → IsErrAnd result (λ z. z ≡ e) → Charged (dark x c) f result h
unfolding dark
dark_unshadowed x c lows ups a e result {f} {h} l u g paid fails failed =
    subst (λ z. Charged (dark_with x c z) f result h) (most_of x c ups a u g)
    (then_ok _ _ paid (then_err _ _ result failed (free _ (shadows_at x c lows ups (Err e) l u fails))))

pub dark_unsplintered : (x : ℕ) (c lows ups ls : List Literal) (a : ℤ) (e : StepFault) (result : Result (List (List Literal)) StepFault) {f h : Funds} {v : Unit {0}}
    → lows ≡ lowers x c → ups ≡ uppers x c → a ≡ pos (greatest_factor x ups) → Charged (pay (dark_charge x c a)) f (Ok v) h
    → Worked (each (row_of Dark x ups) lows []) (Ok ls) → Worked (each (splinters x c a) lows []) (Err e) → IsErrAnd result (λ z. z ≡ e) → Charged (dark x c) f result h
unfolding dark
dark_unsplintered x c lows ups ls a e result {f} {h} l u g paid shadows fails failed =
    subst (λ z. Charged (dark_with x c z) f result h) (most_of x c ups a u g)
    (then_ok _ _ paid
    (then_ok _ _ (free _ (shadows_at x c lows ups (Ok ls) l u shadows))
    (then_err _ _ result failed (free _ (subst (λ z. Worked (each (splinters x c a) z []) (Err e)) l fails)))))

pub dark_done : (x : ℕ) (c rest lows ups ls all : List Literal) (cs ds result : List (List Literal)) (a : ℤ) {f h : Funds} {v : Unit {0}}
    → rest ≡ others x c → lows ≡ lowers x c → ups ≡ uppers x c → a ≡ pos (greatest_factor x ups) → Charged (pay (dark_charge x c a)) f (Ok v) h
    → Worked (each (row_of Dark x ups) lows []) (Ok ls) → Worked (each (splinters x c a) lows []) (Ok cs) → all ≡ rest ++ ls → ds ≡ all ∷ cs → result ≡ clauses_of ds
    → Charged (dark x c) f (Ok result) h
unfolding dark
dark_done x c rest lows ups ls all cs ds result a {f} {h} r l u g paid shadows split first whole formed =
    subst (λ z. Charged (dark_with x c z) f (Ok result) h) (most_of x c ups a u g)
    (then_ok _ _ paid
    (then_ok _ _ (free _ (shadows_at x c lows ups (Ok ls) l u shadows))
    (then_ok _ _ (free _ (subst (λ z. Worked (each (splinters x c a) z []) (Ok cs)) l split))
    (then_just _ _ (formed ∙ ap clauses_of (whole ∙ ap (λ z. z ∷ cs) (first ∙ ap (λ z. z ++ ls) r)))))))

-- the conjunctions, pushed and appended
pub collected : (all : List Literal) (none pushed new cs : List (List Literal)) → none ≡ [] → pushed ≡ none ++ all ∷ [] → new ≡ pushed ++ cs → new ≡ all ∷ cs
collected all none pushed new cs n p is = is ∙ ap (λ z. z ++ cs) (p ∙ ap (λ z. z ++ all ∷ []) n)

-- ---- divisors
split_divisors : (c : List Literal) (low : Literal) (ns : List ℕ) → All HasDivisor c → All (λ d. All HasDivisor d) (map (with_splinter c low) ns)
split_divisors c low ns h = All-map (λ d. All HasDivisor d) (with_splinter c low) ns (λ k d lt. All-append HasDivisor c _ h (All-cons HasDivisor _ [] tt (All-nil HasDivisor)))

pub splinters_divisors : (x : ℕ) (c lows : List Literal) (a : ℤ) (cs : List (List Literal)) → All HasDivisor c → Worked (each (splinters x c a) lows []) (Ok cs) → All (λ d. All HasDivisor d) cs
splinters_divisors x c lows a cs h w =
    subst (All (λ d. All HasDivisor d)) (sym (worked_value w ∙ splinters-value x c a lows))
    (All-flat_map (λ d. All HasDivisor d) (splinters_of x c a) lows (λ k d lt. split_divisors c (get_or lows k d) (numbers_from 0 (splinter_count a (factor x (get_or lows k d)))) h))

pub all_divisors : (all : List Literal) (cs ds : List (List Literal)) → ds ≡ all ∷ cs → All HasDivisor all → All (λ d. All HasDivisor d) cs → All (λ d. All HasDivisor d) ds
all_divisors all cs ds is h k = subst (All (λ d. All HasDivisor d)) (sym is) (All-cons (λ d. All HasDivisor d) all cs h k)
