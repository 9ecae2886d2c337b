-- The literals that a shadow leaves, and the work of the rules.
use Rattle.std.proofs.Common.{◌≡◌, ◌+◌, ◌*◌, ℕ, ℤ, pos, negsuc, Bool, List, [], ◌∷◌, ◌++◌, map, filter, length, get_or, Result, Ok, Err, IsErrAnd, sym, ◌∙◌, ap, subst}
use Rattle.std.specs.Prelude.{All}
use Rattle.std.proofs.lemmas.List.Elements.{All-append, All-cons, All-filter, All-map, All-nil}
use Rattle.linear_term.specs.Linear.{Linear}
use Rattle.linear_term.specs.Range.{InRange, all_stay, stays}
use Rattle.linear_term.proofs.Ranges.{Stays-from_test}
use Rattle.base_budget.specs.declared.fault.StepFault.{StepFault}
use Rattle.base_budget.specs.Trace.{Funds, capped, pay, each}
use Rattle.base_budget.specs.Work.{Charged, Worked}
use Rattle.base_budget.proofs.Charging.{then_ok, then_err, then_just, free}
use Rattle.base_budget.proofs.Charging.{worked_value}
use Rattle.clause_set.specs.declared.literal.Literal.{Literal}
use Rattle.clause_set.specs.declared.literal.Literal.TheVariants.{Geq}
use Rattle.clause_set.specs.Literals.{HasDivisor}
use Rattle.clause_set.specs.Clauses.{clauses_of}
use Rattle.clause_set.specs.Names.{area, others}
use Rattle.clause_set.specs.Shadows.{lowers, uppers, shadow_length, exact, exact_pairs}
use Rattle.elim_rule_laws.specs.ShadowResults.{shadow_term, dark_term, inequalities}
use Rattle.elim_rule_laws.proofs.ShadowLists.{All-flat_map}
use Rattle.elim_rule_laws.proofs.ShadowValues.{exact_pairs-value, dark_pairs-value}
use Rattle.elim_rules.specs.declared.shadow.Shadow.{Shadow}
use Rattle.elim_rules.specs.declared.shadow.Shadow.TheVariants.{Real, Dark}
use Rattle.elim_rules.specs.Shadows.{row_of, lowered}
use Rattle.std.proofs.Common.{rules, true, ◌-ℤ◌, ◌*ℤ◌}
use Rattle.std.specs.Cmp.{first_so}
use mir.Syntax.{w128}
use mir.Val.{SFits}
use Rattle.base_budget.proofs.Charging.{work_ok, work_err, work_just}
use Rattle.base_budget.specs.Trace.{compute}
use Rattle.linear_term.specs.Linear.{number}
use Rattle.base_budget.specs.Trace.{combining}
use Rattle.clause_set.specs.Names.{product}
use Rattle.clause_set.specs.Shadows.{factor, shadow, dark_pair}

-- ---- divisors
pub filter_divisors : (p : Literal → Bool) (c src ls : List Literal) → All HasDivisor c → src ≡ c → ls ≡ filter p src → All HasDivisor ls
filter_divisors p c src ls divisors same is = subst (All HasDivisor) (sym (is ∙ ap (filter p) same)) (All-filter p HasDivisor c divisors)

inequalities_divisors : (f : Literal → Literal → Linear) (lows ups : List Literal) → All HasDivisor (inequalities f lows ups)
inequalities_divisors f lows ups =
    All-flat_map HasDivisor (λ low. map (λ up. Geq (f low up)) ups) lows
    (λ k d lt. All-map HasDivisor (λ up. Geq (f (get_or lows k d) up)) ups (λ j e le. tt))

pub shadows_divisors : (kind : Shadow) (x : ℕ) (lows ups ls : List Literal) → Worked (each (row_of kind x ups) lows []) (Ok ls) → All HasDivisor ls
shadows_divisors Real x lows ups ls h = subst (All HasDivisor) (sym (worked_value h ∙ exact_pairs-value x lows ups)) (inequalities_divisors (shadow_term x) lows ups)
shadows_divisors Dark x lows ups ls h = subst (All HasDivisor) (sym (worked_value h ∙ dark_pairs-value x lows ups)) (inequalities_divisors (dark_term x) lows ups)

pub append_divisors : (a b new : List Literal) → new ≡ a ++ b → All HasDivisor a → All HasDivisor b → All HasDivisor new
append_divisors a b new is h k = subst (All HasDivisor) (sym is) (All-append HasDivisor a b h k)

pub pushed_divisor : (a : List Literal) (l : Literal) (new : List Literal) → new ≡ a ++ l ∷ [] → All HasDivisor a → HasDivisor l → All HasDivisor new
pushed_divisor a l new is h k = append_divisors a (l ∷ []) new is h (All-cons HasDivisor l [] k (All-nil HasDivisor))

pub ruleset pushing = (pushed_divisor, All-nil)

-- ---- the exact shadow
length_of_shadow : (x : ℕ) (c rest lows ups : List Literal) → rest ≡ others x c → lows ≡ lowers x c → ups ≡ uppers x c → length rest + length lows * length ups ≡ shadow_length x c
length_of_shadow x c rest lows ups r l u =
    ap (λ z. length z + length lows * length ups) r ∙ ap (λ z. length (others x c) + length z * length ups) l ∙ ap (λ z. length (others x c) + length (lowers x c) * length z) u

paid : (x : ℕ) (c : List Literal) (m n : ℕ) {a b : Funds} {v : Unit {0}} → ((k : ℕ) → n ≡ capped k → Charged (pay k) a (Ok v) b) → n ≡ capped (1 + area m c) → m ≡ shadow_length x c
    → Charged (pay (1 + area (shadow_length x c) c)) a (Ok v) b
paid x c m n {a} {b} {v} step is same = subst (λ k. Charged (pay (1 + area k c)) a (Ok v) b) same (step (1 + area m c) is)

shadows_at : (x : ℕ) (c lows ups : List Literal) (r : Result (List Literal) StepFault) → lows ≡ lowers x c → ups ≡ uppers x c → Worked (each (row_of Real x ups) lows []) r
    → Worked (each (exact_pairs x (uppers x c)) (lowers x c) []) r
shadows_at x c lows ups r l u h = subst (λ z. Worked (each (exact_pairs x (uppers x c)) z []) r) l (subst (λ z. Worked (each (exact_pairs x z) lows []) r) u h)

pub exact_done : (x : ℕ) (c rest lows ups ls all : List Literal) (result : List (List Literal)) (m n : ℕ) {a b : Funds} {v : Unit {0}}
    → rest ≡ others x c → lows ≡ lowers x c → ups ≡ uppers x c → m ≡ length rest
    → ((k : ℕ) → n ≡ capped k → Charged (pay k) a (Ok v) b) → n ≡ capped (1 + area (m + length lows * length ups) c)
    → Worked (each (row_of Real x ups) lows []) (Ok ls) → all ≡ rest ++ ls → result ≡ clauses_of (all ∷ []) → Charged (exact x c) a (Ok result) b
unfolding exact
exact_done x c rest lows ups ls all result m n rr l u len step is h pushed formed =
    then_ok _ _ (paid x c (m + length lows * length ups) n step is (ap (λ z. z + length lows * length ups) len ∙ length_of_shadow x c rest lows ups rr l u))
    (then_ok _ _ (free _ (shadows_at x c lows ups (Ok ls) l u h))
    (then_just _ _ (formed ∙ ap (λ z. clauses_of (z ∷ [])) (pushed ∙ ap (λ z. z ++ ls) rr))))

pub exact_failed : (x : ℕ) (c rest lows ups : List Literal) (e : StepFault) (result : Result (List (List Literal)) StepFault) (m n : ℕ) {a b : Funds} {v : Unit {0}}
    → rest ≡ others x c → lows ≡ lowers x c → ups ≡ uppers x c → m ≡ length rest
    → ((k : ℕ) → n ≡ capped k → Charged (pay k) a (Ok v) b) → n ≡ capped (1 + area (m + length lows * length ups) c)
    → Worked (each (row_of Real x ups) lows []) (Err e) → IsErrAnd result (λ z. z ≡ e) → Charged (exact x c) a result b
unfolding exact
exact_failed x c rest lows ups e result m n rr l u len step is h failed =
    then_ok _ _ (paid x c (m + length lows * length ups) n step is (ap (λ z. z + length lows * length ups) len ∙ length_of_shadow x c rest lows ups rr l u))
    (then_err _ _ result failed (free _ (shadows_at x c lows ups (Err e) l u h)))

-- ---- the dark shadow of a pair
pub product_stays : (m n : ℤ) → all_stay (product m n ∷ []) ≡ true → InRange (m *ℤ n)
unfolding all_stay
product_stays m n h = (Stays-from_test (product m n) (first_so (stays (product m n)) true h)).left

pub less_one : (a : ℤ) → InRange a → SFits w128 (a -ℤ pos 1)
less_one a h = search rules

pub fits_range : (a : ℤ) → InRange a → SFits w128 a
fits_range a h = search rules

pub dark_pair_done : (x : ℕ) (low up : Literal) (t : Linear) (a b : ℤ) (result : Result (List Literal) StepFault) → a ≡ factor x up → b ≡ factor x low
    → Worked (shadow x low up) (Ok t) → Worked (lowered t a b) result → Worked (dark_pair x low up) result
dark_pair_done x low up t a b result is_a is_b first rest =
    work_ok (shadow x low up) _ first
    (subst (λ z. Worked (lowered t (factor x up) z) result) is_b (subst (λ z. Worked (lowered t z b) result) is_a rest))

pub lowered_failed : (t : Linear) (a b : ℤ) (k : Linear) (e : StepFault) (r : Result (List Literal) StepFault) {v : Unit {0}} → Worked (compute (product (a -ℤ pos 1) (b -ℤ pos 1) ∷ [])) (Ok v)
    → k ≡ number ((a -ℤ pos 1) *ℤ (b -ℤ pos 1)) → Worked (combining (pos 1) t (negsuc 0) k) (Err e) → IsErrAnd r (λ z. z ≡ e) → Worked (lowered t a b) r
lowered_failed t a b k e r first is fails h =
    work_ok _ _ first (work_err _ _ r h (subst (λ z. Worked (combining (pos 1) t (negsuc 0) z) (Err e)) is fails))

pub lowered_done : (t : Linear) (a b : ℤ) (k u : Linear) (ls : List Literal) {v : Unit {0}} → Worked (compute (product (a -ℤ pos 1) (b -ℤ pos 1) ∷ [])) (Ok v)
    → k ≡ number ((a -ℤ pos 1) *ℤ (b -ℤ pos 1)) → Worked (combining (pos 1) t (negsuc 0) k) (Ok u) → ls ≡ Geq u ∷ [] → Worked (lowered t a b) (Ok ls)
lowered_done t a b k u ls first is done alone =
    work_ok _ _ first (work_ok _ _ (subst (λ z. Worked (combining (pos 1) t (negsuc 0) z) (Ok u)) is done) (work_just _ _ alone))
