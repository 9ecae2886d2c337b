-- The first rule that applies where inequalities alone bound a name, its work and what it leaves.
use Rattle.std.proofs.Common.{◌≡◌, ◌<◌, ℕ, Bool, true, false, not, cond, ◌&&◌, ◌||◌, nat_lt, unsigned_abs, List, [], ◌∷◌, filter, length, Some, None, Result, Ok, Err, IsErrAnd, IfOk, arith, refl, sym, ◌∙◌, ap, subst}
use Rattle.std.specs.Prelude.{ℤ, All, ◌↔◌, position}
use Rattle.std.specs.Cmp.{second_so}
use Rattle.std.specs.List.{list_all, list_any, position_or_len}
use Rattle.std.proofs.lemmas.Bool.Decides.{nat_tests}
use Rattle.std.proofs.lemmas.Bool.{cond-false}
use Rattle.std.proofs.lemmas.List.Elements.{All-weaker}
use Rattle.std.proofs.lemmas.List.Sums.{AllPass-from_list_all, position_or_len_is}
use Rattle.base_budget.specs.declared.fault.StepFault.{StepFault}
use Rattle.base_budget.specs.declared.log.Entry.{Entry}
use Rattle.base_budget.specs.declared.log.Entry.TheVariants.{OneSided, Exact, Dark}
use Rattle.base_budget.specs.Trace.{Funds, Traced, just, next}
use Rattle.base_budget.specs.Work.{Charged}
use Rattle.base_budget.proofs.Charging.{then_ok, then_err, then_just, charged_value}
use Rattle.clause_set.specs.declared.literal.Literal.{Literal}
use Rattle.clause_set.specs.declared.literal.Literal.TheVariants.{Eq, Geq, Div, NDiv}
use Rattle.clause_set.specs.Literals.{IsLiteral}
use Rattle.clause_set.specs.Met.{IsMet}
use Rattle.clause_set.specs.Names.{has, coefficient, is_equation, is_bound, is_divisibility, is_indivisibility, is_lower, is_upper}
use Rattle.clause_set.specs.Rules.{applies, rule, first_rule, first_of, when, has_unit, is_bounded, is_two_sided, is_exact, is_one_sided, is_least_equation, measure}
use Rattle.clause_set.specs.Shadows.{lowers, uppers, one_sided, exact, dark}
use Rattle.elim_rule_laws.proofs.Forms.{one_sided-kept, exact-kept, dark-kept, one_sided-nearer, exact-nearer, dark-nearer}
use Rattle.omega_elim.specs.Projection.{bounds_entry, with_entry, projection}

-- ---- which rule
module _ (x : ℕ) (c : List Literal) (bounded : is_bounded x c ≡ true) where
  pub two_sided_left : is_one_sided x c ≡ false → is_two_sided x c ≡ true
  two_sided_left h = by (is_two_sided x c) (sym (ap (λ b. b && not (is_two_sided x c)) bounded) ∙ h)
    where
      by : (b : Bool) → not b ≡ false → b ≡ true
      by true e = refl
      by false e = sym e

  pub one_sided_left : is_two_sided x c ≡ false → is_one_sided x c ≡ true
  one_sided_left h = ap (λ b. is_bounded x c && not b) h ∙ ap (λ b. b && true) bounded

  pub not_one_sided : is_two_sided x c ≡ true → is_one_sided x c ≡ false
  not_one_sided h = ap (λ b. is_bounded x c && not b) h ∙ ap (λ b. b && false) bounded

  -- what holds of each of the three rules that applies holds of the first of them
  by_entry : (P : Entry → Type 0) → (is_one_sided x c ≡ true → P OneSided) → (is_exact x c ≡ true → P Exact) → (is_two_sided x c ≡ true → P Dark) → P (bounds_entry x c)
  by_entry P f g h = by (is_one_sided x c) refl (is_exact x c) refl
    where
      by : (o : Bool) → is_one_sided x c ≡ o → (e : Bool) → is_exact x c ≡ e → P (cond o OneSided (cond e Exact Dark))
      by true is e at = f is
      by false is true at = g at
      by false is false at = h (two_sided_left is)

  pub bounds_kept : (e : List ℤ) → All IsLiteral c → IsMet (c ∷ []) x e ↔ IsMet (rule x c (bounds_entry x c)).value x e
  unfolding applies
  bounds_kept e proper = by_entry (λ z. IsMet (c ∷ []) x e ↔ IsMet (rule x c z).value x e) (one_sided-kept x c e proper) (exact-kept x c e proper) (dark-kept x c e proper)

  pub bounds_nearer : All (λ r. measure x r < measure x c) (rule x c (bounds_entry x c)).value
  unfolding applies
  bounds_nearer = by_entry (λ z. All (λ r. measure x r < measure x c) (rule x c z).value) (one_sided-nearer x c) (exact-nearer x c) (dark-nearer x c)

-- ---- no other rule comes before
position-none : {X : Type 0} (p : X → Bool) (xs : List X) → All (λ x. p x ≡ false) xs → position p xs ≡ None
position-none p [] h = refl
position-none p (x ∷ xs) h =
    let last : position_or_len p (x ∷ xs) ≡ length (x ∷ xs) = position_or_len_is p (x ∷ xs) (length (x ∷ xs)) x (omega arith) (λ k lt. h k x lt) (λ lt. absurd (omega arith)) in
    let same : nat_lt (length (x ∷ xs)) (length (x ∷ xs)) ≡ false = grind (arith, nat_tests) in
    ap (λ n. cond (nat_lt n (length (x ∷ xs))) (Some n) None) last ∙ cond-false _ _ _ same

free : (m : Bool) → (not m || false) ≡ true → m ≡ false
free true h = sym h
free false h = refl

record IsFree (x : ℕ) (l : Literal) : Type 0 where
  equation : is_equation x l ≡ false
  divisibility : is_divisibility x l ≡ false
  indivisibility : is_indivisibility x l ≡ false

only_bounds : (x : ℕ) (l : Literal) → (not (has x l) || is_bound x l) ≡ true → IsFree x l
only_bounds x (Eq t) h = record { equation = free _ h; divisibility = refl; indivisibility = refl }
only_bounds x (Geq t) h = record { equation = refl; divisibility = refl; indivisibility = refl }
only_bounds x (Div d t) h = record { equation = refl; divisibility = free _ h; indivisibility = refl }
only_bounds x (NDiv d t) h = record { equation = refl; divisibility = refl; indivisibility = free _ h }

choice : (o e t : Bool) → (o ≡ false → t ≡ true) → first_of (when o OneSided) (first_of (when e Exact) (when t Dark)) ≡ Some (cond o OneSided (cond e Exact Dark))
choice true e t h = refl
choice false true t h = refl
choice false false true h = refl
choice false false false h = absurd (let no : false ≡ true = h refl in cc)

pub first_bounds : (x : ℕ) (c : List Literal) → is_bounded x c ≡ true → first_rule x c ≡ Some (bounds_entry x c)
unfolding first_rule
first_bounds x c bounded =
    let frees : All (IsFree x) c = All-weaker (λ l. (not (has x l) || is_bound x l) ≡ true) (IsFree x) (only_bounds x) c (AllPass-from_list_all (λ l. not (has x l) || is_bound x l) c (second_so (list_any (has x) c) _ bounded)) in
    let least : All (λ l. is_least_equation x c l ≡ false) c = All-weaker (IsFree x) (λ l. is_least_equation x c l ≡ false) (λ l f. ap (λ b. b && list_all (λ m. not (is_equation x m && nat_lt (unsigned_abs (coefficient x m)) (unsigned_abs (coefficient x l)))) c) f.equation) c frees in
    let apart : All (λ l. is_indivisibility x l ≡ false) c = All-weaker (IsFree x) (λ l. is_indivisibility x l ≡ false) (λ l f. f.indivisibility) c frees in
    let merge : All (λ l. is_divisibility x l ≡ false) c = All-weaker (IsFree x) (λ l. is_divisibility x l ≡ false) (λ l f. f.divisibility) c frees in
    rw (position-none (is_least_equation x c) c least) (rw (position-none (is_indivisibility x) c apart) (rw (position-none (is_divisibility x) c merge) (choice (is_one_sided x c) (is_exact x c) (is_two_sided x c) (two_sided_left x c bounded))))

-- ---- the work
pub one_sided_rule : (x : ℕ) (c : List Literal) → rule x c OneSided ≡ one_sided x c
unfolding rule
one_sided_rule x c = refl

pub exact_rule : (x : ℕ) (c : List Literal) → rule x c Exact ≡ exact x c
unfolding rule
exact_rule x c = refl

pub dark_rule : (x : ℕ) (c : List Literal) → rule x c Dark ≡ dark x c
unfolding rule
dark_rule x c = refl

pub done_by : (x : ℕ) (c : List Literal) (e : Entry) (work : Traced (List (List Literal))) (cs : List (List Literal)) {f h : Funds} → bounds_entry x c ≡ e → rule x c e ≡ work → Charged work f (Ok cs) h
    → Charged (projection x c) f (Ok (e, cs)) h
done_by x c e work cs {f} {h} is same did =
    subst (λ z. Charged (with_entry z (rule x c z)) f (Ok (e, cs)) h) (sym is)
    (then_ok _ _ (subst (λ z. Charged z f (Ok cs) h) (sym same) did) (then_just _ _ refl))

pub failed_by : (x : ℕ) (c : List Literal) (e : Entry) (work : Traced (List (List Literal))) (s : StepFault) (r : Result (Entry × List (List Literal)) StepFault) {f h : Funds} → bounds_entry x c ≡ e → rule x c e ≡ work
    → Charged work f (Err s) h → IsErrAnd r (λ z. z ≡ s) → Charged (projection x c) f r h
failed_by x c e work s r {f} {h} is same did failed =
    subst (λ z. Charged (with_entry z (rule x c z)) f r h) (sym is) (then_err _ _ r failed (subst (λ z. Charged z f (Err s) h) (sym same) did))

-- ---- what the result says
projection-value : (x : ℕ) (c : List Literal) → (projection x c).value ≡ (bounds_entry x c, (rule x c (bounds_entry x c)).value)
unfolding next just
projection-value x c = refl

results : (x : ℕ) (c : List Literal) (r : Entry × List (List Literal)) {f h : Funds} → Charged (projection x c) f (Ok r) h → r.1 ≡ (rule x c (bounds_entry x c)).value
results x c r did = ap (λ z. z.1) (charged_value did ∙ projection-value x c)

pub result_kept : (x : ℕ) (c : List Literal) (r : Result (Entry × List (List Literal)) StepFault) {f h : Funds} → is_bounded x c ≡ true → All IsLiteral c → Charged (projection x c) f r h
    → IfOk r (λ v. (e : List ℤ) → IsMet (c ∷ []) x e ↔ IsMet v.1 x e)
result_kept x c (Ok v) bounded proper did = λ e. subst (λ z. IsMet (c ∷ []) x e ↔ IsMet z x e) (sym (results x c v did)) (bounds_kept x c bounded e proper)
result_kept x c (Err s) bounded proper did = tt

pub result_nearer : (x : ℕ) (c : List Literal) (r : Result (Entry × List (List Literal)) StepFault) {f h : Funds} → is_bounded x c ≡ true → Charged (projection x c) f r h
    → IfOk r (λ v. All (λ d. measure x d < measure x c) v.1)
result_nearer x c (Ok v) bounded did = subst (All (λ d. measure x d < measure x c)) (sym (results x c v did)) (bounds_nearer x c bounded)
result_nearer x c (Err s) bounded did = tt

-- ---- the tests
-- a list has an element that passes exactly where some are left by the test
any-filter : {X : Type 0} (p : X → Bool) (xs : List X) → list_any p xs ≡ nat_lt 0 (length (filter p xs))
any-filter p [] = refl
any-filter p (x ∷ xs) = by (any-filter p xs) (p x)
  where
    by : list_any p xs ≡ nat_lt 0 (length (filter p xs)) → (b : Bool) → (b || list_any p xs) ≡ nat_lt 0 (length (cond b (x ∷ filter p xs) (filter p xs)))
    by rest true = sym (grind (arith, nat_tests))
    by rest false = rest

pub two_sided_is : (x : ℕ) (c lows ups : List Literal) → is_bounded x c ≡ true → lows ≡ lowers x c → ups ≡ uppers x c → is_two_sided x c ≡ (nat_lt 0 (length lows) && nat_lt 0 (length ups))
two_sided_is x c lows ups bounded l u =
    ap (λ b. b && (list_any (is_lower x) c && list_any (is_upper x) c)) bounded
    ∙ ap (λ b. b && list_any (is_upper x) c) (any-filter (is_lower x) c ∙ ap (λ z. nat_lt 0 (length z)) (sym l))
    ∙ ap (λ b. nat_lt 0 (length lows) && b) (any-filter (is_upper x) c ∙ ap (λ z. nat_lt 0 (length z)) (sym u))

pub entry-one_sided : (x : ℕ) (c lows ups : List Literal) (two : Bool) → is_bounded x c ≡ true → lows ≡ lowers x c → ups ≡ uppers x c → two ≡ (nat_lt 0 (length lows) && nat_lt 0 (length ups)) → two ≡ false
    → bounds_entry x c ≡ OneSided
entry-one_sided x c lows ups two bounded l u is none =
    ap (λ b. cond b OneSided (cond (is_exact x c) Exact Dark)) (one_sided_left x c bounded (two_sided_is x c lows ups bounded l u ∙ sym is ∙ none))

pub entry-two_sided : (x : ℕ) (c lows ups : List Literal) (units : Bool) → is_bounded x c ≡ true → is_two_sided x c ≡ true → lows ≡ lowers x c → ups ≡ uppers x c
    → units ≡ (list_all (has_unit x) lows || list_all (has_unit x) ups) → bounds_entry x c ≡ cond units Exact Dark
entry-two_sided x c lows ups units bounded two l u is =
    ap (λ b. cond b OneSided (cond (is_exact x c) Exact Dark)) (not_one_sided x c bounded two)
    ∙ ap (λ b. cond (b && (list_all (has_unit x) (lowers x c) || list_all (has_unit x) (uppers x c))) Exact Dark) two
    ∙ ap (λ b. cond b Exact Dark)
    (sym (is ∙ ap (λ z. list_all (has_unit x) z || list_all (has_unit x) ups) l ∙ ap (λ z. list_all (has_unit x) (lowers x c) || list_all (has_unit x) z) u))
