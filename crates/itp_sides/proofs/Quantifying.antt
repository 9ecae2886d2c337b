-- A formula with its own constants under quantifiers is the strongest, or the weakest, condition.
use Rattle.std.proofs.Common.{◌≡◌, ◌≢◌, ◌↔◌, ◌+◌, ◌<◌, ◌≤◌, ◌&&◌, ◌||◌, not, ℕ, zero, suc, ℤ, Bool, true, false, cond, nat_eq, nat_lt, List, [], ◌∷◌, ◌++◌, map, length, length-append, refl, sym, ◌∙◌, ap, subst, arith, append_assoc, append-nil, filter, if◌then◌else◌, inl, inr}
use Rattle.std.specs.List.{list_any}
use Rattle.std.proofs.lemmas.Bool.{cases_lt, false≢true}
use Rattle.std.proofs.lemmas.Bool.Decides.{nat_tests}
use Rattle.base_integers.specs.Entry.{entry, put}
use Rattle.base_integers.proofs.Entries.{entry-append_left, entry-append_right, entry-put_same, entry-put_other, length-put}
use Rattle.form_typed.specs.declared.typed.Sort.{Sort}
use Rattle.form_typed.specs.Formula.{Formula, negation}
use Rattle.form_typed.specs.Sorts.{IsValueOf, AreValuesOf}
use Rattle.form_typed.specs.Truth.{Meaning, Truth}
use Rattle.form_typed.proofs.Stability.{truth_stable}
use Rattle.pri_typing.specs.declared.problem.Problem.{Problem}
use Rattle.pri_typing.specs.WellFormed.{IsWellFormed}
use Rattle.form_encoding.specs.Meaning.{type_at}
use Rattle.form_encoding.specs.Occurrences.{names_in, occurs}
use Rattle.form_encoding.specs.Problems.{constants, types}
use Rattle.form_encoding.proofs.Conditions.{pointwise, values_length}
use Rattle.form_encoding.proofs.Parts.{types_many}
use Rattle.itp_sides.specs.Between.{AreTyped, AgreeOn, IsStrongest, IsWeakest}
use Rattle.itp_sides.specs.Closing.{renamed, quantified, numbers_from, own_constants, place_of, rebound, types_of, strongest_formula, weakest_formula}
use Rattle.itp_sides.proofs.Renaming.{renamed_true}
use Rattle.itp_sides.proofs.Agreeing.{agree_true, met_by, same_number, right_any}

-- Quantifiers in a row.

pub every_value : (w : Meaning) (ss : List Sort) (f : Formula) (e : List ℤ) → Truth w (quantified true ss f) e ↔ ((vs : List ℤ) → AreValuesOf ss vs → Truth w f (e ++ vs))
every_value w [] f e = (
  λ h vs l. subst (λ z. Truth w f (e ++ z)) (sym (no_value vs l)) (subst (Truth w f) (sym (append-nil e)) h),
  λ h. subst (Truth w f) (append-nil e) (h [] tt),
)
  where
    no_value : (vs : List ℤ) → AreValuesOf [] vs → vs ≡ []
    no_value [] l = refl
    no_value (v ∷ vs) l = absurd l
every_value w (s ∷ ss) f e = (
  λ h vs l. by vs l (λ v i us m. (every_value w ss f (e ++ v ∷ [])).0 (h v i) us m),
  λ h v i. (every_value w ss f (e ++ v ∷ [])).1 (λ vs l. subst (Truth w f) (sym (append_assoc e (v ∷ []) vs)) (h (v ∷ vs) (i, l))),
)
  where
    by : (vs : List ℤ) → AreValuesOf (s ∷ ss) vs → ((v : ℤ) → IsValueOf s v → (us : List ℤ) → AreValuesOf ss us → Truth w f ((e ++ v ∷ []) ++ us)) → Truth w f (e ++ vs)
    by [] l g = absurd l
    by (v ∷ vs) l g = subst (Truth w f) (append_assoc e (v ∷ []) vs) (g v l.0 vs l.1)

pub some_values : (w : Meaning) (ss : List Sort) (f : Formula) (e : List ℤ)
    → Truth w (quantified false ss f) e ↔ (¬ ((vs : List ℤ) → AreValuesOf ss vs → ¬ (Truth w f (e ++ vs))))
some_values w [] f e = (
  λ h k. k [] tt (subst (Truth w f) (sym (append-nil e)) h),
  λ h. truth_stable w f e (λ m. h (λ vs l t. m (by vs l t))),
)
  where
    by : (vs : List ℤ) → AreValuesOf [] vs → Truth w f (e ++ vs) → Truth w f e
    by [] l t = subst (Truth w f) (append-nil e) t
    by (v ∷ vs) l t = absurd l
some_values w (s ∷ ss) f e = (
  λ h k. h (λ v i t. (some_values w ss f (e ++ v ∷ [])).0 t (λ vs l u. k (v ∷ vs) (i, l) (subst (Truth w f) (append_assoc e (v ∷ []) vs) u))),
  λ h k. h (λ vs l t. by vs l t (λ v i us m u. k v i ((some_values w ss f (e ++ v ∷ [])).1 (λ n. n us m u)))),
)
  where
    by : (vs : List ℤ) → AreValuesOf (s ∷ ss) vs → Truth w f (e ++ vs) → ((v : ℤ) → IsValueOf s v → (us : List ℤ) → AreValuesOf ss us → ¬ (Truth w f ((e ++ v ∷ []) ++ us))) → ⊥
    by [] l t k = absurd l
    by (v ∷ vs) l t k = k v l.0 vs l.1 (subst (Truth w f) (sym (append_assoc e (v ∷ []) vs)) t)

-- Values of some constants.

with_values : List ℕ → List ℤ → List ℤ → List ℤ
with_values [] vs e = e
with_values (x ∷ own) [] e = e
with_values (x ∷ own) (v ∷ vs) e = put (with_values own vs e) x v

-- each number of the list is below n
AreBelow : ℕ → List ℕ → Type 0
AreBelow n [] = Unit {0}
AreBelow n (x ∷ xs) = (x < n) × AreBelow n xs

number_is : (x y : ℕ) → nat_eq x y ≡ true → x ≡ y
number_is x y h = grind (arith, nat_tests)

number_is_not : (x y : ℕ) → nat_eq x y ≡ false → y ≢ x
number_is_not x y h q = false≢true (sym h ∙ ap (nat_eq x) q ∙ same_number x)

or_none : (a b : Bool) → (a || b) ≡ false → (a ≡ false) × (b ≡ false)
or_none false false h = (refl, refl)
or_none false true h = absurd (false≢true (sym h))
or_none true b h = absurd (false≢true (sym h))

length-with_values : (n : ℕ) (own : List ℕ) (vs e : List ℤ) → length e ≡ n → AreBelow n own → length (with_values own vs e) ≡ n
unfolding with_values AreBelow
length-with_values n [] vs e l b = l
length-with_values n (x ∷ own) [] e l b = l
length-with_values n (x ∷ own) (v ∷ vs) e l b =
    let k = length-with_values n own vs e l b.1 in length-put (with_values own vs e) x v (omega (arith, b.0, k)) ∙ k

entry-others : (own : List ℕ) (vs e : List ℤ) (x : ℕ) → list_any (nat_eq x) own ≡ false → entry (with_values own vs e) x ≡ entry e x
unfolding with_values
entry-others [] vs e x h = refl
entry-others (y ∷ own) [] e x h = refl
entry-others (y ∷ own) (v ∷ vs) e x h =
    let k = or_none (nat_eq x y) (list_any (nat_eq x) own) h in
    entry-put_other (with_values own vs e) y x v (number_is_not x y k.0) ∙ entry-others own vs e x k.1

entry-own : (own : List ℕ) (vs e : List ℤ) (x : ℕ) → length vs ≡ length own → list_any (nat_eq x) own ≡ true
    → entry (with_values own vs e) x ≡ entry vs (place_of x own)
unfolding with_values
entry-own [] vs e x l h = absurd (false≢true h)
entry-own (y ∷ own) [] e x l h = absurd (omega (arith, l))
entry-own (y ∷ own) (v ∷ vs) e x l h = by (nat_eq x y) refl h (entry-own own vs e x (omega (arith, l)))
  where
    by : (c : Bool) → nat_eq x y ≡ c → (c || list_any (nat_eq x) own) ≡ true
        → (list_any (nat_eq x) own ≡ true → entry (with_values own vs e) x ≡ entry vs (place_of x own))
        → entry (put (with_values own vs e) y v) x ≡ entry (v ∷ vs) (if c then 0 else suc (place_of x own))
    by true q i f = ap (entry (put (with_values own vs e) y v)) (number_is x y q) ∙ entry-put_same (with_values own vs e) y v
    by false q i f = entry-put_other (with_values own vs e) y x v (number_is_not x y q) ∙ f i

entry-kept : (own : List ℕ) (d e : List ℤ) (x : ℕ) → list_any (nat_eq x) own ≡ true → entry (with_values own (map (entry d) own) e) x ≡ entry d x
unfolding with_values
entry-kept [] d e x h = absurd (false≢true h)
entry-kept (y ∷ own) d e x h = by (nat_eq x y) refl h (entry-kept own d e x)
  where
    by : (c : Bool) → nat_eq x y ≡ c → (c || list_any (nat_eq x) own) ≡ true
        → (list_any (nat_eq x) own ≡ true → entry (with_values own (map (entry d) own) e) x ≡ entry d x)
        → entry (put (with_values own (map (entry d) own) e) y (entry d y)) x ≡ entry d x
    by true q i f = ap (entry (put (with_values own (map (entry d) own) e) y (entry d y))) (number_is x y q)
        ∙ entry-put_same (with_values own (map (entry d) own) e) y (entry d y) ∙ ap (entry d) (sym (number_is x y q))
    by false q i f = entry-put_other (with_values own (map (entry d) own) e) y x (entry d y) (number_is_not x y q) ∙ f i

position-below : (x : ℕ) (own : List ℕ) → list_any (nat_eq x) own ≡ true → place_of x own < length own
position-below x [] h = absurd (false≢true h)
position-below x (y ∷ own) h = by (nat_eq x y) h (position-below x own)
  where
    by : (c : Bool) → (c || list_any (nat_eq x) own) ≡ true → (list_any (nat_eq x) own ≡ true → place_of x own < length own)
        → (if c then 0 else suc (place_of x own)) < suc (length own)
    by true i f = omega arith
    by false i f = let k = f i in omega (arith, k)

length-mapped : (d : List ℤ) (own : List ℕ) → length (map (entry d) own) ≡ length own
length-mapped d [] = refl
length-mapped d (x ∷ own) = ap suc (length-mapped d own)

-- Own constants.

in_filtered : (test : ℕ → Bool) (x k n : ℕ) → k ≤ x → x < k + n → test x ≡ true → list_any (nat_eq x) (filter test (numbers_from k n)) ≡ true
in_filtered test x k zero l m h = absurd (omega arith)
in_filtered test x k (suc n) l m h =
    elim (cases_lt k x) [
      | inl s ↦ behind (test k) (in_filtered test x (suc k) n (omega arith) (omega arith) h)
      | inr g ↦ let q : x ≡ k = omega arith in first (test k) (sym (ap test q) ∙ h) (ap (λ z. nat_eq z k) q ∙ same_number k)
    ]
  where
    behind : (c : Bool) → list_any (nat_eq x) (filter test (numbers_from (suc k) n)) ≡ true
        → list_any (nat_eq x) (if c then k ∷ filter test (numbers_from (suc k) n) else filter test (numbers_from (suc k) n)) ≡ true
    behind true i = right_any (nat_eq x k) (list_any (nat_eq x) (filter test (numbers_from (suc k) n))) i
    behind false i = i

    first : (c : Bool) → c ≡ true → nat_eq x k ≡ true
        → list_any (nat_eq x) (if c then k ∷ filter test (numbers_from (suc k) n) else filter test (numbers_from (suc k) n)) ≡ true
    first true i e = rw e refl
    first false i e = absurd (false≢true i)

out_of_filtered : (test : ℕ → Bool) (x k n : ℕ) → list_any (nat_eq x) (filter test (numbers_from k n)) ≡ true → test x ≡ true
out_of_filtered test x k zero h = absurd (false≢true h)
out_of_filtered test x k (suc n) h = by (test k) refl h (out_of_filtered test x (suc k) n)
  where
    at : (c : Bool) → nat_eq x k ≡ c → (c || list_any (nat_eq x) (filter test (numbers_from (suc k) n))) ≡ true
        → (list_any (nat_eq x) (filter test (numbers_from (suc k) n)) ≡ true → test x ≡ true) → test k ≡ true → test x ≡ true
    at true e i f t = ap test (number_is x k e) ∙ t
    at false e i f t = f i

    by : (c : Bool) → test k ≡ c → list_any (nat_eq x) (if c then k ∷ filter test (numbers_from (suc k) n) else filter test (numbers_from (suc k) n)) ≡ true
        → (list_any (nat_eq x) (filter test (numbers_from (suc k) n)) ≡ true → test x ≡ true) → test x ≡ true
    by true t i f = at (nat_eq x k) refl i f t
    by false t i f = f i

below_filtered : (test : ℕ → Bool) (k n m : ℕ) → k + n ≤ m → AreBelow m (filter test (numbers_from k n))
unfolding AreBelow
below_filtered test k zero m l = tt
below_filtered test k (suc n) m l = by (test k) (below_filtered test (suc k) n m (omega arith))
  where
    by : (c : Bool) → AreBelow m (filter test (numbers_from (suc k) n)) → AreBelow m (if c then k ∷ filter test (numbers_from (suc k) n) else filter test (numbers_from (suc k) n))
    by true h = (omega arith, h)
    by false h = h

own_is : (a b : Bool) → (a && not b) ≡ true → b ≡ false
own_is true false h = refl
own_is true true h = absurd (false≢true h)
own_is false b h = absurd (false≢true h)

-- a constant that stands in g is none of those that stand in f alone
foreign : (n : ℕ) (f g : Formula) (x : ℕ) → occurs x g ≡ true → list_any (nat_eq x) (own_constants n f g) ≡ false
foreign n f g x h = by (list_any (nat_eq x) (own_constants n f g)) refl
  where
    by : (c : Bool) → list_any (nat_eq x) (own_constants n f g) ≡ c → c ≡ false
    by true q = absurd (false≢true (sym (own_is (occurs x f) (occurs x g) (out_of_filtered (λ y. occurs y f && not (occurs y g)) x 0 n q)) ∙ h))
    by false q = refl

-- a constant that stands in f and is none of those stands in g
shared : (n : ℕ) (f g : Formula) (x : ℕ) → x < n → occurs x f ≡ true → list_any (nat_eq x) (own_constants n f g) ≡ false → occurs x g ≡ true
shared n f g x l h q = by (occurs x g) refl
  where
    by : (c : Bool) → occurs x g ≡ c → c ≡ true
    by true i = refl
    by false i = absurd (false≢true (sym q ∙ in_filtered (λ y. occurs y f && not (occurs y g)) x 0 n (omega arith) (omega arith) (rw (h, i) refl)))

-- Truth of a formula with rebound constants.

lt_is : (x n : ℕ) → x < n → nat_lt x n ≡ true
lt_is x n h = grind (arith, nat_tests)

lt_is_not : (x n : ℕ) → n ≤ x → nat_lt x n ≡ false
lt_is_not x n h = grind (arith, nat_tests)

rebound-behind : (n : ℕ) (own : List ℕ) (x : ℕ) → n ≤ x → rebound n own x ≡ x + length own
rebound-behind n own x h = ap (λ c. cond c (cond (list_any (nat_eq x) own) (n + place_of x own) x) (x + length own)) (lt_is_not x n h)

rebound-constant : (n : ℕ) (own : List ℕ) (x : ℕ) → x < n → rebound n own x ≡ cond (list_any (nat_eq x) own) (n + place_of x own) x
rebound-constant n own x h = ap (λ c. cond c (cond (list_any (nat_eq x) own) (n + place_of x own) x) (x + length own)) (lt_is x n h)

constant_met : (n : ℕ) (own : List ℕ) (vs e : List ℤ) (x : ℕ) → length e ≡ n → length vs ≡ length own → x < n
    → (rebound n own x < length (e ++ vs)) × (entry (e ++ vs) (rebound n own x) ≡ entry (with_values own vs e) x)
constant_met n own vs e x l m h =
    subst (λ z. (z < length (e ++ vs)) × (entry (e ++ vs) z ≡ entry (with_values own vs e) x)) (sym (rebound-constant n own x h)) (by (list_any (nat_eq x) own) refl)
  where
    by : (c : Bool) → list_any (nat_eq x) own ≡ c
        → (cond c (n + place_of x own) x < length (e ++ vs)) × (entry (e ++ vs) (cond c (n + place_of x own) x) ≡ entry (with_values own vs e) x)
    by true q =
        let k = position-below x own q in
        let long = length-append e vs in (
          omega (arith, k, long, l, m),
          ap (λ z. entry (e ++ vs) (z + place_of x own)) (sym l) ∙ entry-append_right e vs (place_of x own) ∙ sym (entry-own own vs e x m q),
        )
    by false q =
        let long = length-append e vs in
        (omega (arith, long, l, h), entry-append_left e vs x (omega (arith, l, h)) ∙ sym (entry-others own vs e x q))

rebound_true : (w : Meaning) (n : ℕ) (own : List ℕ) (f : Formula) (vs e : List ℤ) → length e ≡ n → length vs ≡ length own → AreBelow n own
    → Truth w (renamed (rebound n own) f) (e ++ vs) ↔ Truth w f (with_values own vs e)
rebound_true w n own f vs e l m b =
    let long = length-with_values n own vs e l b in
    let all = length-append e vs in
    renamed_true tt w (rebound n own) f (with_values own vs e) (e ++ vs)
    (λ x h. rebound-behind n own x (omega (arith, long, h)) ∙ omega (arith, long, all, l, m, h))
    (met_by (rebound n own) (with_values own vs e) (e ++ vs) (names_in f) (λ x o h. constant_met n own vs e x l m (omega (arith, long, h))))

own_below : (n : ℕ) (f g : Formula) → AreBelow n (own_constants n f g)
own_below n f g = below_filtered (λ x. occurs x f && not (occurs x g)) 0 n n (omega arith)

-- whatever the own constants of f become, g is the same
away : (n : ℕ) (f g : Formula) (vs e : List ℤ) → length e ≡ n → AgreeOn g e (with_values (own_constants n f g) vs e)
away n f g vs e l = record {
  long = length-with_values n (own_constants n f g) vs e l (own_below n f g) ∙ sym l;
  same = λ x h o. entry-others (own_constants n f g) vs e x (foreign n f g x o);
}

-- where a list agrees with e at the names of g, its values of the own constants of f are all that f asks
back : (n : ℕ) (f g : Formula) (d e : List ℤ) → length e ≡ n → AgreeOn g e d → AgreeOn f d (with_values (own_constants n f g) (map (entry d) (own_constants n f g)) e)
back n f g d e l a = record {
  long = length-with_values n (own_constants n f g) (map (entry d) (own_constants n f g)) e l (own_below n f g) ∙ sym (a.long ∙ l);
  same = λ x h o. by x h o (list_any (nat_eq x) (own_constants n f g)) refl;
}
  where
    by : (x : ℕ) → x < length d → occurs x f ≡ true → (c : Bool) → list_any (nat_eq x) (own_constants n f g) ≡ c
        → entry (with_values (own_constants n f g) (map (entry d) (own_constants n f g)) e) x ≡ entry d x
    by x h o true q = entry-kept (own_constants n f g) d e x q
    by x h o false q =
        let small : x < n = omega (arith, a.long, l, h) in
        entry-others (own_constants n f g) (map (entry d) (own_constants n f g)) e x q ∙ sym (a.same x (omega (arith, l, small)) (shared n f g x small o q))

-- Types.

put_typed : (ss : List Sort) (e : List ℤ) (x : ℕ) (v : ℤ) → x < length e → AreValuesOf ss e → IsValueOf (type_at ss x) v → AreValuesOf ss (put e x v)
put_typed [] [] x v l h i = absurd (omega (arith, l))
put_typed [] (u ∷ e) x v l h i = absurd h
put_typed (s ∷ ss) [] x v l h i = absurd h
put_typed (s ∷ ss) (u ∷ e) zero v l h i = (i, h.1)
put_typed (s ∷ ss) (u ∷ e) (suc x) v l h i = (h.0, put_typed ss e x v (omega (arith, l)) h.1 i)

with_typed : (ss : List Sort) (n : ℕ) (own : List ℕ) (vs e : List ℤ) → length e ≡ n → AreBelow n own → AreValuesOf ss e → AreValuesOf (map (type_at ss) own) vs
    → AreValuesOf ss (with_values own vs e)
unfolding with_values AreBelow
with_typed ss n [] vs e l b h k = h
with_typed ss n (x ∷ own) [] e l b h k = h
with_typed ss n (x ∷ own) (v ∷ vs) e l b h k =
    let long = length-with_values n own vs e l b.1 in
    put_typed ss (with_values own vs e) x v (omega (arith, b.0, long)) (with_typed ss n own vs e l b.1 h k.1) k.0

own_typed : (ss : List Sort) (own : List ℕ) (d : List ℤ) → length d ≡ length ss → AreValuesOf ss d → AreValuesOf (map (type_at ss) own) (map (entry d) own)
own_typed ss [] d l h = tt
own_typed ss (x ∷ own) d l h = ((pointwise ss d l).0 h x, own_typed ss own d l h)

length-types : (ss : List Sort) (own : List ℕ) → length (map (type_at ss) own) ≡ length own
length-types ss [] = refl
length-types ss (x ∷ own) = ap suc (length-types ss own)

-- values of the types of some constants are as many as those
as_many : (ss : List Sort) (own : List ℕ) (vs : List ℤ) → AreValuesOf (map (type_at ss) own) vs → length vs ≡ length own
as_many ss own vs h = values_length (map (type_at ss) own) vs h ∙ length-types ss own

put_in : (p : Problem) (own : List ℕ) (vs e : List ℤ) → AreBelow (constants p) own → AreTyped p e → AreValuesOf (types_of p own) vs → AreTyped p (with_values own vs e)
put_in p own vs e b l h = record { many = length-with_values (constants p) own vs e l.many b; typed = with_typed (types p) (constants p) own vs e l.many b l.typed h }

taken : (p : Problem) (own : List ℕ) (d : List ℤ) → IsWellFormed p → AreTyped p d → AreValuesOf (types_of p own) (map (entry d) own)
taken p own d formed l = own_typed (types p) own d (l.many ∙ sym (types_many p formed)) l.typed

pub strongest : (w : Meaning) (p : Problem) (first second : Formula) → IsWellFormed p → IsStrongest w p first second (Truth w (strongest_formula p first second))
strongest w p first second formed e l =
    let n = constants p in
    let own = own_constants n first second in
    let b = own_below n first second in
    let s = some_values w (types_of p own) (renamed (rebound n own) first) e in (
      λ h k. s.0 h (λ vs m t. k (with_values own vs e) (put_in p own vs e b l m) (away n first second vs e l.many) ((rebound_true w n own first vs e l.many (as_many (types p) own vs m) b).0 t)),
      λ h. s.1 (λ m. h (λ d typed a t.
          m (map (entry d) own) (taken p own d formed typed)
          ((rebound_true w n own first (map (entry d) own) e l.many (length-mapped d own) b).1 ((agree_true w first d _ (back n first second d e l.many a)).1 t)))),
    )

pub weakest : (w : Meaning) (p : Problem) (first second : Formula) → IsWellFormed p → IsWeakest w p first second (Truth w (weakest_formula p first second))
weakest w p first second formed e l =
    let n = constants p in
    let own = own_constants n second first in
    let b = own_below n second first in
    let s = every_value w (types_of p own) (renamed (rebound n own) (negation second)) e in (
      λ h d typed a t. s.0 h (map (entry d) own) (taken p own d formed typed)
          ((rebound_true w n own second (map (entry d) own) e l.many (length-mapped d own) b).1 ((agree_true w second d _ (back n second first d e l.many a)).1 t)),
      λ h. s.1 (λ vs m t.
          h (with_values own vs e) (put_in p own vs e b l m) (away n second first vs e l.many)
          ((rebound_true w n own second vs e l.many (as_many (types p) own vs m) b).0 t)),
    )
