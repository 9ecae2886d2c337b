-- The normal form of a conjunction is no farther from being without a name than the conjunction is.
use Rattle.std.proofs.Common.{◌≡◌, ◌<◌, ◌≤◌, ◌+◌, ◌*◌, ℕ, ℤ, pos, neg_ℤ, unsigned_abs, int_le, Bool, true, false, not, ◌||◌, cond, nat_eq, List, [], ◌∷◌, ◌++◌, map, Option, Some, None, refl, sym, ◌∙◌, ap, subst, arith}
use Rattle.std.specs.Prelude.{count_by}
use Rattle.std.specs.List.{AllByRecursion, list_any, flat_map}
use Rattle.std.specs.Int.{int_div_euclid, int_rem_euclid}
use Rattle.std.specs.Ordering.{int_eq}
use Rattle.std.specs.declared.cmp.Ordering.{Ordering}
use Rattle.std.specs.declared.cmp.Ordering.TheVariants.{Less, Equal, Greater}
use Rattle.std.proofs.lemmas.List.Folds.{list_any-append}
use Rattle.std.proofs.lemmas.List.Sums.{sum_by-cons, sum_by-append}
use Rattle.base_integers.specs.Divides.{divides}
use Rattle.linear_term.specs.Linear.{Linear, mentions, has_name}
use Rattle.linear_term.proofs.Totals.{by_test}
use Rattle.clause_set.specs.declared.literal.Literal.{Literal}
use Rattle.clause_set.specs.declared.literal.Literal.TheVariants.{Eq, Geq, Div, NDiv}
use Rattle.clause_set.specs.declared.literal.Norm.{Norm}
use Rattle.clause_set.specs.declared.literal.Norm.TheVariants.{True, False, Lit}
use Rattle.clause_set.specs.Names.{has, is_equation, is_divisibility, is_indivisibility}
use Rattle.clause_set.specs.Normal.{gcd_with, divided, quotient, negated, leads_negative, turned, residues, residue, decided, denied, normal_equation, normal_inequality, normal_divisibility, normal_of}
use Rattle.clause_set.specs.Order.{literal_cmp, insert_at, insert_once, inserted, sorted_once}
use Rattle.clause_set.specs.Clauses.{slack, extent, is_zero, is_void, with_constant, tightened, compact, is_false, literals_of, clause_of, found, clauses_of}
use Rattle.clause_set.specs.Rules.{measure}
use Rattle.clause_set.proofs.Divisors.{kept-append}
use Rattle.clause_set.proofs.Orders.{literal_cmp-equal, sorted_once-any}

-- ---- the names of terms
divided-names : (g : ℤ) (ps : List (ℕ × ℤ)) (x : ℕ) → has_name (divided g ps) x ≡ has_name ps x
divided-names g [] x = refl
divided-names g (p ∷ ps) x = ap (λ b. cond (nat_eq p.0 x) true b) (divided-names g ps x)

negated-names : (ps : List (ℕ × ℤ)) (x : ℕ) → has_name (negated ps) x ≡ has_name ps x
negated-names [] x = refl
negated-names (p ∷ ps) x = ap (λ b. cond (nat_eq p.0 x) true b) (negated-names ps x)

first_or_later : {A : Type 0} (a b : Bool) → cond a true b ≡ true → (a ≡ true → A) → (b ≡ true → A) → A
first_or_later true b h f g = f refl
first_or_later false b h f g = g h

later_true : (a b : Bool) → b ≡ true → cond a true b ≡ true
later_true true b h = refl
later_true false b h = h

residues-names : (d : ℤ) (ps : List (ℕ × ℤ)) (x : ℕ) → has_name (residues d ps) x ≡ true → has_name ps x ≡ true
residues-names d [] x = λ h. h
residues-names d (p ∷ ps) x =
    by_test (λ qs. has_name qs x ≡ true → cond (nat_eq p.0 x) true (has_name ps x) ≡ true) (not (int_eq (int_rem_euclid p.1 d) (pos 0)))
    ((p.0, int_rem_euclid p.1 d) ∷ residues d ps) (residues d ps)
    (λ _ h. first_or_later (nat_eq p.0 x) (has_name (residues d ps) x) h
    (λ e. ap (λ b. cond b true (has_name ps x)) e)
    (λ e. later_true (nat_eq p.0 x) (has_name ps x) (residues-names d ps x e)))
    (λ _ h. later_true (nat_eq p.0 x) (has_name ps x) (residues-names d ps x h))

quotient-mentions : (g : ℤ) (t : Linear) (x : ℕ) → mentions (quotient g t) x ≡ mentions t x
unfolding mentions
quotient-mentions g t x = divided-names g t.pairs x

turned-mentions : (t : Linear) (x : ℕ) → mentions (turned t) x ≡ mentions t x
unfolding mentions
turned-mentions t x =
    by_test (λ s. has_name s.pairs x ≡ has_name t.pairs x) (leads_negative t.pairs) (record { pairs = negated t.pairs; constant = neg_ℤ t.constant }) t
    (λ _. negated-names t.pairs x) (λ _. refl)

residue-mentions : (d : ℤ) (t : Linear) (x : ℕ) → mentions (residue d t) x ≡ true → mentions t x ≡ true
unfolding mentions
residue-mentions d t x h = residues-names d t.pairs x h

with_constant-mentions : (k : Option ℤ) (t : Linear) (x : ℕ) → mentions (with_constant k t) x ≡ mentions t x
unfolding mentions
with_constant-mentions None t x = refl
with_constant-mentions (Some k) t x = refl

constant-mentions : (t : Linear) (x : ℕ) → t.pairs ≡ [] → mentions t x ≡ false
unfolding mentions
constant-mentions t x e = ap (λ ps. has_name ps x) e

-- ---- ks is no farther from being without x than ls
pub record IsNoFarther (x : ℕ) (ks ls : List Literal) : Type 0 where
  pub named : list_any (has x) ks ≡ true → list_any (has x) ls ≡ true
  pub equation : list_any (is_equation x) ls ≡ true → list_any (is_equation x) ks ≡ true
  pub divisibilities : count_by (is_divisibility x) ks ≤ count_by (is_divisibility x) ls
  pub indivisibilities : count_by (is_indivisibility x) ks ≤ count_by (is_indivisibility x) ls

no_farther_trans : (x : ℕ) (ks bs cs : List Literal) → IsNoFarther x ks bs → IsNoFarther x bs cs → IsNoFarther x ks cs
no_farther_trans x ks bs cs h k = record {
  named = λ t. k.named (h.named t);
  equation = λ t. h.equation (k.equation t);
  divisibilities = omega (arith, h.divisibilities, k.divisibilities);
  indivisibilities = omega (arith, h.indivisibilities, k.indivisibilities);
}

or_mono : (a b c d : Bool) → (a ≡ true → c ≡ true) → (b ≡ true → d ≡ true) → (a || b) ≡ true → (c || d) ≡ true
or_mono true b true d f g h = refl
or_mono true b false d f g h = absurd (let t : false ≡ true = f refl in cc)
or_mono false b true d f g h = refl
or_mono false b false d f g h = g h

no_farther_append : (x : ℕ) (ks bs ls ms : List Literal) → IsNoFarther x ks ls → IsNoFarther x bs ms → IsNoFarther x (ks ++ bs) (ls ++ ms)
no_farther_append x ks bs ls ms h k = record {
  named = λ t. list_any-append (has x) ls ms ∙ or_mono _ _ _ _ h.named k.named (sym (list_any-append (has x) ks bs) ∙ t);
  equation = λ t. list_any-append (is_equation x) ks bs ∙ or_mono _ _ _ _ h.equation k.equation (sym (list_any-append (is_equation x) ls ms) ∙ t);
  divisibilities = omega (
    arith,
    h.divisibilities,
    k.divisibilities,
    sum_by-append (λ l. cond (is_divisibility x l) 1 0) ks bs,
    sum_by-append (λ l. cond (is_divisibility x l) 1 0) ls ms,
  );
  indivisibilities = omega (
    arith,
    h.indivisibilities,
    k.indivisibilities,
    sum_by-append (λ l. cond (is_indivisibility x l) 1 0) ks bs,
    sum_by-append (λ l. cond (is_indivisibility x l) 1 0) ls ms,
  );
}

no_farther_refl : (x : ℕ) (ls : List Literal) → IsNoFarther x ls ls
no_farther_refl x ls = record { named = λ t. t; equation = λ t. t; divisibilities = omega arith; indivisibilities = omega arith }

-- ---- the normal form of a literal is of the same kind and has no other names
abbrev IsLike : ℕ → Literal → Literal → Type 0
IsLike x (Eq t) (Eq s) = mentions s x ≡ mentions t x
IsLike x (Geq t) (Geq s) = mentions s x ≡ true → mentions t x ≡ true
IsLike x (Div d t) (Div k s) = mentions s x ≡ true → mentions t x ≡ true
IsLike x (NDiv d t) (NDiv k s) = mentions s x ≡ true → mentions t x ≡ true
IsLike x l m = ⊥

abbrev IsShape : ℕ → Literal → Norm → Type 0
IsShape x l True = is_equation x l ≡ false
IsShape x l False = Unit {0}
IsShape x l (Lit m) = IsLike x l m

decided-shape : (x : ℕ) (l : Literal) (b : Bool) → is_equation x l ≡ false → IsShape x l (decided b)
decided-shape x l true e = e
decided-shape x l false e = tt

equation-shape : (x : ℕ) (t : Linear) (ps : List (ℕ × ℤ)) → t.pairs ≡ ps → IsShape x (Eq t) (normal_equation t ps)
equation-shape x t [] e = decided-shape x (Eq t) (int_eq t.constant (pos 0)) (constant-mentions t x e)
equation-shape x t (p ∷ ps) e =
    let g : ℤ = gcd_with (pos 0) (p ∷ ps) in
    by_test (IsShape x (Eq t)) (divides (unsigned_abs g) t.constant) (Lit (Eq (turned (quotient g t)))) False
    (λ _. turned-mentions (quotient g t) x ∙ quotient-mentions g t x)
    (λ _. tt)

inequality-shape : (x : ℕ) (t : Linear) (ps : List (ℕ × ℤ)) → IsShape x (Geq t) (normal_inequality t ps)
inequality-shape x t [] = decided-shape x (Geq t) (int_le (pos 0) t.constant) refl
inequality-shape x t (p ∷ ps) = λ h. sym (quotient-mentions (gcd_with (pos 0) (p ∷ ps)) t x) ∙ h

divisibility-shape : (x : ℕ) (d : ℤ) (t : Linear) → IsShape x (Div d t) (normal_divisibility d t) × IsShape x (NDiv d t) (denied (normal_divisibility d t))
divisibility-shape x d t =
    let h : ℤ = gcd_with d (residues d t.pairs) in
    let s : Linear = residue d t in
    let like : mentions (quotient h s) x ≡ true → mentions t x ≡ true = (λ m. residue-mentions d t x (sym (quotient-mentions h s x) ∙ m)) in
    by_test (λ n. IsShape x (Div d t) n × IsShape x (NDiv d t) (denied n)) (divides (unsigned_abs h) s.constant)
    (cond (int_eq (int_div_euclid d h) (pos 1)) True (Lit (Div (int_div_euclid d h) (quotient h s)))) False
    (λ _. by_test (λ n. IsShape x (Div d t) n × IsShape x (NDiv d t) (denied n)) (int_eq (int_div_euclid d h) (pos 1)) True (Lit (Div (int_div_euclid d h) (quotient h s)))
    (λ _. (refl, tt)) (λ _. (like, like)))
    (λ _. (tt, refl))

normal-shape : (x : ℕ) (l : Literal) → IsShape x l (normal_of l)
unfolding normal_of
normal-shape x (Eq t) = equation-shape x t t.pairs refl
normal-shape x (Geq t) = inequality-shape x t t.pairs
normal-shape x (Div d t) = (divisibility-shape x d t).0
normal-shape x (NDiv d t) = (divisibility-shape x d t).1

or_alone : (b : Bool) → (b || false) ≡ b
or_alone true = refl
or_alone false = refl

one_le : (a b : Bool) → (a ≡ true → b ≡ true) → 0 + cond a 1 0 ≤ 0 + cond b 1 0
one_le true true h = omega arith
one_le true false h = absurd (let t : false ≡ true = h refl in cc)
one_le false b h = by b
  where
    by : (b : Bool) → 0 + cond false 1 0 ≤ 0 + cond b 1 0
    by true = omega arith
    by false = omega arith

one_or_false : (a b : Bool) → (a ≡ true → b ≡ true) → (a || false) ≡ true → (b || false) ≡ true
one_or_false a b h t = or_alone b ∙ h (sym (or_alone a) ∙ t)

like_no_farther : (x : ℕ) (l m : Literal) → IsLike x l m → IsNoFarther x (m ∷ []) (l ∷ [])
like_no_farther x (Eq t) (Eq s) h = record {
  named = one_or_false (mentions s x) (mentions t x) (λ y. sym h ∙ y);
  equation = one_or_false (mentions t x) (mentions s x) (λ y. h ∙ y);
  divisibilities = omega arith;
  indivisibilities = omega arith;
}
like_no_farther x (Geq t) (Geq s) h = record {
  named = one_or_false (mentions s x) (mentions t x) h;
  equation = λ y. y;
  divisibilities = omega arith;
  indivisibilities = omega arith;
}
like_no_farther x (Div d t) (Div k s) h = record {
  named = one_or_false (mentions s x) (mentions t x) h;
  equation = λ y. y;
  divisibilities = one_le (mentions s x) (mentions t x) h;
  indivisibilities = omega arith;
}
like_no_farther x (NDiv d t) (NDiv k s) h = record {
  named = one_or_false (mentions s x) (mentions t x) h;
  equation = λ y. y;
  divisibilities = omega arith;
  indivisibilities = one_le (mentions s x) (mentions t x) h;
}
like_no_farther x (Eq t) (Geq s) h = absurd h
like_no_farther x (Eq t) (Div k s) h = absurd h
like_no_farther x (Eq t) (NDiv k s) h = absurd h
like_no_farther x (Geq t) (Eq s) h = absurd h
like_no_farther x (Geq t) (Div k s) h = absurd h
like_no_farther x (Geq t) (NDiv k s) h = absurd h
like_no_farther x (Div d t) (Eq s) h = absurd h
like_no_farther x (Div d t) (Geq s) h = absurd h
like_no_farther x (Div d t) (NDiv k s) h = absurd h
like_no_farther x (NDiv d t) (Eq s) h = absurd h
like_no_farther x (NDiv d t) (Geq s) h = absurd h
like_no_farther x (NDiv d t) (Div k s) h = absurd h

-- nothing is no farther than a literal that is no equation with x
none_no_farther : (x : ℕ) (l : Literal) → is_equation x l ≡ false → IsNoFarther x [] (l ∷ [])
none_no_farther x l e = record {
  named = λ y. absurd cc;
  equation = λ y. absurd (let t : false ≡ true = sym e ∙ sym (or_alone (is_equation x l)) ∙ y in cc);
  divisibilities = omega arith;
  indivisibilities = omega arith;
}

shape_no_farther : (x : ℕ) (l : Literal) (n : Norm) → IsShape x l n → is_false n ≡ false → IsNoFarther x (literals_of n) (l ∷ [])
shape_no_farther x l True h f = none_no_farther x l h
shape_no_farther x l False h f = absurd cc
shape_no_farther x l (Lit m) h f = like_no_farther x l m h

or_none : (a b : Bool) → (a || b) ≡ false → (a ≡ false) × (b ≡ false)
or_none true b h = absurd cc
or_none false b h = (refl, h)

normals_no_farther : (x : ℕ) (ls : List Literal) → list_any (λ l. is_false (normal_of l)) ls ≡ false → IsNoFarther x (flat_map (λ l. literals_of (normal_of l)) ls) ls
normals_no_farther x [] f = no_farther_refl x []
normals_no_farther x (l ∷ ls) f =
    let parts = or_none (is_false (normal_of l)) (list_any (λ m. is_false (normal_of m)) ls) f in
    no_farther_append x (literals_of (normal_of l)) (flat_map (λ m. literals_of (normal_of m)) ls) (l ∷ []) ls
    (shape_no_farther x l (normal_of l) (normal-shape x l) parts.0) (normals_no_farther x ls parts.1)

-- ---- tightened bounds
tightened_no_farther : (x : ℕ) (ls : List Literal) (l : Literal) → IsNoFarther x (tightened ls l ∷ []) (l ∷ [])
tightened_no_farther x ls (Eq t) = no_farther_refl x (Eq t ∷ [])
tightened_no_farther x ls (Geq t) =
    let s : Linear = with_constant (slack ls t.pairs) t in
    by_test (λ m. IsNoFarther x (m ∷ []) (Geq t ∷ [])) (is_zero (extent ls t.pairs)) (Eq (turned s)) (Geq s)
    (λ _. record {
      named = one_or_false (mentions (turned s) x) (mentions t x) (λ y. sym (with_constant-mentions (slack ls t.pairs) t x) ∙ sym (turned-mentions s x) ∙ y);
      equation = λ y. absurd cc;
      divisibilities = omega arith;
      indivisibilities = omega arith;
    })
    (λ _. like_no_farther x (Geq t) (Geq s) (λ y. sym (with_constant-mentions (slack ls t.pairs) t x) ∙ y))
tightened_no_farther x ls (Div d t) = no_farther_refl x (Div d t ∷ [])
tightened_no_farther x ls (NDiv d t) = no_farther_refl x (NDiv d t ∷ [])

all_tightened_no_farther : (x : ℕ) (ls ms : List Literal) → IsNoFarther x (map (tightened ls) ms) ms
all_tightened_no_farther x ls [] = no_farther_refl x []
all_tightened_no_farther x ls (m ∷ ms) =
    no_farther_append x (tightened ls m ∷ []) (map (tightened ls) ms) (m ∷ []) ms (tightened_no_farther x ls m) (all_tightened_no_farther x ls ms)

-- ---- sorting keeps no element twice
inserted_at-count : {X : Type 0} (p : X → Bool) (o : Ordering) (x y : X) (ys rest : List X) → count_by p rest ≤ cond (p x) 1 0 + count_by p ys
    → count_by p (insert_at o x y ys rest) ≤ cond (p x) 1 0 + count_by p (y ∷ ys)
inserted_at-count p Less x y ys rest h = omega (arith, sum_by-cons (λ z. cond (p z) 1 0) x (y ∷ ys))
inserted_at-count p Equal x y ys rest h = omega arith
inserted_at-count p Greater x y ys rest h = omega (arith, h, sum_by-cons (λ z. cond (p z) 1 0) y rest, sum_by-cons (λ z. cond (p z) 1 0) y ys)

insert_once-count : {X : Type 0} (p : X → Bool) (R : X → X → Ordering) (x : X) (ys : List X) → count_by p (insert_once R x ys) ≤ cond (p x) 1 0 + count_by p ys
insert_once-count p R x [] = omega (arith, sum_by-cons (λ z. cond (p z) 1 0) x [])
insert_once-count p R x (y ∷ ys) = inserted_at-count p (R x y) x y ys (insert_once R x ys) (insert_once-count p R x ys)

inserted-count : {X : Type 0} (p : X → Bool) (R : X → X → Ordering) (xs : List X) → count_by p (inserted R xs []) ≤ count_by p xs
inserted-count p R [] = omega arith
inserted-count p R (x ∷ xs) =
    omega (arith, insert_once-count p R x (inserted R xs []), inserted-count p R xs, sum_by-cons (λ z. cond (p z) 1 0) x xs)

sorted_no_farther : (x : ℕ) (ls : List Literal) → IsNoFarther x (sorted_once literal_cmp ls) ls
unfolding sorted_once
sorted_no_farther x ls = record {
  named = λ t. sym (sorted_once-any literal_cmp (has x) literal_cmp-equal ls) ∙ t;
  equation = λ t. sorted_once-any literal_cmp (is_equation x) literal_cmp-equal ls ∙ t;
  divisibilities = inserted-count (is_divisibility x) literal_cmp ls;
  indivisibilities = inserted-count (is_indivisibility x) literal_cmp ls;
}

compact_no_farther : (x : ℕ) (ls c : List Literal) → compact ls ≡ Some c → IsNoFarther x c ls
unfolding compact
compact_no_farther x ls c =
    by_test (λ a. a ≡ Some c → IsNoFarther x c ls) (list_any (is_void ls) ls) None (Some (sorted_once literal_cmp (map (tightened ls) ls)))
    (λ _ e. absurd cc)
    (λ _ e. let same : sorted_once literal_cmp (map (tightened ls) ls) ≡ c = cc in
    subst (λ d. IsNoFarther x d ls) same
    (no_farther_trans x (sorted_once literal_cmp (map (tightened ls) ls)) (map (tightened ls) ls) ls (sorted_no_farther x (map (tightened ls) ls)) (all_tightened_no_farther x ls ls)))

pub clause_no_farther : (x : ℕ) (ls c : List Literal) → clause_of ls ≡ Some c → IsNoFarther x c ls
unfolding clause_of
clause_no_farther x ls c =
    by_test (λ a. a ≡ Some c → IsNoFarther x c ls) (list_any (λ l. is_false (normal_of l)) ls) None (compact (flat_map (λ l. literals_of (normal_of l)) ls))
    (λ _ e. absurd cc)
    (λ f e. let ms : List Literal = flat_map (λ l. literals_of (normal_of l)) ls in
    no_farther_trans x c ms ls (compact_no_farther x ms c e) (normals_no_farther x ls f))

-- ---- the measure
measure_step : (a b c d : Bool) (n m : ℕ) → (a ≡ true → b ≡ true) → (d ≡ true → c ≡ true) → n ≤ m → cond a (cond c 1 (2 + n)) 0 ≤ cond b (cond d 1 (2 + m)) 0
measure_step false b c d n m f g le = omega arith
measure_step true false c d n m f g le = absurd (let t : false ≡ true = f refl in cc)
measure_step true true true true n m f g le = omega arith
measure_step true true true false n m f g le = omega arith
measure_step true true false true n m f g le = absurd (let t : false ≡ true = g refl in cc)
measure_step true true false false n m f g le = omega arith

no_farther-measure : (x : ℕ) (ks ls : List Literal) → IsNoFarther x ks ls → measure x ks ≤ measure x ls
unfolding measure
no_farther-measure x ks ls h =
    let step = measure_step (list_any (has x) ks) (list_any (has x) ls) (list_any (is_equation x) ks) (list_any (is_equation x) ls)
    (2 * count_by (is_indivisibility x) ks + count_by (is_divisibility x) ks) (2 * count_by (is_indivisibility x) ls + count_by (is_divisibility x) ls)
    h.named h.equation (omega (arith, h.divisibilities, h.indivisibilities)) in
    let sums : (k m : ℕ) → 2 + 2 * k + m ≡ 2 + (2 * k + m) = (λ k m. omega arith) in
    subst (λ n. cond (list_any (has x) ks) (cond (list_any (is_equation x) ks) 1 n) 0 ≤ measure x ls) (sym (sums (count_by (is_indivisibility x) ks) (count_by (is_divisibility x) ks)))
    (subst (λ n. cond (list_any (has x) ks) (cond (list_any (is_equation x) ks) 1 (2 + (2 * count_by (is_indivisibility x) ks + count_by (is_divisibility x) ks))) 0
    ≤ cond (list_any (has x) ls) (cond (list_any (is_equation x) ls) 1 n) 0) (sym (sums (count_by (is_indivisibility x) ls) (count_by (is_divisibility x) ls))) step)

-- the clause of a conjunction has no greater measure
pub clause-measure : (x : ℕ) (ls c : List Literal) → clause_of ls ≡ Some c → measure x c ≤ measure x ls
clause-measure x ls c e = no_farther-measure x c ls (clause_no_farther x ls c e)

-- what is below n at conjunctions is so at their clauses
found-measure : (x n : ℕ) (ls : List Literal) (a : Option (List Literal)) → clause_of ls ≡ a → measure x ls < n → AllByRecursion (λ r. measure x r < n) (found a)
found-measure x n ls None e lt = tt
found-measure x n ls (Some c) e lt = (omega (arith, clause-measure x ls c e, lt), tt)

pub clauses-measure : (x n : ℕ) (cs : List (List Literal)) → AllByRecursion (λ r. measure x r < n) cs → AllByRecursion (λ r. measure x r < n) (clauses_of cs)
clauses-measure x n [] h = tt
clauses-measure x n (c ∷ cs) h =
    kept-append (λ r. measure x r < n) (found (clause_of c)) (clauses_of cs) (found-measure x n c (clause_of c) refl h.0) (clauses-measure x n cs h.1)

-- and so is a name that is in no conjunction
pub clause-free : (x : ℕ) (ls c : List Literal) → clause_of ls ≡ Some c → list_any (has x) ls ≡ false → list_any (has x) c ≡ false
clause-free x ls c e f = by (list_any (has x) c) refl
  where
    by : (b : Bool) → list_any (has x) c ≡ b → b ≡ false
    by true t = absurd (let u : list_any (has x) ls ≡ true = (clause_no_farther x ls c e).named t in cc)
    by false t = refl
