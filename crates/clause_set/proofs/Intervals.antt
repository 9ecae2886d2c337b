-- In a clause the literals bound each list of coefficients once, so clauses that cover each other are equal.
use Rattle.std.proofs.Common.{◌≡◌, ◌≢◌, ℕ, ℤ, pos, neg_ℤ, ◌+ℤ◌, ◌≤ℤ◌, int_le, Bool, true, false, ◌||◌, cond, List, [], ◌∷◌, map, Option, Some, None, inl, inr, refl, sym, ◌∙◌, ap, subst, arith}
use Rattle.std.specs.Prelude.{unsigned_abs}
use Rattle.std.specs.List.{AllByRecursion, list_any, flat_map}
use Rattle.std.specs.List.Sorted.{IsStrictlySortedBy}
use Rattle.std.specs.Ordering.{int_eq}
use Rattle.std.specs.Int.{int_div_euclid}
use Rattle.std.proofs.lemmas.Int.{ints}
use Rattle.std.proofs.lemmas.Bool.Decides.{Decides-int_eq}
use Rattle.std.proofs.lemmas.List.Elements.{recursion_from_All}
use Rattle.base_integers.specs.Divides.{divides}
use Rattle.linear_term.specs.Linear.{Linear}
use Rattle.linear_term.proofs.Totals.{by_test}
use Rattle.clause_set.specs.declared.literal.Literal.{Literal}
use Rattle.clause_set.specs.declared.literal.Literal.TheVariants.{Eq, Geq, Div, NDiv}
use Rattle.clause_set.specs.declared.literal.Norm.{Norm}
use Rattle.clause_set.specs.declared.literal.Norm.TheVariants.{True, False, Lit}
use Rattle.clause_set.specs.Literals.{IsLiteral}
use Rattle.clause_set.specs.Clause.{IsClause}
use Rattle.clause_set.specs.Formed.{IsFormed}
use Rattle.clause_set.specs.Normal.{gcd_with, divided, quotient, negated, leads_negative, turned, residues, residue, decided, denied, normal_equation, normal_inequality, normal_divisibility, normal_of}
use Rattle.clause_set.specs.Order.{literal_cmp, is_literal, sorted_once}
use Rattle.clause_set.specs.Clauses.{same_pairs, slack_of, slack, bounds_apart, extent, is_negative, is_zero, is_void, with_constant, tightened, compact, is_false, literals_of, clause_of}
use Rattle.clause_set.specs.Dnfs.{follows, is_implied, covers}
use Rattle.clause_set.proofs.Orders.{same_pairs-equal, same_pairs-refl}
use Rattle.clause_set.proofs.ClauseTruth.{AtMost, by_first}
use Rattle.clause_set.proofs.Covers.{Among, any_from, any_with, all_at, by_no, slack-at, slack-witness, same_literal_test, implied-slack, within_some}
use Rattle.clause_set.proofs.Divisors.{sorted_once-kept, kept-append}
use Rattle.clause_set.proofs.Formed.{normals-formed}
use Rattle.clause_set.proofs.Sorted.{literal_cmp-total, sorted_once-sorted, sorted-same, all_among}

-- ---- opposite coefficients
pub negated_twice : (ps : List (ℕ × ℤ)) → negated (negated ps) ≡ ps
negated_twice [] = refl
negated_twice (p ∷ ps) = let e : neg_ℤ (neg_ℤ p.1) ≡ p.1 = omega (arith, ints) in λ i. (p.0, e i) ∷ negated_twice ps i

apart_swap : (a b : Option ℤ) → bounds_apart a b ≡ bounds_apart b a
apart_swap None None = refl
apart_swap None (Some b) = refl
apart_swap (Some a) None = refl
apart_swap (Some a) (Some b) = ap Some (let e : a +ℤ b ≡ b +ℤ a = omega (arith, ints) in e)

pub extent-negated : (ls : List Literal) (p : List (ℕ × ℤ)) → extent ls (negated p) ≡ extent ls p
extent-negated ls p = ap (λ q. bounds_apart (slack ls (negated p)) (slack ls q)) (negated_twice p) ∙ apart_swap (slack ls (negated p)) (slack ls p)

-- ---- literals that the bounds of ls fit: an equation where these leave one value, a bound where they do not
unfoldable pub Fits : List Literal → Literal → Type 0
Fits ls (Eq t) = (is_zero (extent ls t.pairs) ≡ true) × (slack ls t.pairs ≡ Some t.constant)
Fits ls (Geq t) = (is_zero (extent ls t.pairs) ≡ false) × (slack ls t.pairs ≡ Some t.constant)
Fits ls (Div d t) = Unit {0}
Fits ls (NDiv d t) = Unit {0}

-- an equation has coefficients, which are not those of its opposite
IsTwoSided : Literal → Type 0
IsTwoSided (Eq t) = same_pairs t.pairs (negated t.pairs) ≡ false
IsTwoSided (Geq t) = Unit {0}
IsTwoSided (Div d t) = Unit {0}
IsTwoSided (NDiv d t) = Unit {0}

point-zero : (a b : Option ℤ) (k : ℤ) → AtMost a k → AtMost b (neg_ℤ k) → is_negative (bounds_apart a b) ≡ false → is_zero (bounds_apart a b) ≡ true
point-zero None b k h g n = absurd h
point-zero (Some a) None k h g n = absurd g
point-zero (Some a) (Some b) k h g n =
    let le : pos 0 ≤ℤ (a +ℤ b) = grind (arith, ints) in
    (Decides-int_eq (a +ℤ b) (pos 0)).1 (omega (arith, ints, le, h, g))

point-bound : (a b : Option ℤ) (k : ℤ) → AtMost a k → AtMost b (neg_ℤ k) → is_negative (bounds_apart a b) ≡ false → a ≡ Some k
point-bound None b k h g n = absurd h
point-bound (Some a) None k h g n = absurd g
point-bound (Some a) (Some b) k h g n =
    let le : pos 0 ≤ℤ (a +ℤ b) = grind (arith, ints) in
    ap Some (let e : a ≡ k = omega (arith, ints, le, h, g) in e)

pub slack_of-own : (t : Linear) → slack_of (Eq t) t.pairs ≡ Some t.constant
slack_of-own t = ap (λ b. cond b (Some t.constant) (cond (same_pairs t.pairs (negated t.pairs)) (Some (neg_ℤ t.constant)) None)) (same_pairs-refl t.pairs)

pub slack_of-bound : (t : Linear) → slack_of (Geq t) t.pairs ≡ Some t.constant
slack_of-bound t = ap (λ b. cond b (Some t.constant) None) (same_pairs-refl t.pairs)

pub slack_of-opposite : (t : Linear) → same_pairs t.pairs (negated t.pairs) ≡ false → slack_of (Eq t) (negated t.pairs) ≡ Some (neg_ℤ t.constant)
slack_of-opposite t n =
    let twice : same_pairs t.pairs (negated (negated t.pairs)) ≡ true = ap (same_pairs t.pairs) (negated_twice t.pairs) ∙ same_pairs-refl t.pairs in
    ap (λ b. cond b (Some t.constant) (cond (same_pairs t.pairs (negated (negated t.pairs))) (Some (neg_ℤ t.constant)) None)) n
    ∙ ap (λ b. cond b (Some (neg_ℤ t.constant)) None) twice

bound-fits : (ls : List Literal) (t : Linear) (a : Option ℤ) → slack ls t.pairs ≡ a → AtMost a t.constant → is_zero (extent ls t.pairs) ≡ false → Fits ls (Geq (with_constant a t))
unfolding Fits
bound-fits ls t None e h z = absurd h
bound-fits ls t (Some k) e h z = (z, e)

other_bound : (a b : Option ℤ) (k : ℤ) → a ≡ Some k → is_zero (bounds_apart a b) ≡ true → b ≡ Some (neg_ℤ k)
other_bound None b k e z = absurd cc
other_bound (Some a) None k e z = absurd cc
other_bound (Some a) (Some b) k e z =
    let same : a ≡ k = cc in
    let s : a +ℤ b ≡ pos 0 = (Decides-int_eq (a +ℤ b) (pos 0)).0 z in
    ap Some (let w : b ≡ neg_ℤ k = omega (arith, ints, same, s) in w)

turned-fits : (ls : List Literal) (t : Linear) (a : Option ℤ) → slack ls t.pairs ≡ a → AtMost a t.constant → is_zero (extent ls t.pairs) ≡ true → Fits ls (Eq (turned (with_constant a t)))
unfolding Fits
turned-fits ls t None e h z = absurd h
turned-fits ls t (Some k) e h z =
    by_test (λ s. Fits ls (Eq s)) (leads_negative t.pairs) (record { pairs = negated t.pairs; constant = neg_ℤ k }) (record { pairs = t.pairs; constant = k })
    (λ _. (ap is_zero (extent-negated ls t.pairs) ∙ z, other_bound (slack ls t.pairs) (slack ls (negated t.pairs)) k e z))
    (λ _. (z, e))

tightened-fits : (ls : List Literal) (l : Literal) → Among l ls → IsTwoSided l → is_void ls l ≡ false → Fits ls (tightened ls l)
unfolding Fits IsTwoSided
tightened-fits ls (Eq t) m two v =
    let low = slack-at (Eq t) ls t.pairs t.constant m (slack_of-own t) in
    let high = slack-at (Eq t) ls (negated t.pairs) (neg_ℤ t.constant) m (slack_of-opposite t two) in
    (point-zero (slack ls t.pairs) (slack ls (negated t.pairs)) t.constant low high v, point-bound (slack ls t.pairs) (slack ls (negated t.pairs)) t.constant low high v)
tightened-fits ls (Geq t) m two v =
    let low = slack-at (Geq t) ls t.pairs t.constant m (slack_of-bound t) in
    by_test (Fits ls) (is_zero (extent ls t.pairs)) (Eq (turned (with_constant (slack ls t.pairs) t))) (Geq (with_constant (slack ls t.pairs) t))
    (λ z. turned-fits ls t (slack ls t.pairs) refl low z)
    (λ z. bound-fits ls t (slack ls t.pairs) refl low z)
tightened-fits ls (Div d t) m two v = tt
tightened-fits ls (NDiv d t) m two v = tt

all_tightened-fit : (ls ms : List Literal) → ((l : Literal) → Among l ms → Among l ls) → AllByRecursion IsTwoSided ms → list_any (is_void ls) ls ≡ false
    → AllByRecursion (Fits ls) (map (tightened ls) ms)
all_tightened-fit ls [] among two v = tt
all_tightened-fit ls (m ∷ ms) among two v =
    let here : Among m ls = among m (inl refl) in
    let not_void : is_void ls m ≡ false = by_no (is_void ls m) (λ y. let any : list_any (is_void ls) ls ≡ true = any_with (is_void ls) m ls here y in cc) in
    (tightened-fits ls m here two.0 not_void, all_tightened-fit ls ms (λ l h. among l (inr h)) two.1 v)

-- sorted literals that the bounds of some literals fit, which leave each of their forms a value
pub record AreIntervals (c : List Literal) : Type 0 where
  pub bounds : List Literal
  pub fit : AllByRecursion (Fits bounds) c
  pub sorted : IsStrictlySortedBy literal_cmp c
  pub not_void : list_any (is_void bounds) bounds ≡ false

pub compact-sorted : (ls c : List Literal) → compact ls ≡ Some c → IsStrictlySortedBy literal_cmp c
unfolding compact
compact-sorted ls c =
    by_test (λ a. a ≡ Some c → IsStrictlySortedBy literal_cmp c) (list_any (is_void ls) ls) None (Some (sorted_once literal_cmp (map (tightened ls) ls)))
    (λ _ e. absurd cc)
    (λ _ e. let same : sorted_once literal_cmp (map (tightened ls) ls) ≡ c = cc in
    subst (IsStrictlySortedBy literal_cmp) same (sorted_once-sorted literal_cmp literal_cmp-total (map (tightened ls) ls)))

compact-fits : (ls c : List Literal) → AllByRecursion IsTwoSided ls → compact ls ≡ Some c → AllByRecursion (Fits ls) c
unfolding compact
compact-fits ls c two =
    by_test (λ a. a ≡ Some c → AllByRecursion (Fits ls) c) (list_any (is_void ls) ls) None (Some (sorted_once literal_cmp (map (tightened ls) ls)))
    (λ _ e. absurd cc)
    (λ v e. let same : sorted_once literal_cmp (map (tightened ls) ls) ≡ c = cc in
    subst (AllByRecursion (Fits ls)) same (sorted_once-kept (Fits ls) literal_cmp (map (tightened ls) ls) (all_tightened-fit ls ls (λ l m. m) two v)))

-- ---- normal equations have coefficients
HasPair : List (ℕ × ℤ) → Type 0
HasPair [] = ⊥
HasPair (p ∷ ps) = Unit {0}

HasPairs : Literal → Type 0
HasPairs (Eq t) = HasPair t.pairs
HasPairs (Geq t) = Unit {0}
HasPairs (Div d t) = Unit {0}
HasPairs (NDiv d t) = Unit {0}

abbrev HavePairs : Norm → Type 0
HavePairs n = AllByRecursion HasPairs (literals_of n)

divided-pair : (g : ℤ) (ps : List (ℕ × ℤ)) → HasPair ps → HasPair (divided g ps)
unfolding HasPair
divided-pair g [] h = h
divided-pair g (p ∷ ps) h = tt

negated-pair : (ps : List (ℕ × ℤ)) → HasPair ps → HasPair (negated ps)
unfolding HasPair
negated-pair [] h = h
negated-pair (p ∷ ps) h = tt

turned-pair : (t : Linear) → HasPair t.pairs → HasPair (turned t).pairs
turned-pair t h =
    by_test (λ s. HasPair s.pairs) (leads_negative t.pairs) (record { pairs = negated t.pairs; constant = neg_ℤ t.constant }) t (λ _. negated-pair t.pairs h) (λ _. h)

decided-pairs : (b : Bool) → HavePairs (decided b)
decided-pairs true = tt
decided-pairs false = tt

equation-pairs : (t : Linear) (ps : List (ℕ × ℤ)) → t.pairs ≡ ps → HavePairs (normal_equation t ps)
unfolding HasPair HasPairs
equation-pairs t [] is = decided-pairs (int_eq t.constant (pos 0))
equation-pairs t (p ∷ ps) is =
    let g : ℤ = gcd_with (pos 0) (p ∷ ps) in
    let h : HasPair t.pairs = subst HasPair (sym is) tt in
    by_test HavePairs (divides (unsigned_abs g) t.constant) (Lit (Eq (turned (quotient g t)))) False
    (λ _. (turned-pair (quotient g t) (divided-pair g t.pairs h), tt))
    (λ _. tt)

inequality-pairs : (t : Linear) (ps : List (ℕ × ℤ)) → HavePairs (normal_inequality t ps)
unfolding HasPairs
inequality-pairs t [] = decided-pairs (int_le (pos 0) t.constant)
inequality-pairs t (p ∷ ps) = (tt, tt)

divisibility-pairs : (d : ℤ) (t : Linear) → HavePairs (normal_divisibility d t) × HavePairs (denied (normal_divisibility d t))
unfolding HasPairs
divisibility-pairs d t =
    let h : ℤ = gcd_with d (residues d t.pairs) in
    let s : Linear = residue d t in
    by_test (λ n. HavePairs n × HavePairs (denied n)) (divides (unsigned_abs h) s.constant) (cond (int_eq (int_div_euclid d h) (pos 1)) True (Lit (Div (int_div_euclid d h) (quotient h s)))) False
    (λ _. by_test (λ n. HavePairs n × HavePairs (denied n)) (int_eq (int_div_euclid d h) (pos 1)) True (Lit (Div (int_div_euclid d h) (quotient h s))) (λ _. (tt, tt)) (λ _. ((tt, tt), (tt, tt))))
    (λ _. (tt, tt))

normal-pairs : (l : Literal) → HavePairs (normal_of l)
unfolding normal_of
normal-pairs (Eq t) = equation-pairs t t.pairs refl
normal-pairs (Geq t) = inequality-pairs t t.pairs
normal-pairs (Div d t) = (divisibility-pairs d t).0
normal-pairs (NDiv d t) = (divisibility-pairs d t).1

normals-pairs : (ls : List Literal) → AllByRecursion HasPairs (flat_map (λ l. literals_of (normal_of l)) ls)
normals-pairs [] = tt
normals-pairs (l ∷ ls) = kept-append HasPairs (literals_of (normal_of l)) _ (normal-pairs l) (normals-pairs ls)

abbrev first_coefficient : List (ℕ × ℤ) → ℤ
first_coefficient [] = pos 0
first_coefficient (p ∷ ps) = p.1

two_sides : (ps : List (ℕ × ℤ)) → HasPair ps → AllByRecursion (λ p. p.1 ≢ pos 0) ps → same_pairs ps (negated ps) ≡ false
unfolding HasPair
two_sides [] h n = absurd h
two_sides (p ∷ ps) h n =
    by_no (same_pairs (p ∷ ps) (negated (p ∷ ps)))
    (λ y. let e : p.1 ≡ neg_ℤ p.1 = ap first_coefficient (same_pairs-equal (p ∷ ps) (negated (p ∷ ps)) y) in n.0 (omega (arith, ints, e)))

two_sided : (l : Literal) → IsFormed l → HasPairs l → IsTwoSided l
unfolding HasPairs IsTwoSided
two_sided (Eq t) f h = two_sides t.pairs h (recursion_from_All (λ p. p.1 ≢ pos 0) t.pairs f.literal.term.not_zero)
two_sided (Geq t) f h = tt
two_sided (Div d t) f h = tt
two_sided (NDiv d t) f h = tt

all_two_sided : (ls : List Literal) → AllByRecursion IsFormed ls → AllByRecursion HasPairs ls → AllByRecursion IsTwoSided ls
all_two_sided [] f h = tt
all_two_sided (l ∷ ls) f h = (two_sided l f.0 h.0, all_two_sided ls f.1 h.1)

-- ---- clauses
pub clause-sorted : (ls c : List Literal) → clause_of ls ≡ Some c → IsStrictlySortedBy literal_cmp c
unfolding clause_of
clause-sorted ls c =
    by_test (λ a. a ≡ Some c → IsStrictlySortedBy literal_cmp c) (list_any (λ l. is_false (normal_of l)) ls) None (compact (flat_map (λ l. literals_of (normal_of l)) ls))
    (λ _ e. absurd cc)
    (λ _ e. compact-sorted (flat_map (λ l. literals_of (normal_of l)) ls) c e)

clause-fits : (ls c : List Literal) → AllByRecursion IsLiteral ls → clause_of ls ≡ Some c → AllByRecursion (Fits (flat_map (λ l. literals_of (normal_of l)) ls)) c
unfolding clause_of
clause-fits ls c h =
    let normals = flat_map (λ l. literals_of (normal_of l)) ls in
    by_test (λ a. a ≡ Some c → AllByRecursion (Fits normals) c) (list_any (λ l. is_false (normal_of l)) ls) None (compact normals)
    (λ _ e. absurd cc)
    (λ _ e. compact-fits normals c (all_two_sided normals (normals-formed ls h) (normals-pairs ls)) e)

compact-not_void : (ls c : List Literal) → compact ls ≡ Some c → list_any (is_void ls) ls ≡ false
unfolding compact
compact-not_void ls c =
    by_test (λ a. a ≡ Some c → list_any (is_void ls) ls ≡ false) (list_any (is_void ls) ls) None (Some (sorted_once literal_cmp (map (tightened ls) ls)))
    (λ _ e. absurd cc)
    (λ v _. v)

clause-not_void : (ls c : List Literal) → clause_of ls ≡ Some c → list_any (is_void (flat_map (λ l. literals_of (normal_of l)) ls)) (flat_map (λ l. literals_of (normal_of l)) ls) ≡ false
unfolding clause_of
clause-not_void ls c =
    let normals = flat_map (λ l. literals_of (normal_of l)) ls in
    by_test (λ a. a ≡ Some c → list_any (is_void normals) normals ≡ false) (list_any (λ l. is_false (normal_of l)) ls) None (compact normals)
    (λ _ e. absurd cc)
    (λ _ e. compact-not_void normals c e)

pub clause-intervals : (c : List Literal) → IsClause c → AreIntervals c
clause-intervals c h = record {
  bounds = flat_map (λ l. literals_of (normal_of l)) h.conjunction;
  fit = clause-fits h.conjunction c (recursion_from_All IsLiteral h.conjunction h.of_literals) h.is;
  sorted = clause-sorted h.conjunction c h.is;
  not_void = clause-not_void h.conjunction c h.is;
}

-- ---- one interval
pub same_linear : (s t : Linear) → s.pairs ≡ t.pairs → s.constant ≡ t.constant → s ≡ t
same_linear s t e f = λ i. record { pairs = e i; constant = f i }

same_constant : (ls : List Literal) (s t : Linear) → slack ls s.pairs ≡ Some s.constant → slack ls t.pairs ≡ Some t.constant → s.pairs ≡ t.pairs → s ≡ t
same_constant ls s t h k e =
    let both : Some s.constant ≡ Some t.constant = sym h ∙ ap (slack ls) e ∙ k in
    let same : s.constant ≡ t.constant = cc in
    same_linear s t e same

pub one_bound : (c : List Literal) (s t : Linear) → AreIntervals c → Among (Geq s) c → Among (Geq t) c → s.pairs ≡ t.pairs → s ≡ t
unfolding Fits
one_bound c s t h a b e =
    same_constant h.bounds s t (all_among (Fits h.bounds) (Geq s) c h.fit a).1 (all_among (Fits h.bounds) (Geq t) c h.fit b).1 e

pub one_equation : (c : List Literal) (s t : Linear) → AreIntervals c → Among (Eq s) c → Among (Eq t) c → s.pairs ≡ t.pairs → s ≡ t
unfolding Fits
one_equation c s t h a b e =
    same_constant h.bounds s t (all_among (Fits h.bounds) (Eq s) c h.fit a).1 (all_among (Fits h.bounds) (Eq t) c h.fit b).1 e

pub not_both : (c : List Literal) (s t : Linear) → AreIntervals c → Among (Eq s) c → Among (Geq t) c → s.pairs ≡ t.pairs → ⊥
unfolding Fits
not_both c s t h a b e =
    let yes = (all_among (Fits h.bounds) (Eq s) c h.fit a).0 in
    let no = (all_among (Fits h.bounds) (Geq t) c h.fit b).0 in
    let z : true ≡ false = sym yes ∙ ap (λ p. is_zero (extent h.bounds p)) e ∙ no in cc

pub not_opposite : (c : List Literal) (s t : Linear) → AreIntervals c → Among (Eq s) c → Among (Geq t) c → s.pairs ≡ negated t.pairs → ⊥
unfolding Fits
not_opposite c s t h a b e =
    let yes = (all_among (Fits h.bounds) (Eq s) c h.fit a).0 in
    let no = (all_among (Fits h.bounds) (Geq t) c h.fit b).0 in
    let z : true ≡ false = sym yes ∙ ap (λ p. is_zero (extent h.bounds p)) e ∙ ap is_zero (extent-negated h.bounds t.pairs) ∙ no in cc

-- ---- clauses that cover each other
pub equation-slack : (P : Type 0) (s : Linear) (p : List (ℕ × ℤ)) (j : ℤ) → slack_of (Eq s) p ≡ Some j → (s.pairs ≡ p → P) → (s.pairs ≡ negated p → P) → P
equation-slack P s p j e f g =
    by_test (λ z. z ≡ Some j → P) (same_pairs s.pairs p) (Some s.constant) (cond (same_pairs s.pairs (negated p)) (Some (neg_ℤ s.constant)) None)
    (λ y _. f (same_pairs-equal s.pairs p y))
    (λ _. by_test (λ z. z ≡ Some j → P) (same_pairs s.pairs (negated p)) (Some (neg_ℤ s.constant)) None (λ y _. g (same_pairs-equal s.pairs (negated p) y)) (λ _ h. absurd cc))
    e

pub bound-slack : (P : Type 0) (s : Linear) (p : List (ℕ × ℤ)) (j : ℤ) → slack_of (Geq s) p ≡ Some j → (s.pairs ≡ p → s.constant ≡ j → P) → P
bound-slack P s p j e f =
    by_test (λ z. z ≡ Some j → P) (same_pairs s.pairs p) (Some s.constant) None
    (λ y h. let same : s.constant ≡ j = cc in f (same_pairs-equal s.pairs p y) same) (λ _ h. absurd cc) e

-- what bounds the coefficients of a bound of a clause in this clause is that bound
pub own_slack : (d : List Literal) (t : Linear) (m : Literal) (j : ℤ) → AreIntervals d → Among (Geq t) d → Among m d → slack_of m t.pairs ≡ Some j → t.constant ≡ j
own_slack d t (Eq s) j h a b e =
    absurd (equation-slack ⊥ s t.pairs j e (λ q. not_both d s t h b a q) (λ q. not_opposite d s t h b a q))
own_slack d t (Geq s) j h a b e =
    bound-slack (t.constant ≡ j) s t.pairs j e (λ q is. ap (λ (z : Linear). z.constant) (one_bound d t s h a b (sym q)) ∙ is)
own_slack d t (Div b' s) j h a b e = absurd cc
own_slack d t (NDiv b' s) j h a b e = absurd cc

at_most_some : (P : Type 0) (a : Option ℤ) (k : ℤ) → AtMost a k → ((j : ℤ) → a ≡ Some j → j ≤ℤ k → P) → P
at_most_some P None k h f = absurd h
at_most_some P (Some a) k h f = f a refl h

pub own_least : (d : List Literal) (t : Linear) (j : ℤ) → AreIntervals d → Among (Geq t) d → AtMost (slack d t.pairs) j → t.constant ≤ℤ j
own_least d t j h a low =
    at_most_some (t.constant ≤ℤ j) (slack d t.pairs) j low
    (λ i e le. let w = slack-witness d t.pairs i e in
    let same : t.constant ≡ i = own_slack d t w.literal i h a w.among w.is in omega (arith, ints, same, le))

pub held : (c : List Literal) (l : Literal) → list_any (is_literal l) c ≡ true → Among l c
held c l t = let w = any_from (is_literal l) c t in subst (λ z. Among z c) (sym (same_literal_test l w.element w.passes)) w.among

held_equation : (c : List Literal) (t : Linear) → is_implied c (Eq t) ≡ true → Among (Eq t) c
held_equation c t i = by_first (list_any (is_literal (Eq t)) c) false (Among (Eq t) c) i (λ y. held c (Eq t) y) (λ f. absurd cc)

-- a literal of c that bounds the coefficients of a bound of d as tightly is this bound
met_bound : (d c : List Literal) (t : Linear) (m : Literal) → AreIntervals d → covers c d ≡ true → Among (Geq t) d → Among m c → slack_of m t.pairs ≡ Some t.constant → Among (Geq t) c
met_bound d c t (Eq s) h back a b e =
    let kept : Among (Eq s) d = held_equation d s (all_at (is_implied d) (Eq s) c back b) in
    absurd (equation-slack ⊥ s t.pairs t.constant e (λ q. not_both d s t h kept a q) (λ q. not_opposite d s t h kept a q))
met_bound d c t (Geq s) h back a b e =
    bound-slack (Among (Geq t) c) s t.pairs t.constant e (λ q is. subst (λ z. Among (Geq z) c) (same_linear s t q is) b)
met_bound d c t (Div b' s) h back a b e = absurd cc
met_bound d c t (NDiv b' s) h back a b e = absurd cc

followed : (d c : List Literal) (t : Linear) → AreIntervals d → covers c d ≡ true → Among (Geq t) d → follows c (Geq t) ≡ true → Among (Geq t) c
followed d c t h back a f =
    within_some (Among (Geq t) c) (slack c t.pairs) t.constant f
    (λ j e le. let w = slack-witness c t.pairs j e in
    let low : AtMost (slack d t.pairs) j = implied-slack d w.literal t.pairs j (all_at (is_implied d) w.literal c back w.among) w.is in
    let more : t.constant ≤ℤ j = own_least d t j h a low in
    let same : j ≡ t.constant = omega (arith, ints, le, more) in
    met_bound d c t w.literal h back a w.among (w.is ∙ ap Some same))

member : (d c : List Literal) → AreIntervals d → covers d c ≡ true → covers c d ≡ true → (l : Literal) → Among l d → Among l c
member d c h there back (Eq t) a = held_equation c t (all_at (is_implied c) (Eq t) d there a)
member d c h there back (Geq t) a =
    by_first (list_any (is_literal (Geq t)) c) (follows c (Geq t)) (Among (Geq t) c) (all_at (is_implied c) (Geq t) d there a)
    (λ y. held c (Geq t) y) (λ f. followed d c t h back a f)
member d c h there back (Div b t) a = by_first (list_any (is_literal (Div b t)) c) false (Among (Div b t) c) (all_at (is_implied c) (Div b t) d there a) (λ y. held c (Div b t) y) (λ f. absurd cc)
member d c h there back (NDiv b t) a = by_first (list_any (is_literal (NDiv b t)) c) false (Among (NDiv b t) c) (all_at (is_implied c) (NDiv b t) d there a) (λ y. held c (NDiv b t) y) (λ f. absurd cc)

-- clauses that cover each other are equal
pub covers-back : (d c : List Literal) → IsClause d → IsClause c → covers d c ≡ true → covers c d ≡ true → d ≡ c
covers-back d c hd hc there back =
    let id = clause-intervals d hd in
    let ic = clause-intervals c hc in
    sorted-same literal_cmp literal_cmp-total d c id.sorted ic.sorted (member d c id there back) (member c d ic back there)

-- ---- what a clause bounds, by membership tests
pub bounds-once : (c : List Literal) (s t : Linear) → IsClause c → list_any (is_literal (Geq s)) c ≡ true → list_any (is_literal (Geq t)) c ≡ true → s.pairs ≡ t.pairs → s ≡ t
bounds-once c s t h a b e = one_bound c s t (clause-intervals c h) (held c (Geq s) a) (held c (Geq t) b) e

pub equations-once : (c : List Literal) (s t : Linear) → IsClause c → list_any (is_literal (Eq s)) c ≡ true → list_any (is_literal (Eq t)) c ≡ true → s.pairs ≡ t.pairs → s ≡ t
equations-once c s t h a b e = one_equation c s t (clause-intervals c h) (held c (Eq s) a) (held c (Eq t) b) e

pub equations-alone : (c : List Literal) (s t : Linear) → IsClause c → list_any (is_literal (Eq s)) c ≡ true → list_any (is_literal (Geq t)) c ≡ true
    → (same_pairs s.pairs t.pairs || same_pairs s.pairs (negated t.pairs)) ≡ false
equations-alone c s t h a b =
    let i = clause-intervals c h in
    by_no (same_pairs s.pairs t.pairs || same_pairs s.pairs (negated t.pairs))
    (λ y. by_first (same_pairs s.pairs t.pairs) (same_pairs s.pairs (negated t.pairs)) ⊥ y
    (λ q. not_both c s t i (held c (Eq s) a) (held c (Geq t) b) (same_pairs-equal s.pairs t.pairs q))
    (λ q. not_opposite c s t i (held c (Eq s) a) (held c (Geq t) b) (same_pairs-equal s.pairs (negated t.pairs) q)))
