-- The form of a conjunction of two clauses: bounds that others are as tight as can be left out.
use Rattle.std.proofs.Common.{◌≡◌, ℕ, ℤ, ◌≤ℤ◌, Bool, true, cond, List, [], ◌∷◌, ◌++◌, map, Option, Some, None, ◌⊎◌, inl, inr, refl, sym, ◌∙◌, ap, subst, arith}
use Rattle.std.specs.Prelude.{All}
use Rattle.std.specs.Cmp.{both_ways}
use Rattle.std.specs.List.{AllByRecursion, list_any, flat_map}
use Rattle.std.specs.Ordering.{is_eq}
use Rattle.std.proofs.lemmas.Int.{ints}
use Rattle.std.proofs.lemmas.List.Elements.{All-append}
use Rattle.linear_term.specs.Linear.{Linear}
use Rattle.clause_set.specs.declared.literal.Literal.{Literal}
use Rattle.clause_set.specs.declared.literal.Literal.TheVariants.{Eq, Geq, Div, NDiv}
use Rattle.clause_set.specs.Literals.{IsLiteral, HasDivisor}
use Rattle.clause_set.specs.Clause.{IsClause}
use Rattle.clause_set.specs.Normal.{negated, turned, normal_of}
use Rattle.clause_set.specs.Order.{literal_cmp, sorted_once}
use Rattle.clause_set.specs.Contrary.{is_excluded}
use Rattle.clause_set.specs.Clauses.{same_pairs, slack, slack_of, bounds_apart, is_negative, is_zero, is_void, with_constant, tightened, compact, clause_of, literals_of}
use Rattle.clause_set.specs.Tighter.{IsTighter, IsImpliedLiteral, IsFirstLiteral, IsPut}
use Rattle.clause_set.proofs.ClauseTruth.{AtMost}
use Rattle.clause_set.proofs.Covers.{Among, any_from, any_with, at_most_self, at_most_more, slack-at, slack-witness, same_literal_test}
use Rattle.clause_set.proofs.Intervals.{bound-slack, slack_of-bound}
use Rattle.clause_set.proofs.Excluding.{compact_contrary}
use Rattle.clause_set.proofs.Orders.{same_pairs-equal}
use Rattle.clause_set.proofs.Across.{among_append, among_left, among_right}
use Rattle.clause_set.proofs.Reordered.{same_least, bounded_by, among_map, same_sorted}
use Rattle.clause_set.proofs.Owned.{clause-normal, normals-own, none_false}
use Rattle.clause_set.proofs.Primitive.{IsNormalLiteral}
use Rattle.clause_set.proofs.Divisors.{clause-divisors}

-- ---- what stands beside a tighter literal says nothing
-- one of xs, which says of its coefficients what l says, and is at least as tight
record Stands (xs : List Literal) (l : Literal) : Type 0 where
  by : Literal
  among : Among by xs
  bound : (q : List (ℕ × ℤ)) (k : ℤ) → slack_of l q ≡ Some k → AtMost (slack_of by q) k
  void : is_void xs l ≡ is_void xs by
  tight : tightened xs l ≡ tightened xs by

stands_self : (xs : List Literal) (l : Literal) → Among l xs → Stands xs l
stands_self xs l m = record { by = l; among = m; bound = λ q k e. at_most_self (slack_of l q) k e; void = refl; tight = refl }

stands_same : (xs : List Literal) (m l : Literal) → Among m xs → m ≡ l → Stands xs l
stands_same xs m l a e = stands_self xs l (subst (λ z. Among z xs) e a)

same_with : (o : Option ℤ) (s t : Linear) → AtMost o s.constant → s.pairs ≡ t.pairs → with_constant o t ≡ with_constant o s
same_with None s t h e = absurd h
same_with (Some k) s t h e = ap (λ p. record { pairs = p; constant = k }) (sym e)

stands_bound : (xs : List Literal) (s t : Linear) → Among (Geq s) xs → s.pairs ≡ t.pairs → s.constant ≤ℤ t.constant → Stands xs (Geq t)
stands_bound xs s t a e le = record {
  by = Geq s;
  among = a;
  bound = λ q k f. bound-slack (AtMost (slack_of (Geq s) q) k) t q k f
      (λ same is. let own : slack_of (Geq s) q ≡ Some s.constant = subst (λ z. slack_of (Geq s) z ≡ Some s.constant) (e ∙ same) (slack_of-bound s) in
      subst (λ o. AtMost o k) (sym own) (omega (arith, ints, le, is)));
  void = ap (λ p. is_negative (bounds_apart (slack xs p) (slack xs (negated p)))) (sym e);
  tight =
      let held : AtMost (slack xs s.pairs) s.constant = slack-at (Geq s) xs s.pairs s.constant a (slack_of-bound s) in
      let form = λ (p : List (ℕ × ℤ)) (z : Linear). cond (is_zero (bounds_apart (slack xs p) (slack xs (negated p)))) (Eq (turned z)) (Geq z) in
      ap (λ p. form p (with_constant (slack xs p) t)) (sym e) ∙ ap (form s.pairs) (same_with (slack xs s.pairs) s t held e);
}

stands_tighter : (xs : List Literal) (m l : Literal) → Among m xs → IsTighter m l → Stands xs l
stands_tighter xs (Geq s) (Geq t) a h = stands_bound xs s t a h.0 h.1
stands_tighter xs (Geq s) (Eq t) a h = stands_same xs (Geq s) (Eq t) a h
stands_tighter xs (Geq s) (Div d t) a h = stands_same xs (Geq s) (Div d t) a h
stands_tighter xs (Geq s) (NDiv d t) a h = stands_same xs (Geq s) (NDiv d t) a h
stands_tighter xs (Eq s) l a h = stands_same xs (Eq s) l a h
stands_tighter xs (Div d s) l a h = stands_same xs (Div d s) l a h
stands_tighter xs (NDiv d s) l a h = stands_same xs (NDiv d s) l a h

stands_in : (xs ys : List Literal) (l : Literal) → ((m : Literal) → Among m ys → Among m xs) → IsImpliedLiteral ys l → Stands xs l
stands_in xs [] l f h = absurd h
stands_in xs (y ∷ ys) l f (inl t) = stands_tighter xs y l (f y (inl refl)) t
stands_in xs (y ∷ ys) l f (inr h) = stands_in xs ys l (λ m a. f m (inr a)) h

at_most_of : (xs : List Literal) (m : Literal) (q : List (ℕ × ℤ)) (k : ℤ) (o : Option ℤ) → slack_of m q ≡ o → Among m xs → AtMost o k → AtMost (slack xs q) k
at_most_of xs m q k None e a h = absurd h
at_most_of xs m q k (Some j) e a h = at_most_more (slack xs q) j k (slack-at m xs q j a e) h

module _ (xs ys : List Literal) (f : (l : Literal) → Among l xs → Among l ys) (g : (l : Literal) → Among l ys → Stands xs l) where
  held_bound : (q : List (ℕ × ℤ)) (k : ℤ) → slack ys q ≡ Some k → AtMost (slack xs q) k
  held_bound q k e =
      let w = slack-witness ys q k e in
      let s = g w.literal w.among in
      at_most_of xs s.by q k (slack_of s.by q) refl s.among (s.bound q k w.is)

  same_slack : slack xs ≡ slack ys
  same_slack = λ i. λ q. same_least (slack xs q) (slack ys q) (bounded_by xs ys f q) (held_bound q) i

  same_void : (l : Literal) → is_void xs l ≡ is_void ys l
  same_void (Eq t) = ap (λ s. is_negative (bounds_apart (s t.pairs) (s (negated t.pairs)))) same_slack
  same_void (Geq t) = ap (λ s. is_negative (bounds_apart (s t.pairs) (s (negated t.pairs)))) same_slack
  same_void (Div d t) = refl
  same_void (NDiv d t) = refl

  same_tight : (l : Literal) → tightened xs l ≡ tightened ys l
  same_tight (Eq t) = refl
  same_tight (Geq t) =
      ap (λ s. cond (is_zero (bounds_apart (s t.pairs) (s (negated t.pairs)))) (Eq (turned (with_constant (s t.pairs) t))) (Geq (with_constant (s t.pairs) t))) same_slack
  same_tight (Div d t) = refl
  same_tight (NDiv d t) = refl

  void_there : list_any (is_void xs) xs ≡ true → list_any (is_void ys) ys ≡ true
  void_there h = let w = any_from (is_void xs) xs h in any_with (is_void ys) w.element ys (f w.element w.among) (sym (same_void w.element) ∙ w.passes)

  void_back : list_any (is_void ys) ys ≡ true → list_any (is_void xs) xs ≡ true
  void_back h =
      let w = any_from (is_void ys) ys h in
      let s = g w.element w.among in
      any_with (is_void xs) s.by xs s.among (sym s.void ∙ same_void w.element ∙ w.passes)

  tight_there : (ls : List Literal) (z : Literal) → ((l : Literal) → Among l ls → Among l xs) → Among z (map (tightened xs) ls) → Among z (map (tightened ys) ys)
  tight_there [] z h m = absurd m
  tight_there (l ∷ ls) z h (inl e) = subst (λ w. Among w (map (tightened ys) ys)) (sym (e ∙ same_tight l)) (among_map (tightened ys) l ys (f l (h l (inl refl))))
  tight_there (l ∷ ls) z h (inr m) = tight_there ls z (λ k a. h k (inr a)) m

  tight_back : (ls : List Literal) (z : Literal) → ((l : Literal) → Among l ls → Among l ys) → Among z (map (tightened ys) ls) → Among z (map (tightened xs) xs)
  tight_back [] z h m = absurd m
  tight_back (l ∷ ls) z h (inl e) =
      let s = g l (h l (inl refl)) in
      subst (λ w. Among w (map (tightened xs) xs)) (sym (e ∙ sym (same_tight l) ∙ s.tight)) (among_map (tightened xs) s.by xs s.among)
  tight_back (l ∷ ls) z h (inr m) = tight_back ls z (λ k a. h k (inr a)) m

-- the form is the same without literals that another one is as tight as
compact-held : (xs ys : List Literal) → ((l : Literal) → Among l xs → Among l ys) → ((l : Literal) → Among l ys → IsImpliedLiteral xs l) → compact xs ≡ compact ys
unfolding compact
compact-held xs ys f h =
    let g : (l : Literal) → Among l ys → Stands xs l = λ l m. stands_in xs xs l (λ k a. a) (h l m) in
    let voids : list_any (is_void xs) xs ≡ list_any (is_void ys) ys = both_ways (list_any (is_void xs) xs) (list_any (is_void ys) ys) (void_there xs ys f g) (void_back xs ys f g) in
    let sorts =
    same_sorted (map (tightened xs) xs) (map (tightened ys) ys)
    (λ z. tight_there xs ys f g xs z (λ l a. a))
    (λ z. tight_back xs ys f g ys z (λ l a. a)) in
    ap (λ b. cond b None (Some (sorted_once literal_cmp (map (tightened xs) xs)))) voids
    ∙ ap (λ z. cond (list_any (is_void ys) ys) None (Some z)) sorts

-- ---- literals that are held
tighter_self : (l : Literal) → IsTighter l l
tighter_self (Geq t) = (refl, omega (arith, ints))
tighter_self (Eq t) = refl
tighter_self (Div d t) = refl
tighter_self (NDiv d t) = refl

tighter_same : (l m : Literal) → l ≡ m → IsTighter l m
tighter_same l m e = subst (IsTighter l) e (tighter_self l)

pub tighter_equal : (l m : Literal) → is_eq (literal_cmp l m) ≡ true → IsTighter l m
tighter_equal l m e = tighter_same l m (same_literal_test l m e)

pub ruleset tighter = (tighter_equal)

pub same_form : (s t : Linear) (r : Bool) → r ≡ same_pairs s.pairs t.pairs → r ≡ true → s.pairs ≡ t.pairs
same_form s t r e h = same_pairs-equal s.pairs t.pairs (sym e ∙ h)

pub ruleset forms = (same_form)

held_among : (xs : List Literal) (l : Literal) → Among l xs → IsImpliedLiteral xs l
held_among [] l m = absurd m
held_among (x ∷ xs) l (inl e) = inl (tighter_same x l (sym e))
held_among (x ∷ xs) l (inr m) = inr (held_among xs l m)

held_more : (xs ys : List Literal) (l : Literal) → IsImpliedLiteral xs l → IsImpliedLiteral (xs ++ ys) l
held_more [] ys l h = absurd h
held_more (x ∷ xs) ys l (inl t) = inl t
held_more (x ∷ xs) ys l (inr h) = inr (held_more xs ys l h)

held_behind : (xs : List Literal) (x l : Literal) → IsTighter x l → IsImpliedLiteral (xs ++ x ∷ []) l
held_behind [] x l t = inl t
held_behind (y ∷ xs) x l t = inr (held_behind xs x l t)

pub held_last : (xs front : List Literal) (x l : Literal) → xs ≡ front ++ x ∷ [] → IsTighter x l → IsImpliedLiteral xs l
held_last xs front x l e t = subst (λ z. IsImpliedLiteral z l) (sym e) (held_behind front x l t)

pub ruleset held = (held_last)

-- ---- the merge
-- of the literals of both clauses those of left and of right are not yet asked
pub record Merging (all left right out : List Literal) : Type 0 where
  pub from_out : (l : Literal) → Among l out → Among l all
  pub from_left : (l : Literal) → Among l left → Among l all
  pub from_right : (l : Literal) → Among l right → Among l all
  pub held : (l : Literal) → Among l all → IsImpliedLiteral out l ⊎ (Among l left ⊎ Among l right)

pub merging_none : (c d : List Literal) → Merging (c ++ d) c d []
merging_none c d = record {
  from_out = λ l m. absurd m;
  from_left = λ l m. among_left l c d m;
  from_right = λ l m. among_right l c d m;
  held = λ l m. inr (among_append l c d m);
}

put_held : (out new : List Literal) (x l : Literal) → IsPut out x new → IsImpliedLiteral out l → IsImpliedLiteral new l
put_held out new x l (inl p) h = subst (λ z. IsImpliedLiteral z l) (sym p.0) h
put_held out new x l (inr e) h = subst (λ z. IsImpliedLiteral z l) (sym e) (held_more out (x ∷ []) l h)

put_self : (out new : List Literal) (x : Literal) → IsPut out x new → IsImpliedLiteral new x
put_self out new x (inl p) = subst (λ z. IsImpliedLiteral z x) (sym p.0) p.1
put_self out new x (inr e) = held_last new out x x e (tighter_self x)

one_of : (l x : Literal) (all : List Literal) → Among x all → Among l (x ∷ []) → Among l all
one_of l x all a (inl e) = subst (λ z. Among z all) (sym e) a
one_of l x all a (inr m) = absurd m

either_of : (l x : Literal) (all out : List Literal) → Among x all → (Among l out → Among l all) → Among l out ⊎ Among l (x ∷ []) → Among l all
either_of l x all out a f (inl m) = f m
either_of l x all out a f (inr m) = one_of l x all a m

put_from : (all out new : List Literal) (x : Literal) → IsPut out x new → Among x all → ((l : Literal) → Among l out → Among l all) → (l : Literal) → Among l new → Among l all
put_from all out new x (inl p) a f l m = f l (subst (Among l) p.0 m)
put_from all out new x (inr e) a f l m = either_of l x all out a (f l) (among_append l out (x ∷ []) (subst (Among l) e m))

first_or : (new : List Literal) (x l : Literal) (more : List Literal) → IsImpliedLiteral new x → Among l (x ∷ more) → IsImpliedLiteral new l ⊎ Among l more
first_or new x l more h (inl e) = inl (subst (IsImpliedLiteral new) (sym e) h)
first_or new x l more h (inr m) = inr m

left_or : (new left right more : List Literal) (x l : Literal) → IsImpliedLiteral new l ⊎ Among l more → IsImpliedLiteral new l ⊎ (Among l more ⊎ Among l right)
left_or new left right more x l (inl h) = inl h
left_or new left right more x l (inr m) = inr (inl m)

right_or : (new left more : List Literal) (l : Literal) → IsImpliedLiteral new l ⊎ Among l more → IsImpliedLiteral new l ⊎ (Among l left ⊎ Among l more)
right_or new left more l (inl h) = inl h
right_or new left more l (inr m) = inr (inr m)

take_left : (out new left right more : List Literal) (x l : Literal) → IsPut out x new → left ≡ x ∷ more → IsImpliedLiteral out l ⊎ (Among l left ⊎ Among l right)
    → IsImpliedLiteral new l ⊎ (Among l more ⊎ Among l right)
take_left out new left right more x l p e (inl h) = inl (put_held out new x l p h)
take_left out new left right more x l p e (inr (inl m)) = left_or new left right more x l (first_or new x l more (put_self out new x p) (subst (Among l) e m))
take_left out new left right more x l p e (inr (inr m)) = inr (inr m)

take_right : (out new left right rest : List Literal) (x l : Literal) → IsPut out x new → right ≡ x ∷ rest → IsImpliedLiteral out l ⊎ (Among l left ⊎ Among l right)
    → IsImpliedLiteral new l ⊎ (Among l left ⊎ Among l rest)
take_right out new left right rest x l p e (inl h) = inl (put_held out new x l p h)
take_right out new left right rest x l p e (inr (inl m)) = inr (inl m)
take_right out new left right rest x l p e (inr (inr m)) = right_or new left rest l (first_or new x l rest (put_self out new x p) (subst (Among l) e m))

from_more : (all xs more : List Literal) (x : Literal) → xs ≡ x ∷ more → ((l : Literal) → Among l xs → Among l all) → (l : Literal) → Among l more → Among l all
from_more all xs more x e f l m = f l (subst (Among l) (sym e) (inr m))

from_first : (all xs more : List Literal) (x : Literal) → xs ≡ x ∷ more → ((l : Literal) → Among l xs → Among l all) → Among x all
from_first all xs more x e f = f x (subst (Among x) (sym e) (inl refl))

merging_left : (all left right out new more : List Literal) (x : Literal) → left ≡ x ∷ more → IsPut out x new → Merging all left right out → Merging all more right new
merging_left all left right out new more x e p s = record {
  from_out = put_from all out new x p (from_first all left more x e s.from_left) s.from_out;
  from_left = from_more all left more x e s.from_left;
  from_right = s.from_right;
  held = λ l m. take_left out new left right more x l p e (s.held l m);
}

merging_right : (all left right out new rest : List Literal) (x : Literal) → right ≡ x ∷ rest → IsPut out x new → Merging all left right out → Merging all left rest new
merging_right all left right out new rest x e p s = record {
  from_out = put_from all out new x p (from_first all right rest x e s.from_right) s.from_out;
  from_left = s.from_left;
  from_right = from_more all right rest x e s.from_right;
  held = λ l m. take_right out new left right rest x l p e (s.held l m);
}

pub merging_more : (all left right out new more rest : List Literal) (x : Literal) → IsFirstLiteral left right x more rest → IsPut out x new → Merging all left right out → Merging all more rest new
merging_more all left right out new more rest x (inl f) p s = subst (λ z. Merging all more z new) f.1 (merging_left all left right out new more x f.0 p s)
merging_more all left right out new more rest x (inr f) p s = subst (λ z. Merging all z rest new) f.1 (merging_right all left right out new rest x f.0 p s)

only_held : (out : List Literal) (l : Literal) → IsImpliedLiteral out l ⊎ (⊥ ⊎ ⊥) → IsImpliedLiteral out l
only_held out l (inl h) = h
only_held out l (inr (inl m)) = absurd m
only_held out l (inr (inr m)) = absurd m

pub merging_all : (all left right out : List Literal) → left ≡ [] → right ≡ [] → Merging all left right out → compact out ≡ compact all
merging_all all left right out e f s =
    let t : Merging all [] [] out = subst (λ z. Merging all [] z out) f (subst (λ z. Merging all z right out) e s) in
    compact-held out all t.from_out (λ l m. only_held out l (t.held l m))

pub ruleset merging = (merging_none, merging_more, merging_all)

-- ---- clauses are made of normal literals
both_normal : (c d : List Literal) → AllByRecursion IsNormalLiteral c → AllByRecursion IsNormalLiteral d → AllByRecursion IsNormalLiteral (c ++ d)
both_normal [] d h k = k
both_normal (l ∷ c) d h k = (h.0, both_normal c d h.1 k)

pub both-clause : (c d out : List Literal) (b : Option (List Literal)) → IsClause c → IsClause d → compact out ≡ compact (c ++ d) → b ≡ compact out → b ≡ clause_of (c ++ d)
unfolding clause_of
both-clause c d out b h k e is =
    let n = both_normal c d (clause-normal c h) (clause-normal d k) in
    is ∙ e ∙ sym (ap (λ z. cond z None (compact (flat_map (λ l. literals_of (normal_of l)) (c ++ d)))) (none_false (c ++ d) n) ∙ ap compact (normals-own (c ++ d) n))

-- a bound of one that a literal of the other leaves no value
pub contrary-clause : (c d : List Literal) → IsClause c → IsClause d → list_any (is_excluded c) d ≡ true → None ≡ clause_of (c ++ d)
unfolding clause_of
contrary-clause c d h k x =
    let n = both_normal c d (clause-normal c h) (clause-normal d k) in
    sym (ap (λ z. cond z None (compact (flat_map (λ l. literals_of (normal_of l)) (c ++ d)))) (none_false (c ++ d) n) ∙ ap compact (normals-own (c ++ d) n) ∙ compact_contrary c d x)

pub ruleset conjoining = (both-clause, contrary-clause)

-- the conjunction of two clauses is one
pub both_divisors : (c d b : List Literal) → IsClause c → IsClause d → Some b ≡ clause_of (c ++ d) → All HasDivisor b
both_divisors c d b h k e = clause-divisors (c ++ d) b (All-append HasDivisor c d h.divisors k.divisors) (sym e)

pub both_is_clause : (c d b : List Literal) → IsClause c → IsClause d → Some b ≡ clause_of (c ++ d) → All IsLiteral b → All HasDivisor b → IsClause b
both_is_clause c d b h k e ls ds = record {
  conjunction = c ++ d;
  of_literals = All-append IsLiteral c d h.literals k.literals;
  is = sym e;
  literals = ls;
  divisors = ds;
}

pub ruleset conjunctions = (both_divisors, both_is_clause)
