-- Sorted literals that are their own normal form.
use Rattle.std.proofs.Common.{◌≡◌, ◌<◌, ℕ, zero, suc, length, get_or, ℤ, pos, Bool, true, false, cond, ◌&&◌, ◌||◌, not, int_lt, neg_ℤ, ◌+ℤ◌, ◌<ℤ◌, List, [], ◌∷◌, Some, None, inl, inr, refl, sym, ◌∙◌, ap, subst, arith}
use Rattle.std.specs.Cmp.{first_so, second_so}
use Rattle.std.specs.List.{AllByRecursion, list_all, list_any}
use Rattle.std.specs.List.Sorted.{IsStrictlySortedBy}
use Rattle.std.specs.Cmp.{IsTotalOrder}
use Rattle.std.specs.Ordering.{is_eq, ordering_then, ordering_reverse, int_cmp}
use Rattle.std.specs.Cmp.Lexicographic.{slice_cmp}
use Rattle.std.specs.declared.cmp.Ordering.{Ordering}
use Rattle.std.specs.declared.cmp.Ordering.TheVariants.{Less, Equal, Greater}
use Rattle.std.proofs.lemmas.Int.{ints}
use Rattle.std.proofs.lemmas.Cmp.{on_total}
use Rattle.linear_term.specs.Linear.{Linear}
use Rattle.linear_term.specs.Order.{pair_cmp}
use Rattle.clause_set.specs.declared.literal.Literal.{Literal}
use Rattle.clause_set.specs.declared.literal.Literal.TheVariants.{Eq, Geq, Div, NDiv}
use Rattle.clause_set.specs.Apart.{flat, form_cmp, leads_positive, is_plain, leaves_open, is_open, AreApart}
use Rattle.clause_set.specs.Normal.{negated, leads_negative, turned}
use Rattle.clause_set.specs.Literals.{term_of}
use Rattle.clause_set.specs.Order.{is_literal, literal_cmp}
use Rattle.clause_set.specs.Table.{tight_or_void}
use Rattle.clause_set.specs.Clauses.{same_pairs, least, slack_of, slack, bounds_apart, extent, is_negative, is_void, with_constant, tightened, compact}
use Rattle.clause_set.proofs.ClauseTruth.{by_first}
use Rattle.clause_set.proofs.Covers.{Among, any_with, all_at, by_no, slack-at, slack-witness}
use Rattle.clause_set.proofs.Intervals.{negated_twice, slack_of-bound, slack_of-own, slack_of-opposite, bound-slack, equation-slack, held}
use Rattle.clause_set.proofs.Orders.{same_pairs-equal, same_pairs-refl}
use Rattle.clause_set.proofs.Points.{compact_of_tight, slack_some, bound_none, IsOpen, open_none, open_some}
use Rattle.clause_set.proofs.Sorted.{all_among, literal_cmp-total}

-- ---- orders
then_less : (o p : Ordering) → ordering_then o Equal ≡ Less → ordering_then o p ≡ Less
then_less Less p e = refl
then_less Equal p e = absurd cc
then_less Greater p e = absurd cc

form-less : (l m : Literal) → form_cmp l m ≡ Less → literal_cmp l m ≡ Less
form-less (Eq s) (Eq t) e = then_less (slice_cmp pair_cmp s.pairs t.pairs) (int_cmp s.constant t.constant) e
form-less (Eq s) (Geq t) e = refl
form-less (Eq s) (Div d t) e = refl
form-less (Eq s) (NDiv d t) e = refl
form-less (Geq s) (Eq t) e = absurd cc
form-less (Geq s) (Geq t) e = then_less (slice_cmp pair_cmp s.pairs t.pairs) (int_cmp s.constant t.constant) e
form-less (Geq s) (Div d t) e = refl
form-less (Geq s) (NDiv d t) e = refl
form-less (Div c s) (Eq t) e = absurd cc
form-less (Div c s) (Geq t) e = absurd cc
form-less (Div c s) (Div d t) e = e
form-less (Div c s) (NDiv d t) e = refl
form-less (NDiv c s) (Eq t) e = absurd cc
form-less (NDiv c s) (Geq t) e = absurd cc
form-less (NDiv c s) (Div d t) e = absurd cc
form-less (NDiv c s) (NDiv d t) e = e

pub form_cmp-total : IsTotalOrder form_cmp
form_cmp-total = on_total flat literal_cmp-total

module _ {X : Type 0} (R S : X → X → Ordering) (weaker : (x y : X) → R x y ≡ Less → S x y ≡ Less) where
  all_weaker : (x : X) (ys : List X) → AllByRecursion (λ y. R x y ≡ Less) ys → AllByRecursion (λ y. S x y ≡ Less) ys
  all_weaker x [] h = tt
  all_weaker x (y ∷ ys) h = (weaker x y h.0, all_weaker x ys h.1)

  sorted_weaker : (xs : List X) → IsStrictlySortedBy R xs → IsStrictlySortedBy S xs
  unfolding IsStrictlySortedBy
  sorted_weaker [] h = tt
  sorted_weaker (x ∷ xs) h = (all_weaker x xs h.0, sorted_weaker xs h.1)

same_order : {X : Type 0} (R : X → X → Ordering) → IsTotalOrder R → (x : X) → R x x ≡ Equal
same_order R t x = by_order (R x x) (t.antisymm x x)
  where
    by_order : (o : Ordering) → o ≡ ordering_reverse o → o ≡ Equal
    by_order Less e = absurd cc
    by_order Equal e = refl
    by_order Greater e = absurd cc

-- elements of a sorted list that compare as equal are the same
one_place : {X : Type 0} (R : X → X → Ordering) → IsTotalOrder R → (xs : List X) (x y : X) → IsStrictlySortedBy R xs → Among x xs → Among y xs → R x y ≡ Equal → x ≡ y
unfolding IsStrictlySortedBy
one_place R t [] x y s a b e = absurd a
one_place R t (z ∷ zs) x y s (inl i) (inl j) e = i ∙ sym j
one_place R t (z ∷ zs) x y s (inl i) (inr b) e =
    let less : R z y ≡ Less = all_among (λ w. R z w ≡ Less) y zs s.0 b in
    let bad : Less ≡ Equal = sym less ∙ ap (λ w. R w y) (sym i) ∙ e in absurd cc
one_place R t (z ∷ zs) x y s (inr a) (inl j) e =
    let less : R z x ≡ Less = all_among (λ w. R z w ≡ Less) x zs s.0 a in
    let back : R z x ≡ Equal = ap (λ w. R w x) (sym j) ∙ t.antisymm y x ∙ ap ordering_reverse e in
    let bad : Less ≡ Equal = sym less ∙ back in absurd cc
one_place R t (z ∷ zs) x y s (inr a) (inr b) e = one_place R t zs x y s.1 a b e

same_form : (s t : Linear) → s.pairs ≡ t.pairs → form_cmp (Geq s) (Geq t) ≡ Equal
same_form s t e =
    ap (λ ps. literal_cmp (Geq (record { pairs = ps; constant = pos 0 })) (flat (Geq t))) e ∙ same_order literal_cmp literal_cmp-total (flat (Geq t))

same_equation : (s t : Linear) → s.pairs ≡ t.pairs → form_cmp (Eq s) (Eq t) ≡ Equal
same_equation s t e =
    ap (λ ps. literal_cmp (Eq (record { pairs = ps; constant = pos 0 })) (flat (Eq t))) e ∙ same_order literal_cmp literal_cmp-total (flat (Eq t))

-- ---- literals that are alone with their forms
record IsAlone (ls : List Literal) : Type 0 where
  rising : IsStrictlySortedBy form_cmp ls
  own : (t : Linear) → Among (Geq t) ls → slack ls t.pairs ≡ Some t.constant
  steady : (t : Linear) → Among (Eq t) ls → is_void ls (Eq t) ≡ false
  wide : (t : Linear) → Among (Geq t) ls → IsOpen (extent ls t.pairs)

-- a bound that no equation of its form stands beside
module _ (ls : List Literal) (rising : IsStrictlySortedBy form_cmp ls) (t : Linear) (a : Among (Geq t) ls)
    (not_met : (s : Linear) → Among (Eq s) ls → s.pairs ≡ t.pairs → ⊥) (not_opposite : (s : Linear) → Among (Eq s) ls → s.pairs ≡ negated t.pairs → ⊥) where
  own_witness : (m : Literal) (k : ℤ) → Among m ls → slack_of m t.pairs ≡ Some k → Some k ≡ Some t.constant
  own_witness (Eq s) k b e = absurd (equation-slack ⊥ s t.pairs k e (λ q. not_met s b q) (λ q. not_opposite s b q))
  own_witness (Geq s) k b e =
      bound-slack (Some k ≡ Some t.constant) s t.pairs k e
      (λ q is. let same : Geq s ≡ Geq t = one_place form_cmp form_cmp-total ls (Geq s) (Geq t) rising b a (same_form s t q) in
      ap Some (sym is ∙ ap (λ l. (term_of l).constant) same))
  own_witness (Div d s) k b e = absurd cc
  own_witness (NDiv d s) k b e = absurd cc

  own_least : slack ls t.pairs ≡ Some t.constant
  own_least =
      slack_some (slack ls t.pairs ≡ Some t.constant) (slack ls t.pairs)
      (λ e. absurd (bound_none (slack ls t.pairs) t.constant (slack-at (Geq t) ls t.pairs t.constant a (slack_of-bound t)) e))
      (λ k e. let w = slack-witness ls t.pairs k e in e ∙ own_witness w.literal k w.among w.is)

not_void : (ls : List Literal) (l : Literal) → IsAlone ls → Among l ls → is_void ls l ≡ false
not_void ls (Eq t) h a = h.steady t a
not_void ls (Geq t) h a = (h.wide t a).not_negative
not_void ls (Div d t) h a = refl
not_void ls (NDiv d t) h a = refl

is_tight : (ls : List Literal) (l : Literal) → IsAlone ls → Among l ls → tightened ls l ≡ l
is_tight ls (Eq t) h a = refl
is_tight ls (Geq t) h a =
    ap (λ b. cond b (Eq (turned (with_constant (slack ls t.pairs) t))) (Geq (with_constant (slack ls t.pairs) t))) (h.wide t a).not_zero
    ∙ ap (λ k. Geq (with_constant k t)) (h.own t a)
is_tight ls (Div d t) h a = refl
is_tight ls (NDiv d t) h a = refl

compact_alone : (ls : List Literal) → IsAlone ls → compact ls ≡ Some ls
compact_alone ls h =
    compact_of_tight ls (sorted_weaker form_cmp literal_cmp form-less ls h.rising) (λ l a. not_void ls l h a) (λ l a. is_tight ls l h a)

-- ---- all first coefficients are positive
signs : (p : List (ℕ × ℤ)) → leads_positive p ≡ true → leads_negative p ≡ true → ⊥
signs [] h k = cc
signs (x ∷ p) h k = both x.1 h k
  where
    both : (a : ℤ) → int_lt (pos 0) a ≡ true → int_lt a (pos 0) ≡ true → ⊥
    both a h k = grind (arith, ints)

positive_turned : (p : List (ℕ × ℤ)) → leads_positive p ≡ true → leads_negative (negated p) ≡ true
positive_turned [] h = absurd cc
positive_turned (x ∷ p) h = turns x.1 h
  where
    turns : (a : ℤ) → int_lt (pos 0) a ≡ true → int_lt (neg_ℤ a) (pos 0) ≡ true
    turns a h = grind (arith, ints)

none_of : (l : Literal) (q : List (ℕ × ℤ)) → is_plain l ≡ true → leads_negative q ≡ true → slack_of l q ≡ None
none_of (Eq t) q h n = absurd cc
none_of (Geq t) q h n =
    ap (λ b. cond b (Some t.constant) None)
    (by_no (same_pairs t.pairs q) (λ y. signs t.pairs h (ap leads_negative (same_pairs-equal t.pairs q y) ∙ n)))
none_of (Div d t) q h n = refl
none_of (NDiv d t) q h n = refl

none_below : (ls : List Literal) (q : List (ℕ × ℤ)) → list_all is_plain ls ≡ true → leads_negative q ≡ true → slack ls q ≡ None
none_below [] q h n = refl
none_below (l ∷ ls) q h n =
    ap (λ a. least a (slack ls q)) (none_of l q (first_so (is_plain l) (list_all is_plain ls) h) n) ∙ none_below ls q (second_so (is_plain l) (list_all is_plain ls) h) n

alone_plain : (ls : List Literal) → IsStrictlySortedBy form_cmp ls → list_all is_plain ls ≡ true → IsAlone ls
alone_plain ls rising plain =
    let no : (t : Linear) → Among (Eq t) ls → ⊥ = λ t a. let bad : false ≡ true = all_at is_plain (Eq t) ls plain a in cc in
    record {
      rising = rising;
      own = λ t a. own_least ls rising t a (λ s b e. no s b) (λ s b e. no s b);
      steady = λ t a. absurd (no t a);
      wide = λ t a.
          let none : slack ls (negated t.pairs) ≡ None = none_below ls (negated t.pairs) plain (positive_turned t.pairs (all_at is_plain (Geq t) ls plain a)) in
          subst (λ b. IsOpen (bounds_apart (slack ls t.pairs) b)) (sym none) (open_none (slack ls t.pairs));
    }

-- ---- opposite bounds leave more than one value
apart_constants : (b : Bool) (j k : ℤ) → b ≡ true → (not b || int_lt (neg_ℤ k) j) ≡ true → pos 0 <ℤ (j +ℤ k)
apart_constants true j k e h = above h
  where
    above : int_lt (neg_ℤ k) j ≡ true → pos 0 <ℤ (j +ℤ k)
    above h = grind (arith, ints)
apart_constants false j k e h = absurd cc

refused : (b : Bool) → b ≡ true → not b ≡ true → ⊥
refused true e h = cc
refused false e h = cc

-- a bound that all literals leave open
module _ (ls : List Literal) (rising : IsStrictlySortedBy form_cmp ls) (t : Linear) (a : Among (Geq t) ls) (left : list_all (leaves_open t) ls ≡ true) where
  open_met : (s : Linear) → Among (Eq s) ls → s.pairs ≡ t.pairs → ⊥
  open_met s b e =
      let apart : (not (same_pairs s.pairs t.pairs) && not (same_pairs s.pairs (negated t.pairs))) ≡ true = all_at (leaves_open t) (Eq s) ls left b in
      refused (same_pairs s.pairs t.pairs) (ap (λ z. same_pairs z t.pairs) e ∙ same_pairs-refl t.pairs) (first_so (not (same_pairs s.pairs t.pairs)) (not (same_pairs s.pairs (negated t.pairs))) apart)

  open_opposite : (s : Linear) → Among (Eq s) ls → s.pairs ≡ negated t.pairs → ⊥
  open_opposite s b e =
      let apart : (not (same_pairs s.pairs t.pairs) && not (same_pairs s.pairs (negated t.pairs))) ≡ true = all_at (leaves_open t) (Eq s) ls left b in
      refused (same_pairs s.pairs (negated t.pairs)) (ap (λ z. same_pairs z (negated t.pairs)) e ∙ same_pairs-refl (negated t.pairs))
      (second_so (not (same_pairs s.pairs t.pairs)) (not (same_pairs s.pairs (negated t.pairs))) apart)

  opposite_above : (m : Literal) (k : ℤ) → Among m ls → slack_of m (negated t.pairs) ≡ Some k → pos 0 <ℤ (t.constant +ℤ k)
  opposite_above (Eq s) k b e =
      absurd (equation-slack ⊥ s (negated t.pairs) k e (λ q. open_opposite s b q) (λ q. open_met s b (q ∙ negated_twice t.pairs)))
  opposite_above (Geq s) k b e =
      bound-slack (pos 0 <ℤ (t.constant +ℤ k)) s (negated t.pairs) k e
      (λ q is.
      let same : same_pairs s.pairs (negated t.pairs) ≡ true = ap (λ z. same_pairs z (negated t.pairs)) q ∙ same_pairs-refl (negated t.pairs) in
      subst (λ z. pos 0 <ℤ (t.constant +ℤ z)) is
      (apart_constants (same_pairs s.pairs (negated t.pairs)) t.constant s.constant same (all_at (leaves_open t) (Geq s) ls left b)))
  opposite_above (Div d s) k b e = absurd cc
  opposite_above (NDiv d s) k b e = absurd cc

  open_own : slack ls t.pairs ≡ Some t.constant
  open_own = own_least ls rising t a open_met open_opposite

  open_wide : IsOpen (extent ls t.pairs)
  open_wide =
      slack_some (IsOpen (extent ls t.pairs)) (slack ls (negated t.pairs))
      (λ e. subst (λ b. IsOpen (bounds_apart (slack ls t.pairs) b)) (sym e) (open_none (slack ls t.pairs)))
      (λ k e. let w = slack-witness ls (negated t.pairs) k e in
      let above = opposite_above w.literal k w.among w.is in
      subst (λ b. IsOpen (bounds_apart (slack ls t.pairs) b)) (sym e)
      (subst (λ b. IsOpen (bounds_apart b (Some k))) (sym open_own) (open_some t.constant k above)))

  open_tight : Some (Geq t) ≡ tight_or_void ls (Geq t)
  open_tight = sym
      (ap (λ b. cond b None (Some (tightened ls (Geq t)))) open_wide.not_negative
      ∙ ap (λ b. Some (cond b (Eq (turned (with_constant (slack ls t.pairs) t))) (Geq (with_constant (slack ls t.pairs) t)))) open_wide.not_zero
      ∙ ap (λ k. Some (Geq (with_constant k t))) open_own)

module _ (ls : List Literal) (rising : IsStrictlySortedBy form_cmp ls) (all : list_all (is_open ls) ls ≡ true) where
  -- equations have positive first coefficients, so none is the opposite of another one
  leads : (t : Linear) → Among (Eq t) ls → leads_positive t.pairs ≡ true
  leads t a = all_at (is_open ls) (Eq t) ls all a

  not_turned : (s t : Linear) → Among (Eq s) ls → Among (Eq t) ls → s.pairs ≡ negated t.pairs → ⊥
  not_turned s t a b e = signs s.pairs (leads s a) (ap leads_negative e ∙ positive_turned t.pairs (leads t b))

  one_equation : (s t : Linear) → Among (Eq s) ls → Among (Eq t) ls → s.pairs ≡ t.pairs → Eq s ≡ Eq t
  one_equation s t a b e = one_place form_cmp form_cmp-total ls (Eq s) (Eq t) rising a b (same_equation s t e)

  equation_witness : (t : Linear) (m : Literal) (k : ℤ) → Among (Eq t) ls → Among m ls → slack_of m t.pairs ≡ Some k → Some k ≡ Some t.constant
  equation_witness t (Eq s) k a b e =
      equation-slack (Some k ≡ Some t.constant) s t.pairs k e
      (λ q. sym e ∙ ap (λ l. slack_of l t.pairs) (one_equation s t b a q) ∙ slack_of-own t)
      (λ q. absurd (not_turned s t b a q))
  equation_witness t (Geq s) k a b e = bound-slack (Some k ≡ Some t.constant) s t.pairs k e (λ q is. absurd (open_met ls rising s b (all_at (is_open ls) (Geq s) ls all b) t a (sym q)))
  equation_witness t (Div d s) k a b e = absurd cc
  equation_witness t (NDiv d s) k a b e = absurd cc

  one_sided : (t : Linear) → Among (Eq t) ls → same_pairs t.pairs (negated t.pairs) ≡ false
  one_sided t a = by_no (same_pairs t.pairs (negated t.pairs)) (λ y. not_turned t t a a (same_pairs-equal t.pairs (negated t.pairs) y))

  turned_witness : (t : Linear) (m : Literal) (k : ℤ) → Among (Eq t) ls → Among m ls → slack_of m (negated t.pairs) ≡ Some k → Some k ≡ Some (neg_ℤ t.constant)
  turned_witness t (Eq s) k a b e =
      equation-slack (Some k ≡ Some (neg_ℤ t.constant)) s (negated t.pairs) k e
      (λ q. absurd (not_turned s t b a q))
      (λ q. sym e ∙ ap (λ l. slack_of l (negated t.pairs)) (one_equation s t b a (q ∙ negated_twice t.pairs)) ∙ slack_of-opposite t (one_sided t a))
  turned_witness t (Geq s) k a b e =
      bound-slack (Some k ≡ Some (neg_ℤ t.constant)) s (negated t.pairs) k e
      (λ q is. absurd (open_opposite ls rising s b (all_at (is_open ls) (Geq s) ls all b) t a (sym (ap negated q ∙ negated_twice t.pairs))))
  turned_witness t (Div d s) k a b e = absurd cc
  turned_witness t (NDiv d s) k a b e = absurd cc

  equation_least : (t : Linear) → Among (Eq t) ls → slack ls t.pairs ≡ Some t.constant
  equation_least t a =
      slack_some (slack ls t.pairs ≡ Some t.constant) (slack ls t.pairs)
      (λ e. absurd (bound_none (slack ls t.pairs) t.constant (slack-at (Eq t) ls t.pairs t.constant a (slack_of-own t)) e))
      (λ k e. let w = slack-witness ls t.pairs k e in e ∙ equation_witness t w.literal k a w.among w.is)

  turned_least : (t : Linear) → Among (Eq t) ls → slack ls (negated t.pairs) ≡ Some (neg_ℤ t.constant)
  turned_least t a =
      slack_some (slack ls (negated t.pairs) ≡ Some (neg_ℤ t.constant)) (slack ls (negated t.pairs))
      (λ e. absurd (bound_none (slack ls (negated t.pairs)) (neg_ℤ t.constant) (slack-at (Eq t) ls (negated t.pairs) (neg_ℤ t.constant) a (slack_of-opposite t (one_sided t a))) e))
      (λ k e. let w = slack-witness ls (negated t.pairs) k e in e ∙ turned_witness t w.literal k a w.among w.is)

  one_value : (k : ℤ) → int_lt (k +ℤ neg_ℤ k) (pos 0) ≡ false
  one_value k = grind (arith, ints)

  not_void_equation : (t : Linear) → Among (Eq t) ls → is_void ls (Eq t) ≡ false
  not_void_equation t a =
      ap (λ z. is_negative (bounds_apart z (slack ls (negated t.pairs)))) (equation_least t a)
      ∙ ap (λ z. is_negative (bounds_apart (Some t.constant) z)) (turned_least t a) ∙ one_value t.constant

  alone_open : IsAlone ls
  alone_open = record {
    rising = rising;
    own = λ t a. open_own ls rising t a (all_at (is_open ls) (Geq t) ls all a);
    steady = not_void_equation;
    wide = λ t a. open_wide ls rising t a (all_at (is_open ls) (Geq t) ls all a);
  }

-- an item of a list of literals is one of them
among_item : (ls : List Literal) (i : ℕ) (l : Literal) → i < length ls → l ≡ get_or ls i l → Among l ls
among_item [] i l lt is = absurd (omega (arith, lt))
among_item (m ∷ ls) zero l lt is = inl is
among_item (m ∷ ls) (suc i) l lt is = inr (among_item ls i l (omega (arith, lt)) is)

pub member_test : (ls : List Literal) (i : ℕ) (l : Literal) → i < length ls → l ≡ get_or ls i l → list_any (is_literal l) ls ≡ true
member_test ls i l lt is = any_with (is_literal l) l ls (among_item ls i l lt is) (ap is_eq (same_order literal_cmp literal_cmp-total l))

pub ruleset members = (member_test)

-- a bound that the literals leave open, and have, is as tight as it is
pub tight_where_open : (ls : List Literal) (t : Linear) → IsStrictlySortedBy form_cmp ls → list_any (is_literal (Geq t)) ls ≡ true → list_all (leaves_open t) ls ≡ true
    → Some (Geq t) ≡ tight_or_void ls (Geq t)
tight_where_open ls t rising has left = open_tight ls rising t (held ls (Geq t) has) left

pub ruleset open_bounds = (tight_where_open)

pub compact_apart : (ls : List Literal) → AreApart ls → compact ls ≡ Some ls
compact_apart ls h =
    by_first (list_all is_plain ls) (list_all (is_open ls) ls) (compact ls ≡ Some ls) h.apart
    (λ p. compact_alone ls (alone_plain ls h.rising p))
    (λ o. compact_alone ls (alone_open ls h.rising o))
