-- Tables of bounds by their coefficients.
use Rattle.std.proofs.Common.{◌≡◌, ℕ, ℤ, Bool, true, false, cond, List, [], ◌∷◌, ◌+◌, ◌<◌, ◌≤◌, length, drop, get_or, Vec, neg_ℤ, int_lt, IfSome, Option, Some, None, refl, sym, ◌∙◌, ap, subst}
use Rattle.std.specs.Cmp.Lexicographic.{slice_cmp}
use Rattle.std.specs.Ordering.{is_eq, match_ordering}
use Rattle.std.specs.Map.{lookup}
use Rattle.std.specs.BTreeMap.{BTreeMap, insert_entry}
use Rattle.std.specs.declared.cmp.Ordering.{Ordering}
use Rattle.std.specs.declared.cmp.Ordering.TheVariants.{Less, Equal, Greater}
use Rattle.linear_term.specs.Order.{pair_cmp}
use Rattle.std.proofs.Math.ListN.{drop_of_length-le}
use Rattle.clause_set.specs.declared.literal.Literal.{Literal}
use Rattle.clause_set.specs.Clauses.{same_pairs, least, slack_of, slack}
use Rattle.clause_set.specs.Normal.{leads_negative, negated}
use Rattle.clause_set.specs.declared.literal.Literal.TheVariants.{Eq, Geq, Div, NDiv}
use Rattle.clause_set.specs.Literals.{term_of}
use Rattle.linear_term.specs.Range.{InRange}
use Rattle.linear_term.proofs.Totals.{by_test}
use Rattle.clause_set.specs.declared.table.Ends.{Ends}
use Rattle.clause_set.specs.Table.{bound_at, end_of, led}
use Rattle.clause_set.proofs.Slack.{least_none, slack_step}
use Rattle.clause_set.proofs.Terms.{negated-negated, neg_in_range}
use Rattle.clause_set.proofs.Orders.{same_pairs-equal, same_pairs-refl}

alike : {X : Type 0} (a b : Bool) (x y z : X) → a ≡ b → cond a x z ≡ cond b x (cond a y z)
alike true true x y z e = refl
alike true false x y z e = absurd cc
alike false true x y z e = absurd cc
alike false false x y z e = refl

apart : {X : Type 0} (a b : Bool) (x y z : X) → (a ≡ true → b ≡ true → ⊥) → cond a y (cond b x z) ≡ cond b x (cond a y z)
apart true true x y z h = absurd (h refl refl)
apart true false x y z h = refl
apart false true x y z h = refl
apart false false x y z h = refl

not_both : (q p r : List (ℕ × ℤ)) → slice_cmp pair_cmp p r ≡ Greater → same_pairs q r ≡ true → same_pairs q p ≡ true → ⊥
not_both q p r g a b =
    let e : p ≡ r = sym (same_pairs-equal q p b) ∙ same_pairs-equal q r a in
    let s : same_pairs r r ≡ false = ap (λ z. same_pairs z r) (sym e) ∙ ap is_eq g in
    let z : true ≡ false = sym (same_pairs-refl r) ∙ s in cc

module _ {V X : Type 0} (f : V → List (ℕ × ℤ)) (q : List (ℕ × ℤ)) where
  at_entry : (k : V) (v : X) (e : V × X) (es rest : List (V × X)) (o : Ordering) → slice_cmp pair_cmp (f k) (f e.0) ≡ o
      → lookup (λ x. same_pairs q (f x)) rest ≡ cond (same_pairs q (f k)) (Some v) (lookup (λ x. same_pairs q (f x)) es)
      → lookup (λ x. same_pairs q (f x)) (match_ordering o ((k, v) ∷ e ∷ es) ((e.0, v) ∷ es) (e ∷ rest))
      ≡ cond (same_pairs q (f k)) (Some v) (lookup (λ x. same_pairs q (f x)) (e ∷ es))
  at_entry k v e es rest Less g h = refl
  at_entry k v e es rest Equal g h =
      let s : f k ≡ f e.0 = same_pairs-equal (f k) (f e.0) (ap is_eq g) in
      alike (same_pairs q (f e.0)) (same_pairs q (f k)) (Some v) (Some e.1) (lookup (λ x. same_pairs q (f x)) es) (ap (same_pairs q) (sym s))
  at_entry k v e es rest Greater g h =
      ap (λ z. cond (same_pairs q (f e.0)) (Some e.1) z) h
      ∙ apart (same_pairs q (f e.0)) (same_pairs q (f k)) (Some v) (Some e.1) (lookup (λ x. same_pairs q (f x)) es) (not_both q (f k) (f e.0) g)

  -- what stands at q once v is put at k
  pub lookup-put : (k : V) (v : X) (es : List (V × X)) → lookup (λ x. same_pairs q (f x)) (insert_entry (λ x y. slice_cmp pair_cmp (f x) (f y)) es k v)
      ≡ cond (same_pairs q (f k)) (Some v) (lookup (λ x. same_pairs q (f x)) es)
  lookup-put k v [] = refl
  lookup-put k v (e ∷ es) =
      at_entry k v e es (insert_entry (λ x y. slice_cmp pair_cmp (f x) (f y)) es k v) (slice_cmp pair_cmp (f k) (f e.0)) refl (lookup-put k v es)

pub same_pairs-sym : (p q : List (ℕ × ℤ)) → same_pairs p q ≡ true → same_pairs q p ≡ true
same_pairs-sym p q h = ap (λ z. same_pairs z p) (sym (same_pairs-equal p q h)) ∙ same_pairs-refl p

-- the two bounds of an equation, one after the other
two_by : (a : Option ℤ) (j k : ℤ) (x y : Bool) → (x ≡ true → y ≡ true → ⊥)
    → least (least a (cond x (Some j) None)) (cond y (Some k) None) ≡ least a (cond x (Some j) (cond y (Some k) None))
two_by a j k true true h = absurd (h refl refl)
two_by a j k true false h = least_none (least a (Some j))
two_by a j k false true h = ap (λ z. least z (Some k)) (least_none a)
two_by a j k false false h = least_none (least a None)

pub equation-bounds : (a : Option ℤ) (p q : List (ℕ × ℤ)) (j k : ℤ) → same_pairs p (negated p) ≡ false
    → least (least a (cond (same_pairs p q) (Some j) None)) (cond (same_pairs (negated p) q) (Some k) None)
    ≡ least a (cond (same_pairs p q) (Some j) (cond (same_pairs (negated p) q) (Some k) None))
equation-bounds a p q j k apart =
    two_by a j k (same_pairs p q) (same_pairs (negated p) q)
    (λ x y. let e : p ≡ negated p = same_pairs-equal p q x ∙ sym (same_pairs-equal (negated p) q y) in
    let z : true ≡ false = sym (ap (same_pairs p) (sym e) ∙ same_pairs-refl p) ∙ apart in cc)

-- the coefficients p are opposite to q where q is opposite to p
turn_by : (p q : List (ℕ × ℤ)) (a b : Bool) → same_pairs (negated p) q ≡ a → same_pairs p (negated q) ≡ b → a ≡ b
turn_by p q true true e f = refl
turn_by p q false false e f = refl
turn_by p q true false e f =
    let s : p ≡ negated q = sym (negated-negated p) ∙ ap negated (same_pairs-equal (negated p) q e) in
    let z : true ≡ false = sym (ap (same_pairs p) (sym s) ∙ same_pairs-refl p) ∙ f in absurd cc
turn_by p q false true e f =
    let s : negated p ≡ q = ap negated (same_pairs-equal p (negated q) f) ∙ negated-negated q in
    let z : true ≡ false = sym (ap (same_pairs (negated p)) (sym s) ∙ same_pairs-refl (negated p)) ∙ e in absurd cc

pub opposite : (p q : List (ℕ × ℤ)) → same_pairs (negated p) q ≡ same_pairs p (negated q)
opposite p q = turn_by p q (same_pairs (negated p) q) (same_pairs p (negated q)) refl refl

one_by : (a : Option ℤ) (j k : ℤ) (x y : Bool) → (y ≡ true → x ≡ true) → least a (cond x (Some j) None) ≡ least a (cond x (Some j) (cond y (Some k) None))
one_by a j k true y h = refl
one_by a j k false true h = let z : false ≡ true = h refl in absurd cc
one_by a j k false false h = refl

pub first-bound : (a b : Option ℤ) (p r q : List (ℕ × ℤ)) (j i : ℤ) → r ≡ p → i ≡ j → b ≡ least a (cond (same_pairs r q) (Some i) None) → b ≡ least a (cond (same_pairs p q) (Some j) None)
first-bound a b p r q j i e f h = h ∙ ap (λ z. least a (cond (same_pairs z q) (Some i) None)) e ∙ ap (λ z. least a (cond (same_pairs p q) (Some z) None)) f

pub equation-same : (a b : Option ℤ) (p q : List (ℕ × ℤ)) (j k : ℤ) → same_pairs p (negated p) ≡ true → b ≡ least a (cond (same_pairs p q) (Some j) None)
    → b ≡ least a (cond (same_pairs p q) (Some j) (cond (same_pairs p (negated q)) (Some k) None))
equation-same a b p q j k s h =
    h ∙ one_by a j k (same_pairs p q) (same_pairs p (negated q))
    (λ y. ap (λ z. same_pairs z q) (same_pairs-equal p (negated p) s) ∙ opposite p q ∙ y)

pub equation-apart : (a b d : Option ℤ) (p q : List (ℕ × ℤ)) (j k : ℤ) → same_pairs p (negated p) ≡ false → b ≡ least a (cond (same_pairs p q) (Some j) None)
    → d ≡ least b (cond (same_pairs (negated p) q) (Some k) None)
    → d ≡ least a (cond (same_pairs p q) (Some j) (cond (same_pairs p (negated q)) (Some k) None))
equation-apart a b d p q j k s h g =
    g ∙ ap (λ z. least z (cond (same_pairs (negated p) q) (Some k) None)) h ∙ equation-bounds a p q j k s
    ∙ ap (λ z. least a (cond (same_pairs p q) (Some j) (cond z (Some k) None))) (opposite p q)

least-range : (a b : Option ℤ) → IfSome a (λ k. InRange k) → IfSome b (λ k. InRange k) → IfSome (least a b) (λ k. InRange k)
least-range None b h g = g
least-range (Some a) None h g = h
least-range (Some a) (Some b) h g = by_test (λ z. InRange z) (int_lt b a) b a (λ _. g) (λ _. h)

pub slack_of-range : (l : Literal) → InRange (term_of l).constant → (q : List (ℕ × ℤ)) → IfSome (slack_of l q) (λ k. InRange k)
slack_of-range (Eq t) h q =
    by_test (λ z. IfSome z (λ k. InRange k)) (same_pairs t.pairs q) (Some t.constant) _ (λ _. h)
    (λ _. by_test (λ z. IfSome z (λ k. InRange k)) (same_pairs t.pairs (negated q)) (Some (neg_ℤ t.constant)) None (λ _. neg_in_range t.constant h) (λ _. tt))
slack_of-range (Geq t) h q = by_test (λ z. IfSome z (λ k. InRange k)) (same_pairs t.pairs q) (Some t.constant) None (λ _. h) (λ _. tt)
slack_of-range (Div d t) h q = tt
slack_of-range (NDiv d t) h q = tt

-- the table m has the bounds of the literals before i
pub record Tabled {A : Type 0} (ls : List Literal) (i : ℕ) (m : BTreeMap (Vec (ℕ × ℤ) A) Ends) : Type 0 where
  pub is : (q : List (ℕ × ℤ)) → least (bound_at m q) (slack (drop i ls) q) ≡ slack ls q
  pub range : (q : List (ℕ × ℤ)) → IfSome (bound_at m q) (λ k. InRange k)

pub tabled_none : {A : Type 0} (ls : List Literal) (m : BTreeMap (Vec (ℕ × ℤ) A) Ends) → m.entries ≡ [] → Tabled ls 0 m
tabled_none ls m e = record {
  is = λ q. ap (λ es. least (end_of (leads_negative q) (lookup (λ k. same_pairs (led q) k.items) es)) (slack ls q)) e;
  range = λ q. subst (λ es. IfSome (end_of (leads_negative q) (lookup (λ k. same_pairs (led q) k.items) es)) (λ k. InRange k)) (sym e) tt;
}

pub tabled_more : {A : Type 0} (ls : List Literal) (i : ℕ) (l : Literal) (m n : BTreeMap (Vec (ℕ × ℤ) A) Ends) → i < length ls → l ≡ get_or ls i l
    → ((q : List (ℕ × ℤ)) → bound_at n q ≡ least (bound_at m q) (slack_of l q))
    → ((q : List (ℕ × ℤ)) → IfSome (slack_of l q) (λ k. InRange k)) → Tabled ls i m → Tabled ls (i + 1) n
tabled_more ls i l m n lt is put r h = record {
  is = λ q. ap (λ z. least z (slack (drop (i + 1) ls) q)) (put q) ∙ sym (slack_step (bound_at m q) (slack_of l q) q ls i l lt is refl) ∙ h.is q;
  range = λ q. subst (λ z. IfSome z (λ k. InRange k)) (sym (put q)) (least-range (bound_at m q) (slack_of l q) (h.range q) (r q));
}

pub tabled_all : {A : Type 0} (ls : List Literal) (i : ℕ) (m : BTreeMap (Vec (ℕ × ℤ) A) Ends) → length ls ≤ i → Tabled ls i m
    → (q : List (ℕ × ℤ)) → bound_at m q ≡ slack ls q
tabled_all ls i m le h = λ q. sym (least_none (bound_at m q)) ∙ ap (λ z. least (bound_at m q) (slack z q)) (sym (drop_of_length-le ls le)) ∙ h.is q

pub tabled_range : {A : Type 0} (ls : List Literal) (i : ℕ) (m : BTreeMap (Vec (ℕ × ℤ) A) Ends) → Tabled ls i m
    → (q : List (ℕ × ℤ)) → IfSome (bound_at m q) (λ k. InRange k)
tabled_range ls i m h = h.range

pub ruleset tables = (tabled_none, tabled_more, tabled_all, tabled_range, slack_of-range)
