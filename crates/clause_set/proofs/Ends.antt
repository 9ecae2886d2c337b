-- The ends of lists of coefficients in a table: those of a list and of its opposite stand at one place.
use Rattle.std.proofs.Common.{rules, ◌+◌, ◌≡◌, ◌≢◌, ℕ, ℤ, pos, neg_ℤ, int_lt, Bool, true, false, not, cond, List, [], ◌∷◌, length, Vec, Option, Some, None, refl, sym, ◌∙◌, ap, arith}
use Rattle.std.specs.Prelude.{◌==◌}
use Rattle.std.specs.List.{AllByRecursion}
use Rattle.std.specs.BTreeMap.{BTreeMap}
use Rattle.std.proofs.lemmas.Int.{ints}
use Rattle.std.proofs.lemmas.List.Elements.{recursion_from_All}
use Rattle.linear_term.specs.Linear.{Linear, IsCoefficient, IsNormal}
use Rattle.clause_set.specs.declared.table.Ends.{Ends}
use Rattle.clause_set.specs.Clauses.{same_pairs, least}
use Rattle.clause_set.specs.Normal.{leads_negative, negated}
use Rattle.clause_set.specs.Table.{bound_at, end_of, ends_at, led, with_end}
use Rattle.clause_set.proofs.Slack.{least_none}
use Rattle.clause_set.proofs.Terms.{negated-negated}
use Rattle.clause_set.proofs.Orders.{same_pairs-equal, same_pairs-refl}

-- ---- signs
led-negative : (p : List (ℕ × ℤ)) → leads_negative p ≡ true → led p ≡ negated p
led-negative p h = ap (λ b. cond b (negated p) p) h

led-other : (p : List (ℕ × ℤ)) → leads_negative p ≡ false → led p ≡ p
led-other p h = ap (λ b. cond b (negated p) p) h

turns : (k : ℤ) → int_lt k (pos 0) ≡ true → int_lt (neg_ℤ k) (pos 0) ≡ false
turns k h = grind (arith, ints)

turns_back : (k : ℤ) → k ≢ pos 0 → int_lt k (pos 0) ≡ false → int_lt (neg_ℤ k) (pos 0) ≡ true
turns_back k n h = grind (arith, ints)

negative-turned : (p : List (ℕ × ℤ)) → leads_negative p ≡ true → leads_negative (negated p) ≡ false
negative-turned [] h = refl
negative-turned (x ∷ p) h = turns x.1 h

other-turned : (p : List (ℕ × ℤ)) → p ≢ [] → AllByRecursion (λ x. IsCoefficient x.1) p → leads_negative p ≡ false → leads_negative (negated p) ≡ true
other-turned [] n c h = absurd (n refl)
other-turned (x ∷ p) n c h = turns_back x.1 c.0.not_zero h

module _ {A : Type 0} (m : BTreeMap (Vec (ℕ × ℤ) A) Ends) where
  at : (p q : List (ℕ × ℤ)) (b : Bool) → leads_negative p ≡ b → led p ≡ q → end_of b (ends_at m q) ≡ bound_at m p
  at p q b h e = ap (λ z. end_of b (ends_at m z)) (sym e) ∙ ap (λ z. end_of z (ends_at m (led p))) (sym h)

  pub own_negative : (p n : List (ℕ × ℤ)) → leads_negative p ≡ true → n ≡ negated p → end_of true (ends_at m n) ≡ bound_at m p
  own_negative p n h e = at p n true h (led-negative p h ∙ sym e)

  pub opposite_negative : (p n : List (ℕ × ℤ)) → leads_negative p ≡ true → n ≡ negated p → end_of false (ends_at m n) ≡ bound_at m (negated p)
  opposite_negative p n h e = at (negated p) n false (negative-turned p h) (led-other (negated p) (negative-turned p h) ∙ sym e)

  pub own_other : (p : List (ℕ × ℤ)) → leads_negative p ≡ false → end_of false (ends_at m p) ≡ bound_at m p
  own_other p h = at p p false h (led-other p h)

  pub opposite_other : (t : Linear) → IsNormal t → (length t.pairs == 0) ≡ false → leads_negative t.pairs ≡ false → end_of true (ends_at m t.pairs) ≡ bound_at m (negated t.pairs)
  opposite_other t is n h =
      let turned : leads_negative (negated t.pairs) ≡ true = other-turned t.pairs (λ e. let z : true ≡ false = sym (ap (λ z. length z == 0) e) ∙ n in cc) (recursion_from_All (λ x. IsCoefficient x.1) t.pairs is.coefficients) h in
      at (negated t.pairs) t.pairs true turned (led-negative (negated t.pairs) turned ∙ negated-negated t.pairs)

  pub opposite_none : (p : List (ℕ × ℤ)) → (length p == 0) ≡ true → end_of false (ends_at m p) ≡ bound_at m (negated p)
  opposite_none [] e = refl
  opposite_none (x ∷ p) e = absurd (let z : length p + 1 ≡ 0 = search (rules, e) in omega (arith, z))

-- ---- a number put to the ends of p
same-led : (p q : List (ℕ × ℤ)) → same_pairs p q ≡ true → same_pairs (led q) (led p) ≡ true
same-led p q h = ap (λ z. same_pairs (led z) (led p)) (sym (same_pairs-equal p q h)) ∙ same_pairs-refl (led p)

one_sign : (p q : List (ℕ × ℤ)) (b : Bool) → leads_negative p ≡ b → leads_negative q ≡ b → led q ≡ led p → p ≡ q
one_sign p q true g h e = sym (negated-negated p) ∙ ap negated (sym (led-negative p g) ∙ sym e ∙ led-negative q h) ∙ negated-negated q
one_sign p q false g h e = sym (led-other p g) ∙ sym e ∙ led-other q h

with-own : (held : Option Ends) (b : Bool) (k : ℤ) → end_of b (Some (with_end held b k)) ≡ least (end_of b held) (Some k)
with-own held true k = refl
with-own held false k = refl

with-other : (held : Option Ends) (b : Bool) (k : ℤ) → end_of (not b) (Some (with_end held b k)) ≡ end_of (not b) held
with-other held true k = refl
with-other held false k = refl

apart_signs : (p q : List (ℕ × ℤ)) (b : Bool) → leads_negative p ≡ b → leads_negative q ≡ b → same_pairs (led q) (led p) ≡ true → same_pairs p q ≡ false → ⊥
apart_signs p q b g h e f =
    let z : true ≡ false = sym (ap (same_pairs p) (sym (one_sign p q b g h (same_pairs-equal (led q) (led p) e))) ∙ same_pairs-refl p) ∙ f in cc

-- what stands at q, whose first sign is c, once k is put to p, whose first sign is b
put_by : (B : List (ℕ × ℤ) → Option Ends) (p q : List (ℕ × ℤ)) (k : ℤ) (b c a s : Bool) → leads_negative p ≡ b → leads_negative q ≡ c
    → same_pairs (led q) (led p) ≡ a → same_pairs p q ≡ s
    → end_of c (cond a (Some (with_end (B (led p)) b k)) (B (led q))) ≡ least (end_of c (B (led q))) (cond s (Some k) None)
put_by B p q k b c false true g h e f = let z : true ≡ false = sym (same-led p q f) ∙ e in absurd cc
put_by B p q k b c false false g h e f = sym (least_none (end_of c (B (led q))))
put_by B p q k true true true true g h e f = with-own (B (led p)) true k ∙ ap (λ z. least (end_of true (B z)) (Some k)) (sym (same_pairs-equal (led q) (led p) e))
put_by B p q k false false true true g h e f = with-own (B (led p)) false k ∙ ap (λ z. least (end_of false (B z)) (Some k)) (sym (same_pairs-equal (led q) (led p) e))
put_by B p q k true true true false g h e f = absurd (apart_signs p q true g h e f)
put_by B p q k false false true false g h e f = absurd (apart_signs p q false g h e f)
put_by B p q k true false true true g h e f = let z : true ≡ false = sym g ∙ ap leads_negative (same_pairs-equal p q f) ∙ h in absurd cc
put_by B p q k false true true true g h e f = let z : true ≡ false = sym h ∙ ap leads_negative (sym (same_pairs-equal p q f)) ∙ g in absurd cc
put_by B p q k true false true false g h e f =
    with-other (B (led p)) true k ∙ ap (λ z. end_of false (B z)) (sym (same_pairs-equal (led q) (led p) e)) ∙ sym (least_none (end_of false (B (led q))))
put_by B p q k false true true false g h e f =
    with-other (B (led p)) false k ∙ ap (λ z. end_of true (B z)) (sym (same_pairs-equal (led q) (led p) e)) ∙ sym (least_none (end_of true (B (led q))))

pub put-end : (B now : List (ℕ × ℤ) → Option Ends) (p q : List (ℕ × ℤ)) (k : ℤ)
    → now (led q) ≡ cond (same_pairs (led q) (led p)) (Some (with_end (B (led p)) (leads_negative p) k)) (B (led q))
    → end_of (leads_negative q) (now (led q)) ≡ least (end_of (leads_negative q) (B (led q))) (cond (same_pairs p q) (Some k) None)
put-end B now p q k e = ap (end_of (leads_negative q)) e ∙ put_by B p q k (leads_negative p) (leads_negative q) _ _ refl refl refl refl

cond-over : {X : Type 0} (b : Bool) (x y z : X) → cond b x (cond b y z) ≡ cond b x z
cond-over true x y z = refl
cond-over false x y z = refl

-- ends put at p where there were none, and ends put over the ones that were there
pub put-first : (B now : List (ℕ × ℤ) → Option Ends) (p q key : List (ℕ × ℤ)) (k : ℤ) (b : Bool) (held : Option Ends) (ends : Ends) → key ≡ led p → b ≡ leads_negative p
    → held ≡ B key → held ≡ None → ends ≡ with_end None b k → now (led q) ≡ cond (same_pairs (led q) key) (Some ends) (B (led q))
    → end_of (leads_negative q) (now (led q)) ≡ least (end_of (leads_negative q) (B (led q))) (cond (same_pairs p q) (Some k) None)
put-first B now p q key k b held ends at_key sign there none e put =
    let new : ends ≡ with_end (B (led p)) (leads_negative p) k = e ∙ ap (λ z. with_end z b k) (sym none ∙ there ∙ ap B at_key) ∙ ap (λ z. with_end (B (led p)) z k) sign in
    put-end B now p q k (put ∙ ap (λ z. cond (same_pairs (led q) z) (Some ends) (B (led q))) at_key ∙ ap (λ z. cond (same_pairs (led q) (led p)) (Some z) (B (led q))) new)

pub put-again : (B first now : List (ℕ × ℤ) → Option Ends) (p q key again : List (ℕ × ℤ)) (k : ℤ) (b : Bool) (held : Option Ends) (one ends : Ends) → key ≡ led p → again ≡ led p → b ≡ leads_negative p
    → held ≡ B key → ends ≡ with_end held b k → first (led q) ≡ cond (same_pairs (led q) key) (Some one) (B (led q)) → now (led q) ≡ cond (same_pairs (led q) again) (Some ends) (first (led q))
    → end_of (leads_negative q) (now (led q)) ≡ least (end_of (leads_negative q) (B (led q))) (cond (same_pairs p q) (Some k) None)
put-again B first now p q key again k b held one ends at_key at_again sign there e put over =
    let new : ends ≡ with_end (B (led p)) (leads_negative p) k = e ∙ ap (λ z. with_end z b k) (there ∙ ap B at_key) ∙ ap (λ z. with_end (B (led p)) z k) sign in
    let same : Bool = same_pairs (led q) (led p) in
    put-end B now p q k
    (over ∙ ap (λ z. cond (same_pairs (led q) z) (Some ends) (first (led q))) at_again
    ∙ ap (λ z. cond same (Some ends) z) (put ∙ ap (λ z. cond (same_pairs (led q) z) (Some one) (B (led q))) at_key)
    ∙ cond-over same (Some ends) (Some one) (B (led q)) ∙ ap (λ z. cond same (Some z) (B (led q))) new)
