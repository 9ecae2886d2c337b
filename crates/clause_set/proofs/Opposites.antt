-- Lists of coefficients, and literals, that differ at a glance.
use Rattle.std.proofs.Common.{◌≡◌, ◌≢◌, ℕ, suc, ℤ, neg_ℤ, true, false, List, [], ◌∷◌, length, refl, sym, ◌∙◌, ap, subst}
use Rattle.std.specs.Prelude.{All}
use Rattle.std.specs.Ordering.{ordering_then, is_eq}
use Rattle.std.specs.Cmp.Lexicographic.{slice_cmp}
use Rattle.std.proofs.lemmas.List.Elements.{recursion_from_All, All-from_recursion}
use Rattle.linear_term.specs.Order.{pair_cmp}
use Rattle.linear_term.specs.Range.{InRange}
use Rattle.clause_set.specs.declared.literal.Literal.{Literal}
use Rattle.clause_set.specs.Literals.{term_of}
use Rattle.clause_set.specs.Clauses.{same_pairs}
use Rattle.clause_set.specs.Normal.{negated}
use Rattle.clause_set.specs.Order.{is_literal}
use Rattle.clause_set.proofs.Covers.{by_no, same_literal_test}
use Rattle.clause_set.proofs.Orders.{same_pairs-equal, pair_cmp-refl}

pub longer : (p q : List (ℕ × ℤ)) → length p ≢ length q → same_pairs p q ≡ false
longer p q n = by_no (same_pairs p q) (λ y. n (ap length (same_pairs-equal p q y)))

length-negated : (q : List (ℕ × ℤ)) → length (negated q) ≡ length q
length-negated [] = refl
length-negated (p ∷ q) = ap (λ n. suc n) (length-negated q)

pub longer_opposite : (p q : List (ℕ × ℤ)) → length p ≢ length q → same_pairs p (negated q) ≡ false
longer_opposite p q n = longer p (negated q) (λ e. n (e ∙ length-negated q))

pub opposite_front : (p q ps qs : List (ℕ × ℤ)) (x y : ℕ × ℤ) → p ≡ x ∷ ps → q ≡ y ∷ qs → x.0 ≡ y.0 → x.1 ≡ neg_ℤ y.1 → same_pairs p (negated q) ≡ same_pairs ps (negated qs)
opposite_front p q ps qs x y is_p is_q name coefficient =
    let both : x ≡ (y.0, neg_ℤ y.1) = ap (λ n. (n, x.1)) name ∙ ap (λ k. (y.0, k)) coefficient in
    ap (λ z. same_pairs z (negated q)) is_p ∙ ap (λ z. same_pairs (x ∷ ps) (negated z)) is_q
    ∙ ap (λ o. is_eq (ordering_then o (slice_cmp pair_cmp ps (negated qs)))) (ap (λ z. pair_cmp z (y.0, neg_ℤ y.1)) both ∙ pair_cmp-refl (y.0, neg_ℤ y.1))

first_of : (ℕ × ℤ) → List (ℕ × ℤ) → ℕ × ℤ
first_of d [] = d
first_of d (p ∷ ps) = p

pub opposite_apart : (p q ps qs : List (ℕ × ℤ)) (x y : ℕ × ℤ) → p ≡ x ∷ ps → q ≡ y ∷ qs → ((x.0 ≡ y.0) × (x.1 ≡ neg_ℤ y.1) → ⊥) → same_pairs p (negated q) ≡ false
unfolding first_of
opposite_apart p q ps qs x y is_p is_q n =
    by_no (same_pairs p (negated q))
    (λ t. let same : x ∷ ps ≡ (y.0, neg_ℤ y.1) ∷ negated qs = sym is_p ∙ same_pairs-equal p (negated q) t ∙ ap negated is_q in
    let first : x ≡ (y.0, neg_ℤ y.1) = ap (first_of x) same in
    n (ap (λ z. z.0) first, ap (λ z. z.1) first))

pub opposite_more : (p q ps : List (ℕ × ℤ)) (x : ℕ × ℤ) → p ≡ x ∷ ps → q ≡ [] → same_pairs p (negated q) ≡ false
opposite_more p q ps x is_p is_q = ap (λ z. same_pairs z (negated q)) is_p ∙ ap (λ z. same_pairs (x ∷ ps) (negated z)) is_q

pub opposite_none : (p q : List (ℕ × ℤ)) → p ≡ [] → q ≡ [] → same_pairs p (negated q) ≡ true
opposite_none p q is_p is_q = ap (λ z. same_pairs z (negated q)) is_p ∙ ap (λ z. same_pairs [] (negated z)) is_q

pub opposite_less : (p q : List (ℕ × ℤ)) → p ≡ [] → q ≢ [] → same_pairs p (negated q) ≡ false
opposite_less p [] is_p n = absurd (n refl)
opposite_less p (y ∷ q) is_p n = ap (λ z. same_pairs z (negated (y ∷ q))) is_p

pub range_first : (q qs : List (ℕ × ℤ)) (y : ℕ × ℤ) → q ≡ y ∷ qs → All (λ r. InRange r.1) q → InRange y.1
range_first q qs y is h = (recursion_from_All (λ r. InRange r.1) (y ∷ qs) (subst (All (λ r. InRange r.1)) is h)).0

pub range_rest : (q qs : List (ℕ × ℤ)) (y : ℕ × ℤ) → q ≡ y ∷ qs → All (λ r. InRange r.1) q → All (λ r. InRange r.1) qs
range_rest q qs y is h = All-from_recursion (λ r. InRange r.1) qs (recursion_from_All (λ r. InRange r.1) (y ∷ qs) (subst (All (λ r. InRange r.1)) is h)).1

pub ruleset opposites = (longer, longer_opposite, opposite_front, opposite_apart, opposite_more, opposite_none, opposite_less, range_first, range_rest)

-- ---- literals
pub other_length : (l m : Literal) → length (term_of l).pairs ≢ length (term_of m).pairs → is_literal l m ≡ false
other_length l m n = by_no (is_literal l m) (λ y. n (ap (λ z. length (term_of z).pairs) (same_literal_test l m y)))

pub other_constant : (l m : Literal) → (term_of l).constant ≢ (term_of m).constant → is_literal l m ≡ false
other_constant l m n = by_no (is_literal l m) (λ y. n (ap (λ z. (term_of z).constant) (same_literal_test l m y)))

pub ruleset literals_apart = (other_length, other_constant)
