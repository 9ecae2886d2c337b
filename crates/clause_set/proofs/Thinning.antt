-- A clause that another one outdoes can be left out before the others are compared.
use Rattle.std.proofs.Common.{◌≡◌, Bool, true, false, not, cond, ◌||◌, List, [], ◌∷◌, ◌++◌, length, refl, sym, ◌∙◌, ap, subst, append_assoc, arith}
use Rattle.std.specs.Prelude.{reverse}
use Rattle.std.specs.List.{AllByRecursion, filter}
use Rattle.std.proofs.lemmas.List.{append-nil, reverse-append}
use Rattle.std.proofs.lemmas.List.Folds.{list_any-append}
use Rattle.std.proofs.lemmas.List.Sorted.{IsPermutation-reverse, list_any-IsPermutation}
use Rattle.linear_term.proofs.Totals.{by_test}
use Rattle.clause_set.specs.declared.literal.Literal.{Literal}
use Rattle.clause_set.specs.Dnfs.{outdoes, is_covered, uncovered}
use Rattle.clause_set.specs.Thinning.{IsThin, AreThinned}
use Rattle.clause_set.proofs.Covers.{any_from, any_with, by_no, outdoes-along, outdoes-self}
use Rattle.clause_set.proofs.Across.{filter_all, not_covered}

-- ---- without a clause that one of the others outdoes
swallow : (p q r : Bool) → (q ≡ true → (p || r) ≡ true) → (p || (q || r)) ≡ (p || r)
swallow true q r h = refl
swallow false true r h = sym (h refl)
swallow false false r h = refl

or_true : (p q : Bool) → q ≡ true → (p || q) ≡ true
or_true true q h = refl
or_true false q h = h

left_true : (p q : Bool) → p ≡ true → (p || q) ≡ true
left_true true q h = refl
left_true false q h = absurd cc

none_of : (p q r : Bool) → p ≡ false → q ≡ false → r ≡ false → (p || (q || r)) ≡ false
none_of true q r h k m = absurd cc
none_of false true r h k m = absurd cc
none_of false false r h k m = m

covered_along : (cs : List (List Literal)) (x c : List Literal) → is_covered cs x ≡ true → outdoes x c ≡ true → is_covered cs c ≡ true
covered_along cs x c h k =
    let w = any_from (λ d. outdoes d x) cs h in
    any_with (λ d. outdoes d c) w.element cs w.among (outdoes-along w.element x c w.passes k)

-- what is outdone is outdone without it too
same_cover : (a b : List (List Literal)) (x c : List Literal) → is_covered (a ++ b) x ≡ true → is_covered (a ++ x ∷ b) c ≡ is_covered (a ++ b) c
same_cover a b x c h =
    list_any-append (λ d. outdoes d c) a (x ∷ b)
    ∙ swallow (is_covered a c) (outdoes x c) (is_covered b c) (λ k. sym (list_any-append (λ d. outdoes d c) a b) ∙ covered_along (a ++ b) x c h k)
    ∙ sym (list_any-append (λ d. outdoes d c) a b)

filter_without : {X : Type 0} (test : X → Bool) (x : X) (a b : List X) → test x ≡ false → filter test (a ++ x ∷ b) ≡ filter test (a ++ b)
filter_without test x [] b e = ap (λ t. cond t (x ∷ filter test b) (filter test b)) e
filter_without test x (y ∷ a) b e = ap (λ z. cond (test y) (y ∷ z) z) (filter_without test x a b e)

without_covered : (a b : List (List Literal)) (x : List Literal) → is_covered (a ++ b) x ≡ true → uncovered (a ++ x ∷ b) ≡ uncovered (a ++ b)
without_covered a b x h =
    ap (λ (test : List Literal → Bool). filter test (a ++ x ∷ b)) (λ i c. not (same_cover a b x c h i))
    ∙ filter_without (λ c. not (is_covered (a ++ b) c)) x a b (ap not h)

covered_behind : (a b : List (List Literal)) (x : List Literal) → is_covered b x ≡ true → is_covered (a ++ b) x ≡ true
covered_behind a b x h = list_any-append (λ d. outdoes d x) a b ∙ or_true (is_covered a x) (is_covered b x) h

covered_before : (a b : List (List Literal)) (x : List Literal) → is_covered a x ≡ true → is_covered (a ++ b) x ≡ true
covered_before a b x h = list_any-append (λ d. outdoes d x) a b ∙ left_true (is_covered a x) (is_covered b x) h

covered_reversed : (cs : List (List Literal)) (x : List Literal) → is_covered (reverse cs) x ≡ is_covered cs x
covered_reversed cs x = sym (list_any-IsPermutation (λ d. outdoes d x) cs (reverse cs) (IsPermutation-reverse cs))

reverse_more : (cs new : List (List Literal)) (x : List Literal) → new ≡ cs ++ x ∷ [] → reverse new ≡ x ∷ reverse cs
reverse_more cs new x e = ap reverse e ∙ reverse-append cs (x ∷ [])

-- ---- from the last clause to the first: those of rest are not yet asked
pub record Thinning (cs rest left : List (List Literal)) : Type 0 where
  pub same : uncovered (rest ++ reverse left) ≡ uncovered cs
  pub thin : IsThin (reverse left)

pub thinning_none : (cs : List (List Literal)) → Thinning cs cs []
thinning_none cs = record { same = ap uncovered (append-nil cs); thin = tt }

put_back : (now rest b : List (List Literal)) (c : List Literal) → rest ≡ now ++ c ∷ [] → rest ++ b ≡ now ++ c ∷ b
put_back now rest b c e = ap (λ z. z ++ b) e ∙ append_assoc now (c ∷ []) b

thinning_less : (cs rest now left : List (List Literal)) (c : List Literal) → rest ≡ now ++ c ∷ [] → is_covered left c ≡ true → Thinning cs rest left → Thinning cs now left
thinning_less cs rest now left c e h s = record {
  same =
      sym (without_covered now (reverse left) c (covered_behind now (reverse left) c (covered_reversed left c ∙ h)))
      ∙ sym (ap uncovered (put_back now rest (reverse left) c e)) ∙ s.same;
  thin = s.thin;
}

thinning_kept : (cs rest now left : List (List Literal)) (c : List Literal) → rest ≡ now ++ c ∷ [] → is_covered left c ≡ false → Thinning cs rest left → Thinning cs now (left ++ c ∷ [])
thinning_kept cs rest now left c e h s =
    let turned = reverse_more left (left ++ c ∷ []) c refl in
    record {
      same = ap (λ z. uncovered (now ++ z)) turned ∙ sym (ap uncovered (put_back now rest (reverse left) c e)) ∙ s.same;
      thin = subst IsThin (sym turned) (covered_reversed left c ∙ h, s.thin);
    }

pub thinning_more : (cs rest now left new : List (List Literal)) (c : List Literal) → rest ≡ now ++ c ∷ [] → new ≡ cond (is_covered left c) left (left ++ c ∷ [])
    → Thinning cs rest left → Thinning cs now new
thinning_more cs rest now left new c e is s =
    subst (Thinning cs now) (sym is)
    (by_test (Thinning cs now) (is_covered left c) left (left ++ c ∷ []) (λ y. thinning_less cs rest now left c e y s) (λ n. thinning_kept cs rest now left c e n s))

pub thinning_all : (cs rest left : List (List Literal)) → length rest ≡ 0 → Thinning cs rest left → AreThinned cs left
thinning_all cs [] left e s = record { same = s.same; thin = s.thin }
thinning_all cs (c ∷ rest) left e s = absurd (omega (arith, e))

-- ---- back from the first to the last: none is outdone by one after it
pub record Settling (cs rest out : List (List Literal)) : Type 0 where
  pub same : uncovered (out ++ reverse rest) ≡ uncovered (reverse cs)
  pub settled : AllByRecursion (λ c. is_covered (out ++ reverse rest) c ≡ false) out
  pub thin : IsThin (reverse rest)

pub settling_none : (cs : List (List Literal)) → IsThin (reverse cs) → Settling cs cs []
settling_none cs h = record { same = refl; settled = tt; thin = h }

all_more : {X : Type 0} (P : X → Type 0) (xs : List X) (x : X) → AllByRecursion P xs → P x → AllByRecursion P (xs ++ x ∷ [])
all_more P [] x h p = (p, tt)
all_more P (y ∷ xs) x h p = (h.0, all_more P xs x h.1 p)

still_settled : (all new cs : List (List Literal)) → ((c : List Literal) → is_covered all c ≡ is_covered new c) → AllByRecursion (λ c. is_covered all c ≡ false) cs
    → AllByRecursion (λ c. is_covered new c ≡ false) cs
still_settled all new [] same h = tt
still_settled all new (c ∷ cs) same h = (sym (same c) ∙ h.0, still_settled all new cs same h.1)

settling_less : (cs rest now out : List (List Literal)) (c : List Literal) → rest ≡ now ++ c ∷ [] → is_covered out c ≡ true → Settling cs rest out → Settling cs now out
settling_less cs rest now out c e h s =
    let turned = reverse_more now rest c e in
    let covered = covered_before out (reverse now) c h in
    record {
      same = sym (without_covered out (reverse now) c covered) ∙ sym (ap (λ z. uncovered (out ++ z)) turned) ∙ s.same;
      settled =
          still_settled (out ++ reverse rest) (out ++ reverse now) out (λ y. ap (λ z. is_covered (out ++ z) y) turned ∙ same_cover out (reverse now) c y covered) s.settled;
      thin = (subst IsThin turned s.thin).1;
    }

settling_kept : (cs rest now out : List (List Literal)) (c : List Literal) → rest ≡ now ++ c ∷ [] → is_covered out c ≡ false → Settling cs rest out → Settling cs now (out ++ c ∷ [])
settling_kept cs rest now out c e h s =
    let turned = reverse_more now rest c e in
    let whole : out ++ reverse rest ≡ (out ++ c ∷ []) ++ reverse now = ap (λ z. out ++ z) turned ∙ sym (append_assoc out (c ∷ []) (reverse now)) in
    let alone : is_covered (out ++ c ∷ reverse now) c ≡ false = list_any-append (λ d. outdoes d c) out (c ∷ reverse now)
    ∙ none_of (is_covered out c) (outdoes c c) (is_covered (reverse now) c) h (by_no (outdoes c c) (outdoes-self c)) (subst IsThin turned s.thin).0 in
    record {
      same = sym (ap uncovered whole) ∙ s.same;
      settled =
          all_more (λ y. is_covered ((out ++ c ∷ []) ++ reverse now) y ≡ false) out c
          (still_settled (out ++ reverse rest) ((out ++ c ∷ []) ++ reverse now) out (λ y. ap (λ z. is_covered z y) whole) s.settled)
          (ap (λ z. is_covered z c) (append_assoc out (c ∷ []) (reverse now)) ∙ alone);
      thin = (subst IsThin turned s.thin).1;
    }

pub settling_more : (cs rest now out new : List (List Literal)) (c : List Literal) → rest ≡ now ++ c ∷ [] → new ≡ cond (is_covered out c) out (out ++ c ∷ [])
    → Settling cs rest out → Settling cs now new
settling_more cs rest now out new c e is s =
    subst (Settling cs now) (sym is)
    (by_test (Settling cs now) (is_covered out c) out (out ++ c ∷ []) (λ y. settling_less cs rest now out c e y s) (λ n. settling_kept cs rest now out c e n s))

all_settled : (cs : List (List Literal)) → AllByRecursion (λ c. is_covered cs c ≡ false) cs → cs ≡ uncovered cs
all_settled cs h = sym (filter_all (λ c. not (is_covered cs c)) cs (not_covered cs cs h))

pub settling_all : (cs rest out : List (List Literal)) → length rest ≡ 0 → Settling cs rest out → out ≡ uncovered (reverse cs)
settling_all cs [] out e s =
    all_settled out (subst (λ z. AllByRecursion (λ c. is_covered z c ≡ false) out) (append-nil out) s.settled)
    ∙ sym (ap uncovered (append-nil out)) ∙ s.same
settling_all cs (c ∷ rest) out e s = absurd (omega (arith, e))

pub ruleset thinning = (thinning_none, thinning_more, thinning_all)

pub ruleset settling = (settling_none, settling_more, settling_all)

-- both walks, one after the other
pub thin_left : (cs left : List (List Literal)) → AreThinned cs left → IsThin (reverse left)
thin_left cs left h = h.thin

pub same_left : (cs left kept : List (List Literal)) → AreThinned cs left → kept ≡ uncovered (reverse left) → kept ≡ uncovered cs
same_left cs left kept h e = e ∙ h.same

pub ruleset both_ways = (thin_left, same_left)
