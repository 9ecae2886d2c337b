-- The first names out of a disjunction that speaks of one name more.
use Rattle.std.proofs.Common.{◌≡◌, ◌≢◌, ◌+◌, ◌<◌, ◌≤◌, ℕ, zero, suc, ℤ, Bool, true, false, nat_eq, List, [], ◌∷◌, ◌++◌, length, refl, sym, ◌∙◌, ap, subst, arith, append_assoc}
use Rattle.std.specs.Prelude.{◌↔◌, All, ◌⊎◌}
use Rattle.std.specs.List.{AllByRecursion}
use Rattle.std.proofs.lemmas.Bool.{cases_lt}
use mathlib.Core.Logic.{inl, inr}
use Rattle.base_integers.specs.Entry.{put}
use Rattle.base_integers.proofs.Entries.{put-append_right}
use Rattle.base_budget.specs.Trace.{just, next}
use Rattle.clause_set.specs.declared.literal.Literal.{Literal}
use Rattle.clause_set.specs.Kept.{AreFormed}
use Rattle.clause_set.specs.Literals.{dnf_truth}
use Rattle.clause_set.specs.Primitive.{IsShaped}
use Rattle.elim_laws.specs.Elimination.{exists_name, IsOut}
use Rattle.elim_laws.specs.Whole.{Lacks, names_out}
use Rattle.elim_laws.proofs.Names.{exists_name-lacks}
use Rattle.elim_laws.proofs.Taking.{exists_name-out}
use Rattle.solve_laws.proofs.Outs.{exists_name-shaped, free_lacks}
use Rattle.solve_laws.proofs.Spans.{IsIn, IsName, all_from_lacks}

-- ---- truth
-- some n integers before r make d true
pub record Before (d : List (List Literal)) (n : ℕ) (r : List ℤ) : Type 0 where
  pub values : List ℤ
  pub as_many : length values ≡ n
  pub holds : dnf_truth d (values ++ r) ≡ true

record Split (v : List ℤ) (n : ℕ) : Type 0 where
  front : List ℤ
  last : ℤ
  whole : v ≡ front ++ last ∷ []
  as_many : length front ≡ n

split_last : (v : List ℤ) (n : ℕ) → length v ≡ suc n → Split v n
split_last [] n h = absurd (omega (arith, h))
split_last (u ∷ []) n h = record { front = []; last = u; whole = refl; as_many = omega (arith, h) }
split_last (u ∷ w ∷ v) zero h = absurd (omega (arith, h))
split_last (u ∷ w ∷ v) (suc n) h =
    let s = split_last (w ∷ v) n (omega (arith, h)) in
    record { front = u ∷ s.front; last = s.last; whole = ap (λ z. u ∷ z) s.whole; as_many = ap suc s.as_many }

one_more : (v : List ℤ) (u : ℤ) (n : ℕ) → length v ≡ n → length (v ++ u ∷ []) ≡ suc n
one_more [] u n h = omega (arith, h)
one_more (w ∷ v) u zero h = absurd (omega (arith, h))
one_more (w ∷ v) u (suc n) h = ap suc (one_more v u n (omega (arith, h)))

-- v at the place n of a list of n integers, any one and r
put_at : (w : List ℤ) (u v : ℤ) (r : List ℤ) (n : ℕ) → length w ≡ n → put (w ++ u ∷ r) n v ≡ (w ++ v ∷ []) ++ r
put_at w u v r n h =
    let at : n ≡ length w + 0 = omega (arith, h) in
    ap (λ (x : ℕ). put (w ++ u ∷ r) x v) at ∙ put-append_right w (u ∷ r) 0 v ∙ sym (append_assoc w (v ∷ []) r)

-- where the name n goes out, some n + 1 integers before r make d true exactly where some n before any one and r make what is left true
last_out : (n : ℕ) (d s : List (List Literal)) (u : ℤ) (r : List ℤ) → IsOut n d s → Before d (suc n) r ↔ Before s n (u ∷ r)
last_out n d s u r o = (
  λ b. let p = split_last b.values n b.as_many in
      record {
        values = p.front;
        as_many = p.as_many;
        holds = o.kept (p.front ++ u ∷ r) (p.last, ap (dnf_truth d) (put_at p.front u p.last r n p.as_many ∙ ap (λ z. z ++ r) (sym p.whole)) ∙ b.holds);
      },
  λ b. let m = o.back (b.values ++ u ∷ r) b.holds in
      record { values = b.values ++ m.0 ∷ []; as_many = one_more b.values m.0 n b.as_many; holds = ap (dnf_truth d) (sym (put_at b.values u m.0 r n b.as_many)) ∙ m.1 },
)

none_before : (d : List (List Literal)) (w r : List ℤ) → length w ≡ 0 → (dnf_truth d (w ++ r) ≡ true) ↔ Before d 0 r
none_before d [] r l = (λ t. record { values = []; as_many = refl; holds = t }, λ b. by b.values b.as_many b.holds)
  where
    by : (v : List ℤ) → length v ≡ 0 → dnf_truth d (v ++ r) ≡ true → dnf_truth d r ≡ true
    by [] l h = h
    by (x ∷ v) l h = absurd (omega (arith, l))
none_before d (u ∷ w) r l = absurd (omega (arith, l))

-- what is left is true after any n integers exactly where d is true after some
pub names_out-before : (n : ℕ) (d : List (List Literal)) (w r : List ℤ) → AreFormed d → length w ≡ n → (dnf_truth (names_out n d).value (w ++ r) ≡ true) ↔ Before d n r
unfolding next just
names_out-before zero d w r f l = none_before d w r l
names_out-before (suc n) d w r f l =
    let p = split_last w n l in
    let o = exists_name-out n d f in
    let same : w ++ r ≡ p.front ++ p.last ∷ r = ap (λ z. z ++ r) p.whole ∙ append_assoc p.front (p.last ∷ []) r in
    let rest = names_out-before n (exists_name n d).value p.front (p.last ∷ r) o.formed p.as_many in
    let last = last_out n d (exists_name n d).value p.last r o in (
      λ t. last.1 (rest.0 (ap (dnf_truth (names_out n (exists_name n d).value).value) (sym same) ∙ t)),
      λ b. ap (dnf_truth (names_out n (exists_name n d).value).value) same ∙ rest.1 (last.0 b),
    )

-- ---- form
pub names_out-formed : (n : ℕ) (d : List (List Literal)) → AreFormed d → AreFormed (names_out n d).value
unfolding next just
names_out-formed zero d f = f
names_out-formed (suc n) d f = let o : IsOut n d (exists_name n d).value = exists_name-out n d f in names_out-formed n (exists_name n d).value o.formed

pub names_out-shaped : (n : ℕ) (d : List (List Literal)) → AreFormed d → AllByRecursion (All IsShaped) d → AllByRecursion (All IsShaped) (names_out n d).value
unfolding next just
names_out-shaped zero d f s = s
names_out-shaped (suc n) d f s =
    let o : IsOut n d (exists_name n d).value = exists_name-out n d f in names_out-shaped n (exists_name n d).value o.formed (exists_name-shaped n d f s)

-- a name that is not among those that go out, and is lacked, is lacked by what is left
pub names_out-lacks : (n y : ℕ) (d : List (List Literal)) → n ≤ y → AllByRecursion (Lacks y) d → AllByRecursion (Lacks y) (names_out n d).value
unfolding next just
names_out-lacks zero y d le h = h
names_out-lacks (suc n) y d le h = names_out-lacks n y (exists_name n d).value (omega (arith, le)) (exists_name-lacks n y d (λ e. absurd (omega (arith, e, le))) h)

-- so is each name that goes out
below : (n y : ℕ) → y < suc n → (y < n) ⊎ (y ≡ n)
below n y lt = by (cases_lt y n)
  where
    by : (y < n) ⊎ (n ≤ y) → (y < n) ⊎ (y ≡ n)
    by (inl l) = inl l
    by (inr l) = inr (omega (arith, l, lt))

pub names_out-gone : (n y : ℕ) (d : List (List Literal)) → AreFormed d → y < n → AllByRecursion (Lacks y) (names_out n d).value
unfolding next just
names_out-gone zero y d f lt = absurd (omega (arith, lt))
names_out-gone (suc n) y d f lt = by (below n y lt) (λ o l. names_out-gone n y (exists_name n d).value o l)
  where
    by : (y < n) ⊎ (y ≡ n) → (AreFormed (exists_name n d).value → y < n → AllByRecursion (Lacks y) (names_out n (exists_name n d).value).value)
        → AllByRecursion (Lacks y) (names_out n (exists_name n d).value).value
    by (inl l) r = r (exists_name-out n d f).formed l
    by (inr e) r = names_out-lacks n y (exists_name n d).value (omega (arith, e)) (subst (λ (z : ℕ). AllByRecursion (Lacks z) (exists_name n d).value) (sym e) (free_lacks n (exists_name n d).value (exists_name-out n d f).free))

-- a disjunction over the names up to n speaks of n alone where those below n are out
pub names_out-alone : (n : ℕ) (d : List (List Literal)) → AreFormed d → AllByRecursion (All IsShaped) d → ((y : ℕ) → n < y → AllByRecursion (Lacks y) d)
    → AllByRecursion (AllByRecursion (IsIn (IsName n))) (names_out n d).value
names_out-alone n d f s over =
    all_from_lacks (IsName n) (names_out n d).value (names_out-formed n d f) (names_out-shaped n d f s) (λ y. by y (cases_lt y n) (cases_lt n y))
  where
    by : (y : ℕ) → (y < n) ⊎ (n ≤ y) → (n < y) ⊎ (y ≤ n) → IsName n y ⊎ AllByRecursion (Lacks y) (names_out n d).value
    by y (inl l) g = inr (names_out-gone n y d f l)
    by y (inr l) (inl g) = inr (names_out-lacks n y d l (over y g))
    by y (inr l) (inr g) = inl (let e : y ≡ n = omega (arith, l, g) in e)
