-- The divisors of a clause's literals are divisors, and what all elements of a list have survives sorting.
use Rattle.std.proofs.Common.{◌≡◌, List, [], ◌∷◌, ◌++◌, map, Some, None, subst}
use Rattle.std.specs.Prelude.{All}
use Rattle.std.specs.List.{AllByRecursion, list_any, flat_map}
use Rattle.std.specs.declared.cmp.Ordering.{Ordering}
use Rattle.std.specs.declared.cmp.Ordering.TheVariants.{Less, Equal, Greater}
use Rattle.std.proofs.lemmas.List.Elements.{All-from_recursion, recursion_from_All}
use Rattle.linear_term.proofs.Totals.{by_test}
use Rattle.clause_set.specs.declared.literal.Literal.{Literal}
use Rattle.clause_set.specs.declared.literal.Literal.TheVariants.{Eq, Geq, Div, NDiv}
use Rattle.clause_set.specs.declared.literal.Norm.{Norm}
use Rattle.clause_set.specs.declared.literal.Norm.TheVariants.{True, False, Lit}
use Rattle.clause_set.specs.Literals.{HasDivisor, HasDivisorNorm}
use Rattle.clause_set.specs.Normal.{turned, normal_of}
use Rattle.clause_set.specs.Order.{literal_cmp, insert_at, insert_once, inserted, sorted_once}
use Rattle.clause_set.specs.Clauses.{slack, extent, is_zero, is_void, with_constant, tightened, compact, is_false, literals_of, clause_of}
use Rattle.clause_set.proofs.NormalTruth.{normal-divisor}

insert_at-kept : {X : Type 0} (P : X → Type 0) (o : Ordering) (x y : X) (ys rest : List X) → P x → P y → AllByRecursion P ys → AllByRecursion P rest
    → AllByRecursion P (insert_at o x y ys rest)
insert_at-kept P Less x y ys rest px py h k = (px, (py, h))
insert_at-kept P Equal x y ys rest px py h k = (py, h)
insert_at-kept P Greater x y ys rest px py h k = (py, k)

pub insert_once-kept : {X : Type 0} (P : X → Type 0) (R : X → X → Ordering) (x : X) (ys : List X) → P x → AllByRecursion P ys → AllByRecursion P (insert_once R x ys)
insert_once-kept P R x [] px h = (px, tt)
insert_once-kept P R x (y ∷ ys) px h = insert_at-kept P (R x y) x y ys (insert_once R x ys) px h.0 h.1 (insert_once-kept P R x ys px h.1)

inserted-kept : {X : Type 0} (P : X → Type 0) (R : X → X → Ordering) (xs : List X) → AllByRecursion P xs → AllByRecursion P (inserted R xs [])
inserted-kept P R [] h = tt
inserted-kept P R (x ∷ xs) h = insert_once-kept P R x (inserted R xs []) h.0 (inserted-kept P R xs h.1)

pub sorted_once-kept : {X : Type 0} (P : X → Type 0) (R : X → X → Ordering) (xs : List X) → AllByRecursion P xs → AllByRecursion P (sorted_once R xs)
unfolding sorted_once
sorted_once-kept P R xs h = inserted-kept P R xs h

tightened-divisor : (ls : List Literal) (l : Literal) → HasDivisor l → HasDivisor (tightened ls l)
tightened-divisor ls (Eq t) h = tt
tightened-divisor ls (Geq t) h = by_test HasDivisor (is_zero (extent ls t.pairs)) (Eq (turned (with_constant (slack ls t.pairs) t))) (Geq (with_constant (slack ls t.pairs) t)) (λ _. tt) (λ _. tt)
tightened-divisor ls (Div d t) h = h
tightened-divisor ls (NDiv d t) h = h

all_tightened-divisors : (ls ms : List Literal) → AllByRecursion HasDivisor ms → AllByRecursion HasDivisor (map (tightened ls) ms)
all_tightened-divisors ls [] h = tt
all_tightened-divisors ls (m ∷ ms) h = (tightened-divisor ls m h.0, all_tightened-divisors ls ms h.1)

compact-divisors : (ls c : List Literal) → AllByRecursion HasDivisor ls → compact ls ≡ Some c → AllByRecursion HasDivisor c
unfolding compact
compact-divisors ls c h =
    by_test (λ a. a ≡ Some c → AllByRecursion HasDivisor c) (list_any (is_void ls) ls) None (Some (sorted_once literal_cmp (map (tightened ls) ls)))
    (λ _ e. absurd cc)
    (λ _ e. let same : sorted_once literal_cmp (map (tightened ls) ls) ≡ c = cc in
    subst (AllByRecursion HasDivisor) same (sorted_once-kept HasDivisor literal_cmp (map (tightened ls) ls) (all_tightened-divisors ls ls h)))

pub kept-append : {X : Type 0} (P : X → Type 0) (xs ys : List X) → AllByRecursion P xs → AllByRecursion P ys → AllByRecursion P (xs ++ ys)
kept-append P [] ys h k = k
kept-append P (x ∷ xs) ys h k = (h.0, kept-append P xs ys h.1 k)

literals-divisors : (n : Norm) → HasDivisorNorm n → AllByRecursion HasDivisor (literals_of n)
literals-divisors True h = tt
literals-divisors False h = tt
literals-divisors (Lit l) h = (h, tt)

normals-divisors : (ls : List Literal) → AllByRecursion HasDivisor ls → AllByRecursion HasDivisor (flat_map (λ l. literals_of (normal_of l)) ls)
normals-divisors [] h = tt
normals-divisors (l ∷ ls) h = kept-append HasDivisor (literals_of (normal_of l)) _ (literals-divisors (normal_of l) (normal-divisor l h.0)) (normals-divisors ls h.1)

clause-divisors_by : (ls c : List Literal) → AllByRecursion HasDivisor ls → clause_of ls ≡ Some c → AllByRecursion HasDivisor c
unfolding clause_of
clause-divisors_by ls c h =
    by_test (λ a. a ≡ Some c → AllByRecursion HasDivisor c) (list_any (λ l. is_false (normal_of l)) ls) None (compact (flat_map (λ l. literals_of (normal_of l)) ls))
    (λ _ e. absurd cc)
    (λ _ e. compact-divisors (flat_map (λ l. literals_of (normal_of l)) ls) c (normals-divisors ls h) e)

pub clause-divisors : (ls c : List Literal) → All HasDivisor ls → clause_of ls ≡ Some c → All HasDivisor c
clause-divisors ls c h e = All-from_recursion HasDivisor c (clause-divisors_by ls c (recursion_from_All HasDivisor ls h) e)
