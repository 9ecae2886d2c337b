-- A clause that speaks of one name alone begins to be true where its work says.
use Rattle.std.proofs.Common.{◌≡◌, ◌<◌, ◌≤◌, ℕ, zero, suc, ℤ, pos, neg_ℤ, ◌+ℤ◌, ◌*ℤ◌, ◌≤ℤ◌, ◌<ℤ◌, Bool, true, false, ◌&&◌, cond, List, [], ◌∷◌, Option, Some, None, refl, sym, ◌∙◌, ap, subst, arith}
use Rattle.std.specs.Prelude.{remove, slice_get, position, ◌↔◌}
use Rattle.std.specs.List.{list_any, AllByRecursion}
use Rattle.std.proofs.lemmas.Int.{ints}
use Rattle.base_integers.specs.Entry.{put}
use Rattle.base_integers.specs.Residue.{least_from}
use Rattle.linear_term.specs.Linear.{Linear}
use Rattle.linear_term.proofs.Totals.{by_test}
use Rattle.clause_set.specs.declared.literal.Literal.{Literal}
use Rattle.clause_set.specs.declared.literal.Literal.TheVariants.{Eq, Geq, Div, NDiv}
use Rattle.clause_set.specs.Literals.{literal_truth, clause_truth, dnf_truth}
use Rattle.clause_set.specs.Names.{is_equation}
use Rattle.clause_set.specs.Rules.{rule, measure, passes}
use Rattle.base_budget.specs.Trace.{Traced, just, step, next}
use Rattle.base_budget.specs.declared.log.Entry.{Entry}
use Rattle.base_budget.proofs.Tracing.{next-same}
use Rattle.elim_rule_laws.proofs.EquationLists.{all-apart, kept-removed, kept-got, none-any}
use Rattle.solve_laws.specs.Nearest.{is_at_most, when}
use Rattle.solve_laws.specs.Candidates.{IsSingle, IsAlone, class_of, computed, first_split, lower, root, root_of, root_at, upper}
use Rattle.solve_laws.proofs.Ranks.{IsBetween, and_left, and_right, both}
use Rattle.solve_laws.proofs.Spans.{IsIn, IsName}
use Rattle.solve_laws.proofs.Alone.{clause-same, equation-root, IsBoundOrClass, bounded-between}
use Rattle.solve_laws.proofs.Candidates.{position-none, position-got, class-positive}
use Rattle.solve_laws.proofs.Splits.{in-alone, IsSplit, IsCase, Here, case_of}
use Rattle.optimiser.specs.declared.floor.Floor.{Floor}
use Rattle.optimiser.specs.declared.floor.Floor.TheVariants.{Nowhere, At, Unbounded}
use Rattle.optimiser.specs.Floors.{IsInfimum, floor_when, first_floor, lower_of}
use Rattle.optimiser.specs.OneName.{floors, floor_at_root, up_to_class, floor_from, floor_by, floor_of, floor_within, clause_floor, charged_floor, dnf_floor}
use Rattle.optimiser.proofs.FloorLaws.{floor-same, floors-all, class-unbounded, class-floor}

-- ---- with an equation
never : (b : Bool) (P : Type 0) → b ≡ true → b ≡ false → P
never b P t f = absurd (let z : true ≡ false = sym t ∙ f in cc)

-- a condition that holds at k alone, and there exactly where b is true
one_number : (p : ℤ → Bool) (k : ℤ) (b : Bool) → (b ≡ true → p k ≡ true) → ((u : ℤ) → p u ≡ true → (u ≡ k) × (b ≡ true)) → IsInfimum p (first_floor (when b k))
one_number p k true f g = (f refl, λ u t. let s = (g u t).0 in omega (arith, ints, s))
one_number p k false f g = λ u. by u (p u) refl
  where
    by : (u : ℤ) (b : Bool) → p u ≡ b → b ≡ false
    by u true t = sym (g u t).1
    by u false t = refl

is_root : (j : ℕ) (c : List Literal) (i : ℕ) (t : Linear) (e : List ℤ) → AllByRecursion (IsAlone j) c → slice_get c i ≡ Some (Eq t)
    → IsInfimum (λ v. clause_truth c (put e j v)) (first_floor (root j (neg_ℤ t.constant) (remove c i)).value)
unfolding next just step
is_root j c i t e a at =
    let k : ℤ = neg_ℤ t.constant in
    let s : IsSingle j (pos 1) t = kept-got (IsAlone j) c i (Eq t) at a in
    let rest : AllByRecursion (IsAlone j) (remove c i) = kept-removed (IsAlone j) c i a in
    let apart : (v : ℤ) → clause_truth c (put e j v) ≡ (literal_truth (Eq t) (put e j v) && clause_truth (remove c i) (put [] j v)) =
    (λ v. all-apart (λ l. literal_truth l (put e j v)) c i (Eq t) at ∙ ap (λ b. literal_truth (Eq t) (put e j v) && b) (clause-same j (remove c i) e [] v rest)) in
    one_number (λ v. clause_truth c (put e j v)) k (clause_truth (remove c i) (put [] j k))
    (λ b. apart k ∙ both _ _ ((equation-root j t e k s).1 refl) b)
    (λ u h.
    let parts = sym (apart u) ∙ h in
    let same : u ≡ k = (equation-root j t e u s).0 (and_left _ _ parts) in
    (same, subst (λ w. clause_truth (remove c i) (put [] j w) ≡ true) same (and_right _ _ parts)))

root_of-floor : (j : ℕ) (c : List Literal) (i : ℕ) (o : Option Literal) (e : List ℤ) → AllByRecursion (IsAlone j) c → slice_get c i ≡ o → passes (is_equation j) o ≡ true
    → IsInfimum (λ v. clause_truth c (put e j v)) (first_floor (root_of j (remove c i) o).value)
root_of-floor j c i None e a at h = absurd (cc)
root_of-floor j c i (Some (Eq t)) e a at h = is_root j c i t e a at
root_of-floor j c i (Some (Geq t)) e a at h = absurd (cc)
root_of-floor j c i (Some (Div d t)) e a at h = absurd (cc)
root_of-floor j c i (Some (NDiv d t)) e a at h = absurd (cc)

root_at-floor : (j : ℕ) (c : List Literal) (o : Option ℕ) (e : List ℤ) → AllByRecursion (IsAlone j) c → position (is_equation j) c ≡ o → list_any (is_equation j) c ≡ true
    → IsInfimum (λ v. clause_truth c (put e j v)) (first_floor (root_at j c o).value)
root_at-floor j c None e a at h = never (list_any (is_equation j) c) _ h (none-any (is_equation j) c (position-none (is_equation j) c at))
root_at-floor j c (Some i) e a at h = root_of-floor j c i (slice_get c i) e a refl (position-got (is_equation j) c i at)

at_root-floor : (j : ℕ) (c : List Literal) (e : List ℤ) → AllByRecursion (IsAlone j) c → list_any (is_equation j) c ≡ true → IsInfimum (λ v. clause_truth c (put e j v)) (floor_at_root j c).value
unfolding next just
at_root-floor j c e a h = root_at-floor j c (position (is_equation j) c) e a refl h

-- ---- with bounds and at most one divisibility
up-is : (m r lo : ℤ) → (computed (up_to_class m r lo)).value ≡ least_from m r lo
unfolding computed step
up-is m r lo = omega (arith, ints)

from-floor : (j : ℕ) (c : List Literal) (p : ℤ → Bool) (o : Option ℤ) → pos 0 <ℤ (class_of j c).value.modulus
    → ((v : ℤ) → (p v ≡ true) ↔ IsBetween (class_of j c).value.modulus (class_of j c).value.residue o (upper j c) v) → IsInfimum p (floor_from j c o).value
unfolding next just
from-floor j c p None h is = class-unbounded p (class_of j c).value.modulus (class_of j c).value.residue (upper j c) h is
from-floor j c p (Some lo) h is =
    subst (λ v. IsInfimum p (floor_when (is_at_most v (upper j c)) v)) (sym (up-is (class_of j c).value.modulus (class_of j c).value.residue lo))
    (class-floor p (class_of j c).value.modulus (class_of j c).value.residue lo (upper j c) h is)

bounded-floor : (j : ℕ) (c : List Literal) (e : List ℤ) → AllByRecursion (IsAlone j) c → AllByRecursion (IsBoundOrClass j (class_of j c).value) c
    → IsInfimum (λ v. clause_truth c (put e j v)) (floor_from j c (lower j c)).value
bounded-floor j c e a b = from-floor j c (λ v. clause_truth c (put e j v)) (lower j c) (class-positive j c a) (λ v. bounded-between j c e v a b)

-- ---- any clause on j alone
abbrev IsExactFor : ℕ → (List Literal → Traced Floor) → ℕ → List ℤ → Type 0
IsExactFor n f j e = (c : List Literal) → AllByRecursion (IsIn (IsName j)) c → measure j c < n → IsInfimum (λ v. clause_truth c (put e j v)) (f c).value

each_exact : (n : ℕ) (f : List Literal → Traced Floor) (j m : ℕ) (e : List ℤ) (cs : List (List Literal)) → IsExactFor n f j e → m ≤ n
    → AllByRecursion (AllByRecursion (IsIn (IsName j))) cs → AllByRecursion (λ r. measure j r < m) cs
    → AllByRecursion (λ c. IsInfimum (λ v. clause_truth c (put e j v)) (f c).value) cs
each_exact n f j m e [] h le o near = tt
each_exact n f j m e (c ∷ cs) h le o near = (h c o.0 (omega (arith, near.0, le)), each_exact n f j m e cs h le o.1 near.1)

split-floor : (n : ℕ) (f : List Literal → Traced Floor) (j : ℕ) (e : List ℤ) (c : List Literal) (x : Entry) → IsExactFor n f j e → measure j c ≤ n → IsSplit j c x
    → IsInfimum (λ v. clause_truth c (put e j v)) (floor_by f j c (Some x)).value
unfolding next
split-floor n f j e c x h le s =
    let rs : List (List Literal) = (rule j c x).value in
    floor-same (λ v. dnf_truth rs (put e j v)) (λ v. clause_truth c (put e j v)) (floors f rs Nowhere).value (λ v. s.truth (put e j v))
    (floors-all (λ r v. clause_truth r (put e j v)) f rs (each_exact n f j (measure j c) e rs h le s.on s.nearer))

by_case : (n : ℕ) (f : List Literal → Traced Floor) (j : ℕ) (e : List ℤ) (c : List Literal) (o : Option Entry) → IsExactFor n f j e → Here j c → measure j c ≤ n → IsCase j c o
    → IsInfimum (λ v. clause_truth c (put e j v)) (floor_by f j c o).value
by_case n f j e c None h k le s = bounded-floor j c e (in-alone j c k.inside) s
by_case n f j e c (Some x) h k le s = split-floor n f j e c x h le s

of-floor : (n : ℕ) (f : List Literal → Traced Floor) (j : ℕ) (e : List ℤ) (c : List Literal) → IsExactFor n f j e → AllByRecursion (IsIn (IsName j)) c → measure j c ≤ n
    → IsInfimum (λ v. clause_truth c (put e j v)) (floor_of f j c).value
of-floor n f j e c h o le =
    by_test (λ m. IsInfimum (λ v. clause_truth c (put e j v)) m.value) (list_any (is_equation j) c) (floor_at_root j c) (floor_by f j c (first_split j c))
    (λ t. at_root-floor j c e (in-alone j c o) t)
    (λ t. let k : Here j c = record { inside = o; none = t } in by_case n f j e c (first_split j c) h k le (case_of j c k))

within-floor : (n j : ℕ) (e : List ℤ) → IsExactFor n (floor_within n j) j e
within-floor zero j e c o lt = absurd (omega arith)
within-floor (suc n) j e c o lt = of-floor n (floor_within n j) j e c (within-floor n j e) o (omega arith)

-- THE theorem on one clause
pub clause-floor : (j : ℕ) (c : List Literal) (e : List ℤ) → AllByRecursion (IsIn (IsName j)) c → IsInfimum (λ v. clause_truth c (put e j v)) (clause_floor j c).value
unfolding clause_floor
clause-floor j c e o = within-floor (suc (measure j c)) j e c o (omega arith)

all_floors : (j : ℕ) (e : List ℤ) (d : List (List Literal)) → AllByRecursion (AllByRecursion (IsIn (IsName j))) d
    → AllByRecursion (λ c. IsInfimum (λ v. clause_truth c (put e j v)) (charged_floor j c).value) d
unfolding next
all_floors j e [] s = tt
all_floors j e (c ∷ cs) s = (clause-floor j c e s.0, all_floors j e cs s.1)

-- and on several
pub dnf-floor : (j : ℕ) (d : List (List Literal)) (e : List ℤ) → AllByRecursion (AllByRecursion (IsIn (IsName j))) d → IsInfimum (λ v. dnf_truth d (put e j v)) (dnf_floor j d).value
unfolding dnf_floor
dnf-floor j d e s = floors-all (λ c v. clause_truth c (put e j v)) (charged_floor j) d (all_floors j e d s)

-- ---- the depth plays no part
floors_same : (f g : List Literal → Traced Floor) (cs : List (List Literal)) (out : Floor) → AllByRecursion (λ c. f c ≡ g c) cs → floors f cs out ≡ floors g cs out
floors_same f g [] out h = refl
floors_same f g (c ∷ cs) out h =
    ap (λ m. next m (λ d. floors f cs (lower_of out d))) h.0
    ∙ next-same (g c) (λ d. floors f cs (lower_of out d)) (λ d. floors g cs (lower_of out d)) (floors_same f g cs (lower_of out (g c).value) h.1)

AreSame : ℕ → (List Literal → Traced Floor) → (List Literal → Traced Floor) → ℕ → Type 0
AreSame n f g j = (c : List Literal) → AllByRecursion (IsIn (IsName j)) c → measure j c < n → f c ≡ g c

all_same : (n : ℕ) (f g : List Literal → Traced Floor) (j m : ℕ) (cs : List (List Literal)) → AreSame n f g j → m ≤ n
    → AllByRecursion (AllByRecursion (IsIn (IsName j))) cs → AllByRecursion (λ r. measure j r < m) cs → AllByRecursion (λ c. f c ≡ g c) cs
unfolding AreSame
all_same n f g j m [] h le o near = tt
all_same n f g j m (c ∷ cs) h le o near = (h c o.0 (omega (arith, near.0)), all_same n f g j m cs h le o.1 near.1)

same_case : (n : ℕ) (f g : List Literal → Traced Floor) (j : ℕ) (c : List Literal) (o : Option Entry) → AreSame n f g j → measure j c ≤ n → IsCase j c o → floor_by f j c o ≡ floor_by g j c o
same_case n f g j c None h le s = refl
same_case n f g j c (Some x) h le s =
    next-same (rule j c x) (λ cs. floors f cs Nowhere) (λ cs. floors g cs Nowhere) (floors_same f g (rule j c x).value Nowhere (all_same n f g j (measure j c) (rule j c x).value h le s.on s.nearer))

same_of : (n : ℕ) (f g : List Literal → Traced Floor) (j : ℕ) (c : List Literal) → AreSame n f g j → AllByRecursion (IsIn (IsName j)) c → measure j c ≤ n → floor_of f j c ≡ floor_of g j c
same_of n f g j c h o le = by (list_any (is_equation j) c) refl
  where
    by : (b : Bool) → list_any (is_equation j) c ≡ b → cond b (floor_at_root j c) (floor_by f j c (first_split j c)) ≡ cond b (floor_at_root j c) (floor_by g j c (first_split j c))
    by true t = refl
    by false t = same_case n f g j c (first_split j c) h le (case_of j c (record { inside = o; none = t }))

deeper : (n m j : ℕ) → n ≤ m → AreSame n (floor_within n j) (floor_within m j) j
unfolding AreSame
deeper zero m j le c o lt = absurd (omega arith)
deeper (suc n) zero j le c o lt = absurd (omega arith)
deeper (suc n) (suc m) j le c o lt = same_of n (floor_within n j) (floor_within m j) j c (deeper n m j (omega arith)) o (omega arith)

-- a clause begins as its equation says, or its bounds, or what its first split leaves
pub clause_floor-unfold : (j : ℕ) (c : List Literal) → AllByRecursion (IsIn (IsName j)) c → clause_floor j c ≡ floor_of (clause_floor j) j c
unfolding clause_floor AreSame
clause_floor-unfold j c o =
    same_of (measure j c) (floor_within (measure j c) j) (clause_floor j) j c
    (λ r i lt. sym (deeper (suc (measure j r)) (measure j c) j (omega arith) r i (omega arith))) o (omega arith)
