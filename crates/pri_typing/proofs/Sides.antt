-- The sets of a cut assume together what the components of the formula assume.
use Rattle.std.proofs.Common.{◌≡◌, ◌↔◌, ℕ, zero, suc, ◌<◌, ◌≤◌, ℤ, Bool, true, false, ◌||◌, cond, List, [], ◌∷◌, ◌++◌, length, get_or, nat_eq, refl, sym, ap, subst, inl, inr, arith, All, Contains}
use Rattle.std.specs.List.{AllByRecursion, concat, filter, list_any}
use Rattle.std.specs.Bool.{beq}
use Rattle.std.proofs.lemmas.Bool.{eq-eqb}
use Rattle.std.proofs.lemmas.List.Elements.{All-from_recursion, recursion_from_All, All-contains, Contains-append_cases}
use Rattle.form_typed.specs.Formula.{Formula, Formulas, formula, constant, compares, applies, negation, every, some, implies, iff, for_all, for_some, part, no_formula, and_formula}
use Rattle.form_typed.specs.Sorts.{AreValuesOf}
use Rattle.form_typed.specs.Truth.{Meaning, Truth}
use Rattle.pri_typing.specs.declared.problem.Problem.{Problem}
use Rattle.pri_typing.specs.declared.problem.Cut.{Cut}
use Rattle.pri_typing.specs.Everywhere.{Property, Everywhere, AllEverywhere}
use Rattle.pri_typing.specs.WellFormed.{SignedFormula, formula_components, all_formula_components, components_of, of_formulas, IsPartBelow, IsPartOrTruth, IsDivision, IsWellFormed}
use Rattle.pri_typing.specs.Problems.{Holds, assumed, assumed_by, is_part_in, is_plainly_true, IsPlainlyValid}
use Rattle.pri_typing.proofs.Assumptions.{AreAssumed, components_assume}

-- The parts of components are below the number of parts.

abbrev below : ℕ → Property
below parts = of_formulas (IsPartBelow parts)

abbrev AreBelow : ℕ → List SignedFormula → Type 0
AreBelow parts = AllByRecursion (λ c. IsPartBelow parts 0 c.what)

join_below : (parts : ℕ) (cs ds : List SignedFormula) → AreBelow parts cs → AreBelow parts ds → AreBelow parts (cs ++ ds)
join_below parts [] ds h k = k
join_below parts (c ∷ cs) ds h k = (h.0, join_below parts cs ds h.1 k)

mutual
  parts_below : (parts n : ℕ) (plus : Bool) (f : Formula) → Everywhere (below parts) n f → AreBelow parts (formula_components plus f)
  parts_below parts n true (constant b) h = (tt {0}, tt)
  parts_below parts n false (constant b) h = (tt {0}, tt)
  parts_below parts n true (compares r s t) h = (tt {0}, tt)
  parts_below parts n false (compares r s t) h = (tt {0}, tt)
  parts_below parts n true (applies p ts) h = (tt {0}, tt)
  parts_below parts n false (applies p ts) h = (tt {0}, tt)
  parts_below parts n true (negation f) h = parts_below parts n false f h.1
  parts_below parts n false (negation f) h = parts_below parts n true f h.1
  parts_below parts n true (every fs) h = (tt {0}, tt)
  parts_below parts n false (every fs) h = all_below parts n false fs h.1
  parts_below parts n true (some fs) h = all_below parts n true fs h.1
  parts_below parts n false (some fs) h = (tt {0}, tt)
  parts_below parts n true (implies f g) h =
      join_below parts (formula_components false f) (formula_components true g) (parts_below parts n false f h.1) (parts_below parts n true g h.2)
  parts_below parts n false (implies f g) h = (tt {0}, tt)
  parts_below parts n true (iff f g) h = (tt {0}, tt)
  parts_below parts n false (iff f g) h = (tt {0}, tt)
  parts_below parts n true (for_all s f) h = (tt {0}, tt)
  parts_below parts n false (for_all s f) h = (tt {0}, tt)
  parts_below parts n true (for_some s f) h = (tt {0}, tt)
  parts_below parts n false (for_some s f) h = (tt {0}, tt)
  parts_below parts n true (part k f) h = (h.0, tt)
  parts_below parts n false (part k f) h = (h.0, tt)

  all_below : (parts n : ℕ) (plus : Bool) (fs : Formulas) → AllEverywhere (below parts) n fs → AreBelow parts (all_formula_components plus fs)
  all_below parts n plus no_formula h = tt
  all_below parts n plus (and_formula f fs) h =
      join_below parts (formula_components plus f) (all_formula_components plus fs) (parts_below parts n plus f h.0) (all_below parts n plus fs h.1)

-- What a filter keeps.

kept_of : (w : Meaning) (e : List ℤ) (q : SignedFormula → Bool) (cs : List SignedFormula) → AreAssumed w cs e → AreAssumed w (filter q cs) e
kept_of w e q [] h = h
kept_of w e q (c ∷ cs) h = by (q c) (kept_of w e q cs h.1)
  where
    by : (b : Bool) → AreAssumed w (filter q cs) e → AreAssumed w (cond b (c ∷ filter q cs) (filter q cs)) e
    by true k = (h.0, k)
    by false k = k

kept_head : (w : Meaning) (e : List ℤ) (q : SignedFormula → Bool) (c : SignedFormula) (cs : List SignedFormula) → AreAssumed w (filter q (c ∷ cs)) e → q c ≡ true → Truth w (assumed c) e
kept_head w e q c cs h k = (subst (λ b. AreAssumed w (cond b (c ∷ filter q cs) (filter q cs)) e) k h).0

kept_tail : (w : Meaning) (e : List ℤ) (q : SignedFormula → Bool) (c : SignedFormula) (cs : List SignedFormula) → AreAssumed w (filter q (c ∷ cs)) e → AreAssumed w (filter q cs) e
kept_tail w e q c cs h = by (q c) h
  where
    by : (b : Bool) → AreAssumed w (cond b (c ∷ filter q cs) (filter q cs)) e → AreAssumed w (filter q cs) e
    by true k = k.1
    by false k = k

-- Numbers in sets.

any_of : (k d : ℕ) (set : List ℕ) (i : ℕ) → i < length set → get_or set i d ≡ k → list_any (nat_eq k) set ≡ true
any_of k d [] i h e = absurd (omega arith)
any_of k d (x ∷ set) zero h e = ap (λ b. b || list_any (nat_eq k) set) (eq-eqb k x (sym e))
any_of k d (x ∷ set) (suc i) h e = or_true (nat_eq k x) (any_of k d set i (omega arith) e)
  where
    or_true : (a : Bool) {b : Bool} → b ≡ true → (a || b) ≡ true
    or_true true q = refl
    or_true false q = q

-- what is so for each set with the number is so, where some set has it
in_some_set : {G : Type 0} (k : ℕ) (sets : List (List ℕ)) → Contains (concat sets) k → AllByRecursion (λ set. list_any (nat_eq k) set ≡ true → G) sets → G
in_some_set k [] c h = let l = c.1 in absurd (omega arith)
in_some_set k (set ∷ sets) c h = elim (Contains-append_cases set (concat sets) k c) [
  | inl x ↦ h.0 (any_of k k set x.0 x.1 x.2)
  | inr x ↦ in_some_set k sets x h.1
]

-- Components.

abbrev AreGiven : Meaning → List ℤ → List (List ℕ) → List SignedFormula → Type 0
AreGiven w e sets cs = AllByRecursion (λ set. AreAssumed w (filter (λ c. is_part_in set c.what) cs) e) sets

given_head : (w : Meaning) (e : List ℤ) (c : SignedFormula) (cs : List SignedFormula) (sets : List (List ℕ)) → AreGiven w e sets (c ∷ cs)
    → AllByRecursion (λ set. is_part_in set c.what ≡ true → Truth w (assumed c) e) sets
given_head w e c cs [] h = tt
given_head w e c cs (set ∷ sets) h = (kept_head w e (λ d. is_part_in set d.what) c cs h.0, given_head w e c cs sets h.1)

given_tail : (w : Meaning) (e : List ℤ) (c : SignedFormula) (cs : List SignedFormula) (sets : List (List ℕ)) → AreGiven w e sets (c ∷ cs) → AreGiven w e sets cs
given_tail w e c cs [] h = tt
given_tail w e c cs (set ∷ sets) h = (kept_tail w e (λ d. is_part_in set d.what) c cs h.0, given_tail w e c cs sets h.1)

-- a truth that is not plainly valid assumes nothing
truth_assumed : (w : Meaning) (e : List ℤ) (plus b : Bool) → beq b plus ≡ false → Truth w (assumed (record { plus = plus; what = constant b })) e
truth_assumed w e true true h = absurd cc
truth_assumed w e true false h = λ k. absurd cc
truth_assumed w e false true h = refl
truth_assumed w e false false h = absurd cc

component_assumed : (w : Meaning) (e : List ℤ) (parts : ℕ) (sets : List (List ℕ)) → ((k : ℕ) → k < parts → Contains (concat sets) k) → (plus : Bool) (f : Formula)
    → IsPartOrTruth f → IsPartBelow parts 0 f → is_plainly_true (record { plus = plus; what = f }) ≡ false
    → AllByRecursion (λ set. is_part_in set f ≡ true → Truth w (assumed (record { plus = plus; what = f })) e) sets → Truth w (assumed (record { plus = plus; what = f })) e
component_assumed w e parts sets whole plus (constant b) i l v h = truth_assumed w e plus b v
component_assumed w e parts sets whole plus (part k f) i l v h = in_some_set k sets (whole k l) h
component_assumed w e parts sets whole plus (compares r s t) i l v h = absurd i
component_assumed w e parts sets whole plus (applies p ts) i l v h = absurd i
component_assumed w e parts sets whole plus (negation f) i l v h = absurd i
component_assumed w e parts sets whole plus (every fs) i l v h = absurd i
component_assumed w e parts sets whole plus (some fs) i l v h = absurd i
component_assumed w e parts sets whole plus (implies f g) i l v h = absurd i
component_assumed w e parts sets whole plus (iff f g) i l v h = absurd i
component_assumed w e parts sets whole plus (for_all s f) i l v h = absurd i
component_assumed w e parts sets whole plus (for_some s f) i l v h = absurd i

none_true : (a b : Bool) → ¬ ((a || b) ≡ true) → (a ≡ false) × (¬ (b ≡ true))
none_true true b h = absurd (h refl)
none_true false b h = (refl, h)

all_assumed : (w : Meaning) (e : List ℤ) (parts : ℕ) (sets : List (List ℕ)) → ((k : ℕ) → k < parts → Contains (concat sets) k) → (cs : List SignedFormula)
    → AllByRecursion (λ c. IsPartOrTruth c.what) cs → AreBelow parts cs → ¬ (list_any is_plainly_true cs ≡ true) → AreGiven w e sets cs → AreAssumed w cs e
all_assumed w e parts sets whole [] i l v h = tt {0}
all_assumed w e parts sets whole (c ∷ cs) i l v h =
    let no = none_true (is_plainly_true c) (list_any is_plainly_true cs) v in (
      component_assumed w e parts sets whole c.plus c.what i.0 l.0 no.0 (given_head w e c cs sets h),
      all_assumed w e parts sets whole cs i.1 l.1 no.1 (given_tail w e c cs sets h),
    )

-- Sides.

all_given : (w : Meaning) (e : List ℤ) (cs : List SignedFormula) (sets : List (List ℕ)) → AreAssumed w cs e → AreGiven w e sets cs
all_given w e cs [] h = tt
all_given w e cs (set ∷ sets) h = (kept_of w e (λ c. is_part_in set c.what) cs h, all_given w e cs sets h)

-- what the sets of a cut assume is true together exactly where the formula is false
pub sides_are : (w : Meaning) (p : Problem) (cut : Cut) (e : List ℤ) → IsWellFormed p → Contains p.cuts cut → ¬ (IsPlainlyValid p)
    → All (λ set. Truth w (assumed_by p set) e) cut.sets ↔ (¬ (Truth w (formula p.formula) e))
sides_are w p cut e well c plain =
    let cs = components_of p in
    let some : 1 ≤ length p.cuts = let l = c.1 in omega arith in
    let divided = All-contains (IsDivision (length p.parts)) p.cuts cut well.divided c in
    let are = components_assume w p e in
    let whole = recursion_from_All (λ d. IsPartOrTruth d.what) cs (well.divisible some).parts_are_components in
    let small = parts_below (length p.parts) 0 true (formula p.formula) well.parts in (
      λ h. are.0 (all_assumed w e (length p.parts) cut.sets divided.whole cs whole small plain (recursion_from_All (λ set. Truth w (assumed_by p set) e) cut.sets h)),
      λ h. All-from_recursion (λ set. Truth w (assumed_by p set) e) cut.sets (all_given w e cs cut.sets (are.1 h)),
    )

-- where the problem holds, the two sides of a cut contradict each other
pub sides_contradict : (w : Meaning) (p : Problem) (cut : Cut) (first second : List ℕ) (e : List ℤ) → IsWellFormed p → Contains p.cuts cut → ¬ (IsPlainlyValid p)
    → cut.sets ≡ first ∷ second ∷ [] → Holds w p [] → length e ≡ length p.universals → AreValuesOf p.universal_types e → Truth w (assumed_by p first) e → ¬ (Truth w (assumed_by p second) e)
sides_contradict w p cut first second e well c plain two holds many typed a b =
    let P : List ℕ → Type 0 = λ set. Truth w (assumed_by p set) e in
    let both : All P cut.sets = subst (All P) (sym two) (All-from_recursion P (first ∷ second ∷ []) (a, (b, tt))) in
    (sides_are w p cut e well c plain).0 both (holds.is e many typed)
