-- What a walk is ready for at the premises of a node.
use Rattle.std.proofs.Common.{◌≡◌, ◌+◌, ◌<◌, ◌≤◌, ◌^◌, ℕ, suc, ℤ, true, List, [], ◌∷◌, length, Option, Some, None, refl, sym, ap, subst, arith}
use Rattle.std.specs.List.{AllByRecursion, slice_get}
use Rattle.linear_term.specs.Range.{InRange}
use Rattle.base_budget.specs.declared.log.Entry.{Entry}
use Rattle.clause_set.specs.declared.literal.Literal.{Literal}
use Rattle.formula.specs.Form.{Form, conjunction, disjunction, universal, no_form, and_form}
use Rattle.sequent.specs.declared.member.Pick.{Pick}
use Rattle.sequent.specs.declared.member.Pick.TheVariants as pick
use Rattle.sequent.specs.declared.member.Shape.TheVariants.{Alpha, Beta, Delta}
use Rattle.sequent.specs.Rules.{applies, is_shape, place, premises_at, premises_of, shape_of}
use Rattle.sequent.specs.Sequent.{Member, Sequent, member, IsFormedSequent}
use Rattle.solve_laws.specs.Solutions.{IsGiven}
use Rattle.proof_tree.specs.Gives.{AreGiven}
use Rattle.proof_tree.specs.Proof.{Proof, Proofs, node, no_proof, and_proof, given, proofs}
use Rattle.proof_tree.specs.Reduced.{IsReducedSequent}
use Rattle.proof_tree.proofs.Giving.{formed_by}
use Rattle.proof_tree.proofs.Premises.{reduced_by}
use Rattle.proof_tree.proofs.Given.{node_given}
use Rattle.model_trees.specs.Levels.{IsWithinLevels, AreWithinLevels}
use Rattle.tree_branch.specs.Within.{IsWithin}
use Rattle.tree_branch.proofs.Keeping.{premises_few, premises_within}
use Rattle.model_trees.proofs.Back.{premises_count}
use Rattle.countermodel.specs.Ready.{AreWalkReady, IsWalkReady}

abbrev pub HasCount : ℕ → Sequent → Type 0
HasCount n t = t.count ≡ n

-- ---- the counts of the premises
pub alpha_count : (s : Sequent) (i : ℕ) → applies s (pick.Alpha i) ≡ true → AllByRecursion (HasCount s.count) (premises_of s (pick.Alpha i))
alpha_count s i k = by (slice_get s.members i) k
  where
    at : (over used : ℕ) (f : Form) → is_shape Alpha (shape_of (Some (member f over used))) ≡ true → AllByRecursion (HasCount s.count) (premises_at s i (Some (member f over used)))
    at over used (disjunction fs) k = premises_count s i (member (disjunction fs) over used)
    at over used (conjunction no_form) k = absurd (cc)
    at over used (conjunction (and_form h hs)) k = absurd (cc)
    at over used f k = absurd (cc)

    by : (o : Option Member) → is_shape Alpha (shape_of o) ≡ true → AllByRecursion (HasCount s.count) (premises_at s i o)
    by None k = tt
    by (Some m) k = at m.over m.used m.formula k

pub beta_count : (s : Sequent) (i : ℕ) → applies s (pick.Beta i) ≡ true → AllByRecursion (HasCount s.count) (premises_of s (pick.Beta i))
beta_count s i k = by (slice_get s.members i) k
  where
    at : (over used : ℕ) (f : Form) → is_shape Beta (shape_of (Some (member f over used))) ≡ true → AllByRecursion (HasCount s.count) (premises_at s i (Some (member f over used)))
    at over used (conjunction fs) k = premises_count s i (member (conjunction fs) over used)
    at over used f k = absurd (cc)

    by : (o : Option Member) → is_shape Beta (shape_of o) ≡ true → AllByRecursion (HasCount s.count) (premises_at s i o)
    by None k = tt
    by (Some m) k = at m.over m.used m.formula k

pub delta_count : (s : Sequent) (i : ℕ) → applies s (pick.Delta i) ≡ true → AllByRecursion (HasCount (suc s.count)) (premises_of s (pick.Delta i))
delta_count s i k = by (slice_get s.members i) k
  where
    at : (over used : ℕ) (f : Form) → is_shape Delta (shape_of (Some (member f over used))) ≡ true → AllByRecursion (HasCount (suc s.count)) (premises_at s i (Some (member f over used)))
    at over used (universal f) k = premises_count s i (member (universal f) over used)
    at over used (conjunction no_form) k = absurd (cc)
    at over used (conjunction (and_form h hs)) k = absurd (cc)
    at over used f k = absurd (cc)

    by : (o : Option Member) → is_shape Delta (shape_of o) ≡ true → AllByRecursion (HasCount (suc s.count)) (premises_at s i o)
    by None k = tt
    by (Some m) k = at m.over m.used m.formula k

pub delta_one : (s : Sequent) (i : ℕ) → applies s (pick.Delta i) ≡ true → length (premises_of s (pick.Delta i)) ≡ 1
delta_one s i k = by (slice_get s.members i) k
  where
    at : (over used : ℕ) (f : Form) → is_shape Delta (shape_of (Some (member f over used))) ≡ true → length (premises_at s i (Some (member f over used))) ≡ 1
    at over used (universal f) k = refl
    at over used (conjunction no_form) k = absurd (cc)
    at over used (conjunction (and_form h hs)) k = absurd (cc)
    at over used f k = absurd (cc)

    by : (o : Option Member) → is_shape Delta (shape_of o) ≡ true → length (premises_at s i o) ≡ 1
    by None k = absurd (cc)
    by (Some m) k = at m.over m.used m.formula k

-- ---- readiness
all_ready : (k : ℕ) (ss : List Sequent) (ns : Proofs) (u : List ℤ) → AllByRecursion (IsWithin k) ss → AllByRecursion IsReducedSequent ss → AreWithinLevels k ns → AreGiven ss ns → AllByRecursion InRange u → AllByRecursion (HasCount (length u)) ss
    → AreWalkReady k ss ns u
all_ready k [] no_proof u w r l g i c = tt
all_ready k [] (and_proof x xs) u w r l g i c = absurd g
all_ready k (s ∷ ss) no_proof u w r l g i c = absurd g
all_ready k (s ∷ ss) (and_proof x xs) u w r l g i c = (record { within = w.0; reduced = r.0; levels = l.0; gives = g.0; values = i; many = sym c.0 }, all_ready k ss xs u w.1 r.1 l.1 g.1 i c.1)

pub below : (left k : ℕ) (s : Sequent) (p : Pick) (ns : Proofs) (log : List Entry) (d : List (List Literal)) (v : List ℤ) → left ≡ suc k → IsWalkReady left s (node p ns log d) v
    → (u : List ℤ) → AllByRecursion InRange u → AllByRecursion (HasCount (length u)) (premises_of s p) → AreWalkReady k (premises_of s p) ns u
below left k s p ns log d v is h u inside counts =
    let w : IsWithin (k + 1) s = subst (λ j. IsWithin j s) (omega (arith, is)) h.within in
    let l : IsWithinLevels (suc k) (node p ns log d) = subst (λ j. IsWithinLevels j (node p ns log d)) is h.levels in
    all_ready k (premises_of s p) ns u (premises_within k s p w) (reduced_by s (place p) h.reduced) l h.gives.1 inside counts

-- ---- the constraints of the children
children_given : (n : ℕ) (ss : List Sequent) (ys : List Proof) → AllByRecursion IsFormedSequent ss → AllByRecursion IsReducedSequent ss → AreGiven ss (proofs ys) → AllByRecursion (HasCount n) ss → AllByRecursion (λ y. IsGiven n (given y)) ys
children_given n [] [] w r g c = tt
children_given n [] (y ∷ ys) w r g c = absurd g
children_given n (s ∷ ss) [] w r g c = absurd g
children_given n (s ∷ ss) (y ∷ ys) w r g c = (subst (λ j. IsGiven j (given y)) c.0 (node_given s y w.0 r.0 g.0), children_given n ss ys w.1 r.1 g.1 c.1)

children_length : (ss : List Sequent) (ys : List Proof) → AreGiven ss (proofs ys) → length ys ≡ length ss
children_length [] [] g = refl
children_length [] (y ∷ ys) g = absurd g
children_length (s ∷ ss) [] g = absurd g
children_length (s ∷ ss) (y ∷ ys) g = ap suc (children_length ss ys g.1)

pub given_below : (left n : ℕ) (s : Sequent) (p : Pick) (ys : List Proof) (log : List Entry) (d : List (List Literal)) (v : List ℤ) → IsWalkReady left s (node p (proofs ys) log d) v → AllByRecursion (HasCount n) (premises_of s p)
    → AllByRecursion (λ y. IsGiven n (given y)) ys
given_below left n s p ys log d v h c = children_given n (premises_of s p) ys (formed_by s (place p) h.within.formed) (reduced_by s (place p) h.reduced) h.gives.1 c

pub few_below : (left : ℕ) (s : Sequent) (p : Pick) (ys : List Proof) (log : List Entry) (d : List (List Literal)) (v : List ℤ) → IsWalkReady left s (node p (proofs ys) log d) v → length ys < 2 ^ 32
few_below left s p ys log d v h = let n = children_length (premises_of s p) ys h.gives.1 in let few = premises_few left s p h.within in omega (arith, n, few)

pub one_below : (left : ℕ) (s : Sequent) (i : ℕ) (ys : List Proof) (log : List Entry) (d : List (List Literal)) (v : List ℤ) → IsWalkReady left s (node (pick.Delta i) (proofs ys) log d) v → 1 ≤ length ys
one_below left s i ys log d v h = let n = children_length (premises_of s (pick.Delta i)) ys h.gives.1 in let one = delta_one s i h.gives.0 in omega (arith, n, one)

pub few_constants : (left : ℕ) (s : Sequent) (x : Proof) (v : List ℤ) → IsWalkReady left s x v → s.count + 1 < 2 ^ 32
few_constants left s x v h = let c = h.within.constants in omega (arith, c)
