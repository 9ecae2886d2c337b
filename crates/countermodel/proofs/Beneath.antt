-- The same of the nodes of the code.
use Rattle.std.proofs.Common.{◌≡◌, ◌+◌, ◌-◌, ◌<◌, ◌≤◌, ◌^◌, ℕ, suc, ℤ, List, [], ◌∷◌, length, map, Some, None, sym, subst, arith}
use Rattle.std.specs.List.{AllByRecursion, slice_get}
use Rattle.std.proofs.lemmas.List.{length-map}
use Rattle.linear_term.specs.Range.{InRange}
use Rattle.sequent.specs.declared.member.Sequent as code
use Rattle.sequent.specs.declared.member.Pick.{Pick}
use Rattle.sequent.specs.declared.member.Pick.TheVariants as pick
use Rattle.sequent.specs.Rules.{premises_of}
use Rattle.sequent.specs.Sequent.{Sequent}
use Rattle.sequent.specs.Views.{HasRoom, sequent_of}
use Rattle.proof_tree.specs.declared.node.Node.{Node, out-Node}
use Rattle.countermodel.specs.Ready.{AreWalkReady, IsWalkReady}
use Rattle.proof_tree.specs.Proof.{Proof, given, node, proofs}
use Rattle.proof_tree.specs.Views.{proof_of}
use Rattle.solve_laws.specs.Solutions.{IsGiven}
use Rattle.tree_branch.proofs.Keeping.{within_room}
use Rattle.countermodel.proofs.Below.{HasCount, alpha_count, below, beta_count, delta_count, few_below, given_below, one_below}
use Rattle.countermodel.proofs.Nodes.{node_is}

abbrev At : Node → Pick → Proof
At x p = node p (proofs (map proof_of (out-Node x).children)) (out-Node x).log.entries (out-Node x).gives

here : (left : ℕ) (s : Sequent) (x : Node) (v : List ℤ) → IsWalkReady left s (proof_of x) v → IsWalkReady left s (At x (out-Node x).rule) v
here left s x v h = subst (λ (z : Proof). IsWalkReady left s z v) (node_is x) h

as_rule : (left : ℕ) (s : Sequent) (x : Node) (p : Pick) (v : List ℤ) → (out-Node x).rule ≡ p → IsWalkReady left s (proof_of x) v → IsWalkReady left s (At x p) v
as_rule left s x p v is h = subst (λ (q : Pick). IsWalkReady left s (At x q) v) is (here left s x v h)

counted : (n : ℕ) (s : Sequent) (p q : Pick) → q ≡ p → AllByRecursion (HasCount n) (premises_of s p) → AllByRecursion (HasCount n) (premises_of s q)
counted n s p q is h = subst (λ (z : Pick). AllByRecursion (HasCount n) (premises_of s z)) (sym is) h

goes : (left n : ℕ) (s : Sequent) (x : Node) (v u : List ℤ) → (left ≡ 0 → ⊥) → IsWalkReady left s (proof_of x) v → AllByRecursion InRange u → length u ≡ n → AllByRecursion (HasCount n) (premises_of s (out-Node x).rule)
    → AreWalkReady (left - 1) (premises_of s (out-Node x).rule) (proofs (map proof_of (out-Node x).children)) u
goes left n s x v u some h inside many counts =
    below left (left - 1) s (out-Node x).rule (proofs (map proof_of (out-Node x).children)) (out-Node x).log.entries (out-Node x).gives v (omega (arith, some)) (here left s x v h) u inside
    (subst (λ (k : ℕ). AllByRecursion (HasCount k) (premises_of s (out-Node x).rule)) (sym many) counts)

pub ready_room : (left : ℕ) (s : code.Sequent) (x : Proof) (v : List ℤ) → IsWalkReady left (sequent_of s) x v → HasRoom s
ready_room left s x v h = within_room left s h.within

pub alpha_below : (left : ℕ) (s : Sequent) (x : Node) (i : ℕ) (v : List ℤ) → (out-Node x).rule ≡ pick.Alpha i → (left ≡ 0 → ⊥) → IsWalkReady left s (proof_of x) v → AreWalkReady (left - 1) (premises_of s (out-Node x).rule) (proofs (map proof_of (out-Node x).children)) v
alpha_below left s x i v is some h = goes left s.count s x v v some h h.values h.many (counted s.count s (pick.Alpha i) (out-Node x).rule is (alpha_count s i (as_rule left s x (pick.Alpha i) v is h).gives.0))

pub beta_below : (left : ℕ) (s : Sequent) (x : Node) (i : ℕ) (v : List ℤ) → (out-Node x).rule ≡ pick.Beta i → (left ≡ 0 → ⊥) → IsWalkReady left s (proof_of x) v → AreWalkReady (left - 1) (premises_of s (out-Node x).rule) (proofs (map proof_of (out-Node x).children)) v
beta_below left s x i v is some h = goes left s.count s x v v some h h.values h.many (counted s.count s (pick.Beta i) (out-Node x).rule is (beta_count s i (as_rule left s x (pick.Beta i) v is h).gives.0))

pub delta_below : (left : ℕ) (s : Sequent) (x : Node) (i : ℕ) (v : List ℤ) → (out-Node x).rule ≡ pick.Delta i → (left ≡ 0 → ⊥) → IsWalkReady left s (proof_of x) v
    → (u : List ℤ) → AllByRecursion InRange u → length u ≡ s.count + 1 → AreWalkReady (left - 1) (premises_of s (out-Node x).rule) (proofs (map proof_of (out-Node x).children)) u
delta_below left s x i v is some h u inside many = goes left (suc s.count) s x v u some h inside (omega (arith, many)) (counted (suc s.count) s (pick.Delta i) (out-Node x).rule is (delta_count s i (as_rule left s x (pick.Delta i) v is h).gives.0))

pub delta_child : (left : ℕ) (s : Sequent) (x : Node) (i : ℕ) (v : List ℤ) → (out-Node x).rule ≡ pick.Delta i → IsWalkReady left s (proof_of x) v → 1 ≤ length (out-Node x).children
delta_child left s x i v is h =
    let one = one_below left s i (map proof_of (out-Node x).children) (out-Node x).log.entries (out-Node x).gives v (as_rule left s x (pick.Delta i) v is h) in
    subst (λ (k : ℕ). 1 ≤ k) (length-map (out-Node x).children proof_of) one

first_of : (n : ℕ) (ys : List Proof) (y : Proof) → slice_get ys 0 ≡ Some y → AllByRecursion (λ z. IsGiven n (given z)) ys → IsGiven n (given y)
first_of n [] y h a = absurd (let z : None ≡ Some y = h in cc)
first_of n (x ∷ ys) y h a = let same : x ≡ y = cc in subst (λ (z : Proof). IsGiven n (given z)) same a.0

pub delta_given : (left : ℕ) (s : Sequent) (x : Node) (i : ℕ) (v : List ℤ) → (out-Node x).rule ≡ pick.Delta i → IsWalkReady left s (proof_of x) v
    → (child : Proof) → slice_get (map proof_of (out-Node x).children) 0 ≡ Some child → IsGiven (s.count + 1) (given child)
delta_given left s x i v is h child first =
    let r = as_rule left s x (pick.Delta i) v is h in
    let g = given_below left (suc s.count) s (pick.Delta i) (map proof_of (out-Node x).children) (out-Node x).log.entries (out-Node x).gives v r (delta_count s i r.gives.0) in
    let more : suc s.count ≡ s.count + 1 = omega arith in
    subst (λ (k : ℕ). IsGiven k (given child)) more (first_of (suc s.count) (map proof_of (out-Node x).children) child first g)

pub beta_given : (left : ℕ) (s : Sequent) (x : Node) (i : ℕ) (v : List ℤ) → (out-Node x).rule ≡ pick.Beta i → IsWalkReady left s (proof_of x) v → AllByRecursion (λ y. IsGiven s.count (given y)) (map proof_of (out-Node x).children)
beta_given left s x i v is h =
    let r = as_rule left s x (pick.Beta i) v is h in
    given_below left s.count s (pick.Beta i) (map proof_of (out-Node x).children) (out-Node x).log.entries (out-Node x).gives v r (beta_count s i r.gives.0)

pub beta_few : (left : ℕ) (s : Sequent) (x : Node) (i : ℕ) (v : List ℤ) → (out-Node x).rule ≡ pick.Beta i → IsWalkReady left s (proof_of x) v → length (out-Node x).children < 2 ^ 32
beta_few left s x i v is h =
    subst (λ (k : ℕ). k < 2 ^ 32) (length-map (out-Node x).children proof_of)
    (few_below left s (pick.Beta i) (map proof_of (out-Node x).children) (out-Node x).log.entries (out-Node x).gives v (as_rule left s x (pick.Beta i) v is h))
