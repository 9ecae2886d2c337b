-- A tree whose nodes take the canonical picks, and of which no leaf has a `some` with an application, is open.
use Rattle.std.proofs.Common.{◌≡◌, ◌⊎◌, inl, inr, ℕ, zero, suc, ◌+◌, Bool, true, false, cond, not, ◌||◌, nat_lt, List, [], ◌∷◌, ◌++◌, map, Option, Some, None, refl, sym, ◌∙◌, ap, subst, append_assoc}
use Rattle.std.specs.List.{AllByRecursion, list_any, remove, slice_get}
use Rattle.std.proofs.lemmas.List.{append-nil}
use Rattle.base_budget.specs.Trace.{Traced, just, next}
use Rattle.base_budget.specs.declared.log.Entry.{Entry}
use Rattle.clause_set.specs.declared.literal.Literal.{Literal}
use Rattle.elim_laws.specs.Logs.{entries_of}
use Rattle.formula.specs.Form.{Form, is_pure, equal, unequal, at_least, holds, fails, differs, conjunction, disjunction, universal, existential, no_form, and_form}
use Rattle.sequent.specs.declared.member.Shape.{Shape}
use Rattle.sequent.specs.declared.member.Shape.TheVariants.{Trivial, Alpha, Delta, Beta, Gamma}
use Rattle.sequent.specs.declared.member.Pick.{Pick}
use Rattle.sequent.specs.declared.member.Pick.TheVariants as pick
use Rattle.sequent.specs.Leaf.{is_leaf, is_open}
use Rattle.sequent.specs.Rules.{allowed, brought, first_fit, fits, is_shape, new_members, one_each, or_else, at_place, picked, place, premises_at, premises_by, premises_of, shape, suc_place}
use Rattle.sequent.specs.Sequent.{Member, Sequent, member, sequent}
use Rattle.sequent.proofs.Saturated.{saturated}
use Rattle.proof_tree.specs.Gives.{AreGiven, Gives}
use Rattle.proof_tree.specs.Proof.{Proof, Proofs, node, no_proof, and_proof, given, proofs}
use Rattle.proof_tree.specs.Walk.{nodes_in}
use Rattle.proof_tree.proofs.Walking.{some_then, value-on_some}
use Rattle.search.specs.Building.{all_built, built, canonical_constraint}
use Rattle.search.specs.Run.{has_open_leaf, have_open_leaf}
use Rattle.search.proofs.Retracing.{retraced, value-built}
use Rattle.model_trees.specs.Open.{AreOpen, IsOpen}

-- ---- members that gamma could take
abbrev opens : Member → Bool
opens m = is_open m.formula

abbrev HasOpen : Sequent → Type 0
HasOpen s = list_any (λ m. is_open m.formula) s.members ≡ true

either : (a b : Bool) → (a || b) ≡ true → (a ≡ true) ⊎ (b ≡ true)
either true b h = inl refl
either false b h = inr h

or_left : (a b : Bool) → a ≡ true → (a || b) ≡ true
or_left true b h = refl
or_left false b h = absurd (cc)

or_right : (a b : Bool) → b ≡ true → (a || b) ≡ true
or_right true b h = refl
or_right false b h = h

any_left : (xs ys : List Member) → list_any opens xs ≡ true → list_any opens (xs ++ ys) ≡ true
any_left [] ys h = absurd (cc)
any_left (x ∷ xs) ys h =
    elim (either (opens x) (list_any opens xs) h) [
      | inl p ↦ or_left (opens x) (list_any opens (xs ++ ys)) p
      | inr q ↦ or_right (opens x) (list_any opens (xs ++ ys)) (any_left xs ys q)
    ]

any_right : (xs ys : List Member) → list_any opens ys ≡ true → list_any opens (xs ++ ys) ≡ true
any_right [] ys h = h
any_right (x ∷ xs) ys h = or_right (opens x) (list_any opens (xs ++ ys)) (any_right xs ys h)

-- the principal, or another one
other : (xs : List Member) (i : ℕ) (x : Member) → slice_get xs i ≡ Some x → list_any opens xs ≡ true → (opens x ≡ true) ⊎ (list_any opens (remove xs i) ≡ true)
other [] i x is h = absurd (cc)
other (y ∷ xs) zero x is h =
    let same : y ≡ x = cc in
    elim (either (opens y) (list_any opens xs) h) [ inl p ↦ inl (ap opens (sym same) ∙ p) | inr q ↦ inr q ]
other (y ∷ xs) (suc i) x is h =
    elim (either (opens y) (list_any opens xs) h) [
      | inl p ↦ inr (or_left (opens y) (list_any opens (remove xs i)) p)
      | inr q ↦ (elim (other xs i x is q) [ inl p ↦ inl p | inr r ↦ inr (or_right (opens y) (list_any opens (remove xs i)) r) ])
    ]

-- ---- each premise keeps one
each_open : (rest : List Member) (n : ℕ) (ms : List Member) → list_any opens rest ≡ true → AllByRecursion HasOpen (map (λ new. sequent (rest ++ new) n) (one_each ms))
each_open rest n [] h = tt
each_open rest n (m ∷ ms) h = (any_left rest (m ∷ []) h, each_open rest n ms h)

premises_open : (s : Sequent) (i over used : ℕ) (f : Form) → (is_open f ≡ true) ⊎ (list_any opens (remove s.members i) ≡ true) → AllByRecursion HasOpen (premises_at s i (Some (member f over used)))
premises_open s i over used (conjunction fs) (inl h) = absurd (cc)
premises_open s i over used (conjunction fs) (inr h) = each_open (remove s.members i) s.count (new_members over s.count fs) h
premises_open s i over used (disjunction fs) (inl h) = absurd (cc)
premises_open s i over used (disjunction fs) (inr h) = (any_left (remove s.members i) (new_members over s.count fs) h, tt)
premises_open s i over used (universal f) (inl h) = absurd (cc)
premises_open s i over used (universal f) (inr h) = (any_left (remove s.members i) (member (brought over s.count f) (suc s.count) 0 ∷ []) h, tt)
premises_open s i over used (existential f) (inl h) =
    let new = member (brought over s.count f) (suc s.count) 0 ∷ member (existential f) over (suc used) ∷ [] in
    (any_right (remove s.members i) new (or_right (opens (member (brought over s.count f) (suc s.count) 0)) (opens (member (existential f) over (suc used)) || false) (or_left (opens (member (existential f) over (suc used))) false h)), tt)
premises_open s i over used (existential f) (inr h) = (any_left (remove s.members i) (member (brought over s.count f) (suc s.count) 0 ∷ member (existential f) over (suc used) ∷ []) h, tt)
premises_open s i over used (equal t) h = tt
premises_open s i over used (unequal t) h = tt
premises_open s i over used (at_least t) h = tt
premises_open s i over used (holds p ts) h = tt
premises_open s i over used (fails p ts) h = tt
premises_open s i over used (differs p ts u) h = tt

open_at : (s : Sequent) (i : ℕ) (o : Option Member) → slice_get s.members i ≡ o → HasOpen s → AllByRecursion HasOpen (premises_at s i o)
open_at s i None is h = tt
open_at s i (Some m) is h = premises_open s i m.over m.used m.formula (other s.members i m is h)

open_by : (s : Sequent) (o : Option ℕ) → HasOpen s → AllByRecursion HasOpen (premises_by s o)
open_by s None h = tt
open_by s (Some i) h = open_at s i (slice_get s.members i) refl h

abbrev IsSome : Proofs → Type 0
IsSome no_proof = ⊥
IsSome (and_proof x xs) = Unit {0}

leaf_or_below : (s : Sequent) (p : Pick) (ns : Proofs) (log : List Entry) (d : List (List Literal)) → HasOpen s → (IsSome ns → have_open_leaf (premises_of s p) ns ≡ true) → has_open_leaf s (node p ns log d) ≡ true
leaf_or_below s p no_proof log d h k = h
leaf_or_below s p (and_proof x xs) log d h k = k tt

-- so it is still there at a leaf
mutual
  open_leaf : (s : Sequent) (x : Proof) → Gives s x → HasOpen s → has_open_leaf s x ≡ true
  open_leaf s (node p ns log d) g h = leaf_or_below s p ns log d h (λ more. open_leaves (premises_of s p) ns g.1 (open_by s (place p) h) more)

  open_leaves : (ss : List Sequent) (ns : Proofs) → AreGiven ss ns → AllByRecursion HasOpen ss → IsSome ns → have_open_leaf ss ns ≡ true
  open_leaves [] no_proof g h more = absurd more
  open_leaves [] (and_proof x xs) g h more = absurd g
  open_leaves (s ∷ ss) no_proof g h more = absurd more
  open_leaves (s ∷ ss) (and_proof x xs) g h more = or_left (has_open_leaf s x) (have_open_leaf ss xs) (open_leaf s x g.0 h.0)

-- ---- gamma takes a `some` with an application
none_shape : {A : Type 0} (k : Shape) → is_shape k None ≡ true → A
none_shape Trivial h = absurd (cc)
none_shape Alpha h = absurd (cc)
none_shape Delta h = absurd (cc)
none_shape Beta h = absurd (cc)
none_shape Gamma h = absurd (cc)

abbrev pub opens_at : Option Member → Bool
opens_at None = false
opens_at (Some m) = is_open m.formula

gamma_opens : (pure more : Bool) (f : Form) → is_pure f ≡ pure → is_shape Gamma (allowed pure more (shape f)) ≡ true → is_open f ≡ true
gamma_opens true more (existential f) is h = absurd (cc)
gamma_opens false more (existential f) is h = ap not is
gamma_opens true more (conjunction no_form) is h = absurd (cc)
gamma_opens false more (conjunction no_form) is h = absurd (cc)
gamma_opens true more (conjunction (and_form f fs)) is h = absurd (cc)
gamma_opens false more (conjunction (and_form f fs)) is h = absurd (cc)
gamma_opens true more (disjunction fs) is h = absurd (cc)
gamma_opens false more (disjunction fs) is h = absurd (cc)
gamma_opens true more (universal f) is h = absurd (cc)
gamma_opens false more (universal f) is h = absurd (cc)
gamma_opens pure more (equal t) is h = absurd (cc)
gamma_opens pure more (unequal t) is h = absurd (cc)
gamma_opens pure more (at_least t) is h = absurd (cc)
gamma_opens pure more (holds p ts) is h = absurd (cc)
gamma_opens pure more (fails p ts) is h = absurd (cc)
gamma_opens pure more (differs p ts u) is h = absurd (cc)

suc_some : (o : Option ℕ) (i : ℕ) → suc_place o ≡ Some (suc i) → o ≡ Some i
suc_some None i h = absurd (cc)
suc_some (Some j) i h = cc

never : (o : Option ℕ) → suc_place o ≡ Some 0 → ⊥
never None h = absurd (cc)
never (Some j) h = absurd (cc)

first_opens_by : (limit : ℕ) (m : Member) (ms : List Member) → ((j : ℕ) → first_fit limit Gamma ms ≡ Some j → opens_at (slice_get ms j) ≡ true) → (i : ℕ) (b : Bool) → is_shape Gamma (fits limit m) ≡ b
    → cond b (Some 0) (suc_place (first_fit limit Gamma ms)) ≡ Some i → opens_at (slice_get (m ∷ ms) i) ≡ true
first_opens_by limit m ms rest zero true is h = gamma_opens (is_pure m.formula) (nat_lt m.used limit) m.formula refl is
first_opens_by limit m ms rest (suc i) true is h = absurd (cc)
first_opens_by limit m ms rest zero false is h = absurd (never (first_fit limit Gamma ms) h)
first_opens_by limit m ms rest (suc i) false is h = rest i (suc_some (first_fit limit Gamma ms) i h)

first_opens : (limit : ℕ) (ms : List Member) (i : ℕ) → first_fit limit Gamma ms ≡ Some i → opens_at (slice_get ms i) ≡ true
first_opens limit [] i h = absurd (cc)
first_opens limit (m ∷ ms) i h = first_opens_by limit m ms (first_opens limit ms) i (is_shape Gamma (fits limit m)) refl h

gamma_first : (a b c d g : Option ℕ) (i : ℕ) → or_else (at_place pick.Trivial a) (or_else (at_place pick.Alpha b) (or_else (at_place pick.Delta c) (or_else (at_place pick.Beta d) (or_else (at_place pick.Gamma g) pick.Close)))) ≡ pick.Gamma i
    → g ≡ Some i
gamma_first (Some j) b c d g i h = absurd (cc)
gamma_first None (Some j) c d g i h = absurd (cc)
gamma_first None None (Some j) d g i h = absurd (cc)
gamma_first None None None (Some j) g i h = absurd (cc)
gamma_first None None None None (Some j) i h = cc
gamma_first None None None None None i h = absurd (cc)

pub picked_opens : (limit : ℕ) (ms : List Member) (i : ℕ) → picked limit ms ≡ pick.Gamma i → opens_at (slice_get ms i) ≡ true
picked_opens limit ms i h =
    first_opens limit ms i (gamma_first (first_fit limit Trivial ms) (first_fit limit Alpha ms) (first_fit limit Delta ms) (first_fit limit Beta ms) (first_fit limit Gamma ms) i h)

opens_among : (ms : List Member) (i : ℕ) → opens_at (slice_get ms i) ≡ true → list_any opens ms ≡ true
opens_among [] i h = absurd (cc)
opens_among (m ∷ ms) zero h = or_left (opens m) (list_any opens ms) h
opens_among (m ∷ ms) (suc i) h = or_right (opens m) (list_any opens ms) (opens_among ms i h)

neither : (a b : Bool) → (a || b) ≡ false → (a ≡ false) × (b ≡ false)
neither true b h = absurd (cc)
neither false b h = (refl, h)

none_open : (ms : List Member) → list_any opens ms ≡ false → AllByRecursion (λ m. is_open m.formula ≡ false) ms
none_open [] h = tt
none_open (m ∷ ms) h = let two = neither (opens m) (list_any opens ms) h in (two.0, none_open ms two.1)

-- ---- trees with canonical picks
abbrev mutual
  pub IsPicked : ℕ → Sequent → Proof → Type 0
  IsPicked limit s (node p ns log d) = (p ≡ picked limit s.members) × ArePicked limit (premises_of s p) ns

  pub ArePicked : ℕ → List Sequent → Proofs → Type 0
  ArePicked limit [] ns = Unit {0}
  ArePicked limit (s ∷ ss) no_proof = Unit {0}
  ArePicked limit (s ∷ ss) (and_proof x xs) = IsPicked limit s x × ArePicked limit ss xs

-- a gamma node would leave a `some` with an application at a leaf
no_gamma : (limit : ℕ) (s : Sequent) (i : ℕ) (ns : Proofs) (log : List Entry) (d : List (List Literal)) → Gives s (node (pick.Gamma i) ns log d) → pick.Gamma i ≡ picked limit s.members
    → has_open_leaf s (node (pick.Gamma i) ns log d) ≡ false → ⊥
no_gamma limit s i ns log d g is bad =
    let there = opens_among s.members i (picked_opens limit s.members i (sym is)) in
    let leaf = open_leaf s (node (pick.Gamma i) ns log d) g there in
    clash leaf bad
  where
    clash : {b : Bool} → b ≡ true → b ≡ false → ⊥
    clash h k = absurd (let z : true ≡ false = sym h ∙ k in cc)

closed_leaf : (limit : ℕ) (s : Sequent) (ns : Proofs) (log : List Entry) (d : List (List Literal)) → AreGiven [] ns → pick.Close ≡ picked limit s.members → has_open_leaf s (node pick.Close ns log d) ≡ false
    → AllByRecursion (λ m. is_leaf m.formula ≡ true) s.members
closed_leaf limit s no_proof log d g is bad = saturated limit s.members (sym is) (none_open s.members bad)
closed_leaf limit s (and_proof x xs) log d g is bad = absurd g

none_below : (s : Sequent) (p : Pick) (ns : Proofs) (log : List Entry) (d : List (List Literal)) → has_open_leaf s (node p ns log d) ≡ false → have_open_leaf (premises_of s p) ns ≡ false
none_below s p no_proof log d bad = nothing (premises_of s p)
  where
    nothing : (ss : List Sequent) → have_open_leaf ss no_proof ≡ false
    nothing [] = refl
    nothing (s ∷ ss) = refl
none_below s p (and_proof x xs) log d bad = bad

mutual
  pub picked_open : (limit : ℕ) (s : Sequent) (x : Proof) → Gives s x → IsPicked limit s x → has_open_leaf s x ≡ false → IsOpen s x
  picked_open limit s (node (pick.Trivial i) ns log d) g p bad = (tt, all_picked_open limit (premises_of s (pick.Trivial i)) ns g.1 p.1 (none_below s (pick.Trivial i) ns log d bad))
  picked_open limit s (node (pick.Alpha i) ns log d) g p bad = (tt, all_picked_open limit (premises_of s (pick.Alpha i)) ns g.1 p.1 (none_below s (pick.Alpha i) ns log d bad))
  picked_open limit s (node (pick.Delta i) ns log d) g p bad = (tt, all_picked_open limit (premises_of s (pick.Delta i)) ns g.1 p.1 (none_below s (pick.Delta i) ns log d bad))
  picked_open limit s (node (pick.Beta i) ns log d) g p bad = (tt, all_picked_open limit (premises_of s (pick.Beta i)) ns g.1 p.1 (none_below s (pick.Beta i) ns log d bad))
  picked_open limit s (node (pick.Gamma i) ns log d) g p bad = absurd (no_gamma limit s i ns log d g p.0 bad)
  picked_open limit s (node pick.Close ns log d) g p bad = (closed_leaf limit s ns log d g.1 p.0 bad, tt)

  all_picked_open : (limit : ℕ) (ss : List Sequent) (ns : Proofs) → AreGiven ss ns → ArePicked limit ss ns → have_open_leaf ss ns ≡ false → AreOpen ss ns
  all_picked_open limit [] ns g k bad = tt
  all_picked_open limit (s ∷ ss) no_proof g k bad = tt
  all_picked_open limit (s ∷ ss) (and_proof x xs) g k bad =
      let two = neither (has_open_leaf s x) (have_open_leaf ss xs) bad in
      (picked_open limit s x g.0 k.0 two.0, all_picked_open limit ss xs g.1 k.1 two.1)

-- ---- the trees of the search
record AllPicked (limit : ℕ) (ss : List Sequent) (out all : List Proof) : Type 0 where
  new : List Proof
  whole : all ≡ out ++ new
  picks : ArePicked limit ss (proofs new)

all_built_picked : (limit : ℕ) (f : ℕ → Sequent → Traced (Option Proof)) → ((n : ℕ) (s : Sequent) (x : Proof) → (f n s).value ≡ Some x → IsPicked limit s x)
    → (ss : List Sequent) (n : ℕ) (out all : List Proof) → (all_built f n ss out).value ≡ Some all → AllPicked limit ss out all
unfolding next just
all_built_picked limit f ih [] n out all e = record { new = []; whole = (let z : Some out ≡ Some all = e in let y : out ≡ all = cc in sym y ∙ sym (append-nil out)); picks = tt }
all_built_picked limit f ih (s ∷ ss) n out all e =
    let g = some_then (f n s).value _ all (sym (value-on_some _ (f n s).value) ∙ e) in
    let x = g.0 in
    let a = all_built_picked limit f ih ss (n + nodes_in x) (out ++ x ∷ []) all g.2 in
    record { new = x ∷ a.new; whole = a.whole ∙ append_assoc out (x ∷ []) a.new; picks = (ih n s x g.1, a.picks) }

pub built_picked : (limit left n : ℕ) (s : Sequent) (x : Proof) → (built limit left n s).value ≡ Some x → IsPicked limit s x
unfolding built just
built_picked limit zero n s x e = absurd (let z : None ≡ Some x = e in cc)
built_picked limit (suc left) n s x e =
    let p = picked limit s.members in
    let f = built limit left in
    let g = some_then (all_built f (n + 1) (premises_of s p) []).value _ x (sym (value-built f n s p) ∙ e) in
    let a = all_built_picked limit f (built_picked limit left) (premises_of s p) (n + 1) [] g.0 g.1 in
    let new_is : a.new ≡ g.0 = sym a.whole in
    let children : ArePicked limit (premises_of s p) (proofs g.0) = subst (λ (z : List Proof). ArePicked limit (premises_of s p) (proofs z)) new_is a.picks in
    let ds = map given g.0 in
    let y = node p (proofs g.0) (entries_of (canonical_constraint s p ds).events) (canonical_constraint s p ds).value in
    let is : y ≡ x = (let z : Some y ≡ Some x = g.2 in cc) in
    subst (λ (z : Proof). IsPicked limit s z) is (refl, children)

-- the tree of a round without such a leaf is open
pub built_open : (limit left n : ℕ) (s : Sequent) (x : Proof) → (built limit left n s).value ≡ Some x → has_open_leaf s x ≡ false → IsOpen s x
built_open limit left n s x e bad = picked_open limit s x (retraced limit left n s x e).gives (built_picked limit left n s x e) bad
