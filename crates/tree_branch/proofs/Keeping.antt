-- The premises of a sequent within the bounds of a run are within the bounds of the next node.
use Rattle.std.proofs.Common.{◌≡◌, ℕ, zero, suc, ◌+◌, ◌-◌, ◌^◌, ◌≤◌, ◌<◌, List, [], ◌∷◌, ◌++◌, length, map, Option, Some, None, refl, sym, ap, subst, arith}
use Rattle.std.specs.List.{AllByRecursion, remove, slice_get}
use Rattle.formula.specs.Form.{Form, Forms, equal, unequal, at_least, holds, fails, differs, conjunction, disjunction, universal, existential, no_form, and_form, IsFormOver}
use Rattle.formula.specs.Sizes.{size, sizes, depth}
use Rattle.formula.proofs.Sameness.{size_shifted}
use Rattle.sequent.specs.declared.member.Pick.{Pick}
use Rattle.sequent.specs.declared.member.Sequent as coded
use Rattle.sequent.specs.Limits.{IsLimited}
use Rattle.sequent.specs.Rules.{brought, new_members, one_each, place, premises_at, premises_by, premises_of}
use Rattle.sequent.specs.Sequent.{Member, Sequent, member, sequent, IsFormedSequent}
use Rattle.sequent.specs.Views.{HasRoom, sequent_of}
use Rattle.sequent.proofs.Forming.{premises_formed, start_formed}
use Rattle.sequent.proofs.Limiting.{has_room, premises_limited}
use Rattle.sequent.proofs.Members.{all_append, all_at, all_remove}
use Rattle.pred_unify.specs.Pairs.{closing_of}
use Rattle.proof_tree.specs.Proves.{start}
use Rattle.base_limits.specs.Limits.{branch_limit, most_nodes, most_levels, most_constants}
use Rattle.tree_branch.specs.Within.{IsWithin}
use Rattle.tree_branch.proofs.Shallow.{closing_shallow}

abbrev IsSmall : Member → Type 0
IsSmall m = size m.formula ≤ most_nodes

length-append : (xs ys : List Member) → length (xs ++ ys) ≡ length xs + length ys
length-append [] ys = omega arith
length-append (x ∷ xs) ys = let h = length-append xs ys in omega (arith, h)

length-remove : (xs : List Member) (i : ℕ) → length (remove xs i) ≤ length xs
length-remove [] zero = omega arith
length-remove [] (suc i) = omega arith
length-remove (x ∷ xs) zero = omega arith
length-remove (x ∷ xs) (suc i) = let h = length-remove xs i in omega (arith, h)

one-size : (f : Form) → 1 ≤ size f
one-size (equal t) = omega arith
one-size (unequal t) = omega arith
one-size (at_least t) = omega arith
one-size (holds p ts) = omega arith
one-size (fails p ts) = omega arith
one-size (differs f ts u) = omega arith
one-size (conjunction fs) = omega arith
one-size (disjunction fs) = omega arith
one-size (universal f) = omega arith
one-size (existential f) = omega arith

new-length : (over n : ℕ) (fs : Forms) → length (new_members over n fs) ≤ sizes fs
new-length over n no_form = omega arith
new-length over n (and_form f fs) = let h = new-length over n fs in let one = one-size f in omega (arith, h, one)

brought_small : (over n : ℕ) (f : Form) → size f ≤ most_nodes → size (brought over n f) ≤ most_nodes
brought_small over n f h = subst (λ k. k ≤ most_nodes) (sym (size_shifted over (n - over) f)) h

new_small : (over n : ℕ) (fs : Forms) → sizes fs ≤ most_nodes → AllByRecursion IsSmall (new_members over n fs)
new_small over n no_form h = tt
new_small over n (and_form f fs) h = (brought_small over n f (omega (arith, h)), new_small over n fs (omega (arith, h)))

-- a premise of s: its members are small, and they and its constants are not many more
record IsNext (s t : Sequent) : Type 0 where
  small : AllByRecursion IsSmall t.members
  members : length t.members ≤ length s.members + most_nodes
  constants : t.count ≤ s.count + 1

appended : (s : Sequent) (i c : ℕ) (new : List Member) → AllByRecursion IsSmall s.members → AllByRecursion IsSmall new → length new ≤ most_nodes → c ≤ s.count + 1
    → IsNext s (sequent (remove s.members i ++ new) c)
appended s i c new h k few le = record {
  small = all_append IsSmall (remove s.members i) new (all_remove IsSmall s.members i h) k;
  members = (let sum = length-append (remove s.members i) new in let rest = length-remove s.members i in omega (arith, sum, rest, few));
  constants = le;
}

each_next : (s : Sequent) (i over : ℕ) (fs : Forms) → AllByRecursion IsSmall s.members → sizes fs ≤ most_nodes
    → AllByRecursion (IsNext s) (map (λ new. sequent (remove s.members i ++ new) s.count) (one_each (new_members over s.count fs)))
each_next s i over no_form h k = tt
each_next s i over (and_form f fs) h k =
    (appended s i s.count (member (brought over s.count f) s.count 0 ∷ []) h (brought_small over s.count f (omega (arith, k)), tt) (omega arith) (omega arith), each_next s i over fs h (omega (arith, k)))

premises_next : (s : Sequent) (i over used : ℕ) (f : Form) → AllByRecursion IsSmall s.members → size f ≤ most_nodes → AllByRecursion (IsNext s) (premises_at s i (Some (member f over used)))
premises_next s i over used (conjunction fs) h k = each_next s i over fs h (omega (arith, k))
premises_next s i over used (disjunction fs) h k =
    (appended s i s.count (new_members over s.count fs) h (new_small over s.count fs (omega (arith, k))) (let n = new-length over s.count fs in omega (arith, n, k)) (omega arith), tt)
premises_next s i over used (universal f) h k = (appended s i (suc s.count) (member (brought over s.count f) (suc s.count) 0 ∷ []) h (brought_small over s.count f (omega (arith, k)), tt) (omega arith) (omega arith), tt)
premises_next s i over used (existential f) h k = (
  appended s i (suc s.count) (member (brought over s.count f) (suc s.count) 0 ∷ member (existential f) over (suc used) ∷ []) h (brought_small over s.count f (omega (arith, k)), (k, tt)) (omega arith) (omega arith),
  tt,
)
premises_next s i over used (equal t) h k = tt
premises_next s i over used (unequal t) h k = tt
premises_next s i over used (at_least t) h k = tt
premises_next s i over used (holds p ts) h k = tt
premises_next s i over used (fails p ts) h k = tt
premises_next s i over used (differs p ts v) h k = tt

-- a premise that keeps all bounds
next_within : (left : ℕ) (s t : Sequent) → IsWithin (left + 1) s → IsNext s t → IsFormedSequent t → IsLimited (branch_limit - (left + 1) + 1) most_levels t → IsWithin left t
next_within left s t h n formed limited =
    let nodes : left + 1 ≤ branch_limit = h.nodes in
    let used : branch_limit - (left + 1) + 1 ≡ branch_limit - left = omega (arith, nodes) in
    record {
      nodes = omega (arith, nodes);
      formed = formed;
      limited = subst (λ u. IsLimited u most_levels t) used limited;
      small = n.small;
      constants = (let a = h.constants in let b = n.constants in omega (arith, a, b));
      members = (let a = h.members in let b = n.members in omega (arith, a, b));
    }

all_within : (left : ℕ) (s : Sequent) (ts : List Sequent) → IsWithin (left + 1) s → AllByRecursion (IsNext s) ts → AllByRecursion IsFormedSequent ts → AllByRecursion (IsLimited (branch_limit - (left + 1) + 1) most_levels) ts
    → AllByRecursion (IsWithin left) ts
all_within left s [] h n f l = tt
all_within left s (t ∷ ts) h n f l = (next_within left s t h n.0 f.0 l.0, all_within left s ts h n.1 f.1 l.1)

at_within : (left : ℕ) (s : Sequent) (i : ℕ) (o : Option Member) → slice_get s.members i ≡ o → IsWithin (left + 1) s → AllByRecursion (IsWithin left) (premises_at s i o)
at_within left s i None is h = tt
at_within left s i (Some m) is h =
    all_within left s (premises_at s i (Some m)) h (premises_next s i m.over m.used m.formula h.small (all_at IsSmall s.members i m is h.small)) (premises_formed s i m h.formed is)
    (premises_limited (branch_limit - (left + 1)) most_levels s i m h.limited is)

pub premises_within : (left : ℕ) (s : Sequent) (p : Pick) → IsWithin (left + 1) s → AllByRecursion (IsWithin left) (premises_of s p)
premises_within left s p h = by (place p)
  where
    by : (o : Option ℕ) → AllByRecursion (IsWithin left) (premises_by s o)
    by None = tt
    by (Some i) = at_within left s i (slice_get s.members i) refl h

-- ---- how many premises there are
each-length : (f : List Member → Sequent) (ms : List Member) → length (map f (one_each ms)) ≡ length ms
each-length f [] = refl
each-length f (m ∷ ms) = ap suc (each-length f ms)

at-length : (s : Sequent) (i over used : ℕ) (f : Form) → size f ≤ most_nodes → length (premises_at s i (Some (member f over used))) ≤ most_nodes
at-length s i over used (conjunction fs) k =
    let n = each-length (λ new. sequent (remove s.members i ++ new) s.count) (new_members over s.count fs) in let m = new-length over s.count fs in omega (arith, n, m, k)
at-length s i over used (disjunction fs) k = omega arith
at-length s i over used (universal f) k = omega arith
at-length s i over used (existential f) k = omega arith
at-length s i over used (equal t) k = omega arith
at-length s i over used (unequal t) k = omega arith
at-length s i over used (at_least t) k = omega arith
at-length s i over used (holds p ts) k = omega arith
at-length s i over used (fails p ts) k = omega arith
at-length s i over used (differs p ts v) k = omega arith

pub premises_most : (left : ℕ) (s : Sequent) (p : Pick) → IsWithin left s → length (premises_of s p) ≤ most_nodes
premises_most left s p h = by (place p)
  where
    at : (i : ℕ) (o : Option Member) → slice_get s.members i ≡ o → length (premises_at s i o) ≤ most_nodes
    at i None is = omega arith
    at i (Some m) is = at-length s i m.over m.used m.formula (all_at IsSmall s.members i m is h.small)

    by : (o : Option ℕ) → length (premises_by s o) ≤ most_nodes
    by None = omega arith
    by (Some i) = at i (slice_get s.members i) refl

pub premises_few : (left : ℕ) (s : Sequent) (p : Pick) → IsWithin left s → length (premises_of s p) < 2 ^ 32
premises_few left s p h = let most = premises_most left s p h in omega (arith, most)

-- ---- what calls on a sequent ask
pub within_room : (left : ℕ) (t : coded.Sequent) → IsWithin left (sequent_of t) → HasRoom t
within_room left t h =
    let c = h.constants in
    has_room (branch_limit - left) most_levels t (omega arith) (omega (arith, c)) (omega (arith, c)) h.formed h.limited

pub within_depth : (left : ℕ) (s : Sequent) → IsWithin left s → s.count + depth (closing_of s).value ≤ 2 ^ 32
within_depth left s h =
    let c = h.constants in
    let d = closing_shallow (branch_limit - left) most_levels s (omega arith) h.limited in
    omega (arith, c, d)

pub within_members : (left : ℕ) (s : Sequent) → IsWithin left s → length s.members < 2 ^ 32
within_members left s h = let m = h.members in omega (arith, m)

-- the sequent of a formula within the bounds
pub start_within : (f : Form) (n : ℕ) → IsFormOver n f → size f ≤ most_nodes → depth f ≤ most_levels → n ≤ most_constants → IsWithin branch_limit (start f n)
start_within f n over small deep few = record {
  nodes = omega arith;
  formed = start_formed f n over;
  limited = ((omega arith, deep), tt);
  small = (small, tt);
  constants = omega (arith, few);
  members = omega arith;
}
