-- Premises keep the depth of a sequent and use a member once more at most; a sequent within limits has room.
use Rattle.std.proofs.Common.{◌≡◌, ℕ, suc, ◌+◌, ◌-◌, ◌≤◌, ◌<◌, ◌^◌, max, List, [], ◌∷◌, ◌++◌, map, Some, arith}
use Rattle.std.specs.List.{AllByRecursion, remove, slice_get}
use Rattle.formula.specs.Form.{Form, Forms, equal, unequal, at_least, holds, fails, differs, conjunction, disjunction, universal, existential, no_form, and_form}
use Rattle.formula.specs.Sizes.{depth, depths}
use Rattle.formula.specs.Shifts.{IsBelow}
use Rattle.formula.specs.Tree.{form}
use Rattle.formula.proofs.Depths.{below_depth}
use Rattle.formula.proofs.Sameness.{depth_shifted}
use Rattle.sequent.specs.declared.member.Member as code
use Rattle.sequent.specs.declared.member.Sequent as coded
use Rattle.sequent.specs.Limits.{IsLimited}
use Rattle.sequent.specs.Rules.{brought, new_members, one_each, premises_at}
use Rattle.sequent.specs.Sequent.{Member, Sequent, member, sequent, IsMember, IsFormedSequent}
use Rattle.sequent.specs.Views.{HasRoom, members_of, sequent_of}
use Rattle.sequent.proofs.Members.{all_append, all_remove, all_at, all_same}

abbrev Keeps : ℕ → ℕ → Member → Type 0
Keeps u k m = (m.used ≤ u) × (depth m.formula ≤ k)

new_kept : (u k over n c : ℕ) (f : Form) → depth f ≤ k → Keeps u k (member (brought over n f) c 0)
new_kept u k over n c f le = (omega arith, omega (arith, depth_shifted over (n - over) f, le))

left_of : (a b k : ℕ) → max a b ≤ k → a ≤ k
left_of a b k h = grind (arith, h)

right_of : (a b k : ℕ) → max a b ≤ k → b ≤ k
right_of a b k h = grind (arith, h)

all_new_kept : (u k over n : ℕ) (fs : Forms) → depths fs ≤ k → AllByRecursion (Keeps u k) (new_members over n fs)
all_new_kept u k over n no_form le = tt
all_new_kept u k over n (and_form f fs) le =
    (new_kept u k over n n f (left_of (depth f) (depths fs) k le), all_new_kept u k over n fs (right_of (depth f) (depths fs) k le))

each_kept : (u k over n : ℕ) (rest : List Member) (fs : Forms) → AllByRecursion (Keeps u k) rest → depths fs ≤ k
    → AllByRecursion (IsLimited u k) (map (λ new. sequent (rest ++ new) n) (one_each (new_members over n fs)))
each_kept u k over n rest no_form r le = tt
each_kept u k over n rest (and_form f fs) r le = (
  all_append (Keeps u k) rest (member (brought over n f) n 0 ∷ []) r (new_kept u k over n n f (left_of (depth f) (depths fs) k le), tt),
  each_kept u k over n rest fs r (right_of (depth f) (depths fs) k le),
)

premises_kept : (u k : ℕ) (s : Sequent) (i over used : ℕ) (f : Form) → used ≤ u → depth f ≤ k → AllByRecursion (Keeps (u + 1) k) (remove s.members i)
    → AllByRecursion (IsLimited (u + 1) k) (premises_at s i (Some (member f over used)))
premises_kept u k s i over used (conjunction fs) le deep r = each_kept (u + 1) k over s.count (remove s.members i) fs r (omega (arith, deep))
premises_kept u k s i over used (disjunction fs) le deep r =
    (all_append (Keeps (u + 1) k) (remove s.members i) (new_members over s.count fs) r (all_new_kept (u + 1) k over s.count fs (omega (arith, deep))), tt)
premises_kept u k s i over used (universal f) le deep r = (
  all_append (Keeps (u + 1) k) (remove s.members i) (member (brought over s.count f) (suc s.count) 0 ∷ []) r
      (new_kept (u + 1) k over s.count (suc s.count) f (omega (arith, deep)), tt),
  tt,
)
premises_kept u k s i over used (existential f) le deep r = (
  all_append (Keeps (u + 1) k) (remove s.members i) (member (brought over s.count f) (suc s.count) 0 ∷ member (existential f) over (suc used) ∷ []) r
      (new_kept (u + 1) k over s.count (suc s.count) f (omega (arith, deep)), ((omega (arith, le), deep), tt)),
  tt,
)
premises_kept u k s i over used (equal t) le deep r = tt
premises_kept u k s i over used (unequal t) le deep r = tt
premises_kept u k s i over used (at_least t) le deep r = tt
premises_kept u k s i over used (holds p ts) le deep r = tt
premises_kept u k s i over used (fails p ts) le deep r = tt
premises_kept u k s i over used (differs p ts v) le deep r = tt

pub premises_limited : (u k : ℕ) (s : Sequent) (i : ℕ) (m : Member) → IsLimited u k s → slice_get s.members i ≡ Some m → AllByRecursion (IsLimited (u + 1) k) (premises_at s i (Some m))
premises_limited u k s i m limited is =
    let one = all_at (Keeps u k) s.members i m is limited in
    premises_kept u k s i m.over m.used m.formula one.0 one.1
    (all_same (Keeps u k) (Keeps (u + 1) k) (remove s.members i) (λ x h. (omega (arith, h.0), h.1)) (all_remove (Keeps u k) s.members i limited))

members_room : (u k n : ℕ) (ms : List code.Member) → u + 1 < 2 ^ 32 → n + k ≤ 2 ^ 32 → AllByRecursion (IsMember n) (members_of ms) → AllByRecursion (Keeps u k) (members_of ms)
    → AllByRecursion (λ m. (m.over ≤ n) × (m.used + 1 < 2 ^ 32) × IsBelow (2 ^ 32 - (n - m.over)) (form m.formula)) ms
members_room u k n [] uses room formed limited = tt
members_room u k n (m ∷ ms) uses room formed limited = (
  (formed.0.within, omega (arith, uses, limited.0.0), below_depth m.over (2 ^ 32 - (n - m.over)) (form m.formula) (fits_in m.over (depth (form m.formula)) k n formed.0.within limited.0.1 room) formed.0.formed),
  members_room u k n ms uses room formed.1 limited.1,
)
  where
    fits_in : (over d k n : ℕ) → over ≤ n → d ≤ k → n + k ≤ 2 ^ 32 → over + d ≤ 2 ^ 32 - (n - over)
    fits_in over d k n le deep room = omega (arith, le, deep, room)

pub has_room : (u k : ℕ) (t : coded.Sequent) → u + 1 < 2 ^ 32 → t.count + k ≤ 2 ^ 32 → t.count + 1 < 2 ^ 32 → IsFormedSequent (sequent_of t) → IsLimited u k (sequent_of t) → HasRoom t
has_room u k t uses room more formed limited = record { constants = more; members = members_room u k t.count t.members uses room formed limited }
