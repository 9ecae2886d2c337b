-- Premises of the code's sequents.
use Rattle.std.proofs.Common.{◌≡◌, ℕ, zero, suc, ◌<◌, ◌≤◌, ◌+◌, ◌-◌, ◌^◌, List, [], ◌∷◌, ◌++◌, map, length, Some, refl, sym, ap, ◌∙◌}
use Rattle.std.specs.List.{slice_get, remove}
use Rattle.std.proofs.lemmas.List.{map-append}
use Rattle.sequent.specs.declared.member.Member.{Member}
use Rattle.sequent.specs.declared.member.Sequent.{Sequent}
use Rattle.sequent.specs.Sequent as q
use Rattle.sequent.specs.Rules.{branches, premises_at, premises_by, count_after}
use Rattle.formula.specs.Shifts.{IsBelow}
use Rattle.formula.specs.Tree.{form}
use Rattle.sequent.specs.Views.{member_of, members_of, sequent_of, HasRoom}
use Rattle.sequent.proofs.Members.{all_at}

pub get-map : {X Y : Type 0} (f : X → Y) (xs : List X) (i : ℕ) (x : X) → slice_get xs i ≡ Some x → slice_get (map f xs) i ≡ Some (f x)
get-map f [] i x h = absurd (cc)
get-map f (y ∷ xs) zero x h = let same : y ≡ x = cc in ap (λ z. Some (f z)) same
get-map f (y ∷ xs) (suc i) x h = get-map f xs i x h

pub remove-map : {X Y : Type 0} (f : X → Y) (xs : List X) (i : ℕ) → map f (remove xs i) ≡ remove (map f xs) i
remove-map f [] zero = refl
remove-map f [] (suc i) = refl
remove-map f (x ∷ xs) zero = refl
remove-map f (x ∷ xs) (suc i) = ap (λ l. f x ∷ l) (remove-map f xs i)

length-mapped : {X Y : Type 0} (f : X → Y) (xs : List X) → length (map f xs) ≡ length xs
length-mapped f [] = refl
length-mapped f (x ∷ xs) = ap suc (length-mapped f xs)

-- the branches of the member at a place, and the premises
pub length-premises : (s : Sequent) (at : ℕ) (m : Member) → slice_get s.members at ≡ Some m
    → length (premises_by (sequent_of s) (Some at)) ≡ length (branches s.count m.over m.used (form m.formula))
length-premises s at m h =
    ap (λ o. length (premises_at (sequent_of s) at o)) (get-map member_of s.members at m h)
    ∙ length-mapped (λ new. q.sequent (remove (members_of s.members) at ++ new) (count_after s.count (form m.formula))) (branches s.count m.over m.used (form m.formula))

joined : (s : Sequent) (at : ℕ) (new : List Member) (n : ℕ) (t : Sequent) → t.members ≡ remove s.members at ++ new → t.count ≡ n
    → q.sequent (remove (members_of s.members) at ++ members_of new) n ≡ sequent_of t
joined s at new n t members count =
    let whole : remove (members_of s.members) at ++ members_of new ≡ members_of t.members =
    ap (λ l. l ++ members_of new) (sym (remove-map member_of s.members at)) ∙ sym (map-append member_of (remove s.members at) new) ∙ ap members_of (sym members) in
    λ i. q.sequent (whole i) (sym count i)

pub room_over : (s : Sequent) (at : ℕ) (m : Member) → slice_get s.members at ≡ Some m → HasRoom s → m.over ≤ s.count
room_over s at m h r = (all_at (λ x. (x.over ≤ s.count) × (x.used + 1 < 2 ^ 32) × IsBelow (2 ^ 32 - (s.count - x.over)) (form x.formula)) s.members at m h r.members).0

pub room_used : (s : Sequent) (at : ℕ) (m : Member) → slice_get s.members at ≡ Some m → HasRoom s → m.used + 1 < 2 ^ 32
room_used s at m h r = (all_at (λ x. (x.over ≤ s.count) × (x.used + 1 < 2 ^ 32) × IsBelow (2 ^ 32 - (s.count - x.over)) (form x.formula)) s.members at m h r.members).1

pub room_below : (s : Sequent) (at : ℕ) (m : Member) → slice_get s.members at ≡ Some m → HasRoom s → IsBelow (2 ^ 32 - (s.count - m.over)) (form m.formula)
room_below s at m h r = (all_at (λ x. (x.over ≤ s.count) × (x.used + 1 < 2 ^ 32) × IsBelow (2 ^ 32 - (s.count - x.over)) (form x.formula)) s.members at m h r.members).2

pub premise_is : (s t : Sequent) (at i : ℕ) (m : Member) (new : List Member) → slice_get s.members at ≡ Some m
    → slice_get (branches s.count m.over m.used (form m.formula)) i ≡ Some (members_of new)
    → t.members ≡ remove s.members at ++ new → t.count ≡ count_after s.count (form m.formula)
    → slice_get (premises_by (sequent_of s) (Some at)) i ≡ Some (sequent_of t)
premise_is s t at i m new h is members count =
    ap (λ o. slice_get (premises_at (sequent_of s) at o) i) (get-map member_of s.members at m h)
    ∙ get-map (λ x. q.sequent (remove (members_of s.members) at ++ x) (count_after s.count (form m.formula))) (branches s.count m.over m.used (form m.formula)) i (members_of new) is
    ∙ ap Some (joined s at new (count_after s.count (form m.formula)) t members count)

pub ruleset premising = (length-premises, premise_is, room_over, room_used, room_below)
