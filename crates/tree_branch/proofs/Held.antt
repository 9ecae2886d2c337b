-- The items of a branch as members of its sequent.
use Rattle.std.proofs.Common.{◌≡◌, ℕ, zero, suc, ◌+◌, ◌≤◌, Bool, true, false, cond, nat_lt, List, [], ◌∷◌, ◌++◌, length, Option, Some, None, refl, sym, ap, ◌∙◌, arith}
use Rattle.std.specs.List.{remove, slice_get}
use Rattle.std.specs.Prelude.{IfSome}
use Rattle.std.proofs.lemmas.List.{map-append}
use Rattle.backlist.specs.declared.boxes.Pos.{Pos}
use Rattle.backlist.specs.History.{AtItem, History, IsIn, after, back, unlink_of}
use Rattle.sequent.specs.declared.member.Member.{Member}
use Rattle.sequent.specs.declared.member.Shape.{Shape}
use Rattle.sequent.specs.declared.member.Shape.TheVariants.{Trivial, Alpha, Delta, Beta, Gamma}
use Rattle.sequent.specs.Rules.{place, premises_by}
use Rattle.sequent.specs.Views.{members_of}
use Rattle.tree_branch.specs.Choosing.{better, principal, rank}
use Rattle.tree_branch.specs.Standing.{IsPrincipalItem, LeadsBack, members_in, premises_from, rule_at, standing, undone}
use Rattle.tree_branch.specs.declared.branch.Branch.{Branch}
use Rattle.tree_branch.specs.declared.entering.Entered.{Entered}
use Rattle.tree_branch.specs.declared.principal.Principal.{Principal}
use Rattle.tree_branch.proofs.Undoing.{length-undone, undone-one}

pub members-append : (xs ys : List (Pos × Member)) → members_in (xs ++ ys) ≡ members_in xs ++ members_in ys
members-append xs ys = map-append (λ (i : Pos × Member). i.1) xs ys

pub length-members : (xs : List (Pos × Member)) → length (members_of (members_in xs)) ≡ length xs
length-members [] = refl
length-members (x ∷ xs) = ap suc (length-members xs)

-- ---- a principal
pub is_in : (p : Principal) (is : List (Pos × Member)) → IsPrincipalItem p is → IsIn p.at is
is_in p is h = (h.before, h.member, h.behind, h.whole)

item_at : (xs : List (Pos × Member)) (p : Pos) (v : Member) (ys : List (Pos × Member)) (n : ℕ) → length xs ≡ n → slice_get (members_in (xs ++ (p, v) ∷ ys)) n ≡ Some v
item_at [] p v ys zero e = refl
item_at [] p v ys (suc n) e = absurd (omega (arith, e))
item_at (x ∷ xs) p v ys zero e = absurd (omega (arith, e))
item_at (x ∷ xs) p v ys (suc n) e = item_at xs p v ys n (omega (arith, e))

pub member_is : (p : Principal) (is : List (Pos × Member)) (h : IsPrincipalItem p is) → slice_get (members_in is) p.index ≡ Some h.member
member_is p is h = ap (λ l. slice_get (members_in l) p.index) h.whole ∙ item_at h.before p.at h.member h.behind p.index h.number

-- what was read at the principal's place is the member of its number
pub member_got : (p : Principal) (is : List (Pos × Member)) (m : Member) → IsPrincipalItem p is → AtItem p.at is (λ xs v ys. m ≡ v) → slice_get (members_in is) p.index ≡ Some m
member_got p is m h got = member_is p is h ∙ ap Some (sym (got h.before h.member h.behind h.whole))

others_at : (xs : List (Pos × Member)) (p : Pos) (v : Member) (ys : List (Pos × Member)) (n : ℕ) → length xs ≡ n → members_in (xs ++ ys) ≡ remove (members_in (xs ++ (p, v) ∷ ys)) n
others_at [] p v ys zero e = refl
others_at [] p v ys (suc n) e = absurd (omega (arith, e))
others_at (x ∷ xs) p v ys zero e = absurd (omega (arith, e))
others_at (x ∷ xs) p v ys (suc n) e = ap (λ l. x.1 ∷ l) (others_at xs p v ys n (omega (arith, e)))

pub others_are : (p : Principal) (is : List (Pos × Member)) (h : IsPrincipalItem p is) → members_in (h.before ++ h.behind) ≡ remove (members_in is) p.index
others_are p is h = others_at h.before p.at h.member h.behind p.index h.number ∙ ap (λ l. remove (members_in l) p.index) (sym h.whole)

pub place_is : (k : Shape) (i : ℕ) → place (rule_at k i) ≡ Some i
place_is Trivial i = refl
place_is Alpha i = refl
place_is Delta i = refl
place_is Beta i = refl
place_is Gamma i = refl

pub premises_are : (b : Branch) (p : Principal) → premises_from b p ≡ premises_by (standing b) (Some p.index)
premises_are b p = ap (λ o. premises_by (standing b) o) (place_is p.shape p.index)

-- ---- the principal so far
pub held_better : (is : List (Pos × Member)) (best : Option Principal) (o : Option Shape) (i : ℕ) (p : Pos) → IfSome best (λ x. IsPrincipalItem x is) → ((k : Shape) → IsPrincipalItem (principal k i p) is) → IfSome (better best o i p) (λ x. IsPrincipalItem x is)
held_better is best None i p h new = h
held_better is None (Some k) i p h new = new k
held_better is (Some b) (Some k) i p h new = by (nat_lt (rank k) (rank b.shape))
  where
    by : (t : Bool) → IfSome (cond t (Some (principal k i p)) (Some b)) (λ x. IsPrincipalItem x is)
    by true = new k
    by false = h

-- ---- entering and leaving
pub leads_back : (e : Entered) (b c : Branch) (one two : History Member) (p : Pos) → one ≡ after (unlink_of p) c.list → e.pushed ≤ length two.earlier → undone e.pushed two ≡ one → b.list ≡ two → e.count ≡ c.count → LeadsBack e b c
leads_back e b c one two p out few there is count =
    let whole = length-undone e.pushed two few in
    let first = ap (λ (h : History Member). length h.earlier) (there ∙ out) in
    let same = ap (λ (h : History Member). length h.earlier) is in
    let list : undone (e.pushed + 1) b.list ≡ c.list = ap (undone (e.pushed + 1)) is ∙ undone-one e.pushed two ∙ ap back (there ∙ out) in
    record { changes = omega (arith, whole, first, same); there = λ i. record { list = list i; count = count i } }
