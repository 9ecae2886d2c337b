-- Members that fit no rule are passed.
use Rattle.std.proofs.Common.{◌≡◌, ℕ, ◌+◌, ◌≤◌, Bool, true, false, cond, nat_lt, List, [], ◌∷◌, ◌++◌, length, length-append, append_assoc, Option, Some, None, refl, sym, ap, ◌∙◌, arith, subst}
use Rattle.std.specs.Prelude.{IfSome, is_some}
use Rattle.std.proofs.lemmas.List.{map-append}
use Rattle.backlist.specs.declared.boxes.Pos.{Pos}
use Rattle.backlist.specs.History.{AtItem, IsIn}
use Rattle.backlist.specs.Links.{first_place, last_place}
use Rattle.backlist.specs.Walk.{IsWalk}
use Rattle.backlist.proofs.WalkLemmas.{next_in}
use Rattle.sequent.specs.declared.member.Member as code
use Rattle.sequent.specs.declared.member.Pick.{Pick}
use Rattle.sequent.specs.declared.member.Pick.TheVariants as pick
use Rattle.sequent.specs.declared.member.Shape.{Shape}
use Rattle.sequent.specs.declared.member.Shape.TheVariants.{Trivial, Alpha, Delta, Beta, Gamma}
use Rattle.sequent.specs.Rules.{at_place, first_fit, fits, is_shape, or_else, picked, suc_place}
use Rattle.sequent.specs.Sequent.{Member}
use Rattle.sequent.specs.Views.{member_of, members_of}
use Rattle.tree_branch.specs.Choosing.{better, principal, rank}
use Rattle.tree_branch.specs.Passed.{AreIdle, IsPassed, nothing}
use Rattle.tree_branch.specs.Standing.{IsPrincipalItem, members_in}
use Rattle.tree_branch.specs.declared.branch.Branch.{Branch}
use Rattle.tree_branch.specs.declared.choosing.Passed.{Passed}
use Rattle.tree_branch.specs.declared.principal.Principal.{Principal}
use Rattle.tree_branch.proofs.Held.{members-append}

-- ---- the last place of items
module _ {T : Type 0} where
  last-append : (a : Option Pos) (xs : List (Pos × T)) (i : Pos × T) → last_place a (xs ++ i ∷ []) ≡ Some i.0
  last-append a [] i = refl
  last-append a (x ∷ xs) i = last-append (Some x.0) xs i

  some_last : (q : Pos) (xs : List (Pos × T)) → last_place (Some q) xs ≡ None → ⊥
  some_last q [] e = cc
  some_last q (x ∷ xs) e = some_last x.0 xs e

  last_none : (xs : List (Pos × T)) → last_place None xs ≡ None → xs ≡ []
  last_none [] e = refl
  last_none (x ∷ xs) e = absurd (some_last x.0 xs e)

  last_after : (x : Pos × T) (xs : List (Pos × T)) (p : Pos) → last_place (Some x.0) xs ≡ Some p → (ys : List (Pos × T)) × (v : T) × (x ∷ xs ≡ ys ++ (p, v) ∷ [])
  last_after x [] p e = let is : x.0 ≡ p = cc in ([], x.1, λ k. (is k, x.1) ∷ [])
  last_after x (y ∷ xs) p e = let r = last_after y xs p e in (x ∷ r.0, r.1, ap (λ zs. x ∷ zs) r.2)

  last_item : (xs : List (Pos × T)) (p : Pos) → last_place None xs ≡ Some p → (ys : List (Pos × T)) × (v : T) × (xs ≡ ys ++ (p, v) ∷ [])
  last_item [] p e = absurd (cc)
  last_item (x ∷ xs) p e = last_after x xs p e

  -- of two ways to split a list, the longer front begins with the shorter one
  pub fronts : (xs ys us vs : List (Pos × T)) → xs ++ ys ≡ us ++ vs → length xs ≤ length us → (zs : List (Pos × T)) × (us ≡ xs ++ zs)
  fronts [] ys us vs e le = (us, refl)
  fronts (x ∷ xs) ys [] vs e le = absurd (omega (arith, le))
  fronts (x ∷ xs) ys (u ∷ us) vs e le =
      let head : x ≡ u = cc in let tail : xs ++ ys ≡ us ++ vs = cc in let r = fronts xs ys us vs tail (omega (arith, le)) in (r.0, (λ k. sym head k ∷ r.1 k))

-- ---- no rule fits
none_shape : (k : Shape) → is_shape k None ≡ false
none_shape Trivial = refl
none_shape Alpha = refl
none_shape Delta = refl
none_shape Beta = refl
none_shape Gamma = refl

idle_first : (limit : ℕ) (k : Shape) (ms : List Member) → AreIdle limit ms → first_fit limit k ms ≡ None
idle_first limit k [] h = refl
idle_first limit k (m ∷ ms) h = (λ i. cond (is_shape k (h.0 i)) (Some 0) (suc_place (idle_first limit k ms h.1 i))) ∙ ap (λ b. cond b (Some 0) None) (none_shape k)

pub idle_picked : (limit : ℕ) (ms : List Member) → AreIdle limit ms → pick.Close ≡ picked limit ms
idle_picked limit ms h = sym (λ i. by (idle_first limit Trivial ms h i) (idle_first limit Alpha ms h i) (idle_first limit Delta ms h i) (idle_first limit Beta ms h i) (idle_first limit Gamma ms h i))
  where
    by : Option ℕ → Option ℕ → Option ℕ → Option ℕ → Option ℕ → Pick
    by a b c d e = or_else (at_place pick.Trivial a) (or_else (at_place pick.Alpha b) (or_else (at_place pick.Delta c) (or_else (at_place pick.Beta d) (or_else (at_place pick.Gamma e) pick.Close))))

idle-append : (limit : ℕ) (ms : List Member) (m : Member) → AreIdle limit ms → fits limit m ≡ None → AreIdle limit (ms ++ m ∷ [])
idle-append limit [] m h e = (e, tt)
idle-append limit (x ∷ ms) m h e = (h.0, idle-append limit ms m h.1 e)

-- ---- what was passed
pub passed_nothing : (limit : ℕ) (b : Branch) → IsPassed limit b nothing
passed_nothing limit b = record { before = []; rest = b.list.present; whole = refl; number = refl; last_is = refl; idle = tt }

pub passed_in : (limit : ℕ) (b : Branch) (p : Passed) (q : Pos) → IsPassed limit b p → p.last ≡ Some q → IsIn q b.list.present
passed_in limit b p q w e =
    let l = last_item w.before q (sym w.last_is ∙ e) in
    (l.0, l.1, w.rest, w.whole ∙ ap (λ xs. xs ++ w.rest) l.2 ∙ append_assoc l.0 ((q, l.1) ∷ []) w.rest)

pub passed_next : (b : Branch) (p : Passed) (q : Pos) (to : Option Pos) → p.last ≡ Some q → AtItem q b.list.present (λ xs v ys. to ≡ first_place ys) → (limit : ℕ) (w : IsPassed limit b p) → to ≡ first_place w.rest
passed_next b p q to e next limit w =
    let l = last_item w.before q (sym w.last_is ∙ e) in
    next l.0 l.1 w.rest (w.whole ∙ ap (λ xs. xs ++ w.rest) l.2 ∙ append_assoc l.0 ((q, l.1) ∷ []) w.rest)

pub passed_first : (b : Branch) (p : Passed) (to : Option Pos) → p.last ≡ None → to ≡ first_place b.list.present → (limit : ℕ) (w : IsPassed limit b p) → to ≡ first_place w.rest
passed_first b p to e is limit w = is ∙ ap first_place (w.whole ∙ ap (λ xs. xs ++ w.rest) (last_none w.before (sym w.last_is ∙ e)))

abbrev pub passed_walk : (limit : ℕ) (b : Branch) (p : Passed) (to : Option Pos) (w : IsPassed limit b p) → to ≡ first_place w.rest → IsWalk b.list.present p.count to
passed_walk limit b p to w e = record { passed = w.before; rest = w.rest; whole = w.whole; count = w.number; next = e }

pub passed_few : (limit : ℕ) (b : Branch) (p : Passed) (w : IsPassed limit b p) (q : Pos) → Some q ≡ first_place w.rest → p.count + 1 ≤ length b.list.present
passed_few limit b p w q e =
    let r = next_in w.rest q (sym e) in
    let all = ap length w.whole in
    let sum = length-append w.before w.rest in
    let one = ap length r.2 in
    let n = w.number in
    omega (arith, all, sum, one, n)

pub passed_at : (limit : ℕ) (b : Branch) (p : Passed) (w : IsPassed limit b p) (q : Pos) → Some q ≡ first_place w.rest → IsIn q b.list.present
passed_at limit b p w q e = let r = next_in w.rest q (sym e) in (w.before, r.0, r.1, w.whole ∙ ap (λ ys. w.before ++ ys) r.2)

pub no_shape_of : (o : Option Shape) → is_some o ≡ false → o ≡ None
no_shape_of None e = refl
no_shape_of (Some k) e = absurd (cc)

-- one more
pub passed_more : (limit : ℕ) (b : Branch) (p : Passed) (w : IsPassed limit b p) (q : Pos) (m : code.Member) (to : Option Pos) → Some q ≡ first_place w.rest → AtItem q b.list.present (λ xs v ys. m ≡ v) → fits limit (member_of m) ≡ None
    → AtItem q b.list.present (λ xs v ys. to ≡ first_place ys) → (more : IsPassed limit b (record { count = p.count + 1; last = Some q })) × (to ≡ first_place more.rest)
passed_more limit b p w q m to e got idle next =
    let r = next_in w.rest q (sym e) in
    let whole = w.whole ∙ ap (λ ys. w.before ++ ys) r.2 in
    let n = w.number in
    let v_is = got w.before r.0 r.1 whole in (
      record {
        before = w.before ++ (q, r.0) ∷ [];
        rest = r.1;
        whole = whole ∙ sym (append_assoc w.before ((q, r.0) ∷ []) r.1);
        number = omega (arith, n, length-append w.before ((q, r.0) ∷ []));
        last_is = sym (last-append None w.before (q, r.0));
        idle =
            subst (AreIdle limit) (sym (ap members_of (members-append w.before ((q, r.0) ∷ [])) ∙ map-append member_of (members_in w.before) (r.0 ∷ [])))
            (idle-append limit (members_of (members_in w.before)) (member_of r.0) w.idle (ap (λ x. fits limit (member_of x)) (sym v_is) ∙ idle));
      },
      next w.before r.0 r.1 whole,
    )

-- a rule takes a member from after them, and adds its new ones at the end
pub passed_entered : (b d : Branch) (p : Principal) (h : IsPrincipalItem p b.list.present) (new : List (Pos × code.Member)) → d.list.present ≡ (h.before ++ h.behind) ++ new
    → (limit : ℕ) (q : Passed) → IsPassed limit b q → q.count ≤ p.index → IsPassed limit d q
passed_entered b d p h new is limit q w le =
    let few = w.number in
    let place = h.number in
    let r = fronts w.before w.rest h.before ((p.at, h.member) ∷ h.behind) (sym w.whole ∙ h.whole) (omega (arith, le, few, place)) in
    record {
      before = w.before;
      rest = (r.0 ++ h.behind) ++ new;
      whole = is ∙ ap (λ xs. (xs ++ h.behind) ++ new) r.1 ∙ ap (λ xs. xs ++ new) (append_assoc w.before r.0 h.behind) ∙ append_assoc w.before (r.0 ++ h.behind) new;
      number = w.number;
      last_is = w.last_is;
      idle = w.idle;
    }

-- the better of two principals is after what was passed
pub better_behind : (n : ℕ) (best : Option Principal) (o : Option Shape) (i : ℕ) (p : Pos) → IfSome best (λ x. n ≤ x.index) → n ≤ i → IfSome (better best o i p) (λ x. n ≤ x.index)
better_behind n best None i p h le = h
better_behind n None (Some k) i p h le = le
better_behind n (Some b) (Some k) i p h le = by (nat_lt (rank k) (rank b.shape))
  where
    by : (t : Bool) → IfSome (cond t (Some (principal k i p)) (Some b)) (λ x. n ≤ x.index)
    by true = le
    by false = h
