-- Where a member lies in the list, and which rule has it as its principal.
use Rattle.std.proofs.Common.{◌≡◌, ℕ, zero, suc, ◌≤◌, false, List, [], ◌∷◌, map, length, Option, Some, None, refl, ap, ◌∙◌, arith}
use Rattle.std.specs.List.{slice_get}
use Rattle.std.specs.Prelude.{IfNone, IfSome}
use Rattle.std.proofs.lemmas.Option.{slice_get_past}
use Rattle.backlist.specs.declared.boxes.Pos.{Pos}
use Rattle.backlist.specs.Walk.{IsWalk}
use Rattle.backlist.proofs.WalkLemmas.{walk_none}
use Rattle.formula.specs.Tree.{form}
use Rattle.sequent.specs.declared.member.Member.{Member}
use Rattle.sequent.specs.declared.member.Shape.{Shape}
use Rattle.sequent.specs.declared.member.Shape.TheVariants.{Trivial, Alpha, Delta, Beta, Gamma}
use Rattle.sequent.specs.Rules.{has_shape, is_shape, shape, shape_of}
use Rattle.sequent.specs.Views.{member_of}
use Rattle.sequent.proofs.Premising.{get-map}
use Rattle.tree_branch.specs.Choosing.{principal}
use Rattle.tree_branch.specs.Standing.{IsPrincipalItem, members_in, standing}
use Rattle.tree_branch.specs.declared.branch.Branch.{Branch}
use Rattle.tree_branch.proofs.Passing.{next_held}

-- ---- where the walk stands after n items
module _ (is : List (Pos × Member)) (n : ℕ) where
  pub place_held : (at : Option Pos) → IsWalk is n at → (k : Shape) → IfSome at (λ p. IsPrincipalItem (principal k n p) is)
  place_held None w k = tt
  place_held (Some p) w k = next_held is n (Some p) w p refl k

  length-in : (xs : List (Pos × Member)) → length xs ≡ length (members_in xs)
  length-in [] = refl
  length-in (x ∷ xs) = ap suc (length-in xs)

  -- no member has a number from n on, where the list ends there
  pub none_from : (i : ℕ) → n ≤ i → IsWalk is n None → slice_get (members_in is) i ≡ None
  none_from i le w = let all = walk_none is n None w refl in let same = length-in is in slice_get_past (members_in is) i (omega (arith, all, same, le))

  pub place_none : (at : Option Pos) → IsWalk is n at → IfNone at (slice_get (members_in is) n ≡ None)
  place_none None w = none_from n (omega arith) w
  place_none (Some p) w = tt

-- ---- the rule of a member
get-none : (ms : List Member) (i : ℕ) → slice_get ms i ≡ None → slice_get (map member_of ms) i ≡ None
get-none [] i h = refl
get-none (m ∷ ms) zero h = absurd (cc)
get-none (m ∷ ms) (suc i) h = get-none ms i h

no_shape : (k : Shape) → is_shape k None ≡ false
no_shape Trivial = refl
no_shape Alpha = refl
no_shape Delta = refl
no_shape Beta = refl
no_shape Gamma = refl

pub shape_none : (b : Branch) (k : Shape) (i : ℕ) → slice_get (members_in b.list.present) i ≡ None → has_shape (standing b) k i ≡ false
shape_none b k i h = ap (λ o. is_shape k (shape_of o)) (get-none (members_in b.list.present) i h) ∙ no_shape k

pub shape_some : (b : Branch) (k : Shape) (i : ℕ) (m : Member) → slice_get (members_in b.list.present) i ≡ Some m → has_shape (standing b) k i ≡ is_shape k (shape (form m.formula))
shape_some b k i m h = ap (λ o. is_shape k (shape_of o)) (get-map member_of (members_in b.list.present) i m h)
