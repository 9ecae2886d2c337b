-- What a walk over the items of a branch has passed, as members.
use Rattle.std.proofs.Common.{◌≡◌, ℕ, Bool, true, false, ◌||◌, List, [], ◌∷◌, ◌++◌, Option, Some, refl, sym, ap, ◌∙◌}
use Rattle.std.specs.List.{list_any}
use Rattle.std.specs.Prelude.{IfSome}
use Rattle.std.proofs.lemmas.List.{map-append}
use Rattle.std.proofs.lemmas.List.Folds.{list_any-append}
use Rattle.backlist.specs.declared.boxes.Pos.{Pos}
use Rattle.backlist.specs.History.{AtItem}
use Rattle.backlist.specs.Links.{first_place}
use Rattle.backlist.specs.Walk.{IsWalk}
use Rattle.backlist.proofs.WalkLemmas.{next_in, walk_next, walk_whole}
use Rattle.sequent.specs.declared.member.Member as code
use Rattle.sequent.specs.declared.member.Shape.{Shape}
use Rattle.sequent.specs.Leaf.{is_open}
use Rattle.sequent.specs.Rules.{fits, picked}
use Rattle.sequent.specs.Sequent.{Member}
use Rattle.sequent.specs.Views.{member_of, members_of}
use Rattle.tree_branch.specs.Choosing.{better, principal}
use Rattle.tree_branch.specs.Standing.{IsPrincipalItem, members_in, rule_of}
use Rattle.tree_branch.specs.declared.principal.Principal.{Principal}
use Rattle.tree_branch.proofs.Held.{held_better, length-members, members-append}
use Rattle.tree_branch.proofs.Picks.{picks_better}

module _ (is : List (Pos × code.Member)) (n : ℕ) (at : Option Pos) (w : IsWalk is n at) where
  -- the principal that the next item would be
  pub next_held : (p : Pos) → at ≡ Some p → (k : Shape) → IsPrincipalItem (principal k n p) is
  next_held p e k = record {
    before = w.passed;
    member = (next_in w.rest p (sym w.next ∙ e)).0;
    behind = (next_in w.rest p (sym w.next ∙ e)).1;
    whole = walk_whole is n at w p e;
    number = w.count;
  }

  module _ (p : Pos) (e : at ≡ Some p) (m : code.Member) (got : AtItem p is (λ xs v ys. m ≡ v)) (to : Option Pos) (next : AtItem p is (λ xs v ys. to ≡ first_place ys)) where
    -- the members that were passed, and the one that was read
    pub passed_more : members_in (walk_next is n at w p e to next).passed ≡ members_in w.passed ++ m ∷ []
    passed_more =
        members-append w.passed ((p, (next_in w.rest p (sym w.next ∙ e)).0) ∷ []) ∙ ap (λ (v : code.Member). members_in w.passed ++ v ∷ []) (sym (got w.passed _ _ (walk_whole is n at w p e)))

    formulas_more : members_of (members_in (walk_next is n at w p e to next).passed) ≡ members_of (members_in w.passed) ++ member_of m ∷ []
    formulas_more = ap members_of passed_more ∙ map-append member_of (members_in w.passed) (m ∷ [])

    pub open_more : list_any (λ x. is_open x.formula) (members_of (members_in (walk_next is n at w p e to next).passed)) ≡ (list_any (λ x. is_open x.formula) (members_of (members_in w.passed)) || is_open (member_of m).formula)
    open_more =
        let test : Member → Bool = λ x. is_open x.formula in
        ap (list_any test) formulas_more ∙ list_any-append test (members_of (members_in w.passed)) (member_of m ∷ []) ∙ ap (λ b. list_any test (members_of (members_in w.passed)) || b) (alone (is_open (member_of m).formula))
      where
        alone : (b : Bool) → (b || false) ≡ b
        alone true = refl
        alone false = refl

    pub pick_more : (limit : ℕ) (best : Option Principal) → rule_of best ≡ picked limit (members_of (members_in w.passed))
        → rule_of (better best (fits limit (member_of m)) n p) ≡ picked limit (members_of (members_in (walk_next is n at w p e to next).passed))
    pick_more limit best h = picks_better limit (members_of (members_in w.passed)) (member_of m) best n p h (length-members w.passed ∙ w.count) ∙ ap (picked limit) (sym formulas_more)

    pub principal_more : (o : Option Shape) (best : Option Principal) → IfSome best (λ x. IsPrincipalItem x is) → IfSome (better best o n p) (λ x. IsPrincipalItem x is)
    principal_more o best h = held_better is best o n p h (next_held p e)
