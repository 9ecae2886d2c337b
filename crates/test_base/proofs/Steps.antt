-- A walk goes from item to item.
use Rattle.std.proofs.Common.{◌≡◌, List, [], ◌∷◌, ◌++◌, Option, Some, sym, ap, ◌∙◌, append_assoc}
use Rattle.backlist.specs.declared.boxes.Pos.{Pos}
use Rattle.backlist.specs.History.{IsIn, AtItem}
use Rattle.backlist.specs.Links.{first_place}
use Rattle.backlist.proofs.WalkLemmas.{next_in, walk_first, walk_in}

module _ {T : Type 0} where
  pub first_in : (is : List (Pos × T)) (at : Option Pos) → at ≡ first_place is → (p : Pos) → at ≡ Some p → IsIn p is
  first_in is at e = walk_in is 0 at (walk_first is at e)

  pub next_is_in : (is : List (Pos × T)) (p : Pos) (to : Option Pos) → IsIn p is → AtItem p is (λ xs v ys. to ≡ first_place ys) → (q : Pos) → to ≡ Some q → IsIn q is
  next_is_in is p to here h q e =
      let r = next_in here.2 q (sym (h here.0 here.1 here.2 here.3) ∙ e) in
      (here.0 ++ (p, here.1) ∷ [], r.0, r.1, here.3 ∙ ap (λ ys. here.0 ++ (p, here.1) ∷ ys) r.2 ∙ sym (append_assoc here.0 ((p, here.1) ∷ []) ((q, r.0) ∷ r.1)))
