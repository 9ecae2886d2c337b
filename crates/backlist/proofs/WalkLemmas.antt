-- A walk over a list by `first` and `next`.
use Rattle.std.proofs.Common.{◌≡◌, ℕ, ◌+◌, List, [], ◌∷◌, ◌++◌, length, Option, Some, None, refl, sym, ap, ◌∙◌, arith, length-append, append_assoc}
use Rattle.backlist.specs.declared.boxes.Pos.{Pos}
use Rattle.backlist.specs.History.{IsIn, AtItem}
use Rattle.backlist.specs.Links.{first_place}
use Rattle.backlist.specs.Walk.{IsWalk}

some_pos : (p q : Pos) → Some p ≡ Some q → p ≡ q
some_pos p q e = cc

module _ {T : Type 0} where
  abbrev pub walk_first : (is : List (Pos × T)) (at : Option Pos) → at ≡ first_place is → IsWalk is 0 at
  walk_first is at e = record { passed = []; rest = is; whole = refl; count = refl; next = e }

  pub next_in : (ys : List (Pos × T)) (p : Pos) → first_place ys ≡ Some p → (v : T) × (zs : List (Pos × T)) × (ys ≡ (p, v) ∷ zs)
  next_in [] p e = cc
  next_in (y ∷ ys) p e = (y.1, ys, λ k. (some_pos y.0 p e k, y.1) ∷ ys)

  pub walk_in : (is : List (Pos × T)) (n : ℕ) (at : Option Pos) → IsWalk is n at → (p : Pos) → at ≡ Some p → IsIn p is
  walk_in is n at w p e = let r = next_in w.rest p (sym w.next ∙ e) in (w.passed, r.0, r.1, w.whole ∙ ap (λ ys. w.passed ++ ys) r.2)

  pub walk_whole : (is : List (Pos × T)) (n : ℕ) (at : Option Pos) (w : IsWalk is n at) (p : Pos) (e : at ≡ Some p)
      → is ≡ w.passed ++ (p, (next_in w.rest p (sym w.next ∙ e)).0) ∷ (next_in w.rest p (sym w.next ∙ e)).1
  walk_whole is n at w p e = w.whole ∙ ap (λ ys. w.passed ++ ys) (next_in w.rest p (sym w.next ∙ e)).2

  pub counted : (xs : List (Pos × T)) (i : Pos × T) (n : ℕ) → length xs ≡ n → length (xs ++ i ∷ []) ≡ n + 1
  counted xs i n e = omega (arith, e, length-append xs (i ∷ []))

  abbrev pub walk_next : (is : List (Pos × T)) (n : ℕ) (at : Option Pos) (w : IsWalk is n at) (p : Pos) (e : at ≡ Some p) (to : Option Pos) → AtItem p is (λ xs v ys. to ≡ first_place ys) → IsWalk is (n + 1) to
  walk_next is n at w p e to h = let r = next_in w.rest p (sym w.next ∙ e) in let whole = w.whole ∙ ap (λ ys. w.passed ++ ys) r.2 in
      record { passed = w.passed ++ (p, r.0) ∷ []; rest = r.1; whole = whole ∙ sym (append_assoc w.passed ((p, r.0) ∷ []) r.1); count = counted w.passed (p, r.0) n w.count; next = h w.passed r.0 r.1 whole }

  no_rest : (ys : List (Pos × T)) → first_place ys ≡ None → ys ≡ []
  no_rest [] e = refl
  no_rest (y ∷ ys) e = cc

  all : (xs ys : List (Pos × T)) → length ys ≡ 0 → xs ++ ys ≡ xs
  all [] [] e = refl
  all [] (y ∷ ys) e = absurd (omega (arith, e))
  all (x ∷ xs) ys e = λ i. x ∷ all xs ys e i

  -- at the end nothing is left
  pub walk_end : (is : List (Pos × T)) (n : ℕ) (at : Option Pos) (w : IsWalk is n at) → length is ≡ n → w.passed ≡ is
  walk_end is n at w e = sym (w.whole ∙ all w.passed w.rest (omega (arith, e, w.count, ap length w.whole, length-append w.passed w.rest)))

  pub walk_none : (is : List (Pos × T)) (n : ℕ) (at : Option Pos) (w : IsWalk is n at) → at ≡ None → length is ≡ n
  walk_none is n at w e = let none = no_rest w.rest (sym w.next ∙ e) in omega (arith, ap length w.whole, length-append w.passed w.rest, ap length none, w.count)
