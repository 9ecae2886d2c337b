-- A place names one cell: the cells are cut at it.
use Rattle.std.proofs.Common.{◌≡◌, Bool, true, false, cond, List, [], ◌∷◌, ◌++◌, Option, Some, None, refl, eqb→eq, T, ◌&&◌, ◌==◌}
use Rattle.std.specs.Prelude.{IsSome}
use lib.Dec.{eqb_refl}
use denote.RawPtr.{Ptr, block_ptr, null_ptr}
use Rattle.backlist.specs.Cells.{Cell, cell, same_place, find, update}

both : (x y : Bool) → (x && y) ≡ true → T x × T y
both true true e = (tt, tt)
both true false e = cc
both false y e = cc

pub same_place_eq : (p q : Ptr) → same_place p q ≡ true → p ≡ q
same_place_eq (block_ptr b o) (block_ptr c p) e = let t = both (b == c) (o == p) e in λ i. block_ptr (eqb→eq b c t.0 i) (eqb→eq o p t.1 i)
same_place_eq (block_ptr b o) null_ptr e = cc
same_place_eq null_ptr (block_ptr c p) e = cc
same_place_eq null_ptr null_ptr e = refl

true_of : (b : Bool) → T b → b ≡ true
true_of true t = refl
true_of false t = absurd t

pub same_place_refl : (p : Ptr) → same_place p p ≡ true
same_place_refl (block_ptr b o) = λ i. true_of (b == b) (eqb_refl b) i && true_of (o == o) (eqb_refl o) i
same_place_refl null_ptr = refl

module _ {N : Type 0} where
  pub there : (o : Option N) → IsSome o → (n : N) × (o ≡ Some n)
  there (Some n) h = (n, refl)
  there None h = cc

  -- the cells before p, and those after it
  pub record Cut (p : Ptr) (n : N) (cs : List (Cell N)) : Type 0 where
    pub before : List (Cell N)
    pub after : List (Cell N)
    pub is : cs ≡ before ++ cell p n ∷ after
    pub updated : (f : N → N) → update p f cs ≡ before ++ cell p (f n) ∷ after

  pub cut : (p : Ptr) (n : N) (cs : List (Cell N)) → find p cs ≡ Some n → Cut p n cs
  cut p n [] e = cc
  cut p n (c ∷ cs) e = let k = (elim (same_place c.at p) as (λ y. same_place c.at p ≡ y → cond y (Some c.node) (find p cs) ≡ Some n
      → (xs : List (Cell N)) × (ys : List (Cell N)) × (c ∷ cs ≡ xs ++ cell p n ∷ ys) × ((f : N → N) → cond y (cell c.at (f c.node) ∷ cs) (c ∷ update p f cs) ≡ xs ++ cell p (f n) ∷ ys)) [
        | true ↦ λ s h. let at = same_place_eq c.at p s in let is : c.node ≡ n = cc in ([], cs, (λ i. cell (at i) (is i) ∷ cs), (λ f i. cell (at i) (f (is i)) ∷ cs))
        | false ↦ λ s h. let r = cut p n cs h in (c ∷ r.before, r.after, (λ i. c ∷ r.is i), (λ f i. c ∷ r.updated f i))
      ]) refl e in record { before = k.0; after = k.1; is = k.2; updated = k.3 }
