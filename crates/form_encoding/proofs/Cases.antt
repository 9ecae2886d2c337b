-- The rows of the encoding as laws of facts, of which truth is stable.
use Rattle.std.proofs.Common.{◌≡◌, ◌↔◌, ℤ, pos, negsuc, neg_ℤ, ◌≤ℤ◌, Bool, true, false, ◌⊎◌, inl, inr, unsigned_abs, sym, subst, arith}
use Rattle.std.specs.Int.{int_min, int_max}
use Rattle.std.proofs.lemmas.Int.{ints, clamps, by_lt_z}
use Rattle.form_encoding.specs.Meaning.{Signed}

pub iff_trans : (A B C : Type 0) → A ↔ B → B ↔ C → A ↔ C
iff_trans A B C h k = (λ a. k.0 (h.0 a), λ c. h.1 (k.1 c))

-- a property of one number is that of an equal one
pub moved : (A : Type 0) (P : ℤ → Type 0) (x y : ℤ) → x ≡ y → A ↔ P x → A ↔ P y
moved A P x y e h = subst (λ z. A ↔ P z) e h

-- every integer is not the value, or has the property
pub call_law : (P G : ℤ → Type 0) (x : ℤ) (u y : ℤ → ℤ) → ((v : ℤ) → u v ≡ x) → ((v : ℤ) → y v ≡ v)
    → ((v : ℤ) → G v ↔ P (y v)) → ((v : ℤ) → ¬ (¬ (G v)) → G v)
    → ((v : ℤ) → ¬ ((¬ (¬ (u v ≡ y v))) × ((¬ (G v)) × Unit {0}))) ↔ P x
call_law P G x u y ux yv gp s = (
  λ h.
      let yx : y x ≡ x = yv x in
      let ux' : u x ≡ x = ux x in
      let there : u x ≡ y x = cc in
      subst P yx ((gp x).0 (s x (λ n. h x (λ d. d there, (n, tt))))),
  λ p v n.
      n.0 (λ e.
      let yv' : y v ≡ v = yv v in
      let ux' : u v ≡ x = ux v in
      let is : x ≡ y v = cc in
      n.1.0 ((gp v).1 (subst P is p))),
)

-- the one case with the fact, or the other without it
pub choice_law : (Y N A B G U V : Type 0) → Y ↔ G → N ↔ (¬ G) → A ↔ U → B ↔ V → (¬ (¬ A) → A) → (¬ (¬ B) → B)
    → (¬ ((¬ (Y × (A × Unit {0}))) × ((¬ (N × (B × Unit {0}))) × Unit {0}))) ↔ ((G → U) × (¬ G → V))
choice_law Y N A B G U V y n a b sa sb = (
  λ h. (
    λ g. a.0 (sa (λ na. h (λ k. na (k.1.0), (λ k. n.0 (k.0) g, tt)))),
    λ ng. b.0 (sb (λ nb. h (λ k. ng (y.0 (k.0)), (λ k. nb (k.1.0), tt)))),
  ),
  λ h k.
      let ng : ¬ G = λ g. k.0 (y.1 g, (a.1 (h.0 g), tt)) in
      k.1.0 (n.1 ng, (b.1 (h.1 ng), tt)),
)

-- of two numbers the one with the fact, the other without it
pub decided_law : (G : Type 0) (P : ℤ → Type 0) (x y z : ℤ) → G ⊎ (¬ G) → (G → x ≡ z) → (¬ G → y ≡ z) → ((G → P x) × (¬ G → P y)) ↔ P z
decided_law G P x y z (inl g) ex ey = (λ h. subst P (ex g) (h.0 g), λ p. (λ _. subst P (sym (ex g)) p, λ n. absurd (n g)))
decided_law G P x y z (inr n) ex ey = (λ h. subst P (ey n) (h.1 n), λ p. (λ g. absurd (n g), λ _. subst P (sym (ey n)) p))

pub decide_at_most : (x y : ℤ) → (x ≤ℤ y) ⊎ (¬ (x ≤ℤ y))
decide_at_most x y = by_lt_z y x (λ lt. inr (λ le. omega (arith, ints))) (λ le. inl le)

pub absolute_law : (P : ℤ → Type 0) (x : ℤ) → ((pos 0 ≤ℤ x → P x) × (¬ (pos 0 ≤ℤ x) → P (neg_ℤ x))) ↔ P (pos (unsigned_abs x))
absolute_law P (pos n) = (λ h. h.0 (omega (arith, ints)), λ p. (λ _. p, λ n. absurd (n (omega (arith, ints)))))
absolute_law P (negsuc n) = (λ h. h.1 (λ le. omega (arith, ints)), λ p. (λ le. absurd (omega (arith, ints)), λ _. p))

pub lesser_law : (P : ℤ → Type 0) (x y : ℤ) → ((x ≤ℤ y → P x) × (¬ (x ≤ℤ y) → P y)) ↔ P (int_min x y)
lesser_law P x y = decided_law (x ≤ℤ y) P x y (int_min x y) (decide_at_most x y) (λ le. omega (arith, ints, clamps)) (λ n. grind (arith, ints, clamps))

pub greater_law : (P : ℤ → Type 0) (x y : ℤ) → ((y ≤ℤ x → P x) × (¬ (y ≤ℤ x) → P y)) ↔ P (int_max x y)
greater_law P x y = decided_law (y ≤ℤ x) P x y (int_max x y) (decide_at_most y x) (λ le. omega (arith, ints, clamps)) (λ n. grind (arith, ints, clamps))

-- A sign before a fact that is not false where it is true.
pub signed_not : (plus : Bool) (A : Type 0) → (¬ (¬ A) → A) → Signed plus (¬ A) ↔ Signed (elim plus [ true ↦ false | false ↦ true ]) A
signed_not true A s = (λ h. h, λ h. h)
signed_not false A s = (s, λ a n. n a)
