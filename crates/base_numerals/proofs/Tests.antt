-- What tests of bytes and tables of texts say.
use Rattle.std.proofs.Common.{ℕ, zero, suc, ◌≡◌, ◌≤◌, ◌&&◌, ◌||◌, Bool, true, false, List, [], ◌∷◌, length, take, refl, sym, ap, ◌∙◌, inl, inr, ◌⊎◌, arith, if◌then◌else◌, one-add}
use Rattle.std.specs.List.{prefix_len, list_all}
use Rattle.std.specs.Str.{bytes_eq}
use Rattle.std.proofs.lemmas.Slice.Eq.{bytes_eq-Decides}

pub left_true : (a b : Bool) → (a && b) ≡ true → a ≡ true
left_true true b e = refl
left_true false b e = cc

pub right_true : (a b : Bool) → (a && b) ≡ true → b ≡ true
right_true true b e = e
right_true false b e = cc

pub either_true : (a b : Bool) → (a || b) ≡ true → (a ≡ true) ⊎ (b ≡ true)
either_true true b e = inl refl
either_true false b e = inr e

-- no more bytes pass a test than the longest front of those that pass it
pub front_passes : (p : ℕ → Bool) (n : ℕ) (bs : List ℕ) → n ≤ length bs → list_all p (take n bs) ≡ true → n ≤ prefix_len p bs
front_passes p zero bs h a = omega arith
front_passes p (suc n) [] h a = absurd (omega arith)
front_passes p (suc n) (b ∷ bs) h a =
    let here : p b ≡ true = left_true (p b) (list_all p (take n bs)) a in
    let more : n ≤ prefix_len p bs = front_passes p n bs (omega arith) (right_true (p b) (list_all p (take n bs)) a) in
    rw here (omega arith)

front_all_by : (p : ℕ → Bool) (b : ℕ) (bs : List ℕ) (v : Bool) → p b ≡ v → list_all p (take (prefix_len p bs) bs) ≡ true
    → list_all p (take (prefix_len p (b ∷ bs)) (b ∷ bs)) ≡ true
front_all_by p b bs true e a = rw (e, one-add, e) a
front_all_by p b bs false e a = rw e refl

-- the longest front of those that pass a test passes it
pub front_all : (p : ℕ → Bool) (bs : List ℕ) → list_all p (take (prefix_len p bs) bs) ≡ true
front_all p [] = refl
front_all p (b ∷ bs) = front_all_by p b bs (p b) refl (front_all p bs)

pub if_begins : {A : Type 0} (P : A → Type 0) (c : Bool) (x y : A) → (c ≡ true → P x) → (c ≡ false → P y) → P (if c then x else y)
if_begins P true x y p q = p refl
if_begins P false x y p q = q refl

pub clash : false ≡ true → ⊥
clash e = cc

-- what a test says of the first byte
abbrev pub heads : (ℕ → Bool) → List ℕ → Bool
heads q [] = false
heads q (b ∷ bs) = q b

-- a fact on a byte, carried to the byte that it is
pub at_byte : (q : ℕ → Bool) (b c : ℕ) → b ≡ c → q b ≡ true → q c ≡ true
at_byte q b c e h = sym (ap q e) ∙ h
