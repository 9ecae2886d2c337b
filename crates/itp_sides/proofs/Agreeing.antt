-- A formula has one truth at lists that agree at its names.
use Rattle.std.proofs.Common.{◌≡◌, ◌↔◌, ◌||◌, ℕ, ℤ, Bool, true, false, nat_eq, List, [], ◌∷◌, refl, sym, subst, arith}
use Rattle.std.specs.List.{list_any}
use Rattle.std.proofs.lemmas.Bool.Decides.{nat_tests}
use Rattle.form_typed.specs.Formula.{Formula}
use Rattle.form_typed.specs.Truth.{Meaning, Truth}
use Rattle.form_encoding.specs.Occurrences.{names_in, occurs}
use Rattle.itp_sides.specs.Between.{AgreeOn}
use Rattle.itp_sides.proofs.Renaming.{IsMet, AreMet, renamed_true, renamed-same}

pub same_number : (n : ℕ) → nat_eq n n ≡ true
same_number n = grind (arith, nat_tests)

left_any : (a b : Bool) → a ≡ true → (a || b) ≡ true
left_any a b h = rw h refl

pub right_any : (a b : Bool) → b ≡ true → (a || b) ≡ true
right_any true b h = refl
right_any false b h = h

-- what is so of each name that stands in a list is so of its names
pub met_by : (r : ℕ → ℕ) (e d : List ℤ) (xs : List ℕ) → ((x : ℕ) → list_any (nat_eq x) xs ≡ true → IsMet r e d x) → AreMet r e d xs
met_by r e d [] h = tt
met_by r e d (x ∷ xs) h =
    (h x (left_any (nat_eq x x) (list_any (nat_eq x) xs) (same_number x)), met_by r e d xs (λ y k. h y (right_any (nat_eq y x) (list_any (nat_eq y) xs) k)))

pub agree_true : (w : Meaning) (f : Formula) (e d : List ℤ) → AgreeOn f e d → Truth w f d ↔ Truth w f e
agree_true w f e d a =
    subst (λ g. Truth w g d ↔ Truth w f e) (renamed-same f)
    (renamed_true tt w (λ x. x) f e d (λ x l. omega (arith, a.long, l)) (met_by (λ x. x) e d (names_in f) (λ x k l. (omega (arith, a.long, l), a.same x l k))))

pub agree_self : (f : Formula) (e : List ℤ) → AgreeOn f e e
agree_self f e = record { long = refl; same = λ x l k. refl }

pub agree_back : (f : Formula) (e d : List ℤ) → AgreeOn f e d → AgreeOn f d e
agree_back f e d a = record { long = sym a.long; same = λ x l k. sym (a.same x (omega (arith, a.long, l)) k) }

-- on fewer names
pub agree_less : (f g : Formula) (e d : List ℤ) → ((x : ℕ) → occurs x g ≡ true → occurs x f ≡ true) → AgreeOn f e d → AgreeOn g e d
agree_less f g e d h a = record { long = a.long; same = λ x l k. a.same x l (h x k) }
