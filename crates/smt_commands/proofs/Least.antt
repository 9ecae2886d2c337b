-- The least fault of lists one after another, and what the least fault of a list is.
use Rattle.std.proofs.Common.{ℕ, ◌≡◌, ◌&&◌, ◌||◌, ◌⊎◌, inl, inr, Bool, true, false, List, [], ◌∷◌, ◌++◌, All, Contains, refl, sym, ap, subst, ◌∙◌, Option, Some, None, if◌then◌else◌, nat_eq, nat_lt, arith}
use Rattle.std.proofs.lemmas.List.Elements.{Contains-get_or, Contains-append_right, All-cons}
use Rattle.smt_commands.specs.declared.refusal.ScriptRefusal.{ScriptRefusal}
use Rattle.smt_commands.specs.Least.{IsLeastFault, is_before, least, least_from, number_of, place_in, sooner}

pub least_from-append : (found : Option ScriptRefusal) (xs ys : List ScriptRefusal) → least_from found (xs ++ ys) ≡ least_from (least_from found xs) ys
least_from-append found [] ys = refl
least_from-append found (x ∷ xs) ys = least_from-append (Some (sooner found x)) xs ys

-- two, three and four lists, one after another
pub two : (found : Option ScriptRefusal) (a b : List ScriptRefusal) (p q : Option ScriptRefusal) → p ≡ least_from found a → q ≡ least_from p b → q ≡ least_from found (a ++ b)
two found a b p q e f = f ∙ ap (λ z. least_from z b) e ∙ sym (least_from-append found a b)

pub three : (found : Option ScriptRefusal) (a b c : List ScriptRefusal) (p q r : Option ScriptRefusal)
    → p ≡ least_from found a → q ≡ least_from p b → r ≡ least_from q c → r ≡ least_from found (a ++ b ++ c)
three found a b c p q r e f g = two found (a ++ b) c q r (two found a b p q e f) g

pub four : (found : Option ScriptRefusal) (a b c d : List ScriptRefusal) (p q r s : Option ScriptRefusal)
    → p ≡ least_from found a → q ≡ least_from p b → r ≡ least_from q c → s ≡ least_from r d → s ≡ least_from found (a ++ b ++ c ++ d)
four found a b c d p q r s e f g h = two found (a ++ b ++ c) d r s (three found a b c p q r e f g) h

-- Where there is no least fault, there is none.

some_found : (a : ScriptRefusal) (xs : List ScriptRefusal) → least_from (Some a) xs ≡ None → ⊥
some_found a [] e = absurd (cc)
some_found a (x ∷ xs) e = some_found (sooner (Some a) x) xs e

pub none_found : (xs : List ScriptRefusal) → least xs ≡ None → xs ≡ []
none_found [] e = refl
none_found (x ∷ xs) e = absurd (some_found (sooner None x) xs e)

-- The least fault is one of them.

chosen_among : (b : Bool) (a x r : ScriptRefusal) (xs : List ScriptRefusal) → (if b then x else a) ≡ r → (Some a ≡ Some r) ⊎ Contains (x ∷ xs) r
chosen_among true a x r xs e = inr (subst (λ z. Contains (x ∷ xs) z) e (Contains-get_or (x ∷ xs) 0 x (omega arith)))
chosen_among false a x r xs e = inl (ap (λ z. Some z) e)

sooner_among : (found : Option ScriptRefusal) (x r : ScriptRefusal) (xs : List ScriptRefusal) → sooner found x ≡ r → (found ≡ Some r) ⊎ Contains (x ∷ xs) r
sooner_among None x r xs e = inr (subst (λ z. Contains (x ∷ xs) z) e (Contains-get_or (x ∷ xs) 0 x (omega arith)))
sooner_among (Some a) x r xs e = chosen_among (is_before x a) a x r xs e

behind_one : (found : Option ScriptRefusal) (x r : ScriptRefusal) (xs : List ScriptRefusal) → (Some (sooner found x) ≡ Some r) ⊎ Contains xs r → (found ≡ Some r) ⊎ Contains (x ∷ xs) r
behind_one found x r xs (inl e) = sooner_among found x r xs (cc)
behind_one found x r xs (inr c) = inr (Contains-append_right (x ∷ []) xs r c)

from_among : (found : Option ScriptRefusal) (xs : List ScriptRefusal) (r : ScriptRefusal) → least_from found xs ≡ Some r → (found ≡ Some r) ⊎ Contains xs r
from_among found [] r e = inl e
from_among found (x ∷ xs) r e = behind_one found x r xs (from_among (Some (sooner found x)) xs r e)

among : (xs : List ScriptRefusal) (r : ScriptRefusal) → (None ≡ Some r) ⊎ Contains xs r → Contains xs r
among xs r (inl e) = absurd (cc)
among xs r (inr c) = c

-- No other one comes before it.

-- the order over any places and numbers
abbrev precedes : ℕ → ℕ → ℕ → ℕ → Bool
precedes a m b n = nat_lt a b || nat_eq a b && nat_lt m n

precedes-self : (a m : ℕ) → precedes a m a m ≡ false
precedes-self a m = grind arith

-- of two places, the one that the first precedes and the one that it does not precede
precedes-past : (a m b n c o : ℕ) → precedes b n a m ≡ true → precedes b n c o ≡ false → precedes a m c o ≡ false
precedes-past a m b n c o = grind arith

precedes-negative : (a m b n c o : ℕ) → precedes b n a m ≡ false → precedes c o b n ≡ false → precedes c o a m ≡ false
precedes-negative a m b n c o = grind arith

-- a fault that was found before does not come before this one
abbrev Follows : Option ScriptRefusal → ScriptRefusal → Type 0
Follows None r = Unit {0}
Follows (Some a) r = is_before a r ≡ false

chosen_follows : (b : Bool) (a x r : ScriptRefusal) → is_before x a ≡ b → is_before (if b then x else a) r ≡ false → (is_before a r ≡ false) × (is_before x r ≡ false)
chosen_follows true a x r e f = (precedes-past (place_in a) (number_of a) (place_in x) (number_of x) (place_in r) (number_of r) e f, f)
chosen_follows false a x r e f = (f, precedes-negative (place_in r) (number_of r) (place_in a) (number_of a) (place_in x) (number_of x) f e)

sooner_follows : (found : Option ScriptRefusal) (x r : ScriptRefusal) → is_before (sooner found x) r ≡ false → Follows found r × (is_before x r ≡ false)
sooner_follows None x r e = (tt, e)
sooner_follows (Some a) x r e = chosen_follows (is_before x a) a x r refl e

found_follows : (found : Option ScriptRefusal) (r : ScriptRefusal) → found ≡ Some r → Follows found r
found_follows None r e = tt
found_follows (Some a) r e =
    let same : a ≡ r = cc in
    subst (λ z. is_before z r ≡ false) (sym same) (precedes-self (place_in r) (number_of r))

from_first : (found : Option ScriptRefusal) (xs : List ScriptRefusal) (r : ScriptRefusal) → least_from found xs ≡ Some r → Follows found r × All (λ s. is_before s r ≡ false) xs
from_first found [] r e = (found_follows found r e, λ i d h. absurd (omega (arith, h)))
from_first found (x ∷ xs) r e =
    let later = from_first (Some (sooner found x)) xs r e in
    let here = sooner_follows found x r later.0 in
    (here.0, All-cons (λ s. is_before s r ≡ false) x xs here.1 later.1)

pub least_is : (xs : List ScriptRefusal) (r : ScriptRefusal) → least xs ≡ Some r → IsLeastFault r xs
least_is xs r e = record { among = among xs r (from_among None xs r e); first = (from_first None xs r e).1 }
