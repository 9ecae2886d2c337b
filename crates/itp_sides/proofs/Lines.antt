-- Lines of a cut: the two sides contradict each other, one set passes from line to line, and the cases rise.
use Rattle.std.proofs.Common.{◌≡◌, ◌↔◌, ◌<◌, ℕ, suc, ℤ, Bool, true, false, ◌||◌, ◌&&◌, cond, nat_eq, List, [], ◌∷◌, ◌++◌, take, drop, length, get_or, refl, sym, ◌∙◌, ap, subst, arith, Contains}
use Rattle.std.specs.Bool.{beq}
use Rattle.std.specs.List.{concat, list_all, list_any}
use Rattle.std.proofs.lemmas.Bool.{false≢true}
use Rattle.std.proofs.lemmas.Bool.Decides.{nat_tests}
use Rattle.std.proofs.lemmas.List.Elements.{All-from_recursion}
use Rattle.form_typed.specs.declared.typed.Sort.{Sort}
use Rattle.form_typed.specs.Formula.{Formula}
use Rattle.form_typed.specs.Sorts.{AreValuesOf}
use Rattle.form_typed.specs.Truth.{Meaning, Truth}
use Rattle.pri_typing.specs.declared.problem.Cut.{Cut}
use Rattle.pri_typing.specs.declared.problem.Problem.{Problem}
use Rattle.pri_typing.specs.Problems.{Holds, assumed_by, IsPlainlyValid}
use Rattle.pri_typing.specs.WellFormed.{IsWellFormed}
use Rattle.pri_typing.proofs.Sides.{sides_are}
use Rattle.itp_sides.specs.Between.{AreTyped, Condition, Contradict, IsSetPassed, Leads}
use Rattle.itp_sides.proofs.Standing.{strong_strong, strong_weak, weak_weak, strongest_follows, strongest_contradicts, weakest_follows, weakest_contradicts}
use Rattle.itp_sides.specs.Symbols.{symbols_in, is_symbol, uses, is_within, is_empty}
use Rattle.itp_sides.specs.Sides.{first_side, other_side, set_side, Case, arithmetic, first_itself, second_denied, none, case_between, case_of, StandsBy, Stands}
use Rattle.itp_sides.proofs.Parting.{IsInSet, left_set, right_set, assumes_both, names_more, symbols_more, next_first, next_other, both_sides}

no_types : (ss : List Sort) → length ss ≡ 0 → ss ≡ []
no_types [] h = refl
no_types (s ∷ ss) h = absurd (omega (arith, h))

-- the two sides of a problem that holds and is not plainly valid are never true together
pub sides_apart : (w : Meaning) (p : Problem) (cut : Cut) (j : ℕ) → IsWellFormed p → p.existentials ≡ [] → Contains p.cuts cut → ¬ (IsPlainlyValid p) → Holds w p []
    → Contradict w p (first_side p cut j) (other_side p cut j)
sides_apart w p cut j formed alone c plain holds e l a b =
    let none : length p.existentials ≡ 0 = ap length alone in
    let m = l.many in
    let few = formed.existential_types.many in
    let empty : p.existential_types ≡ [] = no_types p.existential_types (omega (arith, few, none)) in
    (sides_are w p cut e formed c plain).0 (All-from_recursion (λ set. Truth w (assumed_by p set) e) cut.sets (both_sides w p e cut.sets j a b))
    (holds.is e (omega (arith, m, none)) (subst (λ ss. AreValuesOf (ss ++ p.universal_types) e) empty l.typed))

first_in : (cut : Cut) (j : ℕ) → j < length cut.sets → IsInSet (concat (take j cut.sets)) (concat (take (suc j) cut.sets))
first_in cut j l = subst (IsInSet (concat (take j cut.sets))) (sym (next_first cut.sets j l)) (left_set (concat (take j cut.sets)) (get_or cut.sets j []))

set_in_first : (cut : Cut) (j : ℕ) → j < length cut.sets → IsInSet (get_or cut.sets j []) (concat (take (suc j) cut.sets))
set_in_first cut j l = subst (IsInSet (get_or cut.sets j [])) (sym (next_first cut.sets j l)) (right_set (concat (take j cut.sets)) (get_or cut.sets j []))

set_in_other : (cut : Cut) (j : ℕ) → j < length cut.sets → IsInSet (get_or cut.sets j []) (concat (drop j cut.sets))
set_in_other cut j l = subst (IsInSet (get_or cut.sets j [])) (sym (next_other cut.sets j l)) (left_set (get_or cut.sets j []) (concat (drop (suc j) cut.sets)))

other_in : (cut : Cut) (j : ℕ) → j < length cut.sets → IsInSet (concat (drop (suc j) cut.sets)) (concat (drop j cut.sets))
other_in cut j l = subst (IsInSet (concat (drop (suc j) cut.sets))) (sym (next_other cut.sets j l)) (right_set (get_or cut.sets j []) (concat (drop (suc j) cut.sets)))

pub passed : (w : Meaning) (p : Problem) (cut : Cut) (j : ℕ) → j < length cut.sets
    → IsSetPassed w p (first_side p cut j) (other_side p cut j) (set_side p cut j) (first_side p cut (suc j)) (other_side p cut (suc j))
passed w p cut j l = record {
  joins = λ e m. subst (λ z. Truth w (assumed_by p z) e ↔ (Truth w (first_side p cut j) e × Truth w (set_side p cut j) e)) (sym (next_first cut.sets j l))
      (assumes_both w p (concat (take j cut.sets)) (get_or cut.sets j []) e);
  splits = λ e m. subst (λ z. Truth w (assumed_by p z) e ↔ (Truth w (set_side p cut j) e × Truth w (other_side p cut (suc j)) e)) (sym (next_other cut.sets j l))
      (assumes_both w p (get_or cut.sets j []) (concat (drop (suc j) cut.sets)) e);
  first_names = λ x h. names_more p _ _ x (first_in cut j l) h;
  between_names = λ x h. names_more p _ _ x (set_in_first cut j l) h;
  between_left = λ x h. names_more p _ _ x (set_in_other cut j l) h;
  narrower_left = λ x h. names_more p _ _ x (other_in cut j l) h;
}

-- Symbols.

both_true : (a b : Bool) → (a && b) ≡ true → (a ≡ true) × (b ≡ true)
both_true true true h = (refl, refl)
both_true true false h = absurd (false≢true h)
both_true false b h = absurd (false≢true h)

bool_is : (a b : Bool) → beq a b ≡ true → a ≡ b
bool_is true true h = refl
bool_is true false h = absurd (false≢true h)
bool_is false true h = absurd (false≢true h)
bool_is false false h = refl

number_is : (x y : ℕ) → nat_eq x y ≡ true → x ≡ y
number_is x y h = grind (arith, nat_tests)

symbol_is : (a b : Bool × ℕ) → is_symbol a b ≡ true → a ≡ b
symbol_is a b h =
    let k = both_true (beq a.0 b.0) (nat_eq a.1 b.1) h in
    λ i. (bool_is a.0 b.0 k.0 i, number_is a.1 b.1 k.1 i)

same_bool : (a : Bool) → beq a a ≡ true
same_bool true = refl
same_bool false = refl

same_number : (x : ℕ) → nat_eq x x ≡ true
same_number x = grind (arith, nat_tests)

symbol_self : (a : Bool × ℕ) → is_symbol a a ≡ true
symbol_self a = rw (same_bool a.0, same_number a.1) refl

all_by : (test : (Bool × ℕ) → Bool) (xs : List (Bool × ℕ)) → ((a : Bool × ℕ) → list_any (is_symbol a) xs ≡ true → test a ≡ true) → list_all test xs ≡ true
all_by test [] h = refl
all_by test (a ∷ more) h = rw (h a (rw (symbol_self a) refl), all_by test more (λ b k. h b (behind (is_symbol b a) (list_any (is_symbol b) more) k))) refl
  where
    behind : (c d : Bool) → d ≡ true → (c || d) ≡ true
    behind true d k = refl
    behind false d k = k

all_gives : (test : (Bool × ℕ) → Bool) (xs : List (Bool × ℕ)) (a : Bool × ℕ) → list_all test xs ≡ true → list_any (is_symbol a) xs ≡ true → test a ≡ true
all_gives test [] a h k = absurd (false≢true k)
all_gives test (b ∷ more) a h k =
    let i = both_true (test b) (list_all test more) h in
    by (is_symbol a b) refl k (all_gives test more a i.1)
  where
    by : (c : Bool) → is_symbol a b ≡ c → (c || list_any (is_symbol a) more) ≡ true → (list_any (is_symbol a) more ≡ true → test a ≡ true) → test a ≡ true
    by true e j f = ap test (symbol_is a b e) ∙ (both_true (test b) (list_all test more) h).0
    by false e j f = f j

-- Cases.

abbrev is_denied : Case → Bool
is_denied arithmetic = false
is_denied first_itself = false
is_denied second_denied = true
is_denied none = false

record IsDenied (f g : Formula) : Type 0 where
  some : is_empty (symbols_in f) ≡ false
  apart : is_within f g ≡ false
  within : is_within g f ≡ true

denied_is : (f g : Formula) → case_between f g ≡ second_denied → IsDenied f g
denied_is f g h = by (is_empty (symbols_in f)) refl (is_within f g) refl (is_within g f) refl (ap is_denied h)
  where
    by : (a : Bool) → is_empty (symbols_in f) ≡ a → (b : Bool) → is_within f g ≡ b → (c : Bool) → is_within g f ≡ c
        → is_denied (cond a arithmetic (cond b first_itself (cond c second_denied none))) ≡ true → IsDenied f g
    by true i b j c k h = absurd (false≢true h)
    by false i true j c k h = absurd (false≢true h)
    by false i false j false k h = absurd (false≢true h)
    by false i false j true k h = record { some = i; apart = j; within = k }

false_by : (b : Bool) → (b ≡ true → ⊥) → b ≡ false
false_by true f = absurd (f refl)
false_by false f = refl

-- once the negation of the second side stands between two sides, it does after every later set
rises : (f g h k : Formula) → ((a : Bool × ℕ) → uses f a ≡ true → uses h a ≡ true) → ((a : Bool × ℕ) → uses k a ≡ true → uses g a ≡ true)
    → case_between f g ≡ second_denied → case_between h k ≡ second_denied
rises f g h k up down c =
    let d = denied_is f g c in
    let some : is_empty (symbols_in h) ≡ false =
    false_by (is_empty (symbols_in h)) (λ e. false≢true (sym d.apart ∙ all_by (uses g) (symbols_in f) (λ a i. absurd (no_symbol (symbols_in h) a e (up a i))))) in
    let apart : is_within h k ≡ false =
    false_by (is_within h k) (λ e. false≢true (sym d.apart ∙ all_by (uses g) (symbols_in f) (λ a i. down a (all_gives (uses k) (symbols_in h) a e (up a i))))) in
    let within : is_within k h ≡ true = all_by (uses h) (symbols_in k) (λ a i. up a (all_gives (uses f) (symbols_in g) a d.within (down a i))) in
    rw (some, apart, within) refl
  where
    no_symbol : (xs : List (Bool × ℕ)) (a : Bool × ℕ) → is_empty xs ≡ true → list_any (is_symbol a) xs ≡ true → ⊥
    no_symbol [] a e i = false≢true i
    no_symbol (x ∷ xs) a e i = false≢true e

pub case_rises : (p : Problem) (cut : Cut) (j : ℕ) → j < length cut.sets → case_of p cut j ≡ second_denied → case_of p cut (suc j) ≡ second_denied
case_rises p cut j l c =
    rises (first_side p cut j) (other_side p cut j) (first_side p cut (suc j)) (other_side p cut (suc j))
    (λ a h. symbols_more p _ _ a (first_in cut j l) h) (λ a h. symbols_more p _ _ a (other_in cut j l) h) c

-- Lines.

pub stands_follows : (w : Meaning) (p : Problem) (cut : Cut) (j : ℕ) (c : Condition) → Contradict w p (first_side p cut j) (other_side p cut j)
    → Stands w p cut j c → (e : List ℤ) → AreTyped p e → Truth w (first_side p cut j) e → c e
stands_follows w p cut j c apart = by (case_of p cut j)
  where
    by : (k : Case) → StandsBy w p (first_side p cut j) (other_side p cut j) c k → (e : List ℤ) → AreTyped p e → Truth w (first_side p cut j) e → c e
    by arithmetic s = strongest_follows w p (first_side p cut j) (other_side p cut j) c s
    by first_itself s = strongest_follows w p (first_side p cut j) (other_side p cut j) c s
    by second_denied s = weakest_follows w p (first_side p cut j) (other_side p cut j) c s apart
    by none s = absurd s

pub stands_contradicts : (w : Meaning) (p : Problem) (cut : Cut) (j : ℕ) (c : Condition) → Contradict w p (first_side p cut j) (other_side p cut j)
    → Stands w p cut j c → (e : List ℤ) → AreTyped p e → c e → ¬ (Truth w (other_side p cut j) e)
stands_contradicts w p cut j c apart = by (case_of p cut j)
  where
    by : (k : Case) → StandsBy w p (first_side p cut j) (other_side p cut j) c k → (e : List ℤ) → AreTyped p e → c e → ¬ (Truth w (other_side p cut j) e)
    by arithmetic s = strongest_contradicts w p (first_side p cut j) (other_side p cut j) c s apart
    by first_itself s = strongest_contradicts w p (first_side p cut j) (other_side p cut j) c s apart
    by second_denied s = weakest_contradicts w p (first_side p cut j) (other_side p cut j) c s
    by none s = absurd s

pub sequence : (w : Meaning) (p : Problem) (cut : Cut) (j : ℕ) (i k : Condition) → j < length cut.sets → Contradict w p (first_side p cut j) (other_side p cut j)
    → Stands w p cut j i → Stands w p cut (suc j) k → Leads w p i (set_side p cut j) k
sequence w p cut j i k l apart = by (case_of p cut j) refl (case_of p cut (suc j)) refl
  where
    rising : (c : Case) → case_of p cut (suc j) ≡ c → case_of p cut j ≡ second_denied → is_denied c ≡ true
    rising c e d = ap is_denied (sym e ∙ case_rises p cut j l d)

    by : (c : Case) → case_of p cut j ≡ c → (d : Case) → case_of p cut (suc j) ≡ d
        → StandsBy w p (first_side p cut j) (other_side p cut j) i c → StandsBy w p (first_side p cut (suc j)) (other_side p cut (suc j)) k d
        → Leads w p i (set_side p cut j) k
    by none e d f s t = absurd s
    by arithmetic e arithmetic f s t = strong_strong w p _ _ _ _ _ i k (passed w p cut j l) s t
    by arithmetic e first_itself f s t = strong_strong w p _ _ _ _ _ i k (passed w p cut j l) s t
    by arithmetic e second_denied f s t = strong_weak w p _ _ _ _ _ i k (passed w p cut j l) apart s t
    by arithmetic e none f s t = absurd t
    by first_itself e arithmetic f s t = strong_strong w p _ _ _ _ _ i k (passed w p cut j l) s t
    by first_itself e first_itself f s t = strong_strong w p _ _ _ _ _ i k (passed w p cut j l) s t
    by first_itself e second_denied f s t = strong_weak w p _ _ _ _ _ i k (passed w p cut j l) apart s t
    by first_itself e none f s t = absurd t
    by second_denied e arithmetic f s t = absurd (false≢true (rising arithmetic f e))
    by second_denied e first_itself f s t = absurd (false≢true (rising first_itself f e))
    by second_denied e second_denied f s t = weak_weak w p _ _ _ _ _ i k (passed w p cut j l) s t
    by second_denied e none f s t = absurd t
