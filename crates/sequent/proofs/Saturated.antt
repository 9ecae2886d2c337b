-- What is known of the members after a pick: none fits an earlier rule, and none before it fits its own.
use Rattle.std.proofs.Common.{◌≡◌, ℕ, zero, suc, Bool, true, false, cond, not, List, [], ◌∷◌, take, Option, None, Some, refl, sym, ◌∙◌}
use Rattle.std.specs.List.{AllByRecursion}
use Rattle.sequent.specs.declared.member.Shape.{Shape}
use Rattle.sequent.specs.declared.member.Shape.TheVariants.{Trivial, Alpha, Delta, Beta, Gamma}
use Rattle.sequent.specs.declared.member.Pick.TheVariants as pick
use Rattle.formula.specs.Form.{Form, equal, unequal, at_least, holds, fails, differs, conjunction, disjunction, universal, existential, no_form, and_form}
use Rattle.sequent.specs.Sequent.{Member}
use Rattle.formula.specs.Form.{is_pure}
use Rattle.sequent.specs.Rules.{fits, is_shape, first_fit, suc_place, or_else, at_place, picked}
use Rattle.sequent.specs.Leaf.{is_leaf, is_open}

-- m is not the principal of this rule
abbrev Misses : ℕ → Shape → Member → Type 0
Misses limit k m = is_shape k (fits limit m) ≡ false

suc_none : (o : Option ℕ) → suc_place o ≡ None → o ≡ None
suc_none None h = refl
suc_none (Some i) h = absurd (cc)

none_step : (limit : ℕ) (k : Shape) (m : Member) (ms : List Member) (b : Bool) → is_shape k (fits limit m) ≡ b → (first_fit limit k ms ≡ None → AllByRecursion (Misses limit k) ms)
    → cond b (Some 0) (suc_place (first_fit limit k ms)) ≡ None → AllByRecursion (Misses limit k) (m ∷ ms)
none_step limit k m ms true is rest h = absurd (cc)
none_step limit k m ms false is rest h = (is, rest (suc_none (first_fit limit k ms) h))

pub none_fits : (limit : ℕ) (k : Shape) (ms : List Member) → first_fit limit k ms ≡ None → AllByRecursion (Misses limit k) ms
none_fits limit k [] h = tt
none_fits limit k (m ∷ ms) h = none_step limit k m ms (is_shape k (fits limit m)) refl (none_fits limit k ms) h

before_step : (limit : ℕ) (k : Shape) (m : Member) (ms : List Member) (i : ℕ) (b : Bool) → is_shape k (fits limit m) ≡ b
    → ((j : ℕ) → first_fit limit k ms ≡ Some j → AllByRecursion (Misses limit k) (take j ms)) → cond b (Some 0) (suc_place (first_fit limit k ms)) ≡ Some i → AllByRecursion (Misses limit k) (take i (m ∷ ms))
before_step limit k m ms zero b is rest h = tt
before_step limit k m ms (suc i) true is rest h = absurd (cc)
before_step limit k m ms (suc i) false is rest h = (is, rest i (one_less (first_fit limit k ms) i h))
  where
    one_less : (o : Option ℕ) (i : ℕ) → suc_place o ≡ Some (suc i) → o ≡ Some i
    one_less None i h = absurd (cc)
    one_less (Some j) i h = cc

pub none_before : (limit : ℕ) (k : Shape) (ms : List Member) (i : ℕ) → first_fit limit k ms ≡ Some i → AllByRecursion (Misses limit k) (take i ms)
none_before limit k [] i h = absurd (cc)
none_before limit k (m ∷ ms) i h = before_step limit k m ms i (is_shape k (fits limit m)) refl (none_before limit k ms) h

abbrev Closed : Option ℕ → Option ℕ → Option ℕ → Option ℕ → Option ℕ → Type 0
Closed a b c d g = (a ≡ None) × (b ≡ None) × (c ≡ None) × (d ≡ None) × (g ≡ None)

all_none : (a b c d g : Option ℕ) → or_else (at_place pick.Trivial a) (or_else (at_place pick.Alpha b) (or_else (at_place pick.Delta c) (or_else (at_place pick.Beta d) (or_else (at_place pick.Gamma g) pick.Close)))) ≡ pick.Close
    → Closed a b c d g
all_none None None None None None h = (refl, refl, refl, refl, refl)
all_none (Some i) b c d g h = absurd (cc)
all_none None (Some i) c d g h = absurd (cc)
all_none None None (Some i) d g h = absurd (cc)
all_none None None None (Some i) g h = absurd (cc)
all_none None None None None (Some i) h = absurd (cc)

pure_else : (k : Shape) (b : Bool) (f : Form) → is_shape k (Some k) ≡ true → is_pure f ≡ b → is_shape k (cond b None (Some k)) ≡ false → is_pure f ≡ true
pure_else k true f self is h = is
pure_else k false f self is h = absurd (clash (sym self ∙ h))
  where
    clash : true ≡ false → ⊥
    clash p = absurd (cc)

closed_gamma : (b : Bool) → not b ≡ false → b ≡ true
closed_gamma true h = refl
closed_gamma false h = absurd (cc)

leaf_at : (limit over used : ℕ) (f : Form) → Misses limit Alpha (record { formula = f; over = over; used = used }) → Misses limit Delta (record { formula = f; over = over; used = used })
    → Misses limit Beta (record { formula = f; over = over; used = used }) → is_open f ≡ false → is_leaf f ≡ true
leaf_at limit over used (equal t) a d b g = refl
leaf_at limit over used (unequal t) a d b g = refl
leaf_at limit over used (at_least t) a d b g = refl
leaf_at limit over used (holds p ts) a d b g = refl
leaf_at limit over used (fails p ts) a d b g = refl
leaf_at limit over used (differs p ts u) a d b g = refl
leaf_at limit over used (conjunction no_form) a d b g = refl
leaf_at limit over used (conjunction (and_form f fs)) a d b g = pure_else Beta (is_pure (conjunction (and_form f fs))) (conjunction (and_form f fs)) refl refl b
leaf_at limit over used (disjunction fs) a d b g = pure_else Alpha (is_pure (disjunction fs)) (disjunction fs) refl refl a
leaf_at limit over used (universal f) a d b g = pure_else Delta (is_pure (universal f)) (universal f) refl refl d
leaf_at limit over used (existential f) a d b g = closed_gamma (is_pure f) g

leaves : (limit : ℕ) (ms : List Member) → AllByRecursion (Misses limit Alpha) ms → AllByRecursion (Misses limit Delta) ms → AllByRecursion (Misses limit Beta) ms
    → AllByRecursion (λ m. is_open m.formula ≡ false) ms → AllByRecursion (λ m. is_leaf m.formula ≡ true) ms
leaves limit [] a d b g = tt
leaves limit (m ∷ ms) a d b g = (leaf_at limit m.over m.used m.formula a.0 d.0 b.0 g.0, leaves limit ms a.1 d.1 b.1 g.1)

-- a leaf that the run closes, without an `some` that is not pure, is saturated
pub saturated : (limit : ℕ) (ms : List Member) → picked limit ms ≡ pick.Close → AllByRecursion (λ m. is_open m.formula ≡ false) ms → AllByRecursion (λ m. is_leaf m.formula ≡ true) ms
saturated limit ms h g =
    let r = all_none (first_fit limit Trivial ms) (first_fit limit Alpha ms) (first_fit limit Delta ms) (first_fit limit Beta ms) (first_fit limit Gamma ms) h in
    leaves limit ms (none_fits limit Alpha ms r.1) (none_fits limit Delta ms r.2) (none_fits limit Beta ms r.3) g
