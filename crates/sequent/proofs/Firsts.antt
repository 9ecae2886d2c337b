-- The canonical pick: it applies, it is the first rule that some member fits, at its first such member.
use Rattle.std.proofs.Common.{◌≡◌, ℕ, zero, suc, Bool, true, false, cond, List, [], ◌∷◌, Option, None, Some, refl}
use Rattle.std.specs.List.{slice_get}
use Rattle.sequent.specs.declared.member.Shape.{Shape}
use Rattle.sequent.specs.declared.member.Shape.TheVariants.{Trivial, Alpha, Delta, Beta, Gamma}
use Rattle.sequent.specs.declared.member.Pick.TheVariants as pick
use Rattle.sequent.specs.Sequent.{Member, Sequent}
use Rattle.formula.specs.Form.{is_pure}
use Rattle.sequent.specs.Rules.{shape, fits, allowed, is_shape, shape_of, has_shape, applies, first_fit, suc_place, or_else, at_place, picked}

none_shape : {A : Type 0} (k : Shape) → is_shape k None ≡ true → A
none_shape Trivial h = absurd (cc)
none_shape Alpha h = absurd (cc)
none_shape Delta h = absurd (cc)
none_shape Beta h = absurd (cc)
none_shape Gamma h = absurd (cc)

-- a rule that is allowed has the member's shape
allowed_shape : (k : Shape) (pure more : Bool) (l : Option Shape) → is_shape k (allowed pure more l) ≡ true → is_shape k l ≡ true
allowed_shape k pure more None h = h
allowed_shape k pure more (Some Trivial) h = h
allowed_shape k true more (Some Alpha) h = none_shape k h
allowed_shape k false more (Some Alpha) h = h
allowed_shape k true more (Some Delta) h = none_shape k h
allowed_shape k false more (Some Delta) h = h
allowed_shape k true more (Some Beta) h = none_shape k h
allowed_shape k false more (Some Beta) h = h
allowed_shape k true more (Some Gamma) h = none_shape k h
allowed_shape k false true (Some Gamma) h = h
allowed_shape k false false (Some Gamma) h = none_shape k h

suc_some : (o : Option ℕ) (i : ℕ) → suc_place o ≡ Some (suc i) → o ≡ Some i
suc_some None i h = absurd (cc)
suc_some (Some j) i h = cc

first_step : (limit : ℕ) (k : Shape) (m : Member) (ms : List Member) (i : ℕ) (b : Bool) → is_shape k (fits limit m) ≡ b
    → ((j : ℕ) → first_fit limit k ms ≡ Some j → is_shape k (shape_of (slice_get ms j)) ≡ true)
    → cond b (Some 0) (suc_place (first_fit limit k ms)) ≡ Some i → is_shape k (shape_of (slice_get (m ∷ ms) i)) ≡ true
first_step limit k m ms zero true is rest h = allowed_shape k (is_pure m.formula) _ (shape m.formula) is
first_step limit k m ms (suc i) true is rest h = absurd (cc)
first_step limit k m ms zero false is rest h = absurd (never (first_fit limit k ms) h)
  where
    never : (o : Option ℕ) → suc_place o ≡ Some 0 → ⊥
    never None h = absurd (cc)
    never (Some j) h = absurd (cc)
first_step limit k m ms (suc i) false is rest h = rest i (suc_some (first_fit limit k ms) i h)

-- the first member that fits has the rule's shape
pub first_has : (limit : ℕ) (k : Shape) (ms : List Member) (i : ℕ) → first_fit limit k ms ≡ Some i → is_shape k (shape_of (slice_get ms i)) ≡ true
first_has limit k [] i h = absurd (cc)
first_has limit k (m ∷ ms) i h = first_step limit k m ms i (is_shape k (fits limit m)) refl (first_has limit k ms) h

rows_apply : (s : Sequent) (a b c d g : Option ℕ) → ((i : ℕ) → a ≡ Some i → has_shape s Trivial i ≡ true) → ((i : ℕ) → b ≡ Some i → has_shape s Alpha i ≡ true)
    → ((i : ℕ) → c ≡ Some i → has_shape s Delta i ≡ true) → ((i : ℕ) → d ≡ Some i → has_shape s Beta i ≡ true) → ((i : ℕ) → g ≡ Some i → has_shape s Gamma i ≡ true)
    → applies s (or_else (at_place pick.Trivial a) (or_else (at_place pick.Alpha b) (or_else (at_place pick.Delta c) (or_else (at_place pick.Beta d) (or_else (at_place pick.Gamma g) pick.Close))))) ≡ true
rows_apply s (Some i) b c d g p q r t u = p i refl
rows_apply s None (Some i) c d g p q r t u = q i refl
rows_apply s None None (Some i) d g p q r t u = r i refl
rows_apply s None None None (Some i) g p q r t u = t i refl
rows_apply s None None None None (Some i) p q r t u = u i refl
rows_apply s None None None None None p q r t u = refl

-- the canonical pick applies
pub picked_applies : (limit : ℕ) (s : Sequent) → applies s (picked limit s.members) ≡ true
picked_applies limit s =
    rows_apply s (first_fit limit Trivial s.members) (first_fit limit Alpha s.members) (first_fit limit Delta s.members) (first_fit limit Beta s.members) (first_fit limit Gamma s.members)
    (first_has limit Trivial s.members) (first_has limit Alpha s.members) (first_has limit Delta s.members) (first_has limit Beta s.members) (first_has limit Gamma s.members)
