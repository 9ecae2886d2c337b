-- Which rule comes first, by the places of the literals of each kind.
use Rattle.std.proofs.Common.{◌≡◌, ℕ, ◌+◌, Bool, true, false, cond, List, drop, Some, None, refl}
use Rattle.std.specs.Prelude.{position}
use Rattle.std.specs.Cmp.{first_so}
use Rattle.base_budget.specs.declared.log.Entry.{Entry}
use Rattle.base_budget.specs.declared.log.Entry.TheVariants as entry
use Rattle.clause_set.specs.declared.literal.Literal.{Literal}
use Rattle.clause_set.specs.Names.{is_divisibility, is_indivisibility}
use Rattle.clause_set.specs.Rules.{applies, first_rule, is_least_equation, is_bounded, is_one_sided, is_two_sided, is_exact}
use Rattle.omega_elim.specs.Projection.{bounds_entry}
use Rattle.omega_elim.proofs.Choice.{first_bounds}
use Rattle.elim_laws.proofs.First.{first_is_rule}

-- ---- the rule
module _ (x : ℕ) (c : List Literal) where
  pub first_equation : (i : ℕ) → position (is_least_equation x c) c ≡ Some i → first_rule x c ≡ Some (entry.Equation i)
  unfolding first_rule
  first_equation i h = rw h refl

  pub first_apart : (i : ℕ) → position (is_least_equation x c) c ≡ None → position (is_indivisibility x) c ≡ Some i → first_rule x c ≡ Some (entry.Apart i)
  unfolding first_rule
  first_apart i none h = rw none (rw h refl)

  pub first_pair : (i j : ℕ) → position (is_least_equation x c) c ≡ None → position (is_indivisibility x) c ≡ None → position (is_divisibility x) c ≡ Some i
      → position (is_divisibility x) (drop (i + 1) c) ≡ Some j → first_rule x c ≡ Some (entry.Merge i (i + 1 + j))
  unfolding first_rule
  first_pair i j none other h k = rw none (rw other (rw h (rw k refl)))

  pub first_only : (i : ℕ) → position (is_least_equation x c) c ≡ None → position (is_indivisibility x) c ≡ None → position (is_divisibility x) c ≡ Some i
      → position (is_divisibility x) (drop (i + 1) c) ≡ None → first_rule x c ≡ Some (entry.Shift i)
  unfolding first_rule
  first_only i none other h k = rw none (rw other (rw h (rw k refl)))

  pub first_nothing : position (is_least_equation x c) c ≡ None → position (is_indivisibility x) c ≡ None → position (is_divisibility x) c ≡ None
      → is_bounded x c ≡ false → first_rule x c ≡ None
  unfolding first_rule
  first_nothing none other h k = rw none (rw other (rw h (rw k refl)))

  -- bounds come first only where there are bounds alone
  pub bounds_first : first_rule x c ≡ Some (bounds_entry x c) → is_bounded x c ≡ true
  unfolding applies
  bounds_first h = by (is_one_sided x c) (is_exact x c) (first_is_rule x c (bounds_entry x c) h).applies
    where
      by : (o e : Bool) → applies x c (cond o entry.OneSided (cond e entry.Exact entry.Dark)) ≡ true → is_bounded x c ≡ true
      by true e h = first_so (is_bounded x c) _ h
      by false true h = first_so (is_bounded x c) _ (first_so (is_two_sided x c) _ h)
      by false false h = first_so (is_bounded x c) _ h

pub applies_first : (x : ℕ) (c : List Literal) (e : Entry) → first_rule x c ≡ Some e → applies x c e ≡ true
applies_first x c e h = (first_is_rule x c e h).applies

pub ruleset choices = (first_equation, first_apart, first_pair, first_only, first_nothing, first_bounds)

pub ruleset chosen = (applies_first, bounds_first)
