-- Terms compared one by one.
use Rattle.std.proofs.Common.{◌≡◌, ◌≢◌, ℕ, ℤ, pos, Bool, true, false, List, length, Option, Some, None, refl, sym, ap, ◌∙◌}
use Rattle.std.specs.Borrow.{Bor}
use Rattle.std.specs.List.{slice_get}
use Rattle.std.specs.Option.{option_copied}
use Rattle.std.specs.Ordering.{is_eq, ordering_reverse}
use Rattle.std.specs.declared.cmp.Ordering.{Ordering}
use Rattle.std.specs.declared.cmp.Ordering.TheVariants.{Less, Equal, Greater}
use Rattle.linear_term.specs.Linear.{Linear, name}
use Rattle.linear_term.specs.Order.{linear_cmp}
use Rattle.linear_term.proofs.Orders.{linear_cmp-total}
use Rattle.clause_proof.specs.Atoms.{same_term, same_terms}
use Rattle.clause_proof.proofs.Equality.{same_term_is}

-- what is left to compare says what all does
pub record AlikeLeft (ss ts : List Linear) (all : Bool) : Type 0 where
  pub is : all ≡ same_terms ss ts
  pub long : length ss ≡ length ts

pub alike_begins : (ss ts : List Linear) → length ss ≡ length ts → AlikeLeft ss ts (same_terms ss ts)
alike_begins ss ts h = record { is = refl; long = h }

pub ruleset alike = (alike_begins)

-- ---- a term that is a name
self_equal : (o : Ordering) → o ≡ ordering_reverse o → is_eq o ≡ true
self_equal Less h = absurd (cc)
self_equal Equal h = refl
self_equal Greater h = absurd (cc)

self_same : (t : Linear) → same_term t t ≡ true
self_same t = self_equal (linear_cmp t t) (linear_cmp-total.antisymm t t)

-- what is not the name is not the same
not_name : (t : Linear) (n : ℕ) (b : Bool) → b ≡ same_term t (name n) → (t ≡ name n → ⊥) → false ≡ b
not_name t n true h never = absurd (never (same_term_is t (name n) (sym h)))
not_name t n false h never = refl

pub differs_name : (t : Linear) (n : ℕ) → (t ≡ name n → ⊥) → false ≡ same_term t (name n)
differs_name t n never = not_name t n (same_term t (name n)) refl never

pub name_none : (t : Linear) (n : ℕ) (o : Option (Bor (ℕ × ℤ))) → option_copied o ≡ slice_get t.pairs 0 → o ≡ None → false ≡ same_term t (name n)
name_none t n o is at = differs_name t n (λ h. let first : Some (n, pos 1) ≡ None = sym (ap (λ s. slice_get s.pairs 0) h) ∙ sym is ∙ ap option_copied at in absurd (cc))

first_is : (t : Linear) (n : ℕ) (o : Option (Bor (ℕ × ℤ))) (p : Bor (ℕ × ℤ)) → option_copied o ≡ slice_get t.pairs 0 → o ≡ Some p → t ≡ name n → p.now ≡ (n, pos 1)
first_is t n o p is at h = let both : Some p.now ≡ Some (n, pos 1) = sym (ap option_copied at) ∙ is ∙ ap (λ s. slice_get s.pairs 0) h in cc

pub name_other : (t : Linear) (n : ℕ) (o : Option (Bor (ℕ × ℤ))) (p : Bor (ℕ × ℤ)) → option_copied o ≡ slice_get t.pairs 0 → o ≡ Some p → p.now.0 ≢ n → false ≡ same_term t (name n)
name_other t n o p is at never = differs_name t n (λ h. absurd (never (ap (λ q. q.0) (first_is t n o p is at h))))

pub name_same : (t : Linear) (n x : ℕ) (b : Bool) → x ≡ n → b ≡ same_term t (name x) → b ≡ same_term t (name n)
name_same t n x b is h = h ∙ ap (λ y. same_term t (name y)) is

pub ruleset names = (name_none, name_other, name_same)
