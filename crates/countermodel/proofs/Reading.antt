-- The value at a place of a list.
use Rattle.std.proofs.Common.{◌≡◌, ℕ, zero, suc, ℤ, pos, List, [], ◌∷◌, Some, None, refl, subst}
use Rattle.std.specs.List.{AllByRecursion, slice_get}
use Rattle.base_integers.specs.Entry.{entry}
use Rattle.linear_term.specs.Range.{InRange}

pub entry_there : (e : List ℤ) (x : ℕ) (v : ℤ) → slice_get e x ≡ Some v → v ≡ entry e x
entry_there [] x v h = absurd (cc)
entry_there (u ∷ e) zero v h = cc
entry_there (u ∷ e) (suc x) v h = entry_there e x v h

pub entry_none : (e : List ℤ) (x : ℕ) → slice_get e x ≡ None → pos 0 ≡ entry e x
entry_none [] x h = refl
entry_none (u ∷ e) zero h = absurd (cc)
entry_none (u ∷ e) (suc x) h = entry_none e x h

pub there_range : (e : List ℤ) (x : ℕ) (v : ℤ) → AllByRecursion InRange e → slice_get e x ≡ Some v → InRange v
there_range [] x v a h = absurd (cc)
there_range (u ∷ e) zero v a h = let same : u ≡ v = cc in subst InRange same a.0
there_range (u ∷ e) (suc x) v a h = there_range e x v a.1 h
