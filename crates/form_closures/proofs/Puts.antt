-- Terms for names, one more each time.
use Rattle.std.proofs.Common.{◌≡◌, ℕ, zero, suc, ◌+◌, ◌<◌, ◌≤◌, ℤ, pos, List, [], ◌∷◌, length, drop, get_or, Option, Some, None, refl, sym, ap, ◌∙◌, subst, arith}
use Rattle.std.specs.Borrow.{Bor}
use Rattle.std.specs.List.{slice_get}
use Rattle.std.specs.Option.{option_copied}
use Rattle.base_budget.proofs.Charging.{drop-item, drop_all}
use Rattle.linear_term.specs.Linear.{Linear, number}
use Rattle.linear_term.specs.Combination.{combination}
use Rattle.form_closures.specs.Putting.{term_at, put_from, put_in}

found_term : (ts : List Linear) (x : ℕ) (t : Linear) → slice_get ts x ≡ Some t → t ≡ term_at ts x
found_term [] x t h = absurd (cc)
found_term (u ∷ ts) zero t h = let same : u ≡ t = cc in sym same
found_term (u ∷ ts) (suc x) t h = found_term ts x t h

no_term : (ts : List Linear) (x : ℕ) → slice_get ts x ≡ None → number (pos 0) ≡ term_at ts x
no_term [] x h = refl
no_term (u ∷ ts) zero h = absurd (cc)
no_term (u ∷ ts) (suc x) h = no_term ts x h

pub put_found : (ts : List Linear) (u r : Linear) (x : ℕ) (k : ℤ) (o : Option (Bor Linear)) (t : Bor Linear) → option_copied o ≡ slice_get ts x → o ≡ Some t
    → r ≡ combination (pos 1) u k t.now → r ≡ combination (pos 1) u k (term_at ts x)
put_found ts u r x k o t is at h = h ∙ ap (combination (pos 1) u k) (found_term ts x t.now (sym is ∙ ap option_copied at))

pub put_none : (ts : List Linear) (u r : Linear) (x : ℕ) (k : ℤ) (o : Option (Bor Linear)) → option_copied o ≡ slice_get ts x → o ≡ None
    → r ≡ combination (pos 1) u k (number (pos 0)) → r ≡ combination (pos 1) u k (term_at ts x)
put_none ts u r x k o is at h = h ∙ ap (combination (pos 1) u k) (no_term ts x (sym is ∙ ap option_copied at))

pub ruleset terms = (put_found, put_none)

-- what is left to put in gives all
pub record PutLeft (ts : List Linear) (ps : List (ℕ × ℤ)) (u all : Linear) : Type 0 where
  pub is : all ≡ put_from ts ps u

pub put_begins : (ts : List Linear) (t u : Linear) (ps : List (ℕ × ℤ)) → ps ≡ t.pairs → u ≡ number t.constant → PutLeft ts ps u (put_in ts t)
put_begins ts t u ps is h = record { is = λ i. put_from ts (sym is i) (sym h i) }

pub put_goes : (ts : List Linear) (ps : List (ℕ × ℤ)) (u v all : Linear) (i : ℕ) (p : ℕ × ℤ) → i < length ps → p ≡ get_or ps i p → PutLeft ts (drop i ps) u all
    → v ≡ combination (pos 1) u p.1 (term_at ts p.0) → PutLeft ts (drop (i + 1) ps) v all
put_goes ts ps u v all i p lt is h made =
    record { is = h.is ∙ ap (λ l. put_from ts l u) (drop-item ps i p lt is) ∙ ap (put_from ts (drop (i + 1) ps)) (sym made) }

pub put_ends : (ts : List Linear) (ps : List (ℕ × ℤ)) (u all : Linear) (i : ℕ) → length ps ≤ i → PutLeft ts (drop i ps) u all → u ≡ all
put_ends ts ps u all i le h = sym (h.is ∙ ap (λ l. put_from ts l u) (drop_all ps i le))

pub ruleset puts = (put_begins, put_goes, put_ends)
