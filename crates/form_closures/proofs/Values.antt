-- Terms for names: the value of a term with terms put in is its value at their values.
use Rattle.std.proofs.Common.{◌≡◌, ℕ, zero, suc, ◌<◌, ℤ, pos, ◌+ℤ◌, ◌*ℤ◌, List, [], ◌∷◌, map, All, refl, sym, ap, ◌∙◌, subst, arith}
use Rattle.std.specs.List.{AllByRecursion}
use Rattle.std.proofs.lemmas.Int.{ints}
use Rattle.base_integers.specs.Entry.{entry}
use Rattle.linear_term.specs.Linear.{Linear, value_of, total, value_at, number, IsOver}
use Rattle.linear_term.specs.Combination.{combination}
use Rattle.linear_term.proofs.Totals.{value_of-combination, value_of-number}
use Rattle.linear_term.proofs.Names.{combination-over}
use Rattle.formula.specs.Form.{values_of}
use Rattle.formula.proofs.Extending.{over_number}
use Rattle.form_closures.specs.Putting.{term_at, put_from, put_in}

term_value : (ts : List Linear) (x : ℕ) (e : List ℤ) → value_of (term_at ts x) e ≡ entry (values_of ts e) x
term_value [] x e = value_of-number (pos 0) e
term_value (t ∷ ts) zero e = refl
term_value (t ∷ ts) (suc x) e = term_value ts x e

from_value : (ts : List Linear) (ps : List (ℕ × ℤ)) (u : Linear) (e : List ℤ) → value_of (put_from ts ps u) e ≡ total (value_at (values_of ts e)) ps +ℤ value_of u e
from_value ts [] u e = omega (arith, ints)
from_value ts (p ∷ ps) u e =
    let at : p.1 *ℤ value_of (term_at ts p.0) e ≡ p.1 *ℤ entry (values_of ts e) p.0 = ap (λ z. p.1 *ℤ z) (term_value ts p.0 e) in
    omega (arith, ints, from_value ts ps (combination (pos 1) u p.1 (term_at ts p.0)) e, value_of-combination (pos 1) p.1 u (term_at ts p.0) e, at)

pub put_value : (ts : List Linear) (t : Linear) (e : List ℤ) → value_of (put_in ts t) e ≡ value_of t (values_of ts e)
unfolding value_of
put_value ts t e = from_value ts t.pairs (number t.constant) e ∙ ap (λ z. total (value_at (values_of ts e)) t.pairs +ℤ z) (value_of-number t.constant e)

pub put_values : (ts us : List Linear) (e : List ℤ) → values_of (map (put_in ts) us) e ≡ values_of us (values_of ts e)
put_values ts [] e = refl
put_values ts (u ∷ us) e = λ i. put_value ts u e i ∷ put_values ts us e i

-- ---- their names
term_over : (n : ℕ) (ts : List Linear) (x : ℕ) → AllByRecursion (IsOver n) ts → IsOver n (term_at ts x)
term_over n [] x h = over_number n (pos 0)
term_over n (t ∷ ts) zero h = h.0
term_over n (t ∷ ts) (suc x) h = term_over n ts x h.1

from_over : (n : ℕ) (ts : List Linear) (ps : List (ℕ × ℤ)) (u : Linear) → AllByRecursion (IsOver n) ts → IsOver n u → IsOver n (put_from ts ps u)
from_over n ts [] u h k = k
from_over n ts (p ∷ ps) u h k = from_over n ts ps (combination (pos 1) u p.1 (term_at ts p.0)) h (combination-over n (pos 1) p.1 u (term_at ts p.0) k (term_over n ts p.0 h))

pub put_over : (n : ℕ) (ts : List Linear) (t : Linear) → AllByRecursion (IsOver n) ts → IsOver n (put_in ts t)
put_over n ts t h = from_over n ts t.pairs (number t.constant) h (over_number n t.constant)

pub puts_over : (n : ℕ) (ts us : List Linear) → AllByRecursion (IsOver n) ts → AllByRecursion (IsOver n) (map (put_in ts) us)
puts_over n ts [] h = tt
puts_over n ts (u ∷ us) h = (put_over n ts u h, puts_over n ts us h)
