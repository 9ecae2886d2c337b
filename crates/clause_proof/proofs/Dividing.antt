-- The quotient of a term as a new constant.
use Rattle.std.proofs.Common.{◌≡◌, ℕ, suc, ◌+ℤ◌, ◌*ℤ◌, ◌≤ℤ◌, ◌<ℤ◌, int_lt, neg_ℤ, ℤ, pos, negsuc, true, ◌&&◌, List, [], ◌∷◌, ◌++◌, length, sym, ap, ◌∙◌, subst, arith}
use Rattle.std.specs.Int.{int_div_euclid}
use Rattle.std.specs.List.{AllByRecursion}
use Rattle.std.proofs.lemmas.Int.{ints}
use Rattle.std.proofs.lemmas.Bool.{and_parts}
use Rattle.base_integers.proofs.Floors.{floor-is}
use Rattle.base_integers.proofs.Ring.{neg-mul}
use lib.IntN.{*ℤ_comm}
use Rattle.linear_term.specs.Linear.{Linear, value_of, name, number, IsOver}
use Rattle.linear_term.proofs.Totals.{value_of-combination, value_of-name, value_of-number, by_test}
use Rattle.linear_term.proofs.Names.{combination-over}
use Rattle.form_typed.specs.Truth.{Meaning}
use Rattle.formula.proofs.Extending.{value_extends, extends_more, entry_last, over_more, over_name, over_number}
use Rattle.clause_proof.specs.declared.line.Literal.{Literal}
use Rattle.clause_proof.specs.Clauses.{State, IsFormedState}
use Rattle.clause_proof.specs.Atoms.{inequality_literal}
use Rattle.clause_proof.specs.Lines.{adding, is_over, rest_of, below_divisor, divided}
use Rattle.clause_proof.proofs.Canonical.{both, inequality_means, inequality_over}
use Rattle.clause_proof.proofs.Over.{over_is}
use Rattle.clause_proof.proofs.Keeping.{all_kept, literal_is, Keeps, Adds, adds_all}

rest_over : (n : ℕ) (t : Linear) (d : ℤ) → IsOver n t → IsOver (suc n) (rest_of t d n)
rest_over n t d h = combination-over (suc n) (pos 1) (neg_ℤ d) t (name n) (over_more n (suc n) t (omega arith) h) (over_name (suc n) n (omega arith))

below_over : (n : ℕ) (u : Linear) (d : ℤ) → IsOver n u → IsOver n (below_divisor u d)
below_over n u d h = combination-over n (negsuc 0) (pos 1) u (number (d +ℤ negsuc 0)) h (over_number n (d +ℤ negsuc 0))

divided_keeps : (w : Meaning) (s : State) (d : ℤ) (t : Linear) (g h : Literal) → pos 0 <ℤ d → IsOver s.count t
    → Keeps w s (adding (inequality_literal (rest_of t d s.count) ∷ inequality_literal (below_divisor (rest_of t d s.count) d) ∷ []) (g ∷ h ∷ []) ((g ∷ []) ∷ (h ∷ []) ∷ []) (suc s.count))
divided_keeps w s d t g h some t_over ds grows st e len all absent =
    let a : ℤ = value_of t e in
    let v : ℤ = int_div_euclid a d in
    let e' : List ℤ = e ++ v ∷ [] in
    let u : Linear = rest_of t d s.count in
    let at_new : value_of (name s.count) e' ≡ v = value_of-name s.count e' ∙ entry_last s.count e v len in
    let at_old : value_of t e' ≡ a = value_extends s.count (suc s.count) e e' t (extends_more s.count e v len) t_over in
    let times_new : neg_ℤ d *ℤ value_of (name s.count) e' ≡ neg_ℤ d *ℤ v = ap (λ z. neg_ℤ d *ℤ z) at_new in
    let low : value_of u e' ≡ pos 1 *ℤ a +ℤ neg_ℤ d *ℤ v = value_of-combination (pos 1) (neg_ℤ d) t (name s.count) e' ∙ (λ i. pos 1 *ℤ at_old i +ℤ times_new i) in
    let is = floor-is a d some in
    let turn : neg_ℤ d *ℤ v ≡ neg_ℤ (v *ℤ d) = neg-mul d v ∙ ap neg_ℤ (*ℤ_comm d v) in
    let above_zero : pos 0 ≤ℤ value_of u e' = omega (arith, ints, low, turn, is.below) in
    let below_d : pos 0 ≤ℤ value_of (below_divisor u d) e'
    = omega (arith, ints, low, turn, is.greatest, value_of-combination (negsuc 0) (pos 1) u (number (d +ℤ negsuc 0)) e', value_of-number (d +ℤ negsuc 0) e') in
    absent e' (extends_more s.count e v len) (all_kept w e' ds ((g ∷ []) ∷ (h ∷ []) ∷ []) (
      (λ none. none.0 ((both (literal_is w e' ds (inequality_literal u) g st.0) (inequality_means w u e')).back above_zero)),
      ((λ none. none.0 ((both (literal_is w e' ds (inequality_literal (below_divisor u d)) h st.1.0) (inequality_means w (below_divisor u d) e')).back below_d)), tt),
    )) tt

positive_is : (d : ℤ) → int_lt (pos 0) d ≡ true → pos 0 <ℤ d
positive_is d h = grind (arith, ints)

pub divide_gives : (w : Meaning) (s : State) (d : ℤ) (t : Linear) (g h : Literal) → IsFormedState s → Adds w s (divided s d t g h)
divide_gives w s d t g h formed =
    let u = rest_of t d s.count in
    by_test (Adds w s) (int_lt (pos 0) d && is_over s.count t) _ _
    (λ test.
    let two = and_parts (int_lt (pos 0) d) (is_over s.count t) test in
    let t_over = over_is s.count t two.1 in
    adds_all w s (adding (inequality_literal u ∷ inequality_literal (below_divisor u d) ∷ []) (g ∷ h ∷ []) ((g ∷ []) ∷ (h ∷ []) ∷ []) (suc s.count)) formed (omega arith)
    (inequality_over (suc s.count) u (rest_over s.count t d t_over), (inequality_over (suc s.count) (below_divisor u d) (below_over (suc s.count) u d (rest_over s.count t d t_over)), tt)) tt
    (divided_keeps w s d t g h (positive_is d two.0) t_over))
    (λ miss. tt)
