-- Pairs: where the arguments of two applications of one symbol are equal, so are their values.
use Rattle.std.proofs.Common.{◌≡◌, ℕ, suc, ℤ, pos, negsuc, Bool, true, false, ◌&&◌, nat_eq, List, [], ◌∷◌, length, map, Some, refl, sym, ap, ◌∙◌, subst, arith}
use Rattle.std.specs.List.{AllByRecursion, slice_get}
use Rattle.std.proofs.lemmas.Int.{ints}
use Rattle.std.proofs.lemmas.Bool.{and_parts}
use Rattle.linear_term.specs.Linear.{Linear, value_of, name, IsOver}
use Rattle.linear_term.specs.Combination.{combination}
use Rattle.linear_term.proofs.Totals.{value_of-combination, by_test}
use Rattle.linear_term.proofs.Names.{combination-over}
use Rattle.form_typed.specs.Truth.{Meaning}
use Rattle.formula.specs.Form.{equal, values_of}
use Rattle.formula.proofs.Stability.{form_stable}
use Rattle.formula.proofs.Extending.{over_name}
use Rattle.pred_unify.proofs.Clashes.{same_number}
use Rattle.sequent.proofs.Members.{all_at}
use Rattle.clause_proof.specs.declared.line.Application.{Application}
use Rattle.clause_proof.specs.declared.line.Literal.{Literal}
use Rattle.clause_proof.specs.Clauses.{Definition, always, at_least_zero, is_zero, predicate, closure, IsApplicationTrue, State, AreLiteralsFalse, ClauseTruth, IsDefinitionOver, IsApplicationOver, IsFormedState}
use Rattle.clause_proof.specs.Atoms.{equation_literal}
use Rattle.clause_proof.specs.Lines.{positive, negative, opposite, differences, equations, adding, paired, predicates_paired}
use Rattle.clause_proof.proofs.Canonical.{both, IsSignedOver, equation_means, equation_over}
use Rattle.clause_proof.proofs.Keeping.{Grows, AreStanding, literal_is, opposite_is, Adds, adds_plain}
use Rattle.clause_proof.proofs.Opening.{old_false, old_true}

difference_zero : (e : List ℤ) (s t : Linear) → value_of (combination (pos 1) s (negsuc 0) t) e ≡ pos 0 → value_of s e ≡ value_of t e
difference_zero e s t h = omega (arith, ints, value_of-combination (pos 1) (negsuc 0) s t e, h)

zero_difference : (e : List ℤ) (s t : Linear) → value_of s e ≡ value_of t e → value_of (combination (pos 1) s (negsuc 0) t) e ≡ pos 0
zero_difference e s t h = omega (arith, ints, value_of-combination (pos 1) (negsuc 0) s t e, h)

-- where the equations are not false, the arguments are equal
arguments_equal : (w : Meaning) (e : List ℤ) (ds : List Definition) (ss ts : List Linear) (es : List Literal) → length ss ≡ length ts → AreStanding ds (equations ss ts) es
    → AreLiteralsFalse w e ds (map opposite es) → values_of ss e ≡ values_of ts e
arguments_equal w e ds [] [] es len st none = refl
arguments_equal w e ds [] (t ∷ ts) es len st none = absurd (omega (arith, len))
arguments_equal w e ds (s ∷ ss) [] es len st none = absurd (omega (arith, len))
arguments_equal w e ds (s ∷ ss) (t ∷ ts) [] len st none = absurd st
arguments_equal w e ds (s ∷ ss) (t ∷ ts) (m ∷ es) len st none =
    let d = combination (pos 1) s (negsuc 0) t in
    let zero_is : value_of d e ≡ pos 0 = form_stable w (equal d) e (λ k. none.0 ((opposite_is w e ds (equation_literal d) m st.0 (equation_means w d e)).back k)) in
    let first = difference_zero e s t zero_is in
    let more = arguments_equal w e ds ss ts es (omega (arith, len)) st.1 none.1 in
    λ i. first i ∷ more i

equations_over : (n : ℕ) (ss ts : List Linear) → AllByRecursion (IsOver n) ss → AllByRecursion (IsOver n) ts → AllByRecursion (IsSignedOver n) (equations ss ts)
equations_over n [] ts h k = tt
equations_over n (s ∷ ss) [] h k = tt
equations_over n (s ∷ ss) (t ∷ ts) h k =
    (equation_over n (combination (pos 1) s (negsuc 0) t) (combination-over n (pos 1) (negsuc 0) s t h.0 k.0), equations_over n ss ts h.1 k.1)

pub pair_gives : (w : Meaning) (s : State) (a b : ℕ) (es : List Literal) (r : Literal) (x y : Application) → IsFormedState s → slice_get s.applications a ≡ Some x → slice_get s.applications b ≡ Some y
    → Adds w s (paired s es r x y)
pair_gives w s a b es r x y formed xa yb =
    let xo = all_at (IsApplicationOver s.count) s.applications a x xa formed.applications in
    let yo = all_at (IsApplicationOver s.count) s.applications b y yb formed.applications in
    let d = combination (pos 1) (name x.constant) (negsuc 0) (name y.constant) in
    by_test (Adds w s) (nat_eq x.function y.function && nat_eq (length x.terms) (length y.terms)) _ _
    (λ test.
    let two = and_parts (nat_eq x.function y.function) (nat_eq (length x.terms) (length y.terms)) test in
    adds_plain w s (equation_literal d ∷ equations x.terms y.terms) (r ∷ es) ((r ∷ map opposite es) ∷ []) formed (
      equation_over s.count d (combination-over s.count (pos 1) (negsuc 0) (name x.constant) (name y.constant) (over_name s.count x.constant xo.constant) (over_name s.count y.constant yo.constant)),
      equations_over s.count x.terms y.terms xo.terms yo.terms,
    )
    (λ ds g st e len t. (
      (λ none.
          let args : values_of x.terms e ≡ values_of y.terms e = arguments_equal w e ds x.terms y.terms es (same_number (length x.terms) (length y.terms) two.1) st.1 none.1 in
          let xt = all_at (IsApplicationTrue w e) s.applications a x xa t.applications in
          let yt = all_at (IsApplicationTrue w e) s.applications b y yb t.applications in
          let whole : w.value x.function (values_of x.terms e) ≡ w.value y.function (values_of y.terms e) = λ i. w.value (same_number x.function y.function two.0 i) (args i) in
          none.0 ((both (literal_is w e ds (equation_literal d) r st.0) (equation_means w d e)).back (zero_difference e (name x.constant) (name y.constant) (sym xt ∙ whole ∙ yt)))),
      tt,
    )))
    (λ miss. tt)

pub predicates_give : (w : Meaning) (s : State) (i j : ℕ) (es : List Literal) (c d : Definition) → IsFormedState s → slice_get s.definitions i ≡ Some c → slice_get s.definitions j ≡ Some d
    → Adds w s (predicates_paired s i j es c d)
predicates_give w s i j es (predicate p ss) (predicate q ts) formed ci dj =
    by_test (Adds w s) (nat_eq p q && nat_eq (length ss) (length ts)) _ _
    (λ test.
    let two = and_parts (nat_eq p q) (nat_eq (length ss) (length ts)) test in
    adds_plain w s (equations ss ts) es ((negative i ∷ positive j ∷ map opposite es) ∷ []) formed
    (equations_over s.count ss ts (all_at (IsDefinitionOver s.count) s.definitions i (predicate p ss) ci formed.definitions) (all_at (IsDefinitionOver s.count) s.definitions j (predicate q ts) dj formed.definitions))
    (λ ds g st e len t. (
      (λ none.
          let args : values_of ss e ≡ values_of ts e = arguments_equal w e ds ss ts es (same_number (length ss) (length ts) two.1) st none.1.1 in
          let whole : w.truth p (values_of ss e) ≡ w.truth q (values_of ts e) = λ k. w.truth (same_number p q two.0 k) (args k) in
          old_true w e s.definitions ds i (predicate p ss) g ci none.0 (λ t. old_false w e s.definitions ds j (predicate q ts) g dj none.1.0 (sym whole ∙ t))),
      tt,
    )))
    (λ miss. tt)
predicates_give w s i j es (predicate p ss) always formed ci dj = tt
predicates_give w s i j es (predicate p ss) (at_least_zero t) formed ci dj = tt
predicates_give w s i j es (predicate p ss) (is_zero t) formed ci dj = tt
predicates_give w s i j es (predicate p ss) (closure f ts) formed ci dj = tt
predicates_give w s i j es always d formed ci dj = tt
predicates_give w s i j es (at_least_zero t) d formed ci dj = tt
predicates_give w s i j es (is_zero t) d formed ci dj = tt
predicates_give w s i j es (closure f ts) d formed ci dj = tt
