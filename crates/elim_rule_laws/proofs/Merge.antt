-- Two divisibilities with x become one with x and one without it.
use Rattle.std.proofs.Common.{◌≡◌, ◌<◌, ℕ, zero, suc, ℤ, pos, neg_ℤ, ◌+ℤ◌, ◌-ℤ◌, ◌*ℤ◌, ◌<ℤ◌, unsigned_abs, Bool, true, false, ◌&&◌, List, [], ◌∷◌, Some, refl, sym, ◌∙◌, ap, subst, arith}
use Rattle.std.specs.Prelude.{remove, slice_get, ◌↔◌}
use Rattle.std.proofs.lemmas.Int.{ints}
use Rattle.std.proofs.lemmas.Bool.Decides.{same_from_decides, Decides-and}
use Rattle.base_integers.specs.Divides.{Divides, divides}
use Rattle.base_integers.specs.Entry.{entry}
use Rattle.base_integers.proofs.Ring.{add-mul, mul-add, mul_assoc, neg-mul, left_comm}
use Rattle.base_integers.proofs.Order.{mul_lt_right}
use Rattle.base_integers.proofs.Divisor.{gcd-divides_left, gcd-divides_right, gcd-positive}
use Rattle.linear_term.specs.Linear.{Linear, value_of, coef_of, without, name}
use Rattle.linear_term.proofs.Names.{value_of-without}
use Rattle.linear_term.proofs.Totals.{value_of-combination, value_of-name}
use Rattle.clause_set.specs.declared.literal.Literal.{Literal}
use Rattle.clause_set.specs.declared.literal.Literal.TheVariants.{Div}
use Rattle.clause_set.specs.Literals.{literal_truth, clause_truth}
use Rattle.clause_set.specs.Bezout.{Bezout, bezout}
use Rattle.clause_set.specs.Divisibilities.{with_name}
use Rattle.clause_set.proofs.NormalTruth.{divides_decides}
use Rattle.elim_rule_laws.specs.Divisions.{IsBezout}
use Rattle.elim_rule_laws.specs.EquationResults.{merged_term, crossed_term, merged_with}
use Rattle.elim_rule_laws.proofs.Bezouts.{bezout-is}
use Rattle.elim_rule_laws.proofs.EquationLists.{all-apart}
use Rattle.elim_rule_laws.proofs.Dividing.{merged-product, merged-difference, merged-back}

pub get-removed : {X : Type 0} (xs : List X) (i j : ℕ) → i < j → slice_get (remove xs j) i ≡ slice_get xs i
get-removed xs i zero lt = absurd (omega arith)
get-removed [] i (suc j) lt = refl
get-removed (x ∷ xs) zero (suc j) lt = refl
get-removed (x ∷ xs) (suc i) (suc j) lt = get-removed xs i j (omega arith)

pub with_name-value : (x : ℕ) (k : ℤ) (t : Linear) (e : List ℤ) → value_of (with_name x k t) e ≡ value_of t e +ℤ (k *ℤ entry e x)
with_name-value x k t e =
    value_of-combination (pos 1) k t (name x) e ∙ ap (λ z. (pos 1 *ℤ value_of t e) +ℤ (k *ℤ z)) (value_of-name x e) ∙ omega (arith, ints)

sum-is : (p q d1 d2 a1 a2 v t1 t2 g : ℤ) → g ≡ (p *ℤ (a1 *ℤ d2)) +ℤ (q *ℤ (a2 *ℤ d1))
    → (((p *ℤ d2) *ℤ t1) +ℤ ((q *ℤ d1) *ℤ t2)) +ℤ (g *ℤ v) ≡ (p *ℤ (d2 *ℤ ((a1 *ℤ v) +ℤ t1))) +ℤ (q *ℤ (d1 *ℤ ((a2 *ℤ v) +ℤ t2)))
sum-is p q d1 d2 a1 a2 v t1 t2 g sum =
    let part : (p d a z t : ℤ) → p *ℤ (d *ℤ ((a *ℤ z) +ℤ t)) ≡ ((p *ℤ (a *ℤ d)) *ℤ z) +ℤ ((p *ℤ d) *ℤ t) =
    (λ p d a z t. ap (λ k. p *ℤ k) (mul-add d (a *ℤ z) t) ∙ mul-add p (d *ℤ (a *ℤ z)) (d *ℤ t)
    ∙ ap (λ k. (p *ℤ k) +ℤ (p *ℤ (d *ℤ t))) (left_comm d a z ∙ sym (mul_assoc a d z))
    ∙ ap (λ k. k +ℤ (p *ℤ (d *ℤ t))) (sym (mul_assoc p (a *ℤ d) z)) ∙ ap (λ k. ((p *ℤ (a *ℤ d)) *ℤ z) +ℤ k) (sym (mul_assoc p d t))) in
    omega (arith, ints, part p d2 a1 v t1, part q d1 a2 v t2, add-mul (p *ℤ (a1 *ℤ d2)) (q *ℤ (a2 *ℤ d1)) v, ap (λ k. k *ℤ v) sum)

difference-is : (a1 a2 v t1 t2 : ℤ) → (a2 *ℤ t1) +ℤ (neg_ℤ a1 *ℤ t2) ≡ (a2 *ℤ ((a1 *ℤ v) +ℤ t1)) -ℤ (a1 *ℤ ((a2 *ℤ v) +ℤ t2))
difference-is a1 a2 v t1 t2 =
    omega (arith, ints, mul-add a2 (a1 *ℤ v) t1, mul-add a1 (a2 *ℤ v) t2, left_comm a1 a2 v, neg-mul a1 t2)

merged-value : (x : ℕ) (z : Bezout) (d1 d2 : ℤ) (t u : Linear) (e : List ℤ) → z.g ≡ (z.p *ℤ (coef_of t x *ℤ d2)) +ℤ (z.q *ℤ (coef_of u x *ℤ d1))
    → value_of (with_name x z.g (merged_term x z d1 t d2 u)) e ≡ (z.p *ℤ (d2 *ℤ value_of t e)) +ℤ (z.q *ℤ (d1 *ℤ value_of u e))
merged-value x z d1 d2 t u e sum =
    with_name-value x z.g (merged_term x z d1 t d2 u) e
    ∙ ap (λ k. k +ℤ (z.g *ℤ entry e x)) (value_of-combination (z.p *ℤ d2) (z.q *ℤ d1) (without t x) (without u x) e)
    ∙ sum-is z.p z.q d1 d2 (coef_of t x) (coef_of u x) (entry e x) (value_of (without t x) e) (value_of (without u x) e) z.g sum
    ∙ sym (ap (λ k. (z.p *ℤ (d2 *ℤ k)) +ℤ (z.q *ℤ (d1 *ℤ value_of u e))) (value_of-without t x e)
    ∙ ap (λ k. (z.p *ℤ (d2 *ℤ ((coef_of t x *ℤ entry e x) +ℤ value_of (without t x) e))) +ℤ (z.q *ℤ (d1 *ℤ k))) (value_of-without u x e))

crossed-value : (x : ℕ) (t u : Linear) (e : List ℤ) → value_of (crossed_term x t u) e ≡ (coef_of u x *ℤ value_of t e) -ℤ (coef_of t x *ℤ value_of u e)
crossed-value x t u e =
    value_of-combination (coef_of u x) (neg_ℤ (coef_of t x)) (without t x) (without u x) e
    ∙ difference-is (coef_of t x) (coef_of u x) (entry e x) (value_of (without t x) e) (value_of (without u x) e)
    ∙ sym (ap (λ k. (coef_of u x *ℤ k) -ℤ (coef_of t x *ℤ value_of u e)) (value_of-without t x e)
    ∙ ap (λ k. (coef_of u x *ℤ ((coef_of t x *ℤ entry e x) +ℤ value_of (without t x) e)) -ℤ (coef_of t x *ℤ k)) (value_of-without u x e))

pub positive-product : (a b : ℤ) → pos 0 <ℤ a → pos 0 <ℤ b → pos 0 <ℤ (a *ℤ b)
positive-product a b h k = let lt : (pos 0 *ℤ b) <ℤ (a *ℤ b) = mul_lt_right (pos 0) a b k h in omega (arith, ints, lt)

and_moved : (a b c d r : Bool) → (a && b) ≡ (c && d) → (a && (b && r)) ≡ (d && (c && r))
and_moved a b c d r e = join a b r ∙ ap (λ k. k && r) (e ∙ swap c d) ∙ sym (join d c r)
  where
    join : (a b r : Bool) → (a && (b && r)) ≡ ((a && b) && r)
    join true b r = refl
    join false b r = refl

    swap : (c d : Bool) → (c && d) ≡ (d && c)
    swap true true = refl
    swap true false = refl
    swap false true = refl
    swap false false = refl

-- ---- the numbers of bezout(a1·d2, a2·d1)
record Cofactors (d1 d2 a1 a2 : ℤ) (z : Bezout) : Type 0 where
  positive : pos 0 <ℤ z.g
  sum : z.g ≡ (z.p *ℤ (a1 *ℤ d2)) +ℤ (z.q *ℤ (a2 *ℤ d1))
  left : Divides z.g (a1 *ℤ d2)
  right : Divides z.g (a2 *ℤ d1)

cofactors : (d1 d2 a1 a2 : ℤ) → pos 0 <ℤ d1 → pos 0 <ℤ d2 → pos 0 <ℤ a1 → pos 0 <ℤ a2 → Cofactors d1 d2 a1 a2 (bezout (a1 *ℤ d2) (a2 *ℤ d1))
cofactors d1 d2 a1 a2 h1 h2 k1 k2 =
    let a : ℤ = a1 *ℤ d2 in
    let b : ℤ = a2 *ℤ d1 in
    let left : pos 0 <ℤ a = positive-product a1 d2 k1 h2 in
    let is : IsBezout a b (bezout a b) = bezout-is a b left (positive-product a2 d1 k2 h1) in
    record {
      positive = subst (λ g. pos 0 <ℤ g) (sym is.divisor) (gcd-positive a b (λ n. absurd (omega (arith, ints, n))));
      sum = is.sum;
      left = subst (λ g. Divides g a) (sym is.divisor) (gcd-divides_left a b);
      right = subst (λ g. Divides g b) (sym is.divisor) (gcd-divides_right a b);
    }

pair-exact : (d1 d2 z1 z2 a1 a2 : ℤ) (z : Bezout) → pos 0 <ℤ d1 → pos 0 <ℤ d2 → Cofactors d1 d2 a1 a2 z
    → (Divides d1 z1 × Divides d2 z2) ↔ (Divides (d1 *ℤ d2) ((z.p *ℤ (d2 *ℤ z1)) +ℤ (z.q *ℤ (d1 *ℤ z2))) × Divides z.g ((a2 *ℤ z1) -ℤ (a1 *ℤ z2)))
pair-exact d1 d2 z1 z2 a1 a2 z h1 h2 f = (
  λ both. (merged-product d1 d2 z1 z2 z.p z.q both.0 both.1, merged-difference d1 d2 z1 z2 a1 a2 z.g f.left f.right both.0 both.1),
  λ both. merged-back d1 d2 z1 z2 a1 a2 z.g z.p z.q h1 h2 f.positive f.sum f.left f.right both.0 both.1,
)

pub merged-divisibilities : (d1 d2 a1 a2 t1 t2 x : ℤ) (z : Bezout) → pos 0 <ℤ d1 → pos 0 <ℤ d2 → pos 0 <ℤ a1 → pos 0 <ℤ a2 → z ≡ bezout (a1 *ℤ d2) (a2 *ℤ d1)
    → (Divides d1 ((a1 *ℤ x) +ℤ t1) × Divides d2 ((a2 *ℤ x) +ℤ t2))
    ↔ (Divides (d1 *ℤ d2) ((z.g *ℤ x) +ℤ (((z.p *ℤ d2) *ℤ t1) +ℤ ((z.q *ℤ d1) *ℤ t2))) × Divides z.g ((a2 *ℤ t1) -ℤ (a1 *ℤ t2)))
merged-divisibilities d1 d2 a1 a2 t1 t2 x z h1 h2 k1 k2 e =
    let f : Cofactors d1 d2 a1 a2 z = subst (Cofactors d1 d2 a1 a2) (sym e) (cofactors d1 d2 a1 a2 h1 h2 k1 k2) in
    let z1 : ℤ = (a1 *ℤ x) +ℤ t1 in
    let z2 : ℤ = (a2 *ℤ x) +ℤ t2 in
    let swapped : (z.p *ℤ (d2 *ℤ z1)) +ℤ (z.q *ℤ (d1 *ℤ z2)) ≡ (z.g *ℤ x) +ℤ (((z.p *ℤ d2) *ℤ t1) +ℤ ((z.q *ℤ d1) *ℤ t2)) =
    sym (sum-is z.p z.q d1 d2 a1 a2 x t1 t2 z.g f.sum) ∙ omega (arith, ints) in
    let crossed : (a2 *ℤ z1) -ℤ (a1 *ℤ z2) ≡ (a2 *ℤ t1) -ℤ (a1 *ℤ t2) = sym (difference-is a1 a2 x t1 t2) ∙ omega (arith, ints, neg-mul a1 t2) in
    let exact = pair-exact d1 d2 z1 z2 a1 a2 z h1 h2 f in (
      λ both. let k = exact.0 both in (subst (Divides (d1 *ℤ d2)) swapped k.0, subst (Divides z.g) crossed k.1),
      λ both. exact.1 (subst (Divides (d1 *ℤ d2)) (sym swapped) both.0, subst (Divides z.g) (sym crossed) both.1),
    )

pair-truth : (x : ℕ) (d1 d2 : ℤ) (t u : Linear) (e : List ℤ) → pos 0 <ℤ d1 → pos 0 <ℤ d2 → pos 0 <ℤ coef_of t x → pos 0 <ℤ coef_of u x
    → (let z = bezout (coef_of t x *ℤ d2) (coef_of u x *ℤ d1) in
    (literal_truth (Div (d1 *ℤ d2) (with_name x z.g (merged_term x z d1 t d2 u))) e && literal_truth (Div z.g (crossed_term x t u)) e)
    ≡ (literal_truth (Div d1 t) e && literal_truth (Div d2 u) e))
pair-truth x d1 d2 t u e h1 h2 k1 k2 =
    let z : Bezout = bezout (coef_of t x *ℤ d2) (coef_of u x *ℤ d1) in
    let f : Cofactors d1 d2 (coef_of t x) (coef_of u x) z = cofactors d1 d2 (coef_of t x) (coef_of u x) h1 h2 k1 k2 in
    let value = merged-value x z d1 d2 t u e f.sum in
    let cross = crossed-value x t u e in
    let W : ℤ = value_of (with_name x z.g (merged_term x z d1 t d2 u)) e in
    let V : ℤ = value_of (crossed_term x t u) e in
    let left = Decides-and (divides (unsigned_abs (d1 *ℤ d2)) W) (divides (unsigned_abs z.g) V) (divides_decides (d1 *ℤ d2) W (positive-product d1 d2 h1 h2)) (divides_decides z.g V f.positive) in
    let right = Decides-and (divides (unsigned_abs d1) (value_of t e)) (divides (unsigned_abs d2) (value_of u e)) (divides_decides d1 (value_of t e) h1) (divides_decides d2 (value_of u e) h2) in
    let exact = pair-exact d1 d2 (value_of t e) (value_of u e) (coef_of t x) (coef_of u x) z h1 h2 f in
    same_from_decides _ _ (
      λ yes. let both = left.0 yes in exact.1 (subst (Divides (d1 *ℤ d2)) value both.0, subst (Divides z.g) cross both.1),
      λ both. let k = exact.0 both in left.1 (subst (Divides (d1 *ℤ d2)) (sym value) k.0, subst (Divides z.g) (sym cross) k.1),
    )
    right

-- at all integers the same
pub merge-truth : (x i j : ℕ) (c : List Literal) (d1 d2 : ℤ) (t u : Linear) (e : List ℤ) → i < j → slice_get c i ≡ Some (Div d1 t) → slice_get c j ≡ Some (Div d2 u)
    → pos 0 <ℤ d1 → pos 0 <ℤ d2 → pos 0 <ℤ coef_of t x → pos 0 <ℤ coef_of u x
    → clause_truth (merged_with x (remove (remove c j) i) (bezout (coef_of t x *ℤ d2) (coef_of u x *ℤ d1)) d1 t d2 u) e ≡ clause_truth c e
merge-truth x i j c d1 d2 t u e lt at_i at_j h1 h2 k1 k2 =
    let test : Literal → Bool = (λ l. literal_truth l e) in
    and_moved _ _ (literal_truth (Div d1 t) e) (literal_truth (Div d2 u) e) (clause_truth (remove (remove c j) i) e) (pair-truth x d1 d2 t u e h1 h2 k1 k2)
    ∙ ap (λ b. literal_truth (Div d2 u) e && b) (sym (all-apart (λ l. literal_truth l e) (remove c j) i (Div d1 t) (get-removed c i j lt ∙ at_i)))
    ∙ sym (all-apart (λ l. literal_truth l e) c j (Div d2 u) at_j)
