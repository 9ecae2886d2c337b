-- A divisibility is solved by a congruence, and its solutions are put into the bounds.
use Rattle.std.proofs.Common.{◌≡◌, ℕ, ℤ, pos, neg_ℤ, ◌+ℤ◌, ◌*ℤ◌, ◌<ℤ◌, int_le, true, false, ◌&&◌, List, [], ◌∷◌, map, Some, refl, sym, ◌∙◌, ap, subst, arith}
use Rattle.std.specs.List.{AllByRecursion}
use Rattle.std.specs.Prelude.{remove, slice_get}
use Rattle.std.proofs.lemmas.Int.{ints}
use lib.IntN.{*ℤ_comm}
use Rattle.base_integers.specs.Divides.{Divides}
use Rattle.base_integers.specs.Entry.{put}
use Rattle.base_integers.proofs.Ring.{add-mul, mul-add, mul_assoc, neg-mul, mul-neg, left_comm}
use Rattle.base_integers.proofs.Order.{mul_cancel}
use Rattle.base_integers.proofs.Entries.{entry-put_same}
use Rattle.base_integers.proofs.Divisor.{gcd-divides_left, gcd-divides_right, gcd-positive}
use Rattle.linear_term.specs.Linear.{Linear, value_of, coef_of, without}
use Rattle.linear_term.specs.Combination.{combination}
use Rattle.linear_term.proofs.Names.{value_of-put, value_of-without-put}
use Rattle.linear_term.proofs.Totals.{value_of-combination, by_test}
use Rattle.clause_set.specs.declared.literal.Literal.{Literal}
use Rattle.clause_set.specs.declared.literal.Literal.TheVariants.{Eq, Geq, Div, NDiv}
use Rattle.clause_set.specs.Literals.{literal_truth, clause_truth}
use Rattle.clause_set.specs.Names.{has, is_equation, is_divisibility, is_indivisibility}
use Rattle.clause_set.specs.Bezout.{Bezout, bezout}
use Rattle.clause_set.specs.Divisibilities.{with_name}
use Rattle.elim_rule_laws.specs.EquationResults.{shifted_term, shifted_literal, shifted_with, shifted_by}
use Rattle.clause_set.specs.Met.{IsMet}
use Rattle.clause_set.proofs.NormalTruth.{divides_decides}
use Rattle.std.specs.Int.{int_div_euclid}
use Rattle.std.specs.Prelude.{◌↔◌}
use Rattle.base_integers.proofs.Floors.{floor-exact}
use Rattle.elim_rule_laws.specs.Divisions.{IsBezout, IsSolution}
use Rattle.elim_rule_laws.proofs.Bezouts.{bezout-is}
use Rattle.elim_rule_laws.proofs.EquationLists.{all-apart, all-mapped, and_left, and_right, and_both, true_or, or_false}
use Rattle.elim_rule_laws.proofs.Tests.{bound_scaled}
use Rattle.elim_rule_laws.proofs.Dividing.{solvable-common, solution-step, solution-back, cofactors-one}
use Rattle.elim_rule_laws.proofs.Merge.{with_name-value}
use Rattle.elim_rule_laws.proofs.Solving.{kept-truth}

-- v is the solution −u·T/g + (D/g)·k of a divisibility by D, with T = τ·g and D = δ·g
pub record SolutionBy (d g u t k v : ℤ) : Type 0 where
  pub positive : pos 0 <ℤ g
  pub δ : ℤ
  pub τ : ℤ
  pub modulus : d ≡ δ *ℤ g
  pub rest : t ≡ τ *ℤ g
  pub is : v ≡ neg_ℤ (u *ℤ τ) +ℤ (δ *ℤ k)

-- a·D·k + g·s − a·u·T is g·(a·v + s)
bound-value : (a s d g u t k v : ℤ) → SolutionBy d g u t k v → ((g *ℤ s) +ℤ (neg_ℤ (a *ℤ u) *ℤ t)) +ℤ ((a *ℤ d) *ℤ k) ≡ g *ℤ ((a *ℤ v) +ℤ s)
bound-value a s d g u t k v h =
    let first : (a *ℤ u) *ℤ t ≡ g *ℤ (a *ℤ (u *ℤ h.τ)) =
    ap (λ z. (a *ℤ u) *ℤ z) h.rest ∙ sym (mul_assoc (a *ℤ u) h.τ g) ∙ *ℤ_comm ((a *ℤ u) *ℤ h.τ) g ∙ ap (λ z. g *ℤ z) (mul_assoc a u h.τ) in
    let second : (a *ℤ d) *ℤ k ≡ g *ℤ (a *ℤ (h.δ *ℤ k)) =
    mul_assoc a d k ∙ ap (λ z. a *ℤ (z *ℤ k)) (h.modulus ∙ *ℤ_comm h.δ g) ∙ ap (λ z. a *ℤ z) (mul_assoc g h.δ k) ∙ left_comm a g (h.δ *ℤ k) in
    let inner : a *ℤ v ≡ neg_ℤ (a *ℤ (u *ℤ h.τ)) +ℤ (a *ℤ (h.δ *ℤ k)) =
    ap (λ z. a *ℤ z) h.is ∙ mul-add a (neg_ℤ (u *ℤ h.τ)) (h.δ *ℤ k) ∙ ap (λ z. z +ℤ (a *ℤ (h.δ *ℤ k))) (mul-neg a (u *ℤ h.τ)) in
    let outer : g *ℤ (a *ℤ v) ≡ neg_ℤ (g *ℤ (a *ℤ (u *ℤ h.τ))) +ℤ (g *ℤ (a *ℤ (h.δ *ℤ k))) =
    ap (λ z. g *ℤ z) inner ∙ mul-add g (neg_ℤ (a *ℤ (u *ℤ h.τ))) (a *ℤ (h.δ *ℤ k)) ∙ ap (λ z. z +ℤ (g *ℤ (a *ℤ (h.δ *ℤ k)))) (mul-neg g (a *ℤ (u *ℤ h.τ))) in
    omega (arith, ints, first, second, outer, mul-add g (a *ℤ v) s, neg-mul (a *ℤ u) t)

shifted_term-truth : (x : ℕ) (d : ℤ) (z : Bezout) (t r : Linear) (e : List ℤ) (k v : ℤ) → SolutionBy d z.g z.p (value_of (without t x) e) k v
    → literal_truth (Geq (shifted_term x d z t r)) (put e x k) ≡ literal_truth (Geq r) (put e x v)
shifted_term-truth x d z t r e k v h =
    let V : Linear = combination z.g (without r x) (neg_ℤ (coef_of r x *ℤ z.p)) (without t x) in
    let value : value_of (with_name x (coef_of r x *ℤ d) V) (put e x k) ≡ z.g *ℤ value_of r (put e x v) =
    with_name-value x (coef_of r x *ℤ d) V (put e x k)
    ∙ ap (λ y. value_of V (put e x k) +ℤ ((coef_of r x *ℤ d) *ℤ y)) (entry-put_same e x k)
    ∙ ap (λ y. y +ℤ ((coef_of r x *ℤ d) *ℤ k)) (value_of-combination z.g (neg_ℤ (coef_of r x *ℤ z.p)) (without r x) (without t x) (put e x k)
    ∙ ap (λ y. (z.g *ℤ y) +ℤ (neg_ℤ (coef_of r x *ℤ z.p) *ℤ value_of (without t x) (put e x k))) (value_of-without-put r x e k)
    ∙ ap (λ y. (z.g *ℤ value_of (without r x) e) +ℤ (neg_ℤ (coef_of r x *ℤ z.p) *ℤ y)) (value_of-without-put t x e k))
    ∙ bound-value (coef_of r x) (value_of (without r x) e) d z.g z.p (value_of (without t x) e) k v h
    ∙ ap (λ y. z.g *ℤ y) (sym (value_of-put r x e v)) in
    ap (λ y. int_le (pos 0) y) value ∙ bound_scaled z.g (value_of r (put e x v)) h.positive

-- the literal has x as a bound alone, if at all
pub record IsBoundOnly (x : ℕ) (l : Literal) : Type 0 where
  pub no_equation : is_equation x l ≡ false
  pub no_divisibility : is_divisibility x l ≡ false
  pub no_indivisibility : is_indivisibility x l ≡ false

shifted-truth : (x : ℕ) (d : ℤ) (z : Bezout) (t : Linear) (l : Literal) (e : List ℤ) (k v : ℤ) → SolutionBy d z.g z.p (value_of (without t x) e) k v
    → IsBoundOnly x l → literal_truth (shifted_literal x d z t l) (put e x k) ≡ literal_truth l (put e x v)
shifted-truth x d z t (Geq r) e k v h o =
    by_test (λ m. literal_truth m (put e x k) ≡ literal_truth (Geq r) (put e x v)) (has x (Geq r)) (Geq (shifted_term x d z t r)) (Geq r)
    (λ _. shifted_term-truth x d z t r e k v h)
    (λ free. kept-truth x (Geq r) e v k free)
shifted-truth x d z t (Eq r) e k v h o = kept-truth x (Eq r) e v k o.no_equation
shifted-truth x d z t (Div m r) e k v h o = kept-truth x (Div m r) e v k o.no_divisibility
shifted-truth x d z t (NDiv m r) e k v h o = kept-truth x (NDiv m r) e v k o.no_indivisibility

rest-truth : (x : ℕ) (d : ℤ) (z : Bezout) (t : Linear) (ls : List Literal) (e : List ℤ) (k v : ℤ) → SolutionBy d z.g z.p (value_of (without t x) e) k v
    → AllByRecursion (IsBoundOnly x) ls → clause_truth (map (shifted_literal x d z t) ls) (put e x k) ≡ clause_truth ls (put e x v)
rest-truth x d z t ls e k v h o =
    all-mapped (IsBoundOnly x) (λ l. literal_truth l (put e x v)) (λ l. literal_truth l (put e x k)) (shifted_literal x d z t)
    (λ l b. shifted-truth x d z t l e k v h b) ls o

-- ---- the numbers of bezout(b, D)
record Solver (b d : ℤ) (z : Bezout) : Type 0 where
  positive : pos 0 <ℤ z.g
  left : Divides z.g b
  right : Divides z.g d
  one : (z.p *ℤ left.quotient) +ℤ (z.q *ℤ right.quotient) ≡ pos 1

solver : (b d : ℤ) → pos 0 <ℤ b → pos 0 <ℤ d → Solver b d (bezout b d)
solver b d hb hd =
    let z : Bezout = bezout b d in
    let is : IsBezout b d z = bezout-is b d hb hd in
    let gp : pos 0 <ℤ z.g = subst (λ g. pos 0 <ℤ g) (sym is.divisor) (gcd-positive b d (λ n. absurd (omega (arith, ints, n)))) in
    let first : Divides z.g b = subst (λ g. Divides g b) (sym is.divisor) (gcd-divides_left b d) in
    let second : Divides z.g d = subst (λ g. Divides g d) (sym is.divisor) (gcd-divides_right b d) in
    record { positive = gp; left = first; right = second; one = cofactors-one z.g z.p z.q b d first.quotient second.quotient gp is.sum first.is second.is }

-- the k of a solution v
solution-of : (b d t v : ℤ) (z : Bezout) → Solver b d z → Divides d ((b *ℤ v) +ℤ t) → (k : ℤ) × SolutionBy d z.g z.p t k v
solution-of b d t v z s h =
    let common : Divides z.g t = solvable-common d b t v z.g s.left s.right h in
    let β : ℤ = s.left.quotient in
    let δ : ℤ = s.right.quotient in
    let τ : ℤ = common.quotient in
    let m : ℤ = h.quotient in
    let times : ((β *ℤ v) +ℤ τ) *ℤ z.g ≡ (m *ℤ δ) *ℤ z.g =
    add-mul (β *ℤ v) τ z.g ∙ ap (λ y. y +ℤ (τ *ℤ z.g)) (ap (λ y. y *ℤ z.g) (*ℤ_comm β v) ∙ mul_assoc v β z.g ∙ ap (λ y. v *ℤ y) (sym s.left.is) ∙ *ℤ_comm v b)
    ∙ ap (λ y. (b *ℤ v) +ℤ y) (sym common.is) ∙ h.is ∙ ap (λ y. m *ℤ y) s.right.is ∙ sym (mul_assoc m δ z.g) in
    let is : (β *ℤ v) +ℤ τ ≡ m *ℤ δ = mul_cancel ((β *ℤ v) +ℤ τ) (m *ℤ δ) z.g s.positive times in (
      (z.p *ℤ m) +ℤ (z.q *ℤ v),
      record {
        positive = s.positive;
        δ = δ;
        τ = τ;
        modulus = s.right.is;
        rest = common.is;
        is = solution-step β δ τ z.p z.q v m s.one is;
      },
    )

-- the solution v of each k
solution-at : (b d t k : ℤ) (z : Bezout) → Solver b d z → Divides z.g t → (v : ℤ) × SolutionBy d z.g z.p t k v × Divides d ((b *ℤ v) +ℤ t)
solution-at b d t k z s common =
    let β : ℤ = s.left.quotient in
    let δ : ℤ = s.right.quotient in
    let τ : ℤ = common.quotient in
    let v : ℤ = neg_ℤ (z.p *ℤ τ) +ℤ (δ *ℤ k) in
    let m : ℤ = (z.q *ℤ τ) +ℤ (β *ℤ k) in
    let small : (β *ℤ v) +ℤ τ ≡ m *ℤ δ = solution-back β δ τ z.p z.q k s.one in
    let large : (b *ℤ v) +ℤ t ≡ m *ℤ d =
    ap (λ y. (b *ℤ v) +ℤ y) common.is ∙ ap (λ y. y +ℤ (τ *ℤ z.g)) (*ℤ_comm b v ∙ ap (λ y. v *ℤ y) s.left.is ∙ sym (mul_assoc v β z.g) ∙ ap (λ y. y *ℤ z.g) (*ℤ_comm v β))
    ∙ sym (add-mul (β *ℤ v) τ z.g) ∙ ap (λ y. y *ℤ z.g) small ∙ mul_assoc m δ z.g ∙ ap (λ y. m *ℤ y) (sym s.right.is) in
    (v, record { positive = s.positive; δ = δ; τ = τ; modulus = s.right.is; rest = common.is; is = refl }, record { quotient = m; is = large })

pub shift_kept : (x i : ℕ) (c : List Literal) (d : ℤ) (t : Linear) (e : List ℤ) → slice_get c i ≡ Some (Div d t) → pos 0 <ℤ d → pos 0 <ℤ coef_of t x
    → AllByRecursion (IsBoundOnly x) (remove c i) → IsMet (c ∷ []) x e → IsMet (shifted_by x (remove c i) (Some (Div d t))) x e
shift_kept x i c d t e at hd hb o m =
    let v : ℤ = m.0 in
    let z : Bezout = bezout (coef_of t x) d in
    let s = solver (coef_of t x) d hb hd in
    let parts : (literal_truth (Div d t) (put e x v) && clause_truth (remove c i) (put e x v)) ≡ true =
    sym (all-apart (λ l. literal_truth l (put e x v)) c i (Div d t) at) ∙ or_false _ m.1 in
    let holds : Divides d ((coef_of t x *ℤ v) +ℤ value_of (without t x) e) =
    subst (Divides d) (value_of-put t x e v) ((divides_decides d (value_of t (put e x v)) hd).0 (and_left _ _ parts)) in
    let found = solution-of (coef_of t x) d (value_of (without t x) e) v z s holds in
    let k : ℤ = found.0 in
    let common : Divides z.g (value_of (without t x) e) = solvable-common d (coef_of t x) (value_of (without t x) e) v z.g s.left s.right holds in (
      k,
      true_or _ (and_both _ _
          ((divides_decides z.g (value_of (without t x) (put e x k)) s.positive).1 (subst (Divides z.g) (sym (value_of-without-put t x e k)) common))
          (rest-truth x d z t (remove c i) e k v found.1 o ∙ and_right _ _ parts)),
    )

pub shift_back : (x i : ℕ) (c : List Literal) (d : ℤ) (t : Linear) (e : List ℤ) → slice_get c i ≡ Some (Div d t) → pos 0 <ℤ d → pos 0 <ℤ coef_of t x
    → AllByRecursion (IsBoundOnly x) (remove c i) → IsMet (shifted_by x (remove c i) (Some (Div d t))) x e → IsMet (c ∷ []) x e
shift_back x i c d t e at hd hb o m =
    let k : ℤ = m.0 in
    let z : Bezout = bezout (coef_of t x) d in
    let s = solver (coef_of t x) d hb hd in
    let parts : clause_truth (shifted_with x (remove c i) d z t) (put e x k) ≡ true = or_false _ m.1 in
    let common : Divides z.g (value_of (without t x) e) =
    subst (Divides z.g) (value_of-without-put t x e k) ((divides_decides z.g (value_of (without t x) (put e x k)) s.positive).0 (and_left _ _ parts)) in
    let found = solution-at (coef_of t x) d (value_of (without t x) e) k z s common in
    let v : ℤ = found.0 in (
      v,
      true_or _ (all-apart (λ l. literal_truth l (put e x v)) c i (Div d t) at
          ∙ and_both _ _ ((divides_decides d (value_of t (put e x v)) hd).1 (subst (Divides d) (sym (value_of-put t x e v)) found.2))
          (sym (rest-truth x d z t (remove c i) e k v found.1 o) ∙ and_right _ _ parts)),
    )

-- ---- the solutions as quotients
pub congruence-solutions : (b d t v : ℤ) → pos 0 <ℤ b → pos 0 <ℤ d → Divides d ((b *ℤ v) +ℤ t) ↔ (Divides (bezout b d).g t × IsSolution d (bezout b d) t v)
congruence-solutions b d t v hb hd =
    let z : Bezout = bezout b d in
    let s = solver b d hb hd in (
      λ h.
          let found = solution-of b d t v z s h in
          let k : SolutionBy d z.g z.p t found.0 v = found.1 in
          let τ_is : int_div_euclid t z.g ≡ k.τ = ap (λ y. int_div_euclid y z.g) k.rest ∙ floor-exact k.τ z.g s.positive in
          let δ_is : int_div_euclid d z.g ≡ k.δ = ap (λ y. int_div_euclid y z.g) k.modulus ∙ floor-exact k.δ z.g s.positive in (
            solvable-common d b t v z.g s.left s.right h,
            (found.0, k.is ∙ ap (λ y. neg_ℤ (z.p *ℤ y) +ℤ (k.δ *ℤ found.0)) (sym τ_is) ∙ ap (λ y. neg_ℤ (z.p *ℤ int_div_euclid t z.g) +ℤ (y *ℤ found.0)) (sym δ_is)),
          ),
      λ h.
          let found = solution-at b d t h.1.0 z s h.0 in
          let k : SolutionBy d z.g z.p t h.1.0 found.0 = found.1 in
          let τ_is : int_div_euclid t z.g ≡ k.τ = ap (λ y. int_div_euclid y z.g) k.rest ∙ floor-exact k.τ z.g s.positive in
          let δ_is : int_div_euclid d z.g ≡ k.δ = ap (λ y. int_div_euclid y z.g) k.modulus ∙ floor-exact k.δ z.g s.positive in
          let same : v ≡ found.0 = h.1.1 ∙ ap (λ y. neg_ℤ (z.p *ℤ y) +ℤ (int_div_euclid d z.g *ℤ h.1.0)) τ_is ∙ ap (λ y. neg_ℤ (z.p *ℤ k.τ) +ℤ (y *ℤ h.1.0)) δ_is ∙ sym k.is in
          subst (λ y. Divides d ((b *ℤ y) +ℤ t)) (sym same) found.2,
    )
