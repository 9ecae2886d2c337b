-- Where a rule applies, some value of x makes the clause true exactly where some value makes a result true.
use Rattle.std.proofs.Common.{◌≡◌, ◌≢◌, ◌-◌, ℕ, ℤ, pos, neg_ℤ, ◌*ℤ◌, ◌<ℤ◌, unsigned_abs, Bool, true, false, ◌||◌, List, [], ◌∷◌, Some, refl, sym, ◌∙◌, ap, subst, arith}
use Rattle.std.specs.Prelude.{remove, slice_get, slice_set, All, ◌↔◌}
use Rattle.std.specs.List.{AllByRecursion}
use Rattle.std.proofs.lemmas.Int.{ints}
use Rattle.std.proofs.lemmas.List.Elements.{recursion_from_All, All-from_recursion}
use Rattle.base_integers.specs.Entry.{put}
use Rattle.base_integers.proofs.Divisor.{gcd-positive}
use Rattle.linear_term.specs.Linear.{Linear, coef_of, without, number, name, IsReduced}
use Rattle.linear_term.specs.Combination.{combination}
use Rattle.linear_term.proofs.Names.{reduced-combination, reduced-without}
use Rattle.linear_term.proofs.Totals.{by_test}
use Rattle.base_budget.specs.declared.log.Entry.TheVariants.{Equation, Apart, Merge, Shift}
use Rattle.clause_set.specs.declared.literal.Literal.{Literal}
use Rattle.clause_set.specs.declared.literal.Literal.TheVariants.{Eq, Geq, Div, NDiv}
use Rattle.clause_set.specs.Literals.{clause_truth, dnf_truth}
use Rattle.clause_set.specs.Literals.{IsLiteral}
use Rattle.clause_set.specs.Formed.{IsFormed}
use Rattle.clause_set.specs.Clauses.{clauses_of}
use Rattle.clause_set.specs.Names.{has}
use Rattle.clause_set.specs.Bezout.{Bezout, bezout}
use Rattle.clause_set.specs.Equations.{sign_of, size_of}
use Rattle.clause_set.specs.Divisibilities.{numbers_from, with_name}
use Rattle.clause_set.specs.Met.{IsMet}
use Rattle.clause_set.specs.Rules.{rule, applies}
use Rattle.clause_set.proofs.Formed.{clauses-formed}
use Rattle.clause_set.proofs.Operations.{clauses_of-truth}
use Rattle.elim_rule_laws.specs.EquationResults.{scaled_literal, solved_literal, solved_by, equation_results, raised, split_at, apart_results, merged_term, merged_with, joined_second, joined_first, merge_results, shifted_term, shifted_literal, shifted_by, shift_results}
use Rattle.elim_rule_laws.proofs.EquationLists.{kept-got, kept-removed, kept-mapped, kept-replaced, kept-weaker}
use Rattle.elim_rule_laws.proofs.Bezouts.{bezout-is}
use Rattle.elim_rule_laws.proofs.Solving.{size_not_zero, equation_kept, equation_back}
use Rattle.elim_rule_laws.proofs.Apart.{apart-truth}
use Rattle.elim_rule_laws.proofs.Merge.{positive-product, merge-truth}
use Rattle.elim_rule_laws.proofs.Shift.{shift_kept, shift_back}
use Rattle.elim_rule_laws.proofs.EquationValues.{equation-value, apart-value, merge-value, shift-value}
use Rattle.elim_rule_laws.proofs.Applying.{EquationAt, IndivisibilityAt, DivisibilityAt, PairAt, OnlyAt, equation_applies, apart_applies, merge_applies, shift_applies, mentioned-not_zero, mentioned-positive}

formed_of : (c : List Literal) → All IsFormed c → AllByRecursion IsFormed c
formed_of c h = recursion_from_All IsFormed c h

literals_of_all : (c : List Literal) → All IsFormed c → AllByRecursion IsLiteral c
literals_of_all c h = kept-weaker IsFormed IsLiteral (λ l f. f.literal) c (formed_of c h)

-- ---- what is left has literals
reduced-number : (k : ℤ) → IsReduced (number k)
reduced-number k = record { rising = tt; not_zero = All-from_recursion (λ p. p.1 ≢ pos 0) [] tt }

reduced-name : (x : ℕ) → IsReduced (name x)
reduced-name x = record { rising = (omega arith, tt); not_zero = All-from_recursion (λ p. p.1 ≢ pos 0) ((x, pos 1) ∷ []) ((λ e. absurd (omega (arith, ints, e))), tt) }

reduced-with_name : (x : ℕ) (k : ℤ) (t : Linear) → IsReduced t → IsReduced (with_name x k t)
reduced-with_name x k t h = reduced-combination (pos 1) k t (name x) h (reduced-name x)

scaled-literals : (x : ℕ) (a : ℤ) (s : Linear) (l : Literal) → a ≢ pos 0 → IsReduced s → IsLiteral l → IsLiteral (scaled_literal x a s l)
scaled-literals x a s (Eq u) n r h = record { term = reduced-combination (size_of a) (neg_ℤ (sign_of a *ℤ coef_of u x)) (without u x) s (reduced-without u x h.term) r; divisor = tt }
scaled-literals x a s (Geq u) n r h = record { term = reduced-combination (size_of a) (neg_ℤ (sign_of a *ℤ coef_of u x)) (without u x) s (reduced-without u x h.term) r; divisor = tt }
scaled-literals x a s (Div d u) n r h = record {
  term = reduced-combination (size_of a) (neg_ℤ (sign_of a *ℤ coef_of u x)) (without u x) s (reduced-without u x h.term) r;
  divisor = positive-product d (size_of a) h.divisor (size_not_zero a n);
}
scaled-literals x a s (NDiv d u) n r h = record {
  term = reduced-combination (size_of a) (neg_ℤ (sign_of a *ℤ coef_of u x)) (without u x) s (reduced-without u x h.term) r;
  divisor = positive-product d (size_of a) h.divisor (size_not_zero a n);
}

solved-literals : (x : ℕ) (a : ℤ) (s : Linear) (l : Literal) → a ≢ pos 0 → IsReduced s → IsLiteral l → IsLiteral (solved_literal x a s l)
solved-literals x a s l n r h = by_test IsLiteral (has x l) (scaled_literal x a s l) l (λ _. scaled-literals x a s l n r h) (λ _. h)

abbrev AllLiterals : List (List Literal) → Type 0
AllLiterals cs = AllByRecursion (AllByRecursion IsLiteral) cs

equation-literals : (x i : ℕ) (c : List Literal) → AllByRecursion IsLiteral c → (h : EquationAt x i c) → AllLiterals (solved_by x (remove c i) (Some (Eq h.term)))
equation-literals x i c p h =
    let l : IsLiteral (Eq h.term) = kept-got IsLiteral c i (Eq h.term) h.stands p in
    let n : coef_of h.term x ≢ pos 0 = mentioned-not_zero h.term x l.term h.mentioned in
    let r : IsReduced (without h.term x) = reduced-without h.term x l.term in (
      (
        record { term = r; divisor = size_not_zero (coef_of h.term x) n },
        kept-mapped IsLiteral IsLiteral (solved_literal x (coef_of h.term x) (without h.term x)) (λ m q. solved-literals x (coef_of h.term x) (without h.term x) m n r q)
            (remove c i) (kept-removed IsLiteral c i p),
      ),
      tt,
    )

apart-literals : (x i : ℕ) (c : List Literal) → AllByRecursion IsLiteral c → (h : IndivisibilityAt x i c) → AllLiterals (split_at i c (Some (NDiv h.divisor h.term)))
apart-literals x i c p h =
    let l : IsLiteral (NDiv h.divisor h.term) = kept-got IsLiteral c i (NDiv h.divisor h.term) h.stands p in
    kept-mapped (λ n. Unit {0}) (AllByRecursion IsLiteral) (λ r. slice_set c i (Div h.divisor (raised h.term r)))
    (λ r _. kept-replaced IsLiteral c i (Div h.divisor (raised h.term r))
    (record { term = reduced-combination (pos 1) (pos 1) h.term (number (pos r)) l.term (reduced-number (pos r)); divisor = l.divisor }) p)
    (numbers_from 1 (unsigned_abs h.divisor - 1)) (trivial (numbers_from 1 (unsigned_abs h.divisor - 1)))
  where
    trivial : (ns : List ℕ) → AllByRecursion (λ (n : ℕ). Unit {0}) ns
    trivial [] = tt
    trivial (n ∷ ns) = (tt, trivial ns)

bezout-positive : (a b : ℤ) → pos 0 <ℤ a → pos 0 <ℤ b → pos 0 <ℤ (bezout a b).g
bezout-positive a b ha hb = subst (λ g. pos 0 <ℤ g) (sym (bezout-is a b ha hb).divisor) (gcd-positive a b (λ n. absurd (omega (arith, ints, n))))

merged-literals : (x : ℕ) (rest : List Literal) (d1 d2 : ℤ) (t u : Linear) → AllByRecursion IsLiteral rest → IsReduced t → IsReduced u
    → pos 0 <ℤ d1 → pos 0 <ℤ d2 → pos 0 <ℤ coef_of t x → pos 0 <ℤ coef_of u x
    → AllByRecursion IsLiteral (merged_with x rest (bezout (coef_of t x *ℤ d2) (coef_of u x *ℤ d1)) d1 t d2 u)
merged-literals x rest d1 d2 t u p rt ru h1 h2 k1 k2 =
    let z : Bezout = bezout (coef_of t x *ℤ d2) (coef_of u x *ℤ d1) in
    let wt : IsReduced (without t x) = reduced-without t x rt in
    let wu : IsReduced (without u x) = reduced-without u x ru in
    let gp : pos 0 <ℤ z.g = bezout-positive (coef_of t x *ℤ d2) (coef_of u x *ℤ d1) (positive-product (coef_of t x) d2 k1 h2) (positive-product (coef_of u x) d1 k2 h1) in (
      record {
        term = reduced-with_name x z.g (merged_term x z d1 t d2 u) (reduced-combination (z.p *ℤ d2) (z.q *ℤ d1) (without t x) (without u x) wt wu);
        divisor = positive-product d1 d2 h1 h2;
      },
      (record { term = reduced-combination (coef_of u x) (neg_ℤ (coef_of t x)) (without t x) (without u x) wt wu; divisor = gp }, p),
    )

shifted-literals : (x : ℕ) (d : ℤ) (z : Bezout) (t : Linear) (l : Literal) → IsReduced t → IsLiteral l → IsLiteral (shifted_literal x d z t l)
shifted-literals x d z t (Geq r) rt h =
    by_test IsLiteral (has x (Geq r)) (Geq (shifted_term x d z t r)) (Geq r)
    (λ _. record {
      term = reduced-with_name x (coef_of r x *ℤ d) (combination z.g (without r x) (neg_ℤ (coef_of r x *ℤ z.p)) (without t x))
          (reduced-combination z.g (neg_ℤ (coef_of r x *ℤ z.p)) (without r x) (without t x) (reduced-without r x h.term) (reduced-without t x rt));
      divisor = tt;
    })
    (λ _. h)
shifted-literals x d z t (Eq r) rt h = h
shifted-literals x d z t (Div k r) rt h = h
shifted-literals x d z t (NDiv k r) rt h = h

-- ---- a divisibility of a clause
record IsSolvable (x : ℕ) (d : ℤ) (t : Linear) : Type 0 where
  divisor : pos 0 <ℤ d
  coefficient : pos 0 <ℤ coef_of t x
  term : IsReduced t

solvable_at : (x i : ℕ) (c : List Literal) → AllByRecursion IsFormed c → (h : DivisibilityAt x i c) → IsSolvable x h.divisor h.term
solvable_at x i c p h =
    let l : IsFormed (Div h.divisor h.term) = kept-got IsFormed c i (Div h.divisor h.term) h.stands p in
    record { divisor = l.literal.divisor; coefficient = mentioned-positive h.term x l.literal.term l.coefficients h.mentioned; term = l.literal.term }

-- ---- the rules, before their results are put into form
one_true : (b : Bool) → (b || false) ≡ b
one_true true = refl
one_true false = refl

-- results with the same truth at all integers
met_same : (c : List Literal) (rs : List (List Literal)) (x : ℕ) (e : List ℤ) → ((v : ℤ) → dnf_truth rs (put e x v) ≡ clause_truth c (put e x v)) → IsMet (c ∷ []) x e ↔ IsMet rs x e
met_same c rs x e same = (
  λ m. (m.0, same m.0 ∙ sym (one_true (clause_truth c (put e x m.0))) ∙ m.1),
  λ m. (m.0, one_true (clause_truth c (put e x m.0)) ∙ sym (same m.0) ∙ m.1),
)

-- what is left of the clause: it has literals, and is true for some x exactly where the clause is
pub record IsExact (x : ℕ) (c : List Literal) (rs : List (List Literal)) : Type 0 where
  pub literals : AllLiterals rs
  pub met : (e : List ℤ) → IsMet (c ∷ []) x e ↔ IsMet rs x e

pub equation-exact : (x i : ℕ) (c : List Literal) → AllByRecursion IsLiteral c → applies x c (Equation i) ≡ true → IsExact x c (equation_results x i c)
equation-exact x i c p a =
    let h : EquationAt x i c = equation_applies x i c a in
    let l : IsLiteral (Eq h.term) = kept-got IsLiteral c i (Eq h.term) h.stands p in
    let n : coef_of h.term x ≢ pos 0 = mentioned-not_zero h.term x l.term h.mentioned in
    subst (λ o. IsExact x c (solved_by x (remove c i) o)) (sym h.stands) (record {
      literals = equation-literals x i c p h;
      met = λ e. (equation_kept x i c h.term e h.stands n, equation_back x i c h.term e h.stands n);
    })

pub apart-same : (x i : ℕ) (c : List Literal) (e : List ℤ) → AllByRecursion IsLiteral c → applies x c (Apart i) ≡ true → dnf_truth (apart_results i c) e ≡ clause_truth c e
apart-same x i c e p a =
    let h : IndivisibilityAt x i c = apart_applies x i c a in
    let l : IsLiteral (NDiv h.divisor h.term) = kept-got IsLiteral c i (NDiv h.divisor h.term) h.stands p in
    subst (λ o. dnf_truth (split_at i c o) e ≡ clause_truth c e) (sym h.stands) (apart-truth i c h.divisor h.term e h.stands l.divisor)

pub apart-exact : (x i : ℕ) (c : List Literal) → AllByRecursion IsLiteral c → applies x c (Apart i) ≡ true → IsExact x c (apart_results i c)
apart-exact x i c p a =
    let h : IndivisibilityAt x i c = apart_applies x i c a in
    record {
      literals = subst (λ o. AllLiterals (split_at i c o)) (sym h.stands) (apart-literals x i c p h);
      met = λ e. met_same c (apart_results i c) x e (λ v. apart-same x i c (put e x v) p a);
    }

pub merged_from : (x i j : ℕ) (c : List Literal) (P : List (List Literal) → Type 0) → (h : PairAt x i j c)
    → P (merged_with x (remove (remove c j) i) (bezout (coef_of h.first.term x *ℤ h.second.divisor) (coef_of h.second.term x *ℤ h.first.divisor)) h.first.divisor h.first.term h.second.divisor h.second.term ∷ [])
    → P (merge_results x i j c)
merged_from x i j c P h m =
    subst (λ o. P (joined_first x (remove (remove c j) i) o (slice_get c j))) (sym h.first.stands)
    (subst (λ o. P (joined_second x (remove (remove c j) i) h.first.divisor h.first.term o)) (sym h.second.stands) m)

pub merge-same : (x i j : ℕ) (c : List Literal) (e : List ℤ) → AllByRecursion IsFormed c → applies x c (Merge i j) ≡ true → dnf_truth (merge_results x i j c) e ≡ clause_truth c e
merge-same x i j c e p a =
    let h : PairAt x i j c = merge_applies x i j c a in
    let first = solvable_at x i c p h.first in
    let second = solvable_at x j c p h.second in
    merged_from x i j c (λ rs. dnf_truth rs e ≡ clause_truth c e) h
    (one_true _ ∙ merge-truth x i j c h.first.divisor h.second.divisor h.first.term h.second.term e h.before h.first.stands h.second.stands
    first.divisor second.divisor first.coefficient second.coefficient)

pub merge-exact : (x i j : ℕ) (c : List Literal) → AllByRecursion IsFormed c → applies x c (Merge i j) ≡ true → IsExact x c (merge_results x i j c)
merge-exact x i j c p a =
    let h : PairAt x i j c = merge_applies x i j c a in
    let first = solvable_at x i c p h.first in
    let second = solvable_at x j c p h.second in
    let rest : AllByRecursion IsLiteral (remove (remove c j) i) =
    kept-removed IsLiteral (remove c j) i (kept-removed IsLiteral c j (kept-weaker IsFormed IsLiteral (λ l f. f.literal) c p)) in
    record {
      literals = merged_from x i j c AllLiterals h (
        merged-literals x (remove (remove c j) i) h.first.divisor h.second.divisor h.first.term h.second.term rest first.term second.term
            first.divisor second.divisor first.coefficient second.coefficient,
        tt,
      );
      met = λ e. met_same c (merge_results x i j c) x e (λ v. merge-same x i j c (put e x v) p a);
    }

pub shift-exact : (x i : ℕ) (c : List Literal) → AllByRecursion IsFormed c → applies x c (Shift i) ≡ true → IsExact x c (shift_results x i c)
shift-exact x i c p a =
    let h : OnlyAt x i c = shift_applies x i c a in
    let d : ℤ = h.literal.divisor in
    let t : Linear = h.literal.term in
    let s = solvable_at x i c p h.literal in
    let z : Bezout = bezout (coef_of t x) d in
    subst (λ o. IsExact x c (shifted_by x (remove c i) o)) (sym h.literal.stands) (record {
      literals = (
        (
          record { term = reduced-without t x s.term; divisor = bezout-positive (coef_of t x) d s.coefficient s.divisor },
          kept-mapped IsLiteral IsLiteral (shifted_literal x d z t) (λ l q. shifted-literals x d z t l s.term q) (remove c i)
              (kept-removed IsLiteral c i (kept-weaker IsFormed IsLiteral (λ l f. f.literal) c p)),
        ),
        tt,
      );
      met = λ e. (shift_kept x i c d t e h.literal.stands s.divisor s.coefficient h.others, shift_back x i c d t e h.literal.stands s.divisor s.coefficient h.others);
    })

-- ---- through the form
met_formed : (x : ℕ) (c : List Literal) (rs vs : List (List Literal)) (e : List ℤ) → vs ≡ clauses_of rs → IsExact x c rs → IsMet (c ∷ []) x e ↔ IsMet vs x e
met_formed x c rs vs e is h =
    let same : (v : ℤ) → dnf_truth vs (put e x v) ≡ dnf_truth rs (put e x v) = (λ v. ap (λ ws. dnf_truth ws (put e x v)) is ∙ clauses_of-truth rs (put e x v) (kept-weaker (AllByRecursion IsLiteral) (All IsLiteral) (λ r f. All-from_recursion IsLiteral r f) rs h.literals)) in (
      λ m. let k = (h.met e).0 m in (k.0, same k.0 ∙ k.1),
      λ m. (h.met e).1 (m.0, sym (same m.0) ∙ m.1),
    )

all_formed : (rs vs : List (List Literal)) → vs ≡ clauses_of rs → AllLiterals rs → All (λ r. All IsFormed r) vs
all_formed rs vs is h =
    All-from_recursion (λ r. All IsFormed r) vs
    (kept-weaker (AllByRecursion IsFormed) (λ r. All IsFormed r) (λ r f. All-from_recursion IsFormed r f) vs
    (subst (AllByRecursion (AllByRecursion IsFormed)) (sym is) (clauses-formed rs h)))

-- the value of a rule
pub record Keeps (x : ℕ) (c : List Literal) (vs : List (List Literal)) : Type 0 where
  pub met : (e : List ℤ) → IsMet (c ∷ []) x e ↔ IsMet vs x e
  pub formed : All (λ r. All IsFormed r) vs

keeps : (x : ℕ) (c : List Literal) (rs vs : List (List Literal)) → vs ≡ clauses_of rs → IsExact x c rs → Keeps x c vs
keeps x c rs vs is h = record { met = λ e. met_formed x c rs vs e is h; formed = all_formed rs vs is h.literals }

pub equation-keeps : (x i : ℕ) (c : List Literal) → All IsFormed c → applies x c (Equation i) ≡ true → Keeps x c (rule x c (Equation i)).value
equation-keeps x i c f a = keeps x c (equation_results x i c) (rule x c (Equation i)).value (equation-value x i c) (equation-exact x i c (literals_of_all c f) a)

pub apart-keeps : (x i : ℕ) (c : List Literal) → All IsFormed c → applies x c (Apart i) ≡ true → Keeps x c (rule x c (Apart i)).value
apart-keeps x i c f a = keeps x c (apart_results i c) (rule x c (Apart i)).value (apart-value x i c) (apart-exact x i c (literals_of_all c f) a)

pub merge-keeps : (x i j : ℕ) (c : List Literal) → All IsFormed c → applies x c (Merge i j) ≡ true → Keeps x c (rule x c (Merge i j)).value
merge-keeps x i j c f a = keeps x c (merge_results x i j c) (rule x c (Merge i j)).value (merge-value x i j c) (merge-exact x i j c (formed_of c f) a)

pub shift-keeps : (x i : ℕ) (c : List Literal) → All IsFormed c → applies x c (Shift i) ≡ true → Keeps x c (rule x c (Shift i)).value
shift-keeps x i c f a = keeps x c (shift_results x i c) (rule x c (Shift i)).value (shift-value x i c) (shift-exact x i c (formed_of c f) a)
