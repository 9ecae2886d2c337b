-- Splitting a negated divisibility and joining two divisibilities keeps a clause on its name, and the candidates of the
-- results are candidates of the clause.
use Rattle.std.proofs.Common.{◌≡◌, ◌≢◌, ◌+◌, ◌-◌, ◌<◌, ◌≤◌, ℕ, zero, suc, ℤ, pos, unsigned_abs, Bool, true, false, not, cond, nat_eq, nat_lt, List, [], ◌∷◌, ◌++◌, Option, Some, None, drop, refl, sym, ◌∙◌, ap, subst, arith}
use Rattle.std.specs.Prelude.{◌⊎◌, remove, slice_get, slice_set, position, filter, All}
use Rattle.std.specs.List.{list_any, flat_map, AllByRecursion}
use Rattle.std.specs.Option.{option_map}
use Rattle.std.proofs.lemmas.Bool.Decides.{nat_tests}
use Rattle.std.proofs.lemmas.List.Quantifiers.{position-Some}
use Rattle.std.proofs.lemmas.List.Elements.{All-from_recursion, recursion_from_All}
use Rattle.base_integers.specs.Entry.{put}
use Rattle.linear_term.specs.Linear.{Linear, number, name, without}
use Rattle.linear_term.specs.Combination.{aligned, combination}
use Rattle.linear_term.proofs.Normal.{aligned-names, combined-names}
use Rattle.linear_term.proofs.Totals.{by_test}
use Rattle.clause_set.specs.declared.literal.Literal.{Literal}
use Rattle.clause_set.specs.declared.literal.Literal.TheVariants.{Geq, Div, NDiv}
use Rattle.clause_set.specs.Literals.{IsLiteral, clause_truth, dnf_truth}
use Rattle.clause_set.specs.Formed.{IsFormed}
use Rattle.clause_set.specs.Clauses.{clauses_of}
use Rattle.clause_set.specs.Names.{is_equation, is_divisibility, is_indivisibility}
use Rattle.clause_set.specs.Bezout.{Bezout}
use Rattle.clause_set.specs.Divisibilities.{numbers_from}
use Rattle.clause_set.specs.Rules.{rule, applies, measure, passes, first_of, first_merge}
use Rattle.clause_set.proofs.Formed.{clauses-formed}
use Rattle.clause_set.proofs.Operations.{clauses_of-truth}
use Rattle.base_budget.specs.declared.log.Entry.{Entry}
use Rattle.base_budget.specs.declared.log.Entry.TheVariants.{Apart, Merge}
use Rattle.base_budget.specs.Trace.{Traced, next, each}
use Rattle.base_budget.proofs.Tracing.{each-value, next-same}
use Rattle.elim_rule_laws.specs.EquationResults.{raised, split_at, apart_results, merged_term, merged_with, merge_results}
use Rattle.elim_rule_laws.proofs.EquationLists.{any-none, kept-removed, kept-got, kept-replaced, kept-mapped, kept-weaker}
use Rattle.elim_rule_laws.proofs.Applying.{IndivisibilityAt, PairAt, apart_applies, merge_applies}
use Rattle.elim_rule_laws.proofs.EquationExactness.{apart-same, merge-same, apart-exact, merge-exact, merged_from}
use Rattle.elim_rule_laws.proofs.EquationValues.{apart-value, merge-value}
use Rattle.elim_rule_laws.proofs.EquationProgress.{apart-nearer, merge-nearer}
use Rattle.solve_laws.specs.Nearest.{AreCandidates}
use Rattle.clause_set.specs.Primitive.{IsShaped}
use Rattle.clause_set.proofs.Shapes.{IsOn, clauses-on, clauses-shaped}
use Rattle.solve_laws.proofs.Spans.{IsIn, IsName, in-formed, in-on, from_lacks}
use Rattle.elim_laws.specs.Whole.{Lacks}
use mathlib.Core.Logic.{inl, inr}
use Rattle.solve_laws.specs.Candidates.{IsAlone, class_of, first_split, split_by, candidates_of, candidates_within, candidates, root_at}
use Rattle.solve_laws.proofs.Ranks.{both, candidates-same, candidates-flat}
use Rattle.solve_laws.proofs.Alone.{IsBoundOrClass, alone_of}
use Rattle.solve_laws.proofs.Candidates.{position-none, position-got, get-drop, no_class, one_class, root_at-candidates, bounded-candidates}

-- ---- clauses in form
all_in : (N : ℕ → Type 0) (c : List Literal) → AllByRecursion IsFormed c → AllByRecursion IsShaped c → AllByRecursion (IsOn N) c → AllByRecursion (IsIn N) c
all_in N [] f s o = tt
all_in N (l ∷ ls) f s o = (record { formed = f.0; shaped = s.0; on = o.0 }, all_in N ls f.1 s.1 o.1)

each_in : (N : ℕ → Type 0) (d : List (List Literal)) → AllByRecursion (AllByRecursion IsFormed) d → AllByRecursion (All IsShaped) d
    → AllByRecursion (AllByRecursion (IsOn N)) d → AllByRecursion (AllByRecursion (IsIn N)) d
each_in N [] f s o = tt
each_in N (c ∷ cs) f s o = (all_in N c f.0 (recursion_from_All IsShaped c s.0) o.0, each_in N cs f.1 s.1 o.1)

to_all : (cs : List (List Literal)) → AllByRecursion (AllByRecursion IsLiteral) cs → AllByRecursion (All IsLiteral) cs
to_all cs h = kept-weaker (AllByRecursion IsLiteral) (All IsLiteral) (λ c k. All-from_recursion IsLiteral c k) cs h

-- the clauses of literals are in form, on the names of these
pub clauses-in : (N : ℕ → Type 0) (cs : List (List Literal)) → AllByRecursion (AllByRecursion IsLiteral) cs → AllByRecursion (AllByRecursion (IsOn N)) cs
    → AllByRecursion (AllByRecursion (IsIn N)) (clauses_of cs)
clauses-in N cs h o = each_in N (clauses_of cs) (clauses-formed cs h) (clauses-shaped cs (to_all cs h)) (clauses-on N cs o)

pub in-alone : (j : ℕ) (c : List Literal) → AllByRecursion (IsIn (IsName j)) c → AllByRecursion (IsAlone j) c
in-alone j c h = kept-weaker (IsIn (IsName j)) (IsAlone j) (λ l f. alone_of j l f.formed f.shaped f.on) c h

-- ---- names of terms
pub combination-on : (N : ℕ → Type 0) (m n : ℤ) (s t : Linear) → AllByRecursion (λ p. N p.0) s.pairs → AllByRecursion (λ p. N p.0) t.pairs
    → AllByRecursion (λ p. N p.0) (combination m s n t).pairs
unfolding combination
combination-on N m n s t h k = combined-names N m n (aligned s.pairs t.pairs) (aligned-names N s.pairs t.pairs h k)

both_of : (N : ℕ → Type 0) (x y : ℕ) (b : Bool) → nat_eq y x ≡ b → not b ≡ true → y ≢ x
both_of N x y true e h = absurd (cc)
both_of N x y false e h = λ s. grind (arith, nat_tests)

filtered-on : (N : ℕ → Type 0) (x : ℕ) (ps : List (ℕ × ℤ)) → AllByRecursion (λ p. N p.0) ps → AllByRecursion (λ p. N p.0 × (p.0 ≢ x)) (filter (λ p. not (nat_eq p.0 x)) ps)
filtered-on N x [] h = tt
filtered-on N x (p ∷ ps) h =
    by_test (AllByRecursion (λ q. N q.0 × (q.0 ≢ x))) (not (nat_eq p.0 x)) (p ∷ filter (λ q. not (nat_eq q.0 x)) ps) (filter (λ q. not (nat_eq q.0 x)) ps)
    (λ t. ((h.0, both_of N x p.0 (nat_eq p.0 x) refl t), filtered-on N x ps h.1)) (λ _. filtered-on N x ps h.1)

-- x is gone
pub without-on : (N : ℕ → Type 0) (x : ℕ) (t : Linear) → AllByRecursion (λ p. N p.0) t.pairs → AllByRecursion (λ p. N p.0 × (p.0 ≢ x)) (without t x).pairs
unfolding without
without-on N x t h = filtered-on N x t.pairs h

still-on : (N : ℕ → Type 0) (x : ℕ) (t : Linear) → AllByRecursion (λ p. N p.0) t.pairs → AllByRecursion (λ p. N p.0) (without t x).pairs
still-on N x t h = kept-weaker (λ p. N p.0 × (p.0 ≢ x)) (λ p. N p.0) (λ p k. k.0) (without t x).pairs (without-on N x t h)

apart-on : (j i : ℕ) (c : List Literal) (d : ℤ) (t : Linear) → AllByRecursion (IsOn (IsName j)) c → slice_get c i ≡ Some (NDiv d t)
    → AllByRecursion (AllByRecursion (IsOn (IsName j))) (split_at i c (Some (NDiv d t)))
apart-on j i c d t o at =
    kept-mapped (λ n. Unit {0}) (AllByRecursion (IsOn (IsName j))) (λ r. slice_set c i (Div d (raised t r)))
    (λ r _. kept-replaced (IsOn (IsName j)) c i (Div d (raised t r)) (combination-on (IsName j) (pos 1) (pos 1) t (number (pos r)) (kept-got (IsOn (IsName j)) c i (NDiv d t) at o) tt) o)
    (numbers_from 1 (unsigned_abs d - 1)) (trivial (numbers_from 1 (unsigned_abs d - 1)))
  where
    trivial : (ns : List ℕ) → AllByRecursion (λ (n : ℕ). Unit {0}) ns
    trivial [] = tt
    trivial (n ∷ ns) = (tt, trivial ns)

merge-on : (j : ℕ) (rest : List Literal) (z : Bezout) (d1 d2 : ℤ) (t u : Linear) → AllByRecursion (IsOn (IsName j)) rest
    → AllByRecursion (λ p. IsName j p.0) t.pairs → AllByRecursion (λ p. IsName j p.0) u.pairs → AllByRecursion (IsOn (IsName j)) (merged_with j rest z d1 t d2 u)
merge-on j rest z d1 d2 t u o ht hu =
    let wt = still-on (IsName j) j t ht in
    let wu = still-on (IsName j) j u hu in (
      combination-on (IsName j) (pos 1) z.g (merged_term j z d1 t d2 u) (name j) (combination-on (IsName j) _ _ (without t j) (without u j) wt wu) (refl, tt),
      (combination-on (IsName j) _ _ (without t j) (without u j) wt wu, o),
    )

-- ---- a split
pub record IsSplit (j : ℕ) (c : List Literal) (e : Entry) : Type 0 where
  pub truth : (f : List ℤ) → dnf_truth (rule j c e).value f ≡ clause_truth c f
  pub nearer : AllByRecursion (λ r. measure j r < measure j c) (rule j c e).value
  pub on : AllByRecursion (AllByRecursion (IsIn (IsName j))) (rule j c e).value

split_of : (j : ℕ) (c : List Literal) (e : Entry) (rs : List (List Literal)) → (rule j c e).value ≡ clauses_of rs → AllByRecursion (AllByRecursion IsLiteral) rs
    → AllByRecursion (AllByRecursion (IsOn (IsName j))) rs → ((f : List ℤ) → dnf_truth rs f ≡ clause_truth c f) → All (λ r. measure j r < measure j c) (rule j c e).value → IsSplit j c e
split_of j c e rs is h o same near = record {
  truth = λ f. ap (λ vs. dnf_truth vs f) is ∙ clauses_of-truth rs f (kept-weaker (AllByRecursion IsLiteral) (All IsLiteral) (λ r g. All-from_recursion IsLiteral r g) rs h) ∙ same f;
  nearer = recursion_from_All (λ r. measure j r < measure j c) (rule j c e).value near;
  on = subst (AllByRecursion (AllByRecursion (IsIn (IsName j)))) (sym is) (clauses-in (IsName j) rs h o);
}

literals_of_formed : (c : List Literal) → AllByRecursion IsFormed c → AllByRecursion IsLiteral c
literals_of_formed c h = kept-weaker IsFormed IsLiteral (λ l f. f.literal) c h

apart-split : (j i : ℕ) (c : List Literal) → AllByRecursion (IsIn (IsName j)) c → list_any (is_equation j) c ≡ false → applies j c (Apart i) ≡ true → IsSplit j c (Apart i)
apart-split j i c h n a =
    let f = in-formed (IsName j) c h in
    let l = literals_of_formed c f in
    let at : IndivisibilityAt j i c = apart_applies j i c a in
    split_of j c (Apart i) (apart_results i c) (apart-value j i c) (apart-exact j i c l a).literals
    (subst (λ o. AllByRecursion (AllByRecursion (IsOn (IsName j))) (split_at i c o)) (sym at.stands) (apart-on j i c at.divisor at.term (in-on (IsName j) c h) at.stands))
    (λ e. apart-same j i c e l a) (apart-nearer j i c n a)

merge-split : (j i k : ℕ) (c : List Literal) → AllByRecursion (IsIn (IsName j)) c → list_any (is_equation j) c ≡ false → applies j c (Merge i k) ≡ true → IsSplit j c (Merge i k)
merge-split j i k c h n a =
    let f = in-formed (IsName j) c h in
    let o = in-on (IsName j) c h in
    let at : PairAt j i k c = merge_applies j i k c a in
    split_of j c (Merge i k) (merge_results j i k c) (merge-value j i k c) (merge-exact j i k c f a).literals
    (merged_from j i k c (AllByRecursion (AllByRecursion (IsOn (IsName j)))) at (
      merge-on j (remove (remove c k) i) _ at.first.divisor at.second.divisor at.first.term at.second.term
          (kept-removed (IsOn (IsName j)) (remove c k) i (kept-removed (IsOn (IsName j)) c k o))
          (kept-got (IsOn (IsName j)) c i (Div at.first.divisor at.first.term) at.first.stands o)
          (kept-got (IsOn (IsName j)) c k (Div at.second.divisor at.second.term) at.second.stands o),
      tt,
    ))
    (λ e. merge-same j i k c e f a) (merge-nearer j i k c n a)

-- ---- the candidates of any clause on j alone
-- what the clauses left by a split give
abbrev IsExactFor : ℕ → (List Literal → Traced (List ℤ)) → ℕ → List ℤ → Type 0
IsExactFor n f j e = (c : List Literal) → AllByRecursion (IsIn (IsName j)) c → measure j c < n → AreCandidates (λ v. clause_truth c (put e j v)) (f c).value

each_exact : (n : ℕ) (f : List Literal → Traced (List ℤ)) (j m : ℕ) (e : List ℤ) (cs : List (List Literal)) → IsExactFor n f j e → m ≤ n
    → AllByRecursion (AllByRecursion (IsIn (IsName j))) cs → AllByRecursion (λ r. measure j r < m) cs
    → AllByRecursion (λ c. AreCandidates (λ v. clause_truth c (put e j v)) (f c).value) cs
each_exact n f j m e [] h le o near = tt
each_exact n f j m e (c ∷ cs) h le o near = (h c o.0 (omega (arith, near.0)), each_exact n f j m e cs h le o.1 near.1)

split-candidates : (n : ℕ) (f : List Literal → Traced (List ℤ)) (j : ℕ) (e : List ℤ) (c : List Literal) (x : Entry) → IsExactFor n f j e → measure j c ≤ n → IsSplit j c x
    → AreCandidates (λ v. clause_truth c (put e j v)) (split_by f j c (Some x)).value
unfolding next
split-candidates n f j e c x h le s =
    let rs : List (List Literal) = (rule j c x).value in
    subst (AreCandidates (λ v. clause_truth c (put e j v))) (sym (each-value f rs []))
    (candidates-same (λ v. dnf_truth rs (put e j v)) (λ v. clause_truth c (put e j v)) (flat_map (λ r. (f r).value) rs) (λ v. s.truth (put e j v))
    (candidates-flat (λ r v. clause_truth r (put e j v)) (λ r. (f r).value) rs (each_exact n f j (measure j c) e rs h le s.on s.nearer)))

applies_apart : (j i : ℕ) (c : List Literal) → passes (is_indivisibility j) (slice_get c i) ≡ true → applies j c (Apart i) ≡ true
unfolding applies
applies_apart j i c h = h

applies_merge : (j i k : ℕ) (c : List Literal) → i < k → passes (is_divisibility j) (slice_get c i) ≡ true → passes (is_divisibility j) (slice_get c k) ≡ true → applies j c (Merge i k) ≡ true
unfolding applies
applies_merge j i k c lt a b = let l : nat_lt i k ≡ true = grind (arith, nat_tests) in both _ _ l (both _ _ a b)

-- a clause without an equation: its first split applies, or it has bounds and at most one divisibility
abbrev pub IsCase : ℕ → List Literal → Option Entry → Type 0
IsCase j c None = AllByRecursion (IsBoundOrClass j (class_of j c).value) c
IsCase j c (Some x) = IsSplit j c x

pub record Here (j : ℕ) (c : List Literal) : Type 0 where
  pub inside : AllByRecursion (IsIn (IsName j)) c
  pub none : list_any (is_equation j) c ≡ false

no_equation : (j : ℕ) (c : List Literal) → Here j c → AllByRecursion (λ l. is_equation j l ≡ false) c
no_equation j c k = any-none (is_equation j) c k.none

-- a second divisibility after the one at i, or none
second : (j : ℕ) (c : List Literal) (i : ℕ) (o : Option ℕ) → Here j c → position (is_indivisibility j) c ≡ None → position (is_divisibility j) c ≡ Some i
    → position (is_divisibility j) (drop (i + 1) c) ≡ o → IsCase j c (option_map (λ m. Merge i (i + 1 + m)) o)
second j c i None k none at behind =
    let d : Literal = Geq (number (pos 0)) in
    let p = position-Some (is_divisibility j) c i d at in
    one_class j i c d (in-alone j c k.inside) (no_equation j c k) (position-none (is_indivisibility j) c none) p.0 p.1 p.2 (position-none (is_divisibility j) (drop (i + 1) c) behind)
second j c i (Some m) k none at behind =
    merge-split j i (i + 1 + m) c k.inside k.none
    (applies_merge j i (i + 1 + m) c (omega arith) (position-got (is_divisibility j) c i at)
    (ap (passes (is_divisibility j)) (sym (get-drop c (i + 1) m)) ∙ position-got (is_divisibility j) (drop (i + 1) c) m behind))

merged : (j : ℕ) (c : List Literal) (o : Option ℕ) → Here j c → position (is_indivisibility j) c ≡ None → position (is_divisibility j) c ≡ o → IsCase j c (first_merge j c o)
merged j c None k none at =
    no_class j (class_of j c).value c (in-alone j c k.inside) (no_equation j c k) (position-none (is_indivisibility j) c none) (position-none (is_divisibility j) c at)
merged j c (Some i) k none at = second j c i (position (is_divisibility j) (drop (i + 1) c)) k none at refl

parted : (j : ℕ) (c : List Literal) (o : Option ℕ) → Here j c → position (is_indivisibility j) c ≡ o
    → IsCase j c (first_of (option_map (λ i. Apart i) o) (first_merge j c (position (is_divisibility j) c)))
parted j c None k at = merged j c (position (is_divisibility j) c) k at refl
parted j c (Some i) k at = apart-split j i c k.inside k.none (applies_apart j i c (position-got (is_indivisibility j) c i at))

pub case_of : (j : ℕ) (c : List Literal) → Here j c → IsCase j c (first_split j c)
case_of j c k = parted j c (position (is_indivisibility j) c) k refl

by_case : (n : ℕ) (f : List Literal → Traced (List ℤ)) (j : ℕ) (e : List ℤ) (c : List Literal) (o : Option Entry) → IsExactFor n f j e → Here j c → measure j c ≤ n → IsCase j c o
    → AreCandidates (λ v. clause_truth c (put e j v)) (split_by f j c o).value
by_case n f j e c None h k le s = bounded-candidates j c e (in-alone j c k.inside) s
by_case n f j e c (Some x) h k le s = split-candidates n f j e c x h le s

of-candidates : (n : ℕ) (f : List Literal → Traced (List ℤ)) (j : ℕ) (e : List ℤ) (c : List Literal) → IsExactFor n f j e → AllByRecursion (IsIn (IsName j)) c → measure j c ≤ n
    → AreCandidates (λ v. clause_truth c (put e j v)) (candidates_of f j c).value
of-candidates n f j e c h o le =
    by_test (λ m. AreCandidates (λ v. clause_truth c (put e j v)) m.value) (list_any (is_equation j) c) (root_at j c (position (is_equation j) c)) (split_by f j c (first_split j c))
    (λ t. root_at-candidates j c (position (is_equation j) c) e (in-alone j c o) refl t)
    (λ t. let k : Here j c = record { inside = o; none = t } in by_case n f j e c (first_split j c) h k le (case_of j c k))

within-candidates : (n j : ℕ) (e : List ℤ) → IsExactFor n (candidates_within n j) j e
within-candidates zero j e c o lt = absurd (omega arith)
within-candidates (suc n) j e c o lt = of-candidates n (candidates_within n j) j e c (within-candidates n j e) o (omega arith)

-- THE theorem on candidates
pub candidates-exact : (j : ℕ) (c : List Literal) (e : List ℤ) → AllByRecursion (IsIn (IsName j)) c → AreCandidates (λ v. clause_truth c (put e j v)) (candidates j c).value
unfolding candidates
candidates-exact j c e o = within-candidates (suc (measure j c)) j e c o (omega arith)

-- ---- the depth plays no part
each_same : (f g : List Literal → Traced (List ℤ)) (cs : List (List Literal)) (out : List ℤ) → AllByRecursion (λ c. f c ≡ g c) cs → each f cs out ≡ each g cs out
each_same f g [] out h = refl
each_same f g (c ∷ cs) out h = ap (λ m. next m (λ ds. each f cs (out ++ ds))) h.0 ∙ next-same (g c) (λ ds. each f cs (out ++ ds)) (λ ds. each g cs (out ++ ds)) (each_same f g cs (out ++ (g c).value) h.1)

AreSame : ℕ → (List Literal → Traced (List ℤ)) → (List Literal → Traced (List ℤ)) → ℕ → Type 0
AreSame n f g j = (c : List Literal) → AllByRecursion (IsIn (IsName j)) c → measure j c < n → f c ≡ g c

all_same : (n : ℕ) (f g : List Literal → Traced (List ℤ)) (j m : ℕ) (cs : List (List Literal)) → AreSame n f g j → m ≤ n
    → AllByRecursion (AllByRecursion (IsIn (IsName j))) cs → AllByRecursion (λ r. measure j r < m) cs → AllByRecursion (λ c. f c ≡ g c) cs
unfolding AreSame
all_same n f g j m [] h le o near = tt
all_same n f g j m (c ∷ cs) h le o near = (h c o.0 (omega (arith, near.0)), all_same n f g j m cs h le o.1 near.1)

same_case : (n : ℕ) (f g : List Literal → Traced (List ℤ)) (j : ℕ) (c : List Literal) (o : Option Entry) → AreSame n f g j → measure j c ≤ n → IsCase j c o → split_by f j c o ≡ split_by g j c o
same_case n f g j c None h le s = refl
same_case n f g j c (Some x) h le s =
    next-same (rule j c x) (λ cs. each f cs []) (λ cs. each g cs []) (each_same f g (rule j c x).value [] (all_same n f g j (measure j c) (rule j c x).value h le s.on s.nearer))

same_of : (n : ℕ) (f g : List Literal → Traced (List ℤ)) (j : ℕ) (c : List Literal) → AreSame n f g j → AllByRecursion (IsIn (IsName j)) c → measure j c ≤ n → candidates_of f j c ≡ candidates_of g j c
same_of n f g j c h o le = by (list_any (is_equation j) c) refl
  where
    by : (b : Bool) → list_any (is_equation j) c ≡ b
        → cond b (root_at j c (position (is_equation j) c)) (split_by f j c (first_split j c)) ≡ cond b (root_at j c (position (is_equation j) c)) (split_by g j c (first_split j c))
    by true t = refl
    by false t = same_case n f g j c (first_split j c) h le (case_of j c (record { inside = o; none = t }))

deeper : (n m j : ℕ) → n ≤ m → AreSame n (candidates_within n j) (candidates_within m j) j
unfolding AreSame
deeper zero m j le c o lt = absurd (omega arith)
deeper (suc n) zero j le c o lt = absurd (omega arith)
deeper (suc n) (suc m) j le c o lt = same_of n (candidates_within n j) (candidates_within m j) j c (deeper n m j (omega arith)) o (omega arith)

-- the candidates of a clause are those of its equation, of its bounds, or of what its first split leaves
pub candidates-unfold : (j : ℕ) (c : List Literal) → AllByRecursion (IsIn (IsName j)) c → candidates j c ≡ candidates_of (candidates j) j c
unfolding candidates AreSame
candidates-unfold j c o =
    same_of (measure j c) (candidates_within (measure j c) j) (candidates j) j c
    (λ r i lt. sym (deeper (suc (measure j r)) (measure j c) j (omega arith) r i (omega arith))) o (omega arith)

-- ---- a clause that lacks all names but j
pub alone_in : (j : ℕ) (c : List Literal) → All IsFormed c → All IsShaped c → ((y : ℕ) → y ≢ j → Lacks y c) → AllByRecursion (IsIn (IsName j)) c
alone_in j c f s o = from_lacks (IsName j) c f s (λ y. by y (nat_eq y j) refl)
  where
    by : (y : ℕ) (b : Bool) → nat_eq y j ≡ b → IsName j y ⊎ Lacks y c
    by y true e = inl (grind (arith, nat_tests))
    by y false e = inr (o y (λ s. absurd (let t : nat_eq y j ≡ true = grind (arith, nat_tests) in let z : true ≡ false = sym t ∙ e in cc)))

pub clause-candidates : (j : ℕ) (c : List Literal) (e : List ℤ) → All IsFormed c → All IsShaped c → ((y : ℕ) → y ≢ j → Lacks y c)
    → AreCandidates (λ v. clause_truth c (put e j v)) (candidates j c).value
clause-candidates j c e f s o = candidates-exact j c e (alone_in j c f s o)

pub clause-splits : (j : ℕ) (c : List Literal) → All IsFormed c → All IsShaped c → ((y : ℕ) → y ≢ j → Lacks y c) → candidates j c ≡ candidates_of (candidates j) j c
clause-splits j c f s o = candidates-unfold j c (alone_in j c f s o)
