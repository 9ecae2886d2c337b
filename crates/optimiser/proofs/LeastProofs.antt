-- The least value of a term is found where the work says.
use Rattle.std.proofs.Common.{◌≡◌, ◌+◌, ◌<◌, ◌≤◌, ℕ, suc, ℤ, pos, negsuc, ◌+ℤ◌, ◌-ℤ◌, ◌*ℤ◌, ◌≤ℤ◌, ◌<ℤ◌, Bool, true, false, ◌&&◌, ◌||◌, List, [], ◌∷◌, ◌++◌, length, Option, Some, None, refl, sym, ◌∙◌, ap, subst, arith}
use Rattle.std.specs.Prelude.{◌↔◌, All}
use Rattle.std.specs.List.{AllByRecursion, list_any}
use Rattle.std.specs.Ordering.{int_eq}
use Rattle.std.proofs.Math.ListN.{replicate}
use Rattle.std.proofs.lemmas.Int.{ints}
use Rattle.std.proofs.lemmas.List.{length-replicate}
use Rattle.std.proofs.lemmas.List.Elements.{All-from_recursion}
use Rattle.std.proofs.lemmas.Bool.Decides.{Decides-int_eq}
use Rattle.base_integers.specs.Entry.{put}
use Rattle.base_integers.proofs.Entries.{put-length, entry-put_same}
use Rattle.linear_term.specs.Linear.{Linear, IsOver, IsReduced, mentions, name, number, value_of}
use Rattle.linear_term.specs.Combination.{combination}
use Rattle.linear_term.proofs.Names.{over-unmentioned, combination-over, reduced-combination, value_of-unmentioned}
use Rattle.linear_term.proofs.Totals.{value_of-combination, value_of-name, value_of-number}
use Rattle.base_budget.specs.Trace.{just, step, next}
use Rattle.clause_set.specs.declared.literal.Literal.{Literal}
use Rattle.clause_set.specs.declared.literal.Literal.TheVariants.{Eq}
use Rattle.clause_set.specs.Clauses.{clauses_of}
use Rattle.clause_set.specs.Dnfs.{conjunction}
use Rattle.clause_set.specs.Formed.{IsFormed}
use Rattle.clause_set.specs.Kept.{AreFormed, AreFree}
use Rattle.clause_set.specs.Literals.{IsLiteral, AreLiterals, clause_truth, dnf_truth}
use Rattle.clause_set.specs.Names.{has}
use Rattle.clause_set.specs.Primitive.{IsShaped}
use Rattle.clause_set.proofs.Kept.{Each, conjunction-kept, each_from}
use Rattle.clause_set.proofs.Operations.{and-truth, clauses_of-truth}
use Rattle.clause_set.proofs.Primitive.{IsNormalLiteral, normal-keeps}
use Rattle.clause_set.proofs.Shapes.{clauses_of-formed, conjunction-formed, conjunction-free, clauses-shaped, shaped}
use Rattle.elim_rule_laws.proofs.EquationLists.{kept-weaker, none-any}
use Rattle.elim_rule_laws.proofs.Solving.{unused-truth}
use Rattle.elim_laws.specs.Whole.{AreOver, Lacks, names_out}
use Rattle.elim_laws.proofs.Forms.{formed-literals}
use Rattle.elim_laws.proofs.Names.{clauses-lack, number-lacks}
use Rattle.solve_laws.specs.Best.{IsBest}
use Rattle.solve_laws.specs.Solutions.{IsGiven, solving}
use Rattle.solve_laws.proofs.Outs.{free_lacks}
use Rattle.solve_laws.proofs.Ranks.{and_left, and_right, both}
use Rattle.solve_laws.proofs.Solving.{solving-best, solving-none}
use Rattle.solve_laws.proofs.Spans.{IsIn, IsName}
use Rattle.optimiser.specs.declared.floor.Floor.{Floor}
use Rattle.optimiser.specs.declared.floor.Floor.TheVariants.{Nowhere, At, Unbounded}
use Rattle.optimiser.specs.Floors.{IsInfimum}
use Rattle.optimiser.specs.OneName.{dnf_floor}
use Rattle.optimiser.specs.Least.{IsAttained, IsTask, IsLeast, IsUnbounded, Minimum, nothing, no_least, least_at, IsMinimum, with_zero, with_objective, with_level, at_values, by_floor, values_floor, minimising}
use Rattle.optimiser.proofs.OneName.{dnf-floor}
use Rattle.optimiser.proofs.Outs.{Before, names_out-before, names_out-alone}

-- ---- d, and a term is 0
zero_literals : (s : Linear) → IsReduced s → AreLiterals ((Eq s ∷ []) ∷ [])
zero_literals s h = (All-from_recursion IsLiteral (Eq s ∷ []) (record { term = h; divisor = tt }, tt), tt)

alone_true : (b : Bool) → ((b && true) || false) ≡ b
alone_true true = refl
alone_true false = refl

with_zero-truth : (d : List (List Literal)) (s : Linear) (e : List ℤ) → AreFormed d → IsReduced s → dnf_truth (with_zero d s).value e ≡ (dnf_truth d e && int_eq (value_of s e) (pos 0))
with_zero-truth d s e f h =
    and-truth d (clauses_of ((Eq s ∷ []) ∷ [])) e (formed-literals d f) (formed-literals (clauses_of ((Eq s ∷ []) ∷ [])) (clauses_of-formed ((Eq s ∷ []) ∷ []) (zero_literals s h)))
    ∙ ap (λ b. dnf_truth d e && b) (clauses_of-truth ((Eq s ∷ []) ∷ []) e (zero_literals s h) ∙ alone_true (int_eq (value_of s e) (pos 0)))

all_shaped : (c : List Literal) → AllByRecursion IsNormalLiteral c → AllByRecursion IsShaped c
all_shaped c h = kept-weaker IsNormalLiteral IsShaped shaped c h

-- the form of clauses, and that they lack all names that N excludes
record IsForm (d : List (List Literal)) : Type 0 where
  formed : AreFormed d
  shaped : AllByRecursion (All IsShaped) d

with_zero-form : (d : List (List Literal)) (s : Linear) → AreFormed d → IsReduced s → IsForm (with_zero d s).value
with_zero-form d s f h =
    let z : List (List Literal) = clauses_of ((Eq s ∷ []) ∷ []) in
    let a : AreLiterals d = formed-literals d f in
    let b : AreLiterals z = formed-literals z (clauses_of-formed ((Eq s ∷ []) ∷ []) (zero_literals s h)) in
    record {
      formed = conjunction-formed d z a b;
      shaped = kept-weaker (AllByRecursion IsNormalLiteral) (All IsShaped) (λ c k. All-from_recursion IsShaped c (all_shaped c k)) (conjunction d z).value
          (conjunction-kept IsLiteral IsNormalLiteral normal-keeps d z (each_from IsLiteral d a) (each_from IsLiteral z b));
    }

lacks_free : (y : ℕ) (d : List (List Literal)) → AllByRecursion (Lacks y) d → AreFree y d
lacks_free y d h = kept-weaker (Lacks y) (λ c. list_any (has y) c ≡ false) (λ c k. none-any (has y) c k) d h

with_zero-lacks : (y : ℕ) (d : List (List Literal)) (s : Linear) → AllByRecursion (Lacks y) d → mentions s y ≡ false → AllByRecursion (Lacks y) (with_zero d s).value
with_zero-lacks y d s h n =
    free_lacks y (with_zero d s).value
    (conjunction-free y d (clauses_of ((Eq s ∷ []) ∷ [])) (lacks_free y d h) (lacks_free y (clauses_of ((Eq s ∷ []) ∷ [])) (clauses-lack y ((Eq s ∷ []) ∷ []) ((n, tt), tt))))

-- ---- a name that d lacks plays no part
unused : (x : ℕ) (d : List (List Literal)) (e : List ℤ) (v : ℤ) → AllByRecursion (Lacks x) d → dnf_truth d (put e x v) ≡ dnf_truth d e
unused x [] e v h = refl
unused x (c ∷ d) e v h = ap (λ b. b || dnf_truth d (put e x v)) (unused-truth x c e v (none-any (has x) c h.0)) ∙ ap (λ b. clause_truth c e || b) (unused x d e v h.1)

-- ---- the value of the objective's term: v − t
name_reduced : (n : ℕ) → IsReduced (name n)
name_reduced n = record { rising = (omega arith, tt); not_zero = All-from_recursion (λ (p : ℕ × ℤ). p.1 ≡ pos 0 → ⊥) ((n, pos 1) ∷ []) (λ e. omega (arith, ints, e), tt) }

number_reduced : (k : ℤ) → IsReduced (number k)
number_reduced k = record { rising = tt; not_zero = All-from_recursion (λ (p : ℕ × ℤ). p.1 ≡ pos 0 → ⊥) [] tt }

apart_value : (n : ℕ) (t : Linear) (w : List ℤ) (v : ℤ) → IsOver n t → value_of (combination (pos 1) (name n) (negsuc 0) t) (put w n v) ≡ v -ℤ value_of t w
apart_value n t w v o =
    let a = value_of-combination (pos 1) (negsuc 0) (name n) t (put w n v) in
    let b : value_of (name n) (put w n v) ≡ v = value_of-name n (put w n v) ∙ entry-put_same w n v in
    let c : value_of t (put w n v) ≡ value_of t w = value_of-unmentioned t n w v (over-unmentioned n n t o (omega arith)) in
    omega (arith, ints, a, b, c)

level_value : (t : Linear) (k : ℤ) (w : List ℤ) → value_of (combination (pos 1) t (negsuc 0) (number k)) w ≡ value_of t w -ℤ k
level_value t k w =
    let a = value_of-combination (pos 1) (negsuc 0) t (number k) w in
    let b = value_of-number k w in
    omega (arith, ints, a, b)

-- ---- the clauses that are left when all names of d are out
objective_reduced : (n : ℕ) (t : Linear) → IsReduced t → IsReduced (combination (pos 1) (name n) (negsuc 0) t)
objective_reduced n t h = reduced-combination (pos 1) (negsuc 0) (name n) t (name_reduced n) h

put_end : (w : List ℤ) (n : ℕ) (v : ℤ) → length w ≡ n → put w n v ≡ w ++ v ∷ []
put_end w n v l = subst (λ (m : ℕ). put w m v ≡ w ++ v ∷ []) l (put-length w v)

-- a list of n integers satisfies d and gives t the value v exactly where it satisfies the joined clauses with v after
joined-truth : (n : ℕ) (d : List (List Literal)) (t : Linear) (w : List ℤ) (v : ℤ) → IsTask n d t
    → dnf_truth (with_zero d (combination (pos 1) (name n) (negsuc 0) t)).value (put w n v) ≡ (dnf_truth d w && int_eq (v -ℤ value_of t w) (pos 0))
joined-truth n d t w v h =
    with_zero-truth d (combination (pos 1) (name n) (negsuc 0) t) (put w n v) h.given.formed (objective_reduced n t h.reduced)
    ∙ ap (λ b. b && int_eq (value_of (combination (pos 1) (name n) (negsuc 0) t) (put w n v)) (pos 0)) (unused n d w v (h.given.over n (omega arith)))
    ∙ ap (λ z. dnf_truth d w && int_eq z (pos 0)) (apart_value n t w v h.over)

sub_zero : (v u : ℤ) → v -ℤ u ≡ pos 0 → u ≡ v
sub_zero v u h = omega (arith, ints, h)

-- what is left is true at v exactly where some list that satisfies d gives t the value v
left-truth : (n : ℕ) (d : List (List Literal)) (t : Linear) (u : List ℤ) (v : ℤ) → IsTask n d t → length u ≡ n
    → (dnf_truth (names_out n (with_zero d (combination (pos 1) (name n) (negsuc 0) t)).value).value (put u n v) ≡ true) ↔ IsAttained n d t v
left-truth n d t u v h l =
    let b : List (List Literal) = (with_zero d (combination (pos 1) (name n) (negsuc 0) t)).value in
    let f = with_zero-form d (combination (pos 1) (name n) (negsuc 0) t) h.given.formed (objective_reduced n t h.reduced) in
    let o = names_out-before n b u (v ∷ []) f.formed l in
    let here : put u n v ≡ u ++ v ∷ [] = put_end u n v l in (
      λ k.
          let w : Before b n (v ∷ []) = o.0 (ap (dnf_truth (names_out n b).value) (sym here) ∙ k) in
          let parts = sym (joined-truth n d t w.values v h) ∙ ap (dnf_truth b) (put_end w.values n v w.as_many) ∙ w.holds in
          let zero : v -ℤ value_of t w.values ≡ pos 0 = (Decides-int_eq (v -ℤ value_of t w.values) (pos 0)).0 (and_right _ _ parts) in
          record { values = w.values; as_many = w.as_many; holds = and_left _ _ parts; value = sub_zero v (value_of t w.values) zero },
      λ r.
          let same : v -ℤ value_of t r.values ≡ pos 0 = (let e = r.value in omega (arith, ints, e)) in
          let t1 : dnf_truth b (put r.values n v) ≡ true =
          joined-truth n d t r.values v h ∙ both _ _ r.holds ((Decides-int_eq (v -ℤ value_of t r.values) (pos 0)).1 same) in
          ap (dnf_truth (names_out n b).value) here
          ∙ o.1 (record { values = r.values; as_many = r.as_many; holds = ap (dnf_truth b) (sym (put_end r.values n v r.as_many)) ∙ t1 }),
    )

-- what is left speaks of the name n alone
objective-names : (n : ℕ) (d : List (List Literal)) (t : Linear) → IsTask n d t
    → AllByRecursion (AllByRecursion (IsIn (IsName n))) (names_out n (with_zero d (combination (pos 1) (name n) (negsuc 0) t)).value).value
objective-names n d t h =
    let s : Linear = combination (pos 1) (name n) (negsuc 0) t in
    let f = with_zero-form d s h.given.formed (objective_reduced n t h.reduced) in
    names_out-alone n (with_zero d s).value f.formed f.shaped (λ y lt. with_zero-lacks y d s (h.given.over y (omega (arith, lt))) (objective_lacks y lt))
  where
    name_over : IsOver (suc n) (name n)
    name_over = All-from_recursion (λ (p : ℕ × ℤ). p.0 < suc n) ((n, pos 1) ∷ []) (omega arith, tt)

    wider : IsOver (suc n) t
    wider = λ i p lt. let k = h.over i p lt in omega (arith, k)

    objective_lacks : (y : ℕ) → n < y → mentions (combination (pos 1) (name n) (negsuc 0) t) y ≡ false
    objective_lacks y lt = over-unmentioned (suc n) y (combination (pos 1) (name n) (negsuc 0) t) (combination-over (suc n) (pos 1) (negsuc 0) (name n) t name_over wider) (omega (arith, lt))

pub objective-alone : (n : ℕ) (d : List (List Literal)) (t : Linear) → IsTask n d t → AllByRecursion (AllByRecursion (IsIn (IsName n))) (names_out n (with_objective n d t).value).value
unfolding next step
objective-alone n d t h = objective-names n d t h

left-floor : (n : ℕ) (d : List (List Literal)) (t : Linear) (u : List ℤ) → IsTask n d t
    → IsInfimum (λ v. dnf_truth (names_out n (with_zero d (combination (pos 1) (name n) (negsuc 0) t)).value).value (put u n v))
    (dnf_floor n (names_out n (with_zero d (combination (pos 1) (name n) (negsuc 0) t)).value).value).value
left-floor n d t u h = dnf-floor n (names_out n (with_zero d (combination (pos 1) (name n) (negsuc 0) t)).value).value u (objective-names n d t h)

-- ---- the best values where t has the value k
level-truth : (n : ℕ) (d : List (List Literal)) (t : Linear) (k : ℤ) (w : List ℤ) → IsTask n d t → dnf_truth (with_zero d (combination (pos 1) t (negsuc 0) (number k))).value w ≡ (dnf_truth d w && int_eq (value_of t w) k)
level-truth n d t k w h =
    with_zero-truth d (combination (pos 1) t (negsuc 0) (number k)) w h.given.formed (reduced-combination (pos 1) (negsuc 0) t (number k) h.reduced (number_reduced k))
    ∙ ap (λ z. dnf_truth d w && int_eq z (pos 0)) (level_value t k w) ∙ ap (λ b. dnf_truth d w && b) (same (int_eq (value_of t w -ℤ k) (pos 0)) (int_eq (value_of t w) k) refl refl)
  where
    same : (a b : Bool) → int_eq (value_of t w -ℤ k) (pos 0) ≡ a → int_eq (value_of t w) k ≡ b → a ≡ b
    same true true e f = refl
    same false false e f = refl
    same true false e f =
        absurd (let z : value_of t w -ℤ k ≡ pos 0 = (Decides-int_eq (value_of t w -ℤ k) (pos 0)).0 e in
        let g : int_eq (value_of t w) k ≡ true = (Decides-int_eq (value_of t w) k).1 (omega (arith, ints, z)) in let y : true ≡ false = sym g ∙ f in cc)
    same false true e f =
        absurd (let z : value_of t w ≡ k = (Decides-int_eq (value_of t w) k).0 f in
        let g : int_eq (value_of t w -ℤ k) (pos 0) ≡ true = (Decides-int_eq (value_of t w -ℤ k) (pos 0)).1 (omega (arith, ints, z)) in let y : true ≡ false = sym g ∙ e in cc)

level-given : (n : ℕ) (d : List (List Literal)) (t : Linear) (k : ℤ) → IsTask n d t → IsGiven n (with_zero d (combination (pos 1) t (negsuc 0) (number k))).value
level-given n d t k h =
    let s : Linear = combination (pos 1) t (negsuc 0) (number k) in
    let f = with_zero-form d s h.given.formed (reduced-combination (pos 1) (negsuc 0) t (number k) h.reduced (number_reduced k)) in
    record {
      formed = f.formed;
      shaped = f.shaped;
      over = λ y le. with_zero-lacks y d s (h.given.over y le) (over-unmentioned n y s (combination-over n (pos 1) (negsuc 0) t (number k) h.over (All-from_recursion (λ (p : ℕ × ℤ). p.0 < n) [] tt)) le);
    }

best-same : (p q : List ℤ → Bool) (n : ℕ) (v : List ℤ) → ((w : List ℤ) → p w ≡ q w) → IsBest p n v → IsBest q n v
best-same p q n v e h = record { names = h.names; satisfies = sym (e v) ∙ h.satisfies; best = λ w l t. h.best w l (e w ∙ t) }

-- ---- THE theorem
contrary : (b : Bool) (P : Type 0) → b ≡ true → b ≡ false → P
contrary b P t f = absurd (let z : true ≡ false = sym t ∙ f in cc)

is_false : (b : Bool) → (b ≡ true → ⊥) → b ≡ false
is_false true f = absurd (f refl)
is_false false f = refl

module _ (n : ℕ) (d : List (List Literal)) (t : Linear) (h : IsTask n d t) where
  zeros : List ℤ
  zeros = replicate n (pos 0)

  -- the values of t that lists that satisfy d give
  reach : ℤ → Bool
  reach v = dnf_truth (names_out n (with_zero d (combination (pos 1) (name n) (negsuc 0) t)).value).value (put (replicate n (pos 0)) n v)

  reached : (v : ℤ) → (reach v ≡ true) ↔ IsAttained n d t v
  unfolding reach
  reached v = left-truth n d t (replicate n (pos 0)) v h (length-replicate n (pos 0))

  of_list : (w : List ℤ) → length w ≡ n → dnf_truth d w ≡ true → reach (value_of t w) ≡ true
  of_list w l s = (reached (value_of t w)).1 (record { values = w; as_many = l; holds = s; value = refl })

  none_found : IsInfimum reach Nowhere → IsMinimum (dnf_truth d) n (value_of t) nothing
  none_found f = λ w l. is_false (dnf_truth d w) (λ s. contrary (reach (value_of t w)) ⊥ (of_list w l s) (f (value_of t w)))

  below_all : IsInfimum reach Unbounded → IsMinimum (dnf_truth d) n (value_of t) no_least
  below_all f = λ k.
      let v = f k in
      let r : IsAttained n d t v.0 = (reached v.0).0 v.1.0 in
      (r.values, r.as_many, r.holds, (let e = r.value in let lt = v.1.1 in omega (arith, ints, e, lt)))

  least_found : (k : ℤ) (o : Option (List ℤ)) → IsInfimum reach (At k) → (solving n (with_zero d (combination (pos 1) t (negsuc 0) (number k))).value).value ≡ o
      → IsMinimum (dnf_truth d) n (value_of t) (at_values k o)
  least_found k None f e =
      let r : IsAttained n d t k = (reached k).0 f.0 in
      let none = (solving-none n (with_zero d (combination (pos 1) t (negsuc 0) (number k))).value (level-given n d t k h)).0 e r.values r.as_many in
      contrary (dnf_truth (with_zero d (combination (pos 1) t (negsuc 0) (number k))).value r.values) _
      (level-truth n d t k r.values h ∙ both _ _ r.holds ((Decides-int_eq (value_of t r.values) k).1 r.value)) none
  least_found k (Some vs) f e =
      let b : IsBest (λ w. dnf_truth d w && int_eq (value_of t w) k) n vs =
      best-same (dnf_truth (with_zero d (combination (pos 1) t (negsuc 0) (number k))).value) (λ w. dnf_truth d w && int_eq (value_of t w) k) n vs (λ w. level-truth n d t k w h)
      (solving-best n (with_zero d (combination (pos 1) t (negsuc 0) (number k))).value vs (level-given n d t k h) e) in
      record {
        satisfies = and_left _ _ b.satisfies;
        value = (Decides-int_eq (value_of t vs) k).0 (and_right _ _ b.satisfies);
        least = λ w l s. f.1 (value_of t w) (of_list w l s);
        best = b;
      }

  by_floor-is : (f : Floor) → IsInfimum reach f → IsMinimum (dnf_truth d) n (value_of t) (by_floor n d t f).value
  unfolding next just step
  by_floor-is Nowhere f = none_found f
  by_floor-is Unbounded f = below_all f
  by_floor-is (At k) f = least_found k (solving n (with_zero d (combination (pos 1) t (negsuc 0) (number k))).value).value f refl

  pub minimising-is : IsMinimum (dnf_truth d) n (value_of t) (minimising n d t).value
  unfolding minimising values_floor next just step reach
  minimising-is =
      by_floor-is (dnf_floor n (names_out n (with_zero d (combination (pos 1) (name n) (negsuc 0) t)).value).value).value (left-floor n d t (replicate n (pos 0)) h)

-- the least value is attained
attained_by : (n : ℕ) (d : List (List Literal)) (t : Linear) (k : ℤ) (f : Floor) → IsTask n d t → IsInfimum (λ v. dnf_truth (names_out n (with_zero d (combination (pos 1) (name n) (negsuc 0) t)).value).value (put (replicate n (pos 0)) n v)) f
    → f ≡ At k → IsAttained n d t k
attained_by n d t k f h i e =
    let at : IsInfimum (λ v. dnf_truth (names_out n (with_zero d (combination (pos 1) (name n) (negsuc 0) t)).value).value (put (replicate n (pos 0)) n v)) (At k) =
    subst (IsInfimum (λ v. dnf_truth (names_out n (with_zero d (combination (pos 1) (name n) (negsuc 0) t)).value).value (put (replicate n (pos 0)) n v))) e i in
    (left-truth n d t (replicate n (pos 0)) k h (length-replicate n (pos 0))).0 at.0

pub values-attained : (n : ℕ) (d : List (List Literal)) (t : Linear) (k : ℤ) → IsTask n d t → (values_floor n d t).value ≡ At k → IsAttained n d t k
unfolding values_floor next step
values-attained n d t k h e =
    attained_by n d t k (dnf_floor n (names_out n (with_zero d (combination (pos 1) (name n) (negsuc 0) t)).value).value).value h (left-floor n d t (replicate n (pos 0)) h) e

-- d where t has the value k: its names, and it is satisfied where t has that value
pub level-over : (n : ℕ) (d : List (List Literal)) (t : Linear) (k : ℤ) → IsTask n d t → AreOver n (with_level d t k).value
unfolding next step
level-over n d t k h = (level-given n d t k h).over

pub level-satisfied : (n : ℕ) (d : List (List Literal)) (t : Linear) (k : ℤ) → IsTask n d t → IsAttained n d t k → ((w : List ℤ) → length w ≡ n → dnf_truth (with_level d t k).value w ≡ false) → ⊥
unfolding next step
level-satisfied n d t k h r none =
    contrary (dnf_truth (with_zero d (combination (pos 1) t (negsuc 0) (number k))).value r.values) ⊥
    (level-truth n d t k r.values h ∙ both _ _ r.holds ((Decides-int_eq (value_of t r.values) k).1 r.value)) (none r.values r.as_many)

-- ---- one answer at most
empty-unbounded : (p : List ℤ → Bool) (n : ℕ) (t : List ℤ → ℤ) → IsMinimum p n t nothing → IsMinimum p n t no_least → ⊥
empty-unbounded p n t e u = let w = u (pos 0) in contrary (p w.0) ⊥ w.2 (e w.0 w.1)

empty-least : (p : List ℤ → Bool) (n : ℕ) (t : List ℤ → ℤ) (k : ℤ) (v : List ℤ) → IsMinimum p n t nothing → IsMinimum p n t (least_at k v) → ⊥
empty-least p n t k v e l = contrary (p v) ⊥ l.satisfies (e v l.best.names)

unbounded-least : (p : List ℤ → Bool) (n : ℕ) (t : List ℤ → ℤ) (k : ℤ) (v : List ℤ) → IsMinimum p n t no_least → IsMinimum p n t (least_at k v) → ⊥
unbounded-least p n t k v u l = let w = u k in let a = l.least w.0 w.1 w.2 in let b = w.3 in omega (arith, ints, a, b)

only_nothing : (p : List ℤ → Bool) (n : ℕ) (t : List ℤ → ℤ) (m : Minimum) → IsMinimum p n t m → (m ≡ nothing) ↔ IsMinimum p n t nothing
only_nothing p n t nothing h = (λ e. h, λ k. refl)
only_nothing p n t no_least h = (λ e. absurd (cc), λ k. absurd (empty-unbounded p n t k h))
only_nothing p n t (least_at x v) h = (λ e. absurd (cc), λ k. absurd (empty-least p n t x v k h))

only_unbounded : (p : List ℤ → Bool) (n : ℕ) (t : List ℤ → ℤ) (m : Minimum) → IsMinimum p n t m → (m ≡ no_least) ↔ IsMinimum p n t no_least
only_unbounded p n t nothing h = (λ e. absurd (cc), λ k. absurd (empty-unbounded p n t h k))
only_unbounded p n t no_least h = (λ e. h, λ k. refl)
only_unbounded p n t (least_at x v) h = (λ e. absurd (cc), λ k. absurd (unbounded-least p n t x v k h))

pub task : (n : ℕ) (d : List (List Literal)) (t : Linear) → IsGiven n d → IsReduced t → IsOver n t → IsTask n d t
task n d t g r o = record { given = g; reduced = r; over = o }

pub least-exact : (n : ℕ) (d : List (List Literal)) (t : Linear) → IsGiven n d → IsReduced t → IsOver n t → IsMinimum (dnf_truth d) n (value_of t) (minimising n d t).value
least-exact n d t g r o = minimising-is n d t (task n d t g r o)

pub least-none : (n : ℕ) (d : List (List Literal)) (t : Linear) → IsGiven n d → IsReduced t → IsOver n t → ((minimising n d t).value ≡ nothing) ↔ ((w : List ℤ) → length w ≡ n → dnf_truth d w ≡ false)
least-none n d t g r o = only_nothing (dnf_truth d) n (value_of t) (minimising n d t).value (least-exact n d t g r o)

pub least-unbounded : (n : ℕ) (d : List (List Literal)) (t : Linear) → IsGiven n d → IsReduced t → IsOver n t → ((minimising n d t).value ≡ no_least) ↔ IsUnbounded (dnf_truth d) n (value_of t)
least-unbounded n d t g r o = only_unbounded (dnf_truth d) n (value_of t) (minimising n d t).value (least-exact n d t g r o)
