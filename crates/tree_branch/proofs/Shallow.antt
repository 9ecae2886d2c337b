-- The closing formula of a sequent is one level deeper than its members.
use Rattle.std.proofs.Common.{ℕ, ◌+◌, ◌-◌, ◌≤◌, Bool, true, false, cond, List, [], ◌∷◌, ◌++◌, sym, subst, arith}
use Rattle.std.specs.List.{AllByRecursion}
use Rattle.linear_term.specs.Linear.{Linear}
use Rattle.base_budget.specs.Trace.{Traced, just, step, next, each}
use Rattle.formula.specs.Form.{Form, equal, unequal, at_least, holds, fails, differs, conjunction, disjunction, universal, existential, forms, is_pure}
use Rattle.formula.specs.Sizes.{depth, depths}
use Rattle.formula.proofs.Sameness.{depth_shifted}
use Rattle.sequent.specs.Limits.{IsLimited}
use Rattle.sequent.specs.Rules.{brought}
use Rattle.sequent.specs.Sequent.{Member, Sequent}
use Rattle.sequent.proofs.Members.{all_append}
use Rattle.pred_unify.specs.Pairs.{difference, equations, alike, same_arguments, other_values, predicate_pair, function_pair, with_predicates, with_functions, function_pairs, pairs_of, pures, closing_of}
use Rattle.pred_unify.proofs.Clashes.{cond_all}

abbrev IsShallow : ℕ → Form → Type 0
IsShallow k f = depth f ≤ k

depths_below : (k : ℕ) (fs : List Form) → AllByRecursion (IsShallow k) fs → depths (forms fs) ≤ k
depths_below k [] h = omega arith
depths_below k (f ∷ fs) h = let one = h.0 in let rest = depths_below k fs h.1 in omega (arith, one, rest)

equations_shallow : (ss ts : List Linear) (out : List Form) → AllByRecursion (IsShallow 1) out → AllByRecursion (IsShallow 1) (equations ss ts out).value
unfolding next just step
equations_shallow [] ts out h = h
equations_shallow (s ∷ ss) [] out h = h
equations_shallow (s ∷ ss) (t ∷ ts) out h = equations_shallow ss ts (out ++ equal (difference s t).value ∷ []) (all_append (IsShallow 1) out (equal (difference s t).value ∷ []) h (omega arith, tt))

-- a conjunction of atoms
pair_shallow : (k : ℕ) (fs : List Form) → 2 ≤ k → AllByRecursion (IsShallow 1) fs → IsShallow k (conjunction (forms fs))
pair_shallow k fs two h = let d = depths_below 1 fs h in omega (arith, d, two)

module _ (k : ℕ) (two : 2 ≤ k) where
  same_shallow : (ss ts : List Linear) → AllByRecursion (IsShallow k) (same_arguments ss ts).value
  unfolding next just
  same_shallow ss ts = (pair_shallow k (equations ss ts []).value two (equations_shallow ss ts [] tt), tt)

  other_shallow : (ss : List Linear) (u : Linear) (ts : List Linear) (v : Linear) → AllByRecursion (IsShallow k) (other_values ss u ts v).value
  unfolding next just step
  other_shallow ss u ts v =
      (pair_shallow k ((equations ss ts []).value ++ unequal (difference u v).value ∷ []) two (all_append (IsShallow 1) (equations ss ts []).value (unequal (difference u v).value ∷ []) (equations_shallow ss ts [] tt) (omega arith, tt)), tt)

  predicate_shallow : (p : ℕ) (ss : List Linear) (g : Form) → AllByRecursion (IsShallow k) (predicate_pair p ss g).value
  unfolding just
  predicate_shallow p ss (holds q ts) = cond_all (IsShallow k) (alike p ss q ts) (same_arguments ss ts) (λ h. same_shallow ss ts)
  predicate_shallow p ss (equal t) = tt
  predicate_shallow p ss (unequal t) = tt
  predicate_shallow p ss (at_least t) = tt
  predicate_shallow p ss (fails q ts) = tt
  predicate_shallow p ss (differs q ts u) = tt
  predicate_shallow p ss (conjunction fs) = tt
  predicate_shallow p ss (disjunction fs) = tt
  predicate_shallow p ss (universal f) = tt
  predicate_shallow p ss (existential f) = tt

  function_shallow : (f : ℕ) (ss : List Linear) (u : Linear) (g : Form) → AllByRecursion (IsShallow k) (function_pair f ss u g).value
  unfolding just
  function_shallow f ss u (differs g ts v) = cond_all (IsShallow k) (alike f ss g ts) (other_values ss u ts v) (λ h. other_shallow ss u ts v)
  function_shallow f ss u (equal t) = tt
  function_shallow f ss u (unequal t) = tt
  function_shallow f ss u (at_least t) = tt
  function_shallow f ss u (holds q ts) = tt
  function_shallow f ss u (fails q ts) = tt
  function_shallow f ss u (conjunction fs) = tt
  function_shallow f ss u (disjunction fs) = tt
  function_shallow f ss u (universal g) = tt
  function_shallow f ss u (existential g) = tt

  each_shallow : (f : Member → Traced (List Form)) (ms : List Member) (out : List Form) → ((m : Member) → AllByRecursion (IsShallow k) (f m).value) → AllByRecursion (IsShallow k) out → AllByRecursion (IsShallow k) (each f ms out).value
  unfolding next just
  each_shallow f [] out h o = o
  each_shallow f (m ∷ ms) out h o = each_shallow f ms (out ++ (f m).value) h (all_append (IsShallow k) out (f m).value o (h m))

  with_predicates_shallow : (ms : List Member) (g : Form) → AllByRecursion (IsShallow k) (with_predicates ms g).value
  unfolding just
  with_predicates_shallow ms (fails p ss) = each_shallow (λ m. predicate_pair p ss m.formula) ms [] (λ m. predicate_shallow p ss m.formula) tt
  with_predicates_shallow ms (equal t) = tt
  with_predicates_shallow ms (unequal t) = tt
  with_predicates_shallow ms (at_least t) = tt
  with_predicates_shallow ms (holds q ts) = tt
  with_predicates_shallow ms (differs q ts u) = tt
  with_predicates_shallow ms (conjunction fs) = tt
  with_predicates_shallow ms (disjunction fs) = tt
  with_predicates_shallow ms (universal f) = tt
  with_predicates_shallow ms (existential f) = tt

  with_functions_shallow : (ms : List Member) (g : Form) → AllByRecursion (IsShallow k) (with_functions ms g).value
  unfolding just
  with_functions_shallow ms (differs f ss u) = each_shallow (λ m. function_pair f ss u m.formula) ms [] (λ m. function_shallow f ss u m.formula) tt
  with_functions_shallow ms (equal t) = tt
  with_functions_shallow ms (unequal t) = tt
  with_functions_shallow ms (at_least t) = tt
  with_functions_shallow ms (holds q ts) = tt
  with_functions_shallow ms (fails q ts) = tt
  with_functions_shallow ms (conjunction fs) = tt
  with_functions_shallow ms (disjunction fs) = tt
  with_functions_shallow ms (universal f) = tt
  with_functions_shallow ms (existential f) = tt

  function_pairs_shallow : (ms : List Member) (out : List Form) → AllByRecursion (IsShallow k) out → AllByRecursion (IsShallow k) (function_pairs ms out).value
  unfolding next just
  function_pairs_shallow [] out o = o
  function_pairs_shallow (m ∷ ms) out o =
      function_pairs_shallow ms (out ++ (with_functions ms m.formula).value) (all_append (IsShallow k) out (with_functions ms m.formula).value o (with_functions_shallow ms m.formula))

  pairs_shallow : (ms : List Member) → AllByRecursion (IsShallow k) (pairs_of ms).value
  unfolding next
  pairs_shallow ms =
      function_pairs_shallow ms (each (λ m. with_predicates ms m.formula) ms []).value (each_shallow (λ m. with_predicates ms m.formula) ms [] (λ m. with_predicates_shallow ms m.formula) tt)

  pures_shallow : (u n : ℕ) (ms : List Member) → AllByRecursion (λ m. (m.used ≤ u) × (depth m.formula ≤ k)) ms → AllByRecursion (IsShallow k) (pures n ms)
  pures_shallow u n [] h = tt
  pures_shallow u n (m ∷ ms) h = by (is_pure m.formula) (pures_shallow u n ms h.1)
    where
      by : (b : Bool) → AllByRecursion (IsShallow k) (pures n ms) → AllByRecursion (IsShallow k) (cond b (brought m.over n m.formula ∷ pures n ms) (pures n ms))
      by true r = (subst (λ d. d ≤ k) (sym (depth_shifted m.over (n - m.over) m.formula)) h.0.1, r)
      by false r = r

pub closing_shallow : (u k : ℕ) (s : Sequent) → 2 ≤ k → IsLimited u k s → depth (closing_of s).value ≤ 1 + k
unfolding next just
closing_shallow u k s two h =
    let all = depths_below k (pures s.count s.members ++ (pairs_of s.members).value)
    (all_append (IsShallow k) (pures s.count s.members) (pairs_of s.members).value (pures_shallow k two u s.count s.members h) (pairs_shallow k two s.members)) in
    omega (arith, all)
