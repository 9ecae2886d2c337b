-- The closing formula of a sequent speaks of the constants of the sequent alone.
use Rattle.std.proofs.Common.{◌≤◌, ℕ, Bool, true, false, cond, List, [], ◌∷◌, ◌++◌, arith}
use Rattle.std.specs.List.{AllByRecursion}
use Rattle.std.proofs.lemmas.List.Elements.{recursion_from_All}
use Rattle.linear_term.specs.Linear.{Linear, IsOver}
use Rattle.linear_term.proofs.Names.{combination-over}
use Rattle.base_budget.specs.Trace.{Traced, just, step, next, each}
use Rattle.clause_set.proofs.Divisors.{kept-append}
use Rattle.formula.specs.Form.{Form, equal, unequal, at_least, holds, fails, differs, conjunction, disjunction, universal, existential, forms, is_pure, IsFormOver, AreFormsOver}
use Rattle.sequent.specs.Rules.{brought}
use Rattle.sequent.specs.Sequent.{Member, Sequent, IsMember, IsFormedSequent}
use Rattle.sequent.proofs.Forming.{new_formed}
use Rattle.pred_unify.specs.Pairs.{alike, closing_of, difference, equations, function_pair, function_pairs, other_values, pairs_of, predicate_pair, pures, same_arguments, with_functions, with_predicates}

abbrev AreOverN : ℕ → List Form → Type 0
AreOverN n fs = AllByRecursion (IsFormOver n) fs

over_more : (a n : ℕ) (t : Linear) → a ≤ n → IsOver a t → IsOver n t
over_more a n t le h = λ k d lt. let g = h k d lt in omega (arith, g, le)

all_more : (a n : ℕ) (ts : List Linear) → a ≤ n → AllByRecursion (IsOver a) ts → AllByRecursion (IsOver n) ts
all_more a n [] le h = tt
all_more a n (t ∷ ts) le h = (over_more a n t le h.0, all_more a n ts le h.1)

forms_over : (n : ℕ) (fs : List Form) → AreOverN n fs → AreFormsOver n (forms fs)
forms_over n [] h = tt
forms_over n (f ∷ fs) h = (h.0, forms_over n fs h.1)

difference_over : (n : ℕ) (s t : Linear) → IsOver n s → IsOver n t → IsOver n (difference s t).value
unfolding step
difference_over n s t h k = combination-over n _ _ s t h k

equations_over : (n : ℕ) (ss ts : List Linear) (out : List Form) → AllByRecursion (IsOver n) ss → AllByRecursion (IsOver n) ts → AreOverN n out → AreOverN n (equations ss ts out).value
unfolding next just
equations_over n [] ts out h k o = o
equations_over n (s ∷ ss) [] out h k o = o
equations_over n (s ∷ ss) (t ∷ ts) out h k o =
    equations_over n ss ts (out ++ equal (difference s t).value ∷ []) h.1 k.1 (kept-append (IsFormOver n) out (equal (difference s t).value ∷ []) o (difference_over n s t h.0 k.0, tt))

same_over : (n : ℕ) (ss ts : List Linear) → AllByRecursion (IsOver n) ss → AllByRecursion (IsOver n) ts → AreOverN n (same_arguments ss ts).value
unfolding next just
same_over n ss ts h k = (forms_over n (equations ss ts []).value (equations_over n ss ts [] h k tt), tt)

other_over : (n : ℕ) (ss : List Linear) (u : Linear) (ts : List Linear) (v : Linear) → AllByRecursion (IsOver n) ss → AllByRecursion (IsOver n) ts → IsOver n u → IsOver n v → AreOverN n (other_values ss u ts v).value
unfolding next just
other_over n ss u ts v h k hu hv = (
  forms_over n ((equations ss ts []).value ++ unequal (difference u v).value ∷ [])
      (kept-append (IsFormOver n) (equations ss ts []).value (unequal (difference u v).value ∷ []) (equations_over n ss ts [] h k tt) (difference_over n u v hu hv, tt)),
  tt,
)

cond_over : (n : ℕ) (b : Bool) (w : Traced (List Form)) → AreOverN n w.value → AreOverN n (cond b w (just [])).value
unfolding just
cond_over n true w h = h
cond_over n false w h = tt

-- a formula over this many of the n constants
predicate_over : (n a b p : ℕ) (ss : List Linear) (g : Form) → a ≤ n → b ≤ n → AllByRecursion (IsOver a) ss → IsFormOver b g → AreOverN n (predicate_pair p ss g).value
unfolding just
predicate_over n a b p ss (holds q ts) la lb h k = cond_over n (alike p ss q ts) (same_arguments ss ts) (same_over n ss ts (all_more a n ss la h) (all_more b n ts lb (recursion_from_All (IsOver b) ts k)))
predicate_over n a b p ss (equal t) la lb h k = tt
predicate_over n a b p ss (unequal t) la lb h k = tt
predicate_over n a b p ss (at_least t) la lb h k = tt
predicate_over n a b p ss (fails q ts) la lb h k = tt
predicate_over n a b p ss (differs q ts u) la lb h k = tt
predicate_over n a b p ss (conjunction fs) la lb h k = tt
predicate_over n a b p ss (disjunction fs) la lb h k = tt
predicate_over n a b p ss (universal f) la lb h k = tt
predicate_over n a b p ss (existential f) la lb h k = tt

function_over : (n a b f : ℕ) (ss : List Linear) (u : Linear) (g : Form) → a ≤ n → b ≤ n → AllByRecursion (IsOver a) ss → IsOver a u → IsFormOver b g → AreOverN n (function_pair f ss u g).value
unfolding just
function_over n a b f ss u (differs g ts v) la lb h hu k =
    cond_over n (alike f ss g ts) (other_values ss u ts v) (other_over n ss u ts v (all_more a n ss la h) (all_more b n ts lb (recursion_from_All (IsOver b) ts k.0)) (over_more a n u la hu) (over_more b n v lb k.1))
function_over n a b f ss u (equal t) la lb h hu k = tt
function_over n a b f ss u (unequal t) la lb h hu k = tt
function_over n a b f ss u (at_least t) la lb h hu k = tt
function_over n a b f ss u (holds q ts) la lb h hu k = tt
function_over n a b f ss u (fails q ts) la lb h hu k = tt
function_over n a b f ss u (conjunction fs) la lb h hu k = tt
function_over n a b f ss u (disjunction fs) la lb h hu k = tt
function_over n a b f ss u (universal g) la lb h hu k = tt
function_over n a b f ss u (existential g) la lb h hu k = tt

each_over : (n : ℕ) (f : Member → Traced (List Form)) (ms : List Member) (out : List Form) → AllByRecursion (λ m. AreOverN n (f m).value) ms → AreOverN n out → AreOverN n (each f ms out).value
unfolding next just
each_over n f [] out h o = o
each_over n f (m ∷ ms) out h o = each_over n f ms (out ++ (f m).value) h.1 (kept-append (IsFormOver n) out (f m).value o h.0)

predicates_each : (n a p : ℕ) (ss : List Linear) (ms : List Member) → a ≤ n → AllByRecursion (IsOver a) ss → AllByRecursion (IsMember n) ms → AllByRecursion (λ m. AreOverN n (predicate_pair p ss m.formula).value) ms
predicates_each n a p ss [] le h k = tt
predicates_each n a p ss (m ∷ ms) le h k = (predicate_over n a m.over p ss m.formula le (k.0).within h (k.0).formed, predicates_each n a p ss ms le h k.1)

functions_each : (n a f : ℕ) (ss : List Linear) (u : Linear) (ms : List Member) → a ≤ n → AllByRecursion (IsOver a) ss → IsOver a u → AllByRecursion (IsMember n) ms → AllByRecursion (λ m. AreOverN n (function_pair f ss u m.formula).value) ms
functions_each n a f ss u [] le h hu k = tt
functions_each n a f ss u (m ∷ ms) le h hu k = (function_over n a m.over f ss u m.formula le (k.0).within h hu (k.0).formed, functions_each n a f ss u ms le h hu k.1)

with_predicates_over : (n a : ℕ) (ms : List Member) (g : Form) → a ≤ n → IsFormOver a g → AllByRecursion (IsMember n) ms → AreOverN n (with_predicates ms g).value
unfolding just
with_predicates_over n a ms (fails p ss) le h k = each_over n (λ m. predicate_pair p ss m.formula) ms [] (predicates_each n a p ss ms le (recursion_from_All (IsOver a) ss h) k) tt
with_predicates_over n a ms (equal t) le h k = tt
with_predicates_over n a ms (unequal t) le h k = tt
with_predicates_over n a ms (at_least t) le h k = tt
with_predicates_over n a ms (holds p ts) le h k = tt
with_predicates_over n a ms (differs p ts u) le h k = tt
with_predicates_over n a ms (conjunction fs) le h k = tt
with_predicates_over n a ms (disjunction fs) le h k = tt
with_predicates_over n a ms (universal f) le h k = tt
with_predicates_over n a ms (existential f) le h k = tt

with_functions_over : (n a : ℕ) (ms : List Member) (g : Form) → a ≤ n → IsFormOver a g → AllByRecursion (IsMember n) ms → AreOverN n (with_functions ms g).value
unfolding just
with_functions_over n a ms (differs f ss u) le h k = each_over n (λ m. function_pair f ss u m.formula) ms [] (functions_each n a f ss u ms le (recursion_from_All (IsOver a) ss h.0) h.1 k) tt
with_functions_over n a ms (equal t) le h k = tt
with_functions_over n a ms (unequal t) le h k = tt
with_functions_over n a ms (at_least t) le h k = tt
with_functions_over n a ms (holds p ts) le h k = tt
with_functions_over n a ms (fails p ts) le h k = tt
with_functions_over n a ms (conjunction fs) le h k = tt
with_functions_over n a ms (disjunction fs) le h k = tt
with_functions_over n a ms (universal f) le h k = tt
with_functions_over n a ms (existential f) le h k = tt

function_pairs_over : (n : ℕ) (ms : List Member) (out : List Form) → AllByRecursion (IsMember n) ms → AreOverN n out → AreOverN n (function_pairs ms out).value
unfolding next just
function_pairs_over n [] out k o = o
function_pairs_over n (m ∷ ms) out k o =
    function_pairs_over n ms (out ++ (with_functions ms m.formula).value) k.1
    (kept-append (IsFormOver n) out (with_functions ms m.formula).value o (with_functions_over n m.over ms m.formula (k.0).within (k.0).formed k.1))

all_predicates : (n : ℕ) (all ms : List Member) → AllByRecursion (IsMember n) all → AllByRecursion (IsMember n) ms → AllByRecursion (λ m. AreOverN n (with_predicates all m.formula).value) ms
all_predicates n all [] h k = tt
all_predicates n all (m ∷ ms) h k = (with_predicates_over n m.over all m.formula (k.0).within (k.0).formed h, all_predicates n all ms h k.1)

pairs_over : (n : ℕ) (ms : List Member) → AllByRecursion (IsMember n) ms → AreOverN n (pairs_of ms).value
unfolding next
pairs_over n ms h = function_pairs_over n ms (each (λ m. with_predicates ms m.formula) ms []).value h (each_over n (λ m. with_predicates ms m.formula) ms [] (all_predicates n ms ms h h) tt)

pures_over : (n : ℕ) (ms : List Member) → AllByRecursion (IsMember n) ms → AreOverN n (pures n ms)
pures_over n [] h = tt
pures_over n (m ∷ ms) h = by (is_pure m.formula) (pures_over n ms h.1)
  where
    by : (b : Bool) → AreOverN n (pures n ms) → AreOverN n (cond b (brought m.over n m.formula ∷ pures n ms) (pures n ms))
    by true rest = ((new_formed m.over n m.formula (h.0).within (h.0).formed).formed, rest)
    by false rest = rest

pub closing_over : (s : Sequent) → IsFormedSequent s → IsFormOver s.count (closing_of s).value
unfolding next just
closing_over s h = forms_over s.count (pures s.count s.members ++ (pairs_of s.members).value) (kept-append (IsFormOver s.count) (pures s.count s.members) (pairs_of s.members).value (pures_over s.count s.members h) (pairs_over s.count s.members h))
