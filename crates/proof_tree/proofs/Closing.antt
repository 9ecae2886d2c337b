-- The closing formula of a sequent with reduced terms is one of Presburger arithmetic.
use Rattle.std.proofs.Common.{◌≡◌, ℕ, ◌-◌, pos, negsuc, Bool, true, false, cond, List, [], ◌∷◌, ◌++◌, refl}
use Rattle.std.specs.List.{AllByRecursion}
use Rattle.linear_term.specs.Linear.{Linear, IsReduced}
use Rattle.linear_term.proofs.Names.{reduced-combination}
use Rattle.base_budget.specs.Trace.{just, step, next, each}
use Rattle.formula.specs.Form.{Form, equal, unequal, at_least, holds, fails, differs, conjunction, disjunction, universal, existential, forms, is_pure}
use Rattle.elim_laws.specs.Presburger.{IsPresburger}
use Rattle.sequent.specs.Sequent.{Member, Sequent}
use Rattle.sequent.specs.Rules.{brought}
use Rattle.sequent.proofs.Members.{all_append}
use Rattle.pred_unify.specs.Pairs.{equations, alike, same_arguments, other_values, predicate_pair, function_pair, with_predicates, with_functions, function_pairs, pairs_of, pures, closing_of}
use Rattle.pred_unify.proofs.Clashes.{each_all, cond_all}
use Rattle.pred_unify.proofs.Pures.{closing_pure}
use Rattle.formula.specs.Reduced.{HasReducedTerms, HaveReducedTerms}
use Rattle.proof_tree.specs.Reduced.{IsReducedSequent}
use Rattle.elim_laws.proofs.Reduced.{presburger_of}
use Rattle.proof_tree.proofs.Premises.{shifted_reduced, IsReducedMember}

forms_reduced : (fs : List Form) → AllByRecursion HasReducedTerms fs → HaveReducedTerms (forms fs)
forms_reduced [] h = tt
forms_reduced (f ∷ fs) h = (h.0, forms_reduced fs h.1)

equations_reduced : (ss ts : List Linear) (out : List Form) → AllByRecursion IsReduced ss → AllByRecursion IsReduced ts → AllByRecursion HasReducedTerms out
    → AllByRecursion HasReducedTerms (equations ss ts out).value
unfolding next just step
equations_reduced [] ts out a b h = h
equations_reduced (s ∷ ss) [] out a b h = h
equations_reduced (s ∷ ss) (t ∷ ts) out a b h =
    equations_reduced ss ts (out ++ equal _ ∷ []) a.1 b.1 (all_append HasReducedTerms out (equal _ ∷ []) h (reduced-combination (pos 1) (negsuc 0) s t a.0 b.0, tt))

same_reduced : (ss ts : List Linear) → AllByRecursion IsReduced ss → AllByRecursion IsReduced ts → AllByRecursion HasReducedTerms (same_arguments ss ts).value
unfolding next just
same_reduced ss ts a b = (forms_reduced (equations ss ts []).value (equations_reduced ss ts [] a b tt), tt)

other_reduced : (ss : List Linear) (u : Linear) (ts : List Linear) (v : Linear) → AllByRecursion IsReduced ss → IsReduced u → AllByRecursion IsReduced ts → IsReduced v
    → AllByRecursion HasReducedTerms (other_values ss u ts v).value
unfolding next just step
other_reduced ss u ts v a p b q = (
  forms_reduced ((equations ss ts []).value ++ unequal _ ∷ [])
      (all_append HasReducedTerms (equations ss ts []).value (unequal _ ∷ []) (equations_reduced ss ts [] a b tt) (reduced-combination (pos 1) (negsuc 0) u v p q, tt)),
  tt,
)

predicate_reduced : (p : ℕ) (ss : List Linear) (g : Form) → AllByRecursion IsReduced ss → HasReducedTerms g → AllByRecursion HasReducedTerms (predicate_pair p ss g).value
unfolding just
predicate_reduced p ss (holds q ts) a h = cond_all HasReducedTerms (alike p ss q ts) (same_arguments ss ts) (λ k. same_reduced ss ts a h)
predicate_reduced p ss (equal t) a h = tt
predicate_reduced p ss (unequal t) a h = tt
predicate_reduced p ss (at_least t) a h = tt
predicate_reduced p ss (fails q ts) a h = tt
predicate_reduced p ss (differs q ts u) a h = tt
predicate_reduced p ss (conjunction fs) a h = tt
predicate_reduced p ss (disjunction fs) a h = tt
predicate_reduced p ss (universal f) a h = tt
predicate_reduced p ss (existential f) a h = tt

function_reduced : (f : ℕ) (ss : List Linear) (u : Linear) (g : Form) → AllByRecursion IsReduced ss → IsReduced u → HasReducedTerms g → AllByRecursion HasReducedTerms (function_pair f ss u g).value
unfolding just
function_reduced f ss u (differs g ts v) a p h = cond_all HasReducedTerms (alike f ss g ts) (other_values ss u ts v) (λ k. other_reduced ss u ts v a p h.0 h.1)
function_reduced f ss u (equal t) a p h = tt
function_reduced f ss u (unequal t) a p h = tt
function_reduced f ss u (at_least t) a p h = tt
function_reduced f ss u (holds q ts) a p h = tt
function_reduced f ss u (fails q ts) a p h = tt
function_reduced f ss u (conjunction fs) a p h = tt
function_reduced f ss u (disjunction fs) a p h = tt
function_reduced f ss u (universal g) a p h = tt
function_reduced f ss u (existential g) a p h = tt

with_predicates_reduced : (ms : List Member) (g : Form) → AllByRecursion IsReducedMember ms → HasReducedTerms g → AllByRecursion HasReducedTerms (with_predicates ms g).value
unfolding just
with_predicates_reduced ms (fails p ss) h k = each_all HasReducedTerms IsReducedMember (λ m. predicate_pair p ss m.formula) ms [] (λ m r. predicate_reduced p ss m.formula k r) h tt
with_predicates_reduced ms (equal t) h k = tt
with_predicates_reduced ms (unequal t) h k = tt
with_predicates_reduced ms (at_least t) h k = tt
with_predicates_reduced ms (holds q ts) h k = tt
with_predicates_reduced ms (differs q ts u) h k = tt
with_predicates_reduced ms (conjunction fs) h k = tt
with_predicates_reduced ms (disjunction fs) h k = tt
with_predicates_reduced ms (universal f) h k = tt
with_predicates_reduced ms (existential f) h k = tt

with_functions_reduced : (ms : List Member) (g : Form) → AllByRecursion IsReducedMember ms → HasReducedTerms g → AllByRecursion HasReducedTerms (with_functions ms g).value
unfolding just
with_functions_reduced ms (differs f ss u) h k = each_all HasReducedTerms IsReducedMember (λ m. function_pair f ss u m.formula) ms [] (λ m r. function_reduced f ss u m.formula k.0 k.1 r) h tt
with_functions_reduced ms (equal t) h k = tt
with_functions_reduced ms (unequal t) h k = tt
with_functions_reduced ms (at_least t) h k = tt
with_functions_reduced ms (holds q ts) h k = tt
with_functions_reduced ms (fails q ts) h k = tt
with_functions_reduced ms (conjunction fs) h k = tt
with_functions_reduced ms (disjunction fs) h k = tt
with_functions_reduced ms (universal f) h k = tt
with_functions_reduced ms (existential f) h k = tt

function_pairs_reduced : (ms : List Member) (out : List Form) → AllByRecursion IsReducedMember ms → AllByRecursion HasReducedTerms out → AllByRecursion HasReducedTerms (function_pairs ms out).value
unfolding next just
function_pairs_reduced [] out h k = k
function_pairs_reduced (m ∷ ms) out h k =
    function_pairs_reduced ms (out ++ (with_functions ms m.formula).value) h.1
    (all_append HasReducedTerms out (with_functions ms m.formula).value k (with_functions_reduced ms m.formula h.1 h.0))

pairs_reduced : (ms : List Member) → AllByRecursion IsReducedMember ms → AllByRecursion HasReducedTerms (pairs_of ms).value
unfolding next
pairs_reduced ms h =
    function_pairs_reduced ms (each (λ m. with_predicates ms m.formula) ms []).value h
    (each_all HasReducedTerms IsReducedMember (λ m. with_predicates ms m.formula) ms [] (λ m r. with_predicates_reduced ms m.formula h r) h tt)

or_not : (g : Form) (gs : List Form) (b : Bool) → HasReducedTerms g → AllByRecursion HasReducedTerms gs → AllByRecursion HasReducedTerms (cond b (g ∷ gs) gs)
or_not g gs true k h = (k, h)
or_not g gs false k h = h

pures_reduced : (n : ℕ) (ms : List Member) → AllByRecursion IsReducedMember ms → AllByRecursion HasReducedTerms (pures n ms)
pures_reduced n [] h = tt
pures_reduced n (m ∷ ms) h = or_not (brought m.over n m.formula) (pures n ms) (is_pure m.formula) (shifted_reduced m.over (n - m.over) m.formula h.0) (pures_reduced n ms h.1)

closing_reduced : (s : Sequent) → IsReducedSequent s → HasReducedTerms (closing_of s).value
unfolding next just
closing_reduced s h =
    forms_reduced (pures s.count s.members ++ (pairs_of s.members).value)
    (all_append HasReducedTerms (pures s.count s.members) (pairs_of s.members).value (pures_reduced s.count s.members h) (pairs_reduced s.members h))

pub closing_presburger : (s : Sequent) → IsReducedSequent s → IsPresburger (closing_of s).value
closing_presburger s h = presburger_of (closing_of s).value (closing_pure s) (closing_reduced s h)
