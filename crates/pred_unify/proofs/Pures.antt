-- The closing formula is pure.
use Rattle.std.proofs.Common.{◌≡◌, ℕ, ◌-◌, Bool, true, false, ◌&&◌, cond, List, [], ◌∷◌, ◌++◌, refl, ◌∙◌}
use Rattle.std.specs.List.{AllByRecursion}
use Rattle.linear_term.specs.Linear.{Linear}
use Rattle.base_budget.specs.Trace.{just, step, next, each}
use Rattle.formula.specs.Form.{Form, equal, unequal, at_least, holds, fails, differs, conjunction, disjunction, universal, existential, forms}
use Rattle.sequent.specs.Sequent.{Member, Sequent}
use Rattle.formula.specs.Form.{is_pure, are_pure}
use Rattle.sequent.specs.Rules.{brought}
use Rattle.pred_unify.specs.Pairs.{equations, alike, same_arguments, other_values, predicate_pair, function_pair, with_predicates, with_functions, function_pairs, pairs_of, pures, closing_of}
use Rattle.formula.proofs.Sameness.{pure_shifted}
use Rattle.sequent.proofs.Members.{all_append}
use Rattle.pred_unify.proofs.Clashes.{each_all, cond_all}

abbrev Pure : Form → Type 0
Pure f = is_pure f ≡ true

forms_pure : (fs : List Form) → AllByRecursion Pure fs → are_pure (forms fs) ≡ true
forms_pure [] h = refl
forms_pure (f ∷ fs) h = λ i. h.0 i && forms_pure fs h.1 i

equations_pure : (ss ts : List Linear) (out : List Form) → AllByRecursion Pure out → AllByRecursion Pure (equations ss ts out).value
unfolding next just step
equations_pure [] ts out h = h
equations_pure (s ∷ ss) [] out h = h
equations_pure (s ∷ ss) (t ∷ ts) out h = equations_pure ss ts (out ++ equal _ ∷ []) (all_append Pure out (equal _ ∷ []) h (refl, tt))

same_pure : (ss ts : List Linear) → AllByRecursion Pure (same_arguments ss ts).value
unfolding next just
same_pure ss ts = (forms_pure (equations ss ts []).value (equations_pure ss ts [] tt), tt)

other_pure : (ss : List Linear) (u : Linear) (ts : List Linear) (v : Linear) → AllByRecursion Pure (other_values ss u ts v).value
unfolding next just step
other_pure ss u ts v =
    (forms_pure ((equations ss ts []).value ++ unequal _ ∷ []) (all_append Pure (equations ss ts []).value (unequal _ ∷ []) (equations_pure ss ts [] tt) (refl, tt)), tt)

predicate_pure : (p : ℕ) (ss : List Linear) (g : Form) → AllByRecursion Pure (predicate_pair p ss g).value
unfolding just
predicate_pure p ss (holds q ts) = cond_all Pure (alike p ss q ts) (same_arguments ss ts) (λ h. same_pure ss ts)
predicate_pure p ss (equal t) = tt
predicate_pure p ss (unequal t) = tt
predicate_pure p ss (at_least t) = tt
predicate_pure p ss (fails q ts) = tt
predicate_pure p ss (differs q ts u) = tt
predicate_pure p ss (conjunction fs) = tt
predicate_pure p ss (disjunction fs) = tt
predicate_pure p ss (universal f) = tt
predicate_pure p ss (existential f) = tt

function_pure : (f : ℕ) (ss : List Linear) (u : Linear) (g : Form) → AllByRecursion Pure (function_pair f ss u g).value
unfolding just
function_pure f ss u (differs g ts v) = cond_all Pure (alike f ss g ts) (other_values ss u ts v) (λ h. other_pure ss u ts v)
function_pure f ss u (equal t) = tt
function_pure f ss u (unequal t) = tt
function_pure f ss u (at_least t) = tt
function_pure f ss u (holds q ts) = tt
function_pure f ss u (fails q ts) = tt
function_pure f ss u (conjunction fs) = tt
function_pure f ss u (disjunction fs) = tt
function_pure f ss u (universal g) = tt
function_pure f ss u (existential g) = tt

-- nothing is asked of a member
abbrev Any : Member → Type 0
Any m = Unit {0}

any : (ms : List Member) → AllByRecursion Any ms
any [] = tt
any (m ∷ ms) = (tt, any ms)

with_predicates_pure : (ms : List Member) (g : Form) → AllByRecursion Pure (with_predicates ms g).value
unfolding just
with_predicates_pure ms (fails p ss) = each_all Pure Any (λ m. predicate_pair p ss m.formula) ms [] (λ m h. predicate_pure p ss m.formula) (any ms) tt
with_predicates_pure ms (equal t) = tt
with_predicates_pure ms (unequal t) = tt
with_predicates_pure ms (at_least t) = tt
with_predicates_pure ms (holds q ts) = tt
with_predicates_pure ms (differs q ts u) = tt
with_predicates_pure ms (conjunction fs) = tt
with_predicates_pure ms (disjunction fs) = tt
with_predicates_pure ms (universal f) = tt
with_predicates_pure ms (existential f) = tt

with_functions_pure : (ms : List Member) (g : Form) → AllByRecursion Pure (with_functions ms g).value
unfolding just
with_functions_pure ms (differs f ss u) = each_all Pure Any (λ m. function_pair f ss u m.formula) ms [] (λ m h. function_pure f ss u m.formula) (any ms) tt
with_functions_pure ms (equal t) = tt
with_functions_pure ms (unequal t) = tt
with_functions_pure ms (at_least t) = tt
with_functions_pure ms (holds q ts) = tt
with_functions_pure ms (fails q ts) = tt
with_functions_pure ms (conjunction fs) = tt
with_functions_pure ms (disjunction fs) = tt
with_functions_pure ms (universal f) = tt
with_functions_pure ms (existential f) = tt

function_pairs_pure : (ms : List Member) (out : List Form) → AllByRecursion Pure out → AllByRecursion Pure (function_pairs ms out).value
unfolding next just
function_pairs_pure [] out h = h
function_pairs_pure (m ∷ ms) out h = function_pairs_pure ms (out ++ (with_functions ms m.formula).value) (all_append Pure out (with_functions ms m.formula).value h (with_functions_pure ms m.formula))

pairs_pure : (ms : List Member) → AllByRecursion Pure (pairs_of ms).value
unfolding next
pairs_pure ms =
    function_pairs_pure ms (each (λ m. with_predicates ms m.formula) ms []).value
    (each_all Pure Any (λ m. with_predicates ms m.formula) ms [] (λ m h. with_predicates_pure ms m.formula) (any ms) tt)

pure_or_not : (f g : Form) (gs : List Form) (b : Bool) → is_pure f ≡ b → is_pure g ≡ is_pure f → AllByRecursion Pure gs → AllByRecursion Pure (cond b (g ∷ gs) gs)
pure_or_not f g gs true is same h = (same ∙ is, h)
pure_or_not f g gs false is same h = h

pures_pure : (n : ℕ) (ms : List Member) → AllByRecursion Pure (pures n ms)
pures_pure n [] = tt
pures_pure n (m ∷ ms) = pure_or_not m.formula (brought m.over n m.formula) (pures n ms) (is_pure m.formula) refl (pure_shifted m.over (n - m.over) m.formula) (pures_pure n ms)

pub closing_pure : (s : Sequent) → is_pure (closing_of s).value ≡ true
unfolding next just
closing_pure s = forms_pure (pures s.count s.members ++ (pairs_of s.members).value) (all_append Pure (pures s.count s.members) (pairs_of s.members).value (pures_pure s.count s.members) (pairs_pure s.members))
