-- The pairs of a sequent and its closing formula, with the raw numbers of their terms.
use Rattle.std.specs.Prelude.{ℕ, pos, negsuc, nat_eq, cond, Bool, ◌&&◌, List, [], ◌∷◌, ◌++◌, length}
use Rattle.linear_term.specs.Linear.{Linear}
use Rattle.base_budget.specs.Trace.{Traced, just, next, each, combining}
use Rattle.formula.specs.Form.{Form, equal, unequal, holds, fails, differs, conjunction, disjunction, forms}
use Rattle.sequent.specs.Sequent.{Member, Sequent}
use Rattle.formula.specs.Form.{is_pure}
use Rattle.sequent.specs.Rules.{brought}

-- s - t
abbrev pub difference : Linear → Linear → Traced Linear
difference s t = combining (pos 1) s (negsuc 0) t

-- s1 = t1, .., sn = tn, after those in out
abbrev pub equations : List Linear → List Linear → List Form → Traced (List Form)
equations (s ∷ ss) (t ∷ ts) out = next (difference s t) (λ d. equations ss ts (out ++ equal d ∷ []))
equations ss ts out = just out

-- the same symbol at as many arguments
abbrev pub alike : ℕ → List Linear → ℕ → List Linear → Bool
alike p ss q ts = nat_eq p q && nat_eq (length ss) (length ts)

-- p fails at ss and holds at ts: the arguments are equal
abbrev pub same_arguments : List Linear → List Linear → Traced (List Form)
same_arguments ss ts = next (equations ss ts []) (λ fs. just (conjunction (forms fs) ∷ []))

-- f has another value than u at ss and than v at ts: the arguments are equal and the values are not
abbrev pub other_values : List Linear → Linear → List Linear → Linear → Traced (List Form)
other_values ss u ts v = next (equations ss ts []) (λ fs. next (difference u v) (λ d. just (conjunction (forms (fs ++ unequal d ∷ [])) ∷ [])))

abbrev pub predicate_pair : ℕ → List Linear → Form → Traced (List Form)
predicate_pair p ss (holds q ts) = cond (alike p ss q ts) (same_arguments ss ts) (just [])
predicate_pair p ss _ = just []

abbrev pub function_pair : ℕ → List Linear → Linear → Form → Traced (List Form)
function_pair f ss u (differs g ts v) = cond (alike f ss g ts) (other_values ss u ts v) (just [])
function_pair f ss u _ = just []

-- the pairs of a negated predicate with each predicate among ms
abbrev pub with_predicates : List Member → Form → Traced (List Form)
with_predicates ms (fails p ss) = each (λ m. predicate_pair p ss m.formula) ms []
with_predicates ms _ = just []

-- the pairs of a function's value with each one among ms
abbrev pub with_functions : List Member → Form → Traced (List Form)
with_functions ms (differs f ss u) = each (λ m. function_pair f ss u m.formula) ms []
with_functions ms _ = just []

-- each function's value with each later one, after the pairs in out
abbrev pub function_pairs : List Member → List Form → Traced (List Form)
function_pairs [] out = just out
function_pairs (m ∷ ms) out = next (with_functions ms m.formula) (λ fs. function_pairs ms (out ++ fs))

-- each negated predicate with each predicate, then each function's value with each later one
abbrev pub pairs_of : List Member → Traced (List Form)
pairs_of ms = next (each (λ m. with_predicates ms m.formula) ms []) (λ ps. function_pairs ms ps)

-- the pure members, among n constants
abbrev pub pures : ℕ → List Member → List Form
pures n [] = []
pures n (m ∷ ms) = cond (is_pure m.formula) (brought m.over n m.formula ∷ pures n ms) (pures n ms)

-- one of the pure members or of the pairs
abbrev pub closing_of : Sequent → Traced Form
closing_of s = next (pairs_of s.members) (λ fs. just (disjunction (forms (pures s.count s.members ++ fs))))
