-- The log of a canonical constraint, redone, makes the same constraint with the same events.
use Rattle.std.proofs.Common.{◌≡◌, ℕ, suc, List, [], ◌∷◌, ◌++◌, Some, sym, ◌∙◌, ap}
use Rattle.base_budget.specs.Trace.{Traced, just, next, note, new_log}
use Rattle.base_budget.proofs.Tracing.{next-same, next-assoc, next-just}
use Rattle.clause_set.specs.declared.literal.Literal.{Literal}
use Rattle.clause_set.specs.Dnfs.{conjunction, top}
use Rattle.linear_term.specs.Linear.{Linear}
use Rattle.formula.specs.Form.{Form}
use Rattle.formula.specs.Form as tree
use Rattle.formula.specs.Sizes.{depth}
use Rattle.elim_laws.specs.Logs.{Does, IsQuiet, by_log, entries_of, read_next, reads_none}
use Rattle.elim_laws.specs.Whole.{eliminated, eliminating}
use Rattle.elim_laws.proofs.Quiet.{conjunction-quiet, quiet_cond, quiet_each, quiet_just, quiet_next, quiet_raw}
use Rattle.elim_laws.proofs.Replays.{does_next, does_quiet, form_does, name_does, every_does}
use Rattle.elim_laws.proofs.Wholes.{whole_does}
use Rattle.sequent.specs.declared.member.Pick.{Pick}
use Rattle.sequent.specs.declared.member.Pick.TheVariants as pick
use Rattle.sequent.specs.Sequent.{Member, Sequent}
use Rattle.pred_unify.specs.Pairs.{alike, closing_of, difference, equations, function_pair, function_pairs, other_values, pairs_of, predicate_pair, same_arguments, with_functions, with_predicates}
use Rattle.proof_tree.specs.Rules.{conjoined, constraint_by, first_given}
use Rattle.proof_tree.specs.Walk.{in_new_log, redone}
use Rattle.search.specs.Building.{canonical_constraint}

-- ---- work that notes no entry
conjoined-quiet : (ds : List (List (List Literal))) (d : List (List Literal)) → IsQuiet (conjoined ds d)
conjoined-quiet [] d = quiet_just d
conjoined-quiet (c ∷ cs) d = quiet_next (conjunction d c) (λ both. conjoined cs both) (conjunction-quiet d c) (λ both. conjoined-quiet cs both)

equations-quiet : (ss ts : List Linear) (out : List Form) → IsQuiet (equations ss ts out)
equations-quiet [] ts out = quiet_just out
equations-quiet (s ∷ ss) [] out = quiet_just out
equations-quiet (s ∷ ss) (t ∷ ts) out = quiet_next (difference s t) _ (quiet_raw _ _) (λ d. equations-quiet ss ts (out ++ tree.equal d ∷ []))

same-quiet : (ss ts : List Linear) → IsQuiet (same_arguments ss ts)
same-quiet ss ts = quiet_next (equations ss ts []) _ (equations-quiet ss ts []) (λ fs. quiet_just _)

other-quiet : (ss : List Linear) (u : Linear) (ts : List Linear) (v : Linear) → IsQuiet (other_values ss u ts v)
other-quiet ss u ts v = quiet_next (equations ss ts []) _ (equations-quiet ss ts []) (λ fs. quiet_next (difference u v) _ (quiet_raw _ _) (λ d. quiet_just _))

predicate-quiet : (p : ℕ) (ss : List Linear) (g : Form) → IsQuiet (predicate_pair p ss g)
predicate-quiet p ss (tree.holds q ts) = quiet_cond (alike p ss q ts) (same_arguments ss ts) (just []) (same-quiet ss ts) (quiet_just [])
predicate-quiet p ss (tree.equal t) = quiet_just []
predicate-quiet p ss (tree.unequal t) = quiet_just []
predicate-quiet p ss (tree.at_least t) = quiet_just []
predicate-quiet p ss (tree.fails q ts) = quiet_just []
predicate-quiet p ss (tree.differs q ts u) = quiet_just []
predicate-quiet p ss (tree.conjunction fs) = quiet_just []
predicate-quiet p ss (tree.disjunction fs) = quiet_just []
predicate-quiet p ss (tree.universal f) = quiet_just []
predicate-quiet p ss (tree.existential f) = quiet_just []

function-quiet : (f : ℕ) (ss : List Linear) (u : Linear) (g : Form) → IsQuiet (function_pair f ss u g)
function-quiet f ss u (tree.differs g ts v) = quiet_cond (alike f ss g ts) (other_values ss u ts v) (just []) (other-quiet ss u ts v) (quiet_just [])
function-quiet f ss u (tree.equal t) = quiet_just []
function-quiet f ss u (tree.unequal t) = quiet_just []
function-quiet f ss u (tree.at_least t) = quiet_just []
function-quiet f ss u (tree.holds q ts) = quiet_just []
function-quiet f ss u (tree.fails q ts) = quiet_just []
function-quiet f ss u (tree.conjunction fs) = quiet_just []
function-quiet f ss u (tree.disjunction fs) = quiet_just []
function-quiet f ss u (tree.universal g) = quiet_just []
function-quiet f ss u (tree.existential g) = quiet_just []

with_predicates-quiet : (ms : List Member) (g : Form) → IsQuiet (with_predicates ms g)
with_predicates-quiet ms (tree.fails p ss) = quiet_each (λ m. predicate_pair p ss m.formula) ms [] (λ m. predicate-quiet p ss m.formula)
with_predicates-quiet ms (tree.equal t) = quiet_just []
with_predicates-quiet ms (tree.unequal t) = quiet_just []
with_predicates-quiet ms (tree.at_least t) = quiet_just []
with_predicates-quiet ms (tree.holds q ts) = quiet_just []
with_predicates-quiet ms (tree.differs q ts u) = quiet_just []
with_predicates-quiet ms (tree.conjunction fs) = quiet_just []
with_predicates-quiet ms (tree.disjunction fs) = quiet_just []
with_predicates-quiet ms (tree.universal f) = quiet_just []
with_predicates-quiet ms (tree.existential f) = quiet_just []

with_functions-quiet : (ms : List Member) (g : Form) → IsQuiet (with_functions ms g)
with_functions-quiet ms (tree.differs f ss u) = quiet_each (λ m. function_pair f ss u m.formula) ms [] (λ m. function-quiet f ss u m.formula)
with_functions-quiet ms (tree.equal t) = quiet_just []
with_functions-quiet ms (tree.unequal t) = quiet_just []
with_functions-quiet ms (tree.at_least t) = quiet_just []
with_functions-quiet ms (tree.holds q ts) = quiet_just []
with_functions-quiet ms (tree.fails q ts) = quiet_just []
with_functions-quiet ms (tree.conjunction fs) = quiet_just []
with_functions-quiet ms (tree.disjunction fs) = quiet_just []
with_functions-quiet ms (tree.universal f) = quiet_just []
with_functions-quiet ms (tree.existential f) = quiet_just []

function_pairs-quiet : (ms : List Member) (out : List Form) → IsQuiet (function_pairs ms out)
function_pairs-quiet [] out = quiet_just out
function_pairs-quiet (m ∷ ms) out = quiet_next (with_functions ms m.formula) _ (with_functions-quiet ms m.formula) (λ fs. function_pairs-quiet ms (out ++ fs))

closing-quiet : (s : Sequent) → IsQuiet (closing_of s)
closing-quiet s =
    quiet_next (pairs_of s.members) _
    (quiet_next _ (λ ps. function_pairs s.members ps) (quiet_each (λ m. with_predicates s.members m.formula) s.members [] (λ m. with_predicates-quiet s.members m.formula))
    (λ ps. function_pairs-quiet s.members ps))
    (λ fs. quiet_just _)

-- ---- the rules
close_does : (s : Sequent) → Does (read_next (reads_none (closing_of s)) (λ f. by_log (suc (depth f)) s.count f)) (next (closing_of s) (λ f. eliminated (suc (depth f)) s.count f))
close_does s =
    does_next (reads_none (closing_of s)) (λ f. by_log (suc (depth f)) s.count f) (closing_of s) (λ f. eliminated (suc (depth f)) s.count f)
    (does_quiet (closing_of s) (closing-quiet s)) (form_does (suc (depth (closing_of s).value)) s.count (closing_of s).value)

pub rule_does : (s : Sequent) (p : Pick) (ds : List (List (List Literal))) → Does (constraint_by s p ds) (canonical_constraint s p ds)
unfolding eliminating
rule_does s (pick.Trivial i) ds = does_quiet (just top) (quiet_just top)
rule_does s (pick.Alpha i) ds = does_quiet (just (first_given ds)) (quiet_just (first_given ds))
rule_does s (pick.Delta i) ds = every_does s.count (first_given ds)
rule_does s (pick.Beta i) ds = does_quiet (conjoined ds top) (conjoined-quiet ds top)
rule_does s (pick.Gamma i) ds = name_does s.count (first_given ds)
rule_does s pick.Close ds = close_does s

-- the end of a log, and the work in a log of its own with its value
closed : {A : Type 0} (a : A) → next (next (note new_log) (λ _. just a)) (λ d. just (Some d)) ≡ next (note new_log) (λ _. just (Some a))
closed a =
    next-assoc (note new_log) (λ _. just a) (λ d. just (Some d))
    ∙ next-same (note new_log) (λ _. next (just a) (λ d. just (Some d))) (λ _. just (Some a)) (next-just a (λ d. just (Some d)))

before : {A : Type 0} (w : Traced A) → next (next w (λ a. just (Some a))) (λ b. next (note new_log) (λ _. just b)) ≡ next w (λ a. next (note new_log) (λ _. just (Some a)))
before w =
    next-assoc w (λ a. just (Some a)) (λ b. next (note new_log) (λ _. just b))
    ∙ next-same w (λ a. next (just (Some a)) (λ b. next (note new_log) (λ _. just b))) (λ a. next (note new_log) (λ _. just (Some a))) (next-just (Some w.value) (λ b. next (note new_log) (λ _. just b)))

behind : {A : Type 0} (w : Traced A) → next (next w (λ a. next (note new_log) (λ _. just a))) (λ d. just (Some d)) ≡ next w (λ a. next (note new_log) (λ _. just (Some a)))
behind w =
    next-assoc w (λ a. next (note new_log) (λ _. just a)) (λ d. just (Some d))
    ∙ next-same w (λ a. next (next (note new_log) (λ _. just a)) (λ d. just (Some d))) (λ a. next (note new_log) (λ _. just (Some a))) (closed w.value)

moved : {A : Type 0} (w : Traced A) → in_new_log (next w (λ a. just (Some a))) ≡ next (in_new_log w) (λ d. just (Some d))
moved w =
    ap (λ z. next (note new_log) (λ _. z)) (before w ∙ sym (behind w))
    ∙ sym (next-assoc (note new_log) (λ _. next w (λ a. next (note new_log) (λ _. just a))) (λ d. just (Some d)))

-- the work of redoing it is the work of making it
pub redone_is : (s : Sequent) (p : Pick) (ds : List (List (List Literal))) → redone s p ds (entries_of (canonical_constraint s p ds).events) ≡ next (in_new_log (canonical_constraint s p ds)) (λ d. just (Some d))
redone_is s p ds = ap in_new_log (whole_does (constraint_by s p ds) (canonical_constraint s p ds) (rule_does s p ds)) ∙ moved (canonical_constraint s p ds)
