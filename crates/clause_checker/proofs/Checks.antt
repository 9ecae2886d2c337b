-- Lines and whole proofs.
use Rattle.std.proofs.Common.{◌≡◌, ℕ, ◌<◌, ◌≤◌, ◌+◌, ◌-◌, ℤ, Bool, true, false, List, [], ◌∷◌, map, drop, length, get_or, Option, Some, None, Result, Ok, Err, IsErrAnd, IsTrue, refl, sym, ap, ◌∙◌, subst, arith}
use Rattle.std.specs.List.{slice_get}
use Rattle.formula.specs.Form.{Form}
use Rattle.linear_term.specs.Linear.{number}
use Rattle.base_budget.proofs.Charging.{drop-item, drop_all}
use Rattle.clause_proof.specs.declared.line.Literal.{Literal}
use Rattle.clause_proof.specs.declared.line.Line.{Line}
use Rattle.clause_proof.specs.declared.line.Line.TheVariants as line
use Rattle.clause_proof.specs.Clauses as q
use Rattle.clause_proof.specs.Atoms as atoms
use Rattle.clause_proof.specs.Lines.{found, added, after, extended, without_clauses, stand_all, positive, opposite}
use Rattle.clause_proof.specs.Proofs.{start, run, is_empty, ends_so, ends_empty}
use Rattle.clause_checker.specs.declared.fault.Fault.{Fault}
use Rattle.clause_checker.specs.declared.state.State.{State}
use Rattle.clause_checker.specs.declared.state.Definition.{Definition}
use Rattle.clause_checker.specs.Answers.{Does}
use Rattle.clause_checker.specs.Views.{state_of, definitions_of}
use Rattle.clause_checker.proofs.Doing.{does_some, does_none, does_cut, does_on, does_then, does_err, does_as}

-- ---- what a line adds, by its kind
pub line_as : {A : Type 0} (view : A → q.State) (s : q.State) (l k : Line) (r : Result A Fault) → l ≡ k → Does view (found (added s k) (extended s)) r → Does view (found (added s l) (extended s)) r
line_as view s l k r is h = subst (λ x. Does view (found (added s x) (extended s)) r) (sym is) h

pub ruleset putting = (line_as, does_none, does_cut)

-- ---- a line
after_else : (s : q.State) (l : Line) → ((hs : List ℕ) → l ≡ line.Delete hs → ⊥) → after s l ≡ found (added s l) (extended s)
after_else s (line.Open i ms) h = refl
after_else s (line.Apply f ts) h = refl
after_else s (line.Read i bs m) h = refl
after_else s (line.Instance i us m) h = refl
after_else s (line.Inequality t) h = refl
after_else s (line.Equation t) h = refl
after_else s (line.Predicate p ts) h = refl
after_else s (line.Split i g k) h = refl
after_else s (line.Sum xs) h = refl
after_else s (line.Pair a b es r) h = refl
after_else s (line.PredicatePair i j es) h = refl
after_else s (line.Divide d t g k) h = refl
after_else s (line.Resolve c hs) h = refl
after_else s (line.Delete hs) h = absurd (h hs refl)

pub after_put : {A : Type 0} (v : A → q.State) (s : q.State) (l : Line) (r : Result A Fault) → ((hs : List ℕ) → l ≡ line.Delete hs → ⊥) → Does v (found (added s l) (extended s)) r → Does v (after s l) r
after_put v s l r h d = does_as v (found (added s l) (extended s)) (after s l) r (after_else s l h) d

pub after_deleted : (s t : State) (l : Line) (hs : List ℕ) → l ≡ line.Delete hs → t.definitions ≡ s.definitions → t.clauses ≡ without_clauses s.clauses hs → t.applications ≡ s.applications → t.count ≡ s.count
    → Does (λ (u : Unit {0}). state_of t) (after (state_of s) l) (Ok tt)
after_deleted s t l hs is d c a n =
    let same = sym (ap definitions_of d) in
    does_some (λ (u : Unit {0}). state_of t) (after (state_of s) l) tt
    (ap (after (state_of s)) is ∙ ap Some (λ i. record { definitions = same i; clauses = sym c i; applications = sym a i; count = sym n i }))

pub ruleset stepping = (after_put, after_deleted, does_cut)

-- ---- lines
pub record RunLeft (s : q.State) (ls : List Line) (all : Option q.State) : Type 0 where
  pub is : all ≡ run s ls

pub run_begins : (s : q.State) (ls : List Line) → RunLeft s ls (run s ls)
run_begins s ls = record { is = refl }

next_is : (s : q.State) (ls : List Line) (i : ℕ) (l : Line) (all : Option q.State) → i < length ls → l ≡ get_or ls i l → RunLeft s (drop i ls) all
    → all ≡ found (after s l) (λ t. run t (drop (i + 1) ls))
next_is s ls i l all lt is h = h.is ∙ ap (run s) (drop-item ls i l lt is)

pub run_goes : (s t : q.State) (ls : List Line) (i : ℕ) (l : Line) (all : Option q.State) → i < length ls → l ≡ get_or ls i l → RunLeft s (drop i ls) all
    → Does (λ (u : Unit {0}). t) (after s l) (Ok tt) → RunLeft t (drop (i + 1) ls) all
run_goes s t ls i l all lt is h d = record { is = next_is s ls i l all lt is h ∙ ap (λ o. found o (λ x. run x (drop (i + 1) ls))) (d.ok tt refl) }

pub run_stops : {A : Type 0} (v : A → q.State) (s t : q.State) (ls : List Line) (i : ℕ) (l : Line) (all : Option q.State) (e : Fault) (r : Result A Fault) → i < length ls → l ≡ get_or ls i l → RunLeft s (drop i ls) all
    → IsErrAnd r (λ x. x ≡ e) → Does (λ (u : Unit {0}). t) (after s l) (Err e) → Does v all r
run_stops v s t ls i l all e r lt is h err d =
    does_as v (found (after s l) (λ x. run x (drop (i + 1) ls))) all r (next_is s ls i l all lt is h)
    (does_err (λ (u : Unit {0}). t) v (after s l) (λ x. run x (drop (i + 1) ls)) e r err d)

pub run_ends : (s : q.State) (ls : List Line) (i : ℕ) (all : Option q.State) → length ls ≤ i → RunLeft s (drop i ls) all → Does (λ (u : Unit {0}). s) all (Ok tt)
run_ends s ls i all le h = does_some (λ (u : Unit {0}). s) all tt (h.is ∙ ap (run s) (drop_all ls i le))

pub ruleset running = (run_begins, run_goes, run_stops, run_ends)

-- ---- the start
pub begin_is : (s : State) (f : Form) (ks : List ℤ) (m : Literal) (x : atoms.Signed) (ds D : List Definition) → x ≡ atoms.literal_of f (map number ks) → definitions_of ds ≡ q.always ∷ []
    → Does (λ (u : Unit {0}). definitions_of D) (stand_all (definitions_of ds) (x ∷ []) (m ∷ [])) (Ok tt) → s.definitions ≡ D → s.clauses ≡ Some (positive 0 ∷ []) ∷ Some (opposite m ∷ []) ∷ []
    → s.applications ≡ [] → s.count ≡ 0 → Does state_of (start f ks m) (Ok s)
begin_is s f ks m x ds D is first d same c a n =
    let at : stand_all (q.always ∷ []) (atoms.literal_of f (map number ks) ∷ []) (m ∷ []) ≡ Some (definitions_of D)
    = (λ i. stand_all (sym first i) (sym is i ∷ []) (m ∷ [])) ∙ d.ok tt refl in
    let then_all = ap definitions_of same in
    does_some state_of (start f ks m) s
    (ap (λ o. found o (λ ds. Some (record { definitions = ds; clauses = Some (positive 0 ∷ []) ∷ Some (opposite m ∷ []) ∷ []; applications = []; count = 0 }))) at
    ∙ ap Some (λ i. record { definitions = sym then_all i; clauses = sym c i; applications = sym a i; count = sym n i }))

pub begin_not : (f : Form) (ks : List ℤ) (m : Literal) (x : atoms.Signed) (ds D : List Definition) (e : Fault) (r : Result State Fault) → x ≡ atoms.literal_of f (map number ks) → definitions_of ds ≡ q.always ∷ []
    → IsErrAnd r (λ y. y ≡ e) → Does (λ (u : Unit {0}). definitions_of D) (stand_all (definitions_of ds) (x ∷ []) (m ∷ [])) (Err e) → Does state_of (start f ks m) r
begin_not f ks m x ds D e r is first err d =
    does_as state_of _ (start f ks m) r
    (λ i. found (stand_all (sym first i) (sym is i ∷ []) (m ∷ [])) (λ ds. Some (record { definitions = ds; clauses = Some (positive 0 ∷ []) ∷ Some (opposite m ∷ []) ∷ []; applications = []; count = 0 })))
    (does_err (λ (u : Unit {0}). definitions_of D) state_of (stand_all (definitions_of ds) (x ∷ []) (m ∷ [])) (λ ds. Some (record { definitions = ds; clauses = Some (positive 0 ∷ []) ∷ Some (opposite m ∷ []) ∷ []; applications = []; count = 0 })) e r err d)

pub ruleset beginning = (begin_is, begin_not, does_cut, does_on)

-- ---- the end
empty_found : Option (Option (List Literal)) → Bool
empty_found None = false
empty_found (Some c) = is_empty c

last_is : (c : Option (List Literal)) (cs : List (Option (List Literal))) → ends_so c cs ≡ empty_found (slice_get (c ∷ cs) (length cs))
unfolding empty_found
last_is c [] = refl
last_is c (d ∷ cs) = last_is d cs

end_is : (cs : List (Option (List Literal))) → ends_empty cs ≡ empty_found (slice_get cs (length cs - 1))
unfolding empty_found
end_is [] = refl
end_is (c ∷ cs) = let one : length cs ≡ length (c ∷ cs) - 1 = omega arith in last_is c cs ∙ ap (λ n. empty_found (slice_get (c ∷ cs) n)) one

pub end_none : (cs : List (Option (List Literal))) → cs ≡ [] → false ≡ ends_empty cs
end_none cs h = sym (ap ends_empty h)

pub end_clause : (cs : List (Option (List Literal))) (c : List Literal) (b : Bool) → slice_get cs (length cs - 1) ≡ Some (Some c) → b ≡ is_empty (Some c) → b ≡ ends_empty cs
unfolding empty_found
end_clause cs c b at h = h ∙ sym (end_is cs ∙ ap empty_found at)

pub end_deleted : (cs : List (Option (List Literal))) → slice_get cs (length cs - 1) ≡ Some None → false ≡ ends_empty cs
unfolding empty_found
end_deleted cs at = sym (end_is cs ∙ ap empty_found at)

pub end_missing : (cs : List (Option (List Literal))) → slice_get cs (length cs - 1) ≡ None → false ≡ ends_empty cs
unfolding empty_found
end_missing cs at = sym (end_is cs ∙ ap empty_found at)

empty_test : (c : List Literal) (b : Bool) → (IsTrue b → c ≡ []) → (c ≡ [] → IsTrue b) → b ≡ is_empty (Some c)
empty_test [] true f g = refl
empty_test [] false f g = let is : false ≡ true = g refl in absurd (cc)
empty_test (l ∷ ls) true f g = let is : l ∷ ls ≡ [] = f refl in absurd (cc)
empty_test (l ∷ ls) false f g = refl

pub end_tested : (cs : List (Option (List Literal))) (c : List Literal) (b : Bool) → slice_get cs (length cs - 1) ≡ Some (Some c) → (IsTrue b → c ≡ []) × (c ≡ [] → IsTrue b) → b ≡ ends_empty cs
end_tested cs c b at h = end_clause cs c b at (empty_test c b h.0 h.1)

pub ruleset ending = (end_none, end_clause, end_deleted, end_missing)
