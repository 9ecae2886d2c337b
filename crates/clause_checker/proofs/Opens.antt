-- Closures that are opened, and what is added to a state.
use Rattle.std.proofs.Common.{◌≡◌, ◌≢◌, ℕ, suc, ◌+◌, Bool, true, false, cond, List, [], ◌∷◌, ◌++◌, length, map, Option, Some, None, Result, Ok, Err, IsErrAnd, refl, sym, ap, ◌∙◌, arith}
use Rattle.std.specs.Borrow.{Bor}
use Rattle.std.specs.List.{slice_get}
use Rattle.std.specs.Option.{option_copied, option_map}
use Rattle.std.proofs.lemmas.Option.{slice_get-map}
use Rattle.std.proofs.lemmas.List.{append-nil}
use Rattle.linear_term.specs.Linear.{Linear}
use Rattle.formula.specs.Form.{Form}
use Rattle.formula.specs.Tree.{form}
use Rattle.formula.specs.declared.calculus.Core.{Core}
use Rattle.clause_proof.specs.declared.line.Literal.{Literal}
use Rattle.clause_proof.specs.Clauses as q
use Rattle.clause_proof.specs.Atoms as atoms
use Rattle.clause_proof.specs.Lines.{found, stand, stand_all, adding, extended, as_closure, are_over, applied}
use Rattle.clause_checker.specs.declared.fault.Fault.{Fault}
use Rattle.clause_checker.specs.declared.fault.Fault.TheVariants.{Refused}
use Rattle.clause_checker.specs.declared.state.Definition.{Definition}
use Rattle.clause_checker.specs.declared.state.State.{State}
use Rattle.clause_checker.specs.Answers.{Does}
use Rattle.clause_checker.specs.Views.{definition_of, definitions_of, state_of, inner_of, pair_up}
use Rattle.clause_checker.proofs.Doing.{does_some, does_none, does_cut, does_room, does_on, does_then, does_err, does_as}

-- ---- a variable by its number
pub at_some : (ds : List Definition) (i : ℕ) (o : Option (Bor Definition)) (r : Bor Definition) → option_copied o ≡ slice_get ds i → o ≡ Some r → slice_get (definitions_of ds) i ≡ Some (definition_of r.now)
at_some ds i o r is at = slice_get-map definition_of ds i ∙ ap (option_map definition_of) (sym is ∙ ap option_copied at)

pub at_none : (ds : List Definition) (i : ℕ) (o : Option (Bor Definition)) → option_copied o ≡ slice_get ds i → o ≡ None → slice_get (definitions_of ds) i ≡ None
at_none ds i o is at = slice_get-map definition_of ds i ∙ ap (option_map definition_of) (sym is ∙ ap option_copied at)

pub found_some : {A B : Type 0} (v : A → B) (ds : List Definition) (i : ℕ) (o : Option (Bor Definition)) (d : Bor Definition) (k : q.Definition → Option B) (r : Result A Fault) → option_copied o ≡ slice_get ds i → o ≡ Some d
    → Does v (k (definition_of d.now)) r → Does v (found (slice_get (definitions_of ds) i) k) r
found_some v ds i o d k r is at h = does_as v (k (definition_of d.now)) (found (slice_get (definitions_of ds) i) k) r (ap (λ x. found x k) (at_some ds i o d is at)) h

pub found_none : {A B : Type 0} (v : A → B) (ds : List Definition) (i : ℕ) (o : Option (Bor Definition)) (k : q.Definition → Option B) → option_copied o ≡ slice_get ds i → o ≡ None
    → Does v (found (slice_get (definitions_of ds) i) k) (Err Refused)
found_none v ds i o k is at = does_none v (found (slice_get (definitions_of ds) i) k) (ap (λ x. found x k) (at_none ds i o is at))

pub ruleset found_ones = (found_some, found_none)

-- ---- a closure, and the rest with its formula and terms
closure_parts : {B : Type 0} (d : q.Definition) (k : Form → List Linear → Option B) → as_closure d k ≡ found (as_closure d pair_up) (λ x. k x.0 x.1)
closure_parts q.always k = refl
closure_parts (q.at_least_zero t) k = refl
closure_parts (q.is_zero t) k = refl
closure_parts (q.predicate p ts) k = refl
closure_parts (q.closure f ts) k = refl

closure_then : {B : Type 0} (o : Option q.Definition) (k : Form → List Linear → Option B) → found o (λ d. as_closure d k) ≡ found (found o (λ d. as_closure d pair_up)) (λ x. k x.0 x.1)
closure_then None k = refl
closure_then (Some d) k = closure_parts d k

pub found_twice : {A B C : Type 0} (o : Option A) (f : A → Option B) (g : B → Option C) → found (found o f) g ≡ found o (λ x. found (f x) g)
found_twice None f g = refl
found_twice (Some x) f g = refl

whole : {B C : Type 0} (o : Option q.Definition) (k : Form → List Linear → Option B) (g : B → Option C)
    → found (found o (λ d. as_closure d k)) g ≡ found (found o (λ d. as_closure d pair_up)) (λ x. found (k x.0 x.1) g)
whole o k g = ap (λ x. found x g) (closure_then o k) ∙ found_twice (found o (λ d. as_closure d pair_up)) (λ x. k x.0 x.1) g

pub closure_goes : {A B C : Type 0} (v : A → C) (o : Option q.Definition) (k : Form → List Linear → Option B) (g : B → Option C) (x : Bor Core × List Linear) (r : Result A Fault)
    → Does inner_of (found o (λ d. as_closure d pair_up)) (Ok x) → Does v (found (k (form x.0.now) x.1) g) r → Does v (found (found o (λ d. as_closure d k)) g) r
closure_goes v o k g x r d h =
    does_as v _ (found (found o (λ d. as_closure d k)) g) r (whole o k g) (does_then inner_of v (found o (λ d. as_closure d pair_up)) (λ y. found (k y.0 y.1) g) x r d h)

pub closure_stops : {A B C : Type 0} (v : A → C) (o : Option q.Definition) (k : Form → List Linear → Option B) (g : B → Option C) (e : Fault) (r : Result A Fault) → IsErrAnd r (λ x. x ≡ e)
    → Does inner_of (found o (λ d. as_closure d pair_up)) (Err e) → Does v (found (found o (λ d. as_closure d k)) g) r
closure_stops v o k g e r err d =
    does_as v _ (found (found o (λ d. as_closure d k)) g) r (whole o k g) (does_err inner_of v (found o (λ d. as_closure d pair_up)) (λ y. found (k y.0 y.1) g) e r err d)

pub ruleset closures = (closure_goes, closure_stops, does_cut, does_on)

-- ---- what is added
states_equal : (s t : State) (ds : List q.Definition) (xs : List atoms.Signed) (ms : List Literal) (cs : List (List Literal)) (n : ℕ) → definitions_of t.definitions ≡ ds → t.clauses ≡ s.clauses ++ map Some cs
    → t.applications ≡ s.applications → t.count ≡ n
    → (record { definitions = ds; clauses = s.clauses ++ map Some cs; applications = s.applications ++ []; count = n }) ≡ state_of t
states_equal s t ds xs ms cs n d c a k =
    let none = append-nil s.applications ∙ sym a in
    λ i. record { definitions = sym d i; clauses = sym c i; applications = none i; count = sym k i }

pub adds_stood : (s t : State) (xs : List atoms.Signed) (ms : List Literal) (cs : List (List Literal)) (es : List (Option (List Literal))) (n : ℕ) (D : List Definition)
    → Does (λ (u : Unit {0}). definitions_of D) (stand_all (definitions_of s.definitions) xs ms) (Ok tt) → t.definitions ≡ D → t.clauses ≡ s.clauses ++ es → es ≡ map Some cs → t.applications ≡ s.applications → t.count ≡ n
    → Does (λ (u : Unit {0}). state_of t) (extended (state_of s) (adding xs ms cs n)) (Ok tt)
adds_stood s t xs ms cs es n D d ds c is a k =
    does_then (λ (u : Unit {0}). definitions_of D) (λ (u : Unit {0}). state_of t) (stand_all (definitions_of s.definitions) xs ms)
    (λ l. Some (record { definitions = l; clauses = s.clauses ++ map Some cs; applications = s.applications ++ []; count = n })) tt (Ok tt) d
    (does_some (λ (u : Unit {0}). state_of t) (Some (record { definitions = definitions_of D; clauses = s.clauses ++ map Some cs; applications = s.applications ++ []; count = n })) tt
    (ap Some (states_equal s t (definitions_of D) xs ms cs n (ap definitions_of ds) (c ∙ ap (λ l. s.clauses ++ l) is) a k)))

pub adds_not : (s t : State) (xs : List atoms.Signed) (ms : List Literal) (cs : List (List Literal)) (n : ℕ) (D : List Definition) (e : Fault) (r : Result (Unit {0}) Fault) → IsErrAnd r (λ x. x ≡ e)
    → Does (λ (u : Unit {0}). definitions_of D) (stand_all (definitions_of s.definitions) xs ms) (Err e) → Does (λ (u : Unit {0}). state_of t) (extended (state_of s) (adding xs ms cs n)) r
adds_not s t xs ms cs n D e r err d =
    does_err (λ (u : Unit {0}). definitions_of D) (λ (u : Unit {0}). state_of t) (stand_all (definitions_of s.definitions) xs ms)
    (λ l. Some (record { definitions = l; clauses = s.clauses ++ map Some cs; applications = s.applications ++ []; count = n })) e r err d

pub ruleset extending = (adds_stood, adds_not, does_cut, does_room, does_on)

-- ---- one literal, alone in a list
list_one : (ms : List Literal) (m : Literal) → length ms ≡ 1 → slice_get ms 0 ≡ Some m → ms ≡ m ∷ []
list_one [] m len at = absurd (cc)
list_one (k ∷ []) m len at = let same : k ≡ m = cc in ap (λ l. l ∷ []) same
list_one (k ∷ l ∷ ms) m len at = absurd (omega (arith, len))

not_one : (ds : List q.Definition) (x : atoms.Signed) (ms : List Literal) → length ms ≢ 1 → stand_all ds (x ∷ []) ms ≡ None
not_one ds x [] n = refl
not_one ds x (k ∷ []) n = absurd (n refl)
not_one ds x (k ∷ l ∷ ms) n = none_then (stand_first ds x k)
  where
    stand_first : List q.Definition → atoms.Signed → Literal → Option (List q.Definition)
    stand_first ds x k = stand ds x k

    none_then : (o : Option (List q.Definition)) → found o (λ cs. stand_all cs [] (l ∷ ms)) ≡ None
    none_then None = refl
    none_then (Some cs) = refl

pub alone_not : {A : Type 0} (v : A → List q.Definition) (ds : List q.Definition) (x : atoms.Signed) (ms : List Literal) → length ms ≢ 1 → Does v (stand_all ds (x ∷ []) ms) (Err Refused)
alone_not v ds x ms n = does_none v (stand_all ds (x ∷ []) ms) (not_one ds x ms n)

pub alone_is : {A : Type 0} (v : A → List q.Definition) (ds : List q.Definition) (x : atoms.Signed) (ms : List Literal) (o : Option (Bor Literal)) (m : Bor Literal) (r : Result A Fault) → length ms ≡ 1
    → option_copied o ≡ slice_get ms 0 → o ≡ Some m → Does v (stand_all ds (x ∷ []) (m.now ∷ [])) r → Does v (stand_all ds (x ∷ []) ms) r
alone_is v ds x ms o m r len is at h = does_as v (stand_all ds (x ∷ []) (m.now ∷ [])) (stand_all ds (x ∷ []) ms) r (ap (stand_all ds (x ∷ [])) (list_one ms m.now len (sym is ∙ ap option_copied at))) h

pub alone_lacks : {A : Type 0} (v : A → List q.Definition) (ds : List q.Definition) (x : atoms.Signed) (ms : List Literal) (o : Option (Bor Literal))
    → option_copied o ≡ slice_get ms 0 → o ≡ None → Does v (stand_all ds (x ∷ []) ms) (Err Refused)
alone_lacks v ds x [] o is at = does_none v (stand_all ds (x ∷ []) []) refl
alone_lacks v ds x (m ∷ ms) o is at = absurd (let bad : Some m ≡ None = sym is ∙ ap option_copied at in cc)

pub ruleset alone = (alone_not, alone_is, alone_lacks)

-- ---- applications
pub applied_not : {A : Type 0} (v : A → q.State) (s : q.State) (f : ℕ) (ts : List Linear) (b : Bool) → b ≡ are_over s.count ts → b ≡ false → Does v (found (applied s f ts) (extended s)) (Err Refused)
applied_not v s f ts b is no_is =
    does_none v (found (applied s f ts) (extended s))
    (ap (λ x. found (cond x (Some (record { meant = []; literals = []; clauses = []; applications = record { function = f; terms = ts; constant = s.count } ∷ []; count = suc s.count })) None) (extended s)) (sym is ∙ no_is))

pub applied_is : (s t : State) (f : ℕ) (ts us : List Linear) (b : Bool) → b ≡ are_over s.count ts → b ≡ true → us ≡ ts → t.definitions ≡ s.definitions → t.clauses ≡ s.clauses
    → t.applications ≡ s.applications ++ (record { function = f; terms = us; constant = s.count }) ∷ [] → t.count ≡ s.count + 1
    → Does (λ (u : Unit {0}). state_of t) (found (applied (state_of s) f ts) (extended (state_of s))) (Ok tt)
applied_is s t f ts us b is yes_is same d c a k =
    let one : t.count ≡ suc s.count = k ∙ omega arith in
    let all : t.applications ≡ s.applications ++ (record { function = f; terms = ts; constant = s.count }) ∷ []
    = a ∙ ap (λ l. s.applications ++ (record { function = f; terms = l; constant = s.count }) ∷ []) same in
    does_some (λ (u : Unit {0}). state_of t) (found (applied (state_of s) f ts) (extended (state_of s))) tt
    (ap (λ x. found (cond x (Some (record { meant = []; literals = []; clauses = []; applications = record { function = f; terms = ts; constant = s.count } ∷ []; count = suc s.count })) None) (extended (state_of s))) (sym is ∙ yes_is)
    ∙ ap Some (λ i. record { definitions = sym (ap definitions_of d) i; clauses = (append-nil s.clauses ∙ sym c) i; applications = sym all i; count = sym one i }))

pub ruleset applying = (applied_not, applied_is, does_cut, does_room)
