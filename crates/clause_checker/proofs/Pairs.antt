-- Equations of arguments, by their numbers, and pairs of applications or of variables of one predicate.
use Rattle.std.proofs.Common.{◌≡◌, ◌≢◌, ℕ, ◌+◌, ◌<◌, ◌≤◌, pos, negsuc, Bool, true, false, ◌&&◌, cond, nat_eq, List, [], ◌∷◌, ◌++◌, length, map, drop, Option, Some, None, Result, Ok, Err, IsErrAnd, refl, sym, ap, ◌∙◌, subst, arith}
use Rattle.std.specs.Borrow.{Bor}
use Rattle.std.specs.List.{slice_get}
use Rattle.std.proofs.lemmas.Bool.Decides.{nat_tests}
use Rattle.base_budget.proofs.Charging.{drop_all}
use Rattle.linear_term.specs.Linear.{Linear, name}
use Rattle.linear_term.specs.Combination.{combination}
use Rattle.clause_proof.specs.declared.line.Application.{Application}
use Rattle.clause_proof.specs.declared.line.Literal.{Literal}
use Rattle.clause_proof.specs.Clauses as q
use Rattle.clause_proof.specs.Atoms as atoms
use Rattle.clause_proof.specs.Atoms.{equation_literal}
use Rattle.clause_proof.specs.Lines.{found, stand, stand_all, equations, positive, negative, opposite, adding, extended, paired, predicates_paired}
use Rattle.clause_checker.specs.declared.fault.Fault.{Fault}
use Rattle.clause_checker.specs.declared.fault.Fault.TheVariants.{Refused}
use Rattle.clause_checker.specs.declared.state.Definition.{Definition}
use Rattle.clause_checker.specs.declared.state.State.{State}
use Rattle.clause_checker.specs.Answers.{Does}
use Rattle.clause_checker.specs.Views.{definitions_of, state_of, equation_at, predicate_of}
use Rattle.clause_checker.proofs.Doing.{does_some, does_none, does_cut, does_on, does_then, does_err, does_as}
use Rattle.clause_checker.proofs.Stands.{StandLeft, stand_begins, drop_found, drop_missing, Someone, item_of, rest_none}
use Rattle.clause_checker.proofs.Opens.{found_twice, adds_stood, adds_not}

step_is : (ds : List q.Definition) (ss ts : List Linear) (ms : List Literal) (i : ℕ) (all : Option (List q.Definition)) → length ss ≡ length ts → i < length ss → StandLeft ds (equations (drop i ss) (drop i ts)) (drop i ms) all
    → all ≡ found (equation_at ss ts ms i ds) (λ cs. stand_all cs (equations (drop (i + 1) ss) (drop (i + 1) ts)) (drop (i + 1) ms))
step_is ds ss ts ms i all long lt h =
    let k = item_of ss i lt in
    let j = item_of ts i (subst (λ n. i < n) long lt) in
    let x = equation_literal (combination (pos 1) k.one (negsuc 0) j.one) in
    let rest = equations (drop (i + 1) ss) (drop (i + 1) ts) in
    h.is ∙ (λ z. stand_all ds (equations (drop_found ss i k.one k.is z) (drop_found ts i j.one j.is z)) (drop i ms))
    ∙ by_literal x rest (slice_get ms i) refl
    ∙ (λ z. found (found (sym k.is z) (λ s. found (sym j.is z) (λ t. found (slice_get ms i) (stand ds (equation_literal (combination (pos 1) s (negsuc 0) t)))))) (λ cs. stand_all cs rest (drop (i + 1) ms)))
  where
    by_literal : (x : atoms.Signed) (rest : List atoms.Signed) (o : Option Literal) → slice_get ms i ≡ o → stand_all ds (x ∷ rest) (drop i ms) ≡ found (found (slice_get ms i) (stand ds x)) (λ cs. stand_all cs rest (drop (i + 1) ms))
    by_literal x rest None at = ap (stand_all ds (x ∷ rest)) (drop_missing ms i at) ∙ ap (λ o. found (found o (stand ds x)) (λ cs. stand_all cs rest (drop (i + 1) ms))) (sym at)
    by_literal x rest (Some m) at = ap (stand_all ds (x ∷ rest)) (drop_found ms i m at) ∙ ap (λ o. found (found o (stand ds x)) (λ cs. stand_all cs rest (drop (i + 1) ms))) (sym at)

pub equation_goes : (ds es : List q.Definition) (ss ts : List Linear) (ms : List Literal) (i : ℕ) (all : Option (List q.Definition)) → length ss ≡ length ts → i < length ss → StandLeft ds (equations (drop i ss) (drop i ts)) (drop i ms) all
    → Does (λ (u : Unit {0}). es) (equation_at ss ts ms i ds) (Ok tt) → StandLeft es (equations (drop (i + 1) ss) (drop (i + 1) ts)) (drop (i + 1) ms) all
equation_goes ds es ss ts ms i all long lt h d =
    record { is = step_is ds ss ts ms i all long lt h ∙ ap (λ x. found x (λ cs. stand_all cs (equations (drop (i + 1) ss) (drop (i + 1) ts)) (drop (i + 1) ms))) (d.ok tt refl) }

pub equation_stops : {A : Type 0} (v : A → List q.Definition) (ds es : List q.Definition) (ss ts : List Linear) (ms : List Literal) (i : ℕ) (all : Option (List q.Definition)) (e : Fault) (r : Result A Fault)
    → length ss ≡ length ts → i < length ss → StandLeft ds (equations (drop i ss) (drop i ts)) (drop i ms) all → IsErrAnd r (λ x. x ≡ e)
    → Does (λ (u : Unit {0}). es) (equation_at ss ts ms i ds) (Err e) → Does v all r
equation_stops v ds es ss ts ms i all e r long lt h err d =
    does_as v _ all r (step_is ds ss ts ms i all long lt h)
    (does_err (λ (u : Unit {0}). es) v (equation_at ss ts ms i ds) (λ cs. stand_all cs (equations (drop (i + 1) ss) (drop (i + 1) ts)) (drop (i + 1) ms)) e r err d)

pub equations_end : (ds : List q.Definition) (ss ts : List Linear) (ms : List Literal) (i : ℕ) (all : Option (List q.Definition)) → length ss ≤ i → StandLeft ds (equations (drop i ss) (drop i ts)) (drop i ms) all
    → length ms ≤ length ss → Does (λ (u : Unit {0}). ds) all (Ok tt)
equations_end ds ss ts ms i all le h short =
    does_some (λ (u : Unit {0}). ds) all tt (h.is ∙ (λ k. stand_all ds (equations (drop_all ss i le k) (drop i ts)) (drop_all ms i (omega (arith, le, short)) k)))

pub equations_short : {A : Type 0} (v : A → List q.Definition) (ds : List q.Definition) (ss ts : List Linear) (ms : List Literal) (i : ℕ) (all : Option (List q.Definition)) → length ss ≤ i → i ≤ length ss
    → StandLeft ds (equations (drop i ss) (drop i ts)) (drop i ms) all → length ss < length ms → Does v all (Err Refused)
equations_short v ds ss ts ms i all le most h more =
    does_none v all (h.is ∙ (λ k. stand_all ds (equations (drop_all ss i le k) (drop i ts)) (drop i ms)) ∙ rest_none ds ms i (omega (arith, most, more)))

pub ruleset walking = (stand_begins, equation_goes, equation_stops, equations_end, equations_short)

-- ---- two applications of one function
equal_yes : (a b : ℕ) → a ≡ b → nat_eq a b ≡ true
equal_yes a b h = grind (arith, nat_tests)

equal_not : (a b : ℕ) → a ≢ b → nat_eq a b ≡ false
equal_not a b h = grind (arith, nat_tests)

abbrev pair_clauses : List Literal → Literal → List (List Literal)
pair_clauses es r = (r ∷ map opposite es) ∷ []

abbrev pair_meant : Application → Application → List atoms.Signed
pair_meant x y = equation_literal (combination (pos 1) (name x.constant) (negsuc 0) (name y.constant)) ∷ equations x.terms y.terms

abbrev pair_work : q.State → List Literal → Literal → Application → Application → Bool → Option q.State
pair_work s es r x y b = found (cond b (Some (adding (pair_meant x y) (r ∷ es) (pair_clauses es r) s.count)) None) (extended s)

abbrev pair_found : q.State → List Literal → Literal → Option Application → Option Application → Option q.State
pair_found s es r o p = found (found o (λ x. found p (paired s es r x))) (extended s)

pub pair_first : {A : Type 0} (v : A → q.State) (s : q.State) (es : List Literal) (m : Literal) (o p : Option Application) (e : Fault) (r : Result A Fault) → IsErrAnd r (λ y. y ≡ e)
    → Does (λ (x : Bor Application). x.now) o (Err e) → Does v (pair_found s es m o p) r
pair_first v s es m o p e r err d =
    does_as v _ (pair_found s es m o p) r (found_twice o (λ x. found p (paired s es m x)) (extended s))
    (does_err (λ (x : Bor Application). x.now) v o (λ x. found (found p (paired s es m x)) (extended s)) e r err d)

pub pair_second : {A : Type 0} (v : A → q.State) (s : q.State) (es : List Literal) (m : Literal) (o p : Option Application) (x : Bor Application) (e : Fault) (r : Result A Fault) → IsErrAnd r (λ y. y ≡ e)
    → Does (λ (x : Bor Application). x.now) o (Ok x) → Does (λ (x : Bor Application). x.now) p (Err e) → Does v (pair_found s es m o p) r
pair_second v s es m o p x e r err d k =
    does_as v _ (pair_found s es m o p) r (ap (λ z. pair_found s es m z p) (d.ok x refl) ∙ found_twice p (paired s es m x.now) (extended s))
    (does_err (λ (x : Bor Application). x.now) v p (λ y. found (paired s es m x.now y) (extended s)) e r err k)

pair_is : (s : q.State) (es : List Literal) (m : Literal) (o p : Option Application) (x y : Bor Application) → Does (λ (x : Bor Application). x.now) o (Ok x) → Does (λ (x : Bor Application). x.now) p (Ok y)
    → pair_found s es m o p ≡ pair_work s es m x.now y.now (nat_eq x.now.function y.now.function && nat_eq (length x.now.terms) (length y.now.terms))
pair_is s es m o p x y d k = λ i. pair_found s es m (d.ok x refl i) (k.ok y refl i)

pub pair_differs : {A : Type 0} (v : A → q.State) (s : q.State) (es : List Literal) (m : Literal) (o p : Option Application) (x y : Bor Application) → Does (λ (x : Bor Application). x.now) o (Ok x)
    → Does (λ (x : Bor Application). x.now) p (Ok y) → x.now.function ≢ y.now.function → Does v (pair_found s es m o p) (Err Refused)
pair_differs v s es m o p x y d k n =
    does_none v (pair_found s es m o p) (pair_is s es m o p x y d k ∙ ap (λ b. pair_work s es m x.now y.now (b && nat_eq (length x.now.terms) (length y.now.terms))) (equal_not x.now.function y.now.function n))

pair_by_length : (s : q.State) (es : List Literal) (m : Literal) (o p : Option Application) (x y : Bor Application) → Does (λ (x : Bor Application). x.now) o (Ok x)
    → Does (λ (x : Bor Application). x.now) p (Ok y) → x.now.function ≡ y.now.function → pair_found s es m o p ≡ pair_work s es m x.now y.now (nat_eq (length x.now.terms) (length y.now.terms))
pair_by_length s es m o p x y d k same =
    pair_is s es m o p x y d k ∙ ap (λ b. pair_work s es m x.now y.now (b && nat_eq (length x.now.terms) (length y.now.terms))) (equal_yes x.now.function y.now.function same)

pub pair_uneven : {A : Type 0} (v : A → q.State) (s : q.State) (es : List Literal) (m : Literal) (o p : Option Application) (x y : Bor Application) → Does (λ (x : Bor Application). x.now) o (Ok x)
    → Does (λ (x : Bor Application). x.now) p (Ok y) → x.now.function ≡ y.now.function → length x.now.terms ≢ length y.now.terms → Does v (pair_found s es m o p) (Err Refused)
pair_uneven v s es m o p x y d k same n =
    does_none v (pair_found s es m o p) (pair_by_length s es m o p x y d k same ∙ ap (pair_work s es m x.now y.now) (equal_not (length x.now.terms) (length y.now.terms) n))

pub pair_goes : {A : Type 0} (v : A → q.State) (s : q.State) (es : List Literal) (m : Literal) (o p : Option Application) (x y : Bor Application) (r : Result A Fault) → Does (λ (x : Bor Application). x.now) o (Ok x)
    → Does (λ (x : Bor Application). x.now) p (Ok y) → x.now.function ≡ y.now.function → length x.now.terms ≡ length y.now.terms
    → Does v (extended s (adding (pair_meant x.now y.now) (m ∷ es) (pair_clauses es m) s.count)) r → Does v (pair_found s es m o p) r
pair_goes v s es m o p x y r d k same long h =
    does_as v _ (pair_found s es m o p) r (pair_by_length s es m o p x y d k same ∙ ap (pair_work s es m x.now y.now) (equal_yes (length x.now.terms) (length y.now.terms) long)) h

pub pair_stood : (s t : State) (es : List Literal) (m : Literal) (o p : Option Application) (x y : Bor Application) (cs : List (Option (List Literal))) (D : List Definition) → Does (λ (x : Bor Application). x.now) o (Ok x)
    → Does (λ (x : Bor Application). x.now) p (Ok y) → x.now.function ≡ y.now.function → length x.now.terms ≡ length y.now.terms
    → Does (λ (u : Unit {0}). definitions_of D) (stand_all (definitions_of s.definitions) (pair_meant x.now y.now) (m ∷ es)) (Ok tt) → t.definitions ≡ D → t.clauses ≡ s.clauses ++ cs → cs ≡ map Some (pair_clauses es m)
    → t.applications ≡ s.applications → t.count ≡ s.count → Does (λ (u : Unit {0}). state_of t) (pair_found (state_of s) es m o p) (Ok tt)
pair_stood s t es m o p x y cs D d k same long st ds c is a n =
    pair_goes (λ (u : Unit {0}). state_of t) (state_of s) es m o p x y (Ok tt) d k same long (adds_stood s t (pair_meant x.now y.now) (m ∷ es) (pair_clauses es m) cs s.count D st ds c is a n)

pub pair_not : (s t : State) (es : List Literal) (m : Literal) (o p : Option Application) (x y : Bor Application) (D : List Definition) (e : Fault) (r : Result (Unit {0}) Fault) → Does (λ (x : Bor Application). x.now) o (Ok x)
    → Does (λ (x : Bor Application). x.now) p (Ok y) → x.now.function ≡ y.now.function → length x.now.terms ≡ length y.now.terms → IsErrAnd r (λ x. x ≡ e)
    → Does (λ (u : Unit {0}). definitions_of D) (stand_all (definitions_of s.definitions) (pair_meant x.now y.now) (m ∷ es)) (Err e) → Does (λ (u : Unit {0}). state_of t) (pair_found (state_of s) es m o p) r
pair_not s t es m o p x y D e r d k same long err st =
    pair_goes (λ (u : Unit {0}). state_of t) (state_of s) es m o p x y r d k same long (adds_not s t (pair_meant x.now y.now) (m ∷ es) (pair_clauses es m) s.count D e r err st)

pub ruleset pairs = (pair_first, pair_second, pair_differs, pair_uneven, pair_stood, pair_not, does_cut, does_on)

-- ---- two variables of one predicate
abbrev predicates_found : q.State → ℕ → ℕ → List Literal → Option q.Definition → Option q.Definition → Option q.State
predicates_found s i j es o p = found (found o (λ c. found p (predicates_paired s i j es c))) (extended s)

abbrev predicate_clauses : ℕ → ℕ → List Literal → List (List Literal)
predicate_clauses i j es = (negative i ∷ positive j ∷ map opposite es) ∷ []

abbrev predicates_work : q.State → ℕ → ℕ → List Literal → List Linear → List Linear → Bool → Option q.State
predicates_work s i j es ss ts b = found (cond b (Some (adding (equations ss ts) es (predicate_clauses i j es) s.count)) None) (extended s)

abbrev Atom : Type 0
Atom = ℕ × List Linear

abbrev atoms_work : q.State → ℕ → ℕ → List Literal → Atom → Atom → Option q.State
atoms_work s i j es x y = predicates_work s i j es x.1 y.1 (nat_eq x.0 y.0 && nat_eq (length x.1) (length y.1))

predicates_is : (s : q.State) (i j : ℕ) (es : List Literal) (o p : Option q.Definition)
    → predicates_found s i j es o p ≡ found (found o predicate_of) (λ x. found (found p predicate_of) (atoms_work s i j es x))
predicates_is s i j es None p = refl
predicates_is s i j es (Some q.always) p = by_second p
  where
    by_second : (p : Option q.Definition) → predicates_found s i j es (Some q.always) p ≡ None
    by_second None = refl
    by_second (Some d) = refl
predicates_is s i j es (Some (q.at_least_zero t)) p = by_second p
  where
    by_second : (p : Option q.Definition) → predicates_found s i j es (Some (q.at_least_zero t)) p ≡ None
    by_second None = refl
    by_second (Some d) = refl
predicates_is s i j es (Some (q.is_zero t)) p = by_second p
  where
    by_second : (p : Option q.Definition) → predicates_found s i j es (Some (q.is_zero t)) p ≡ None
    by_second None = refl
    by_second (Some d) = refl
predicates_is s i j es (Some (q.closure f ts)) p = by_second p
  where
    by_second : (p : Option q.Definition) → predicates_found s i j es (Some (q.closure f ts)) p ≡ None
    by_second None = refl
    by_second (Some d) = refl
predicates_is s i j es (Some (q.predicate n ss)) None = refl
predicates_is s i j es (Some (q.predicate n ss)) (Some q.always) = refl
predicates_is s i j es (Some (q.predicate n ss)) (Some (q.at_least_zero t)) = refl
predicates_is s i j es (Some (q.predicate n ss)) (Some (q.is_zero t)) = refl
predicates_is s i j es (Some (q.predicate n ss)) (Some (q.closure f ts)) = refl
predicates_is s i j es (Some (q.predicate n ss)) (Some (q.predicate k ts)) = refl

pub predicates_first : {A : Type 0} (v : A → q.State) (s : q.State) (i j : ℕ) (es : List Literal) (o p : Option q.Definition) (e : Fault) (r : Result A Fault) → IsErrAnd r (λ y. y ≡ e)
    → Does (λ (x : Atom). x) (found o predicate_of) (Err e) → Does v (predicates_found s i j es o p) r
predicates_first v s i j es o p e r err d =
    does_as v _ (predicates_found s i j es o p) r (predicates_is s i j es o p) (does_err (λ (x : Atom). x) v (found o predicate_of) (λ x. found (found p predicate_of) (atoms_work s i j es x)) e r err d)

pub predicates_second : {A : Type 0} (v : A → q.State) (s : q.State) (i j : ℕ) (es : List Literal) (o p : Option q.Definition) (x : Atom) (e : Fault) (r : Result A Fault) → IsErrAnd r (λ y. y ≡ e)
    → Does (λ (x : Atom). x) (found o predicate_of) (Ok x) → Does (λ (x : Atom). x) (found p predicate_of) (Err e) → Does v (predicates_found s i j es o p) r
predicates_second v s i j es o p x e r err d k =
    does_as v _ (predicates_found s i j es o p) r (predicates_is s i j es o p)
    (does_then (λ (x : Atom). x) v (found o predicate_of) (λ x. found (found p predicate_of) (atoms_work s i j es x)) x r d
    (does_err (λ (x : Atom). x) v (found p predicate_of) (atoms_work s i j es x) e r err k))

both_is : (s : q.State) (i j : ℕ) (es : List Literal) (o p : Option q.Definition) (x y : Atom) → Does (λ (x : Atom). x) (found o predicate_of) (Ok x) → Does (λ (x : Atom). x) (found p predicate_of) (Ok y)
    → predicates_found s i j es o p ≡ atoms_work s i j es x y
both_is s i j es o p x y d k =
    predicates_is s i j es o p ∙ (λ z. found (d.ok x refl z) (λ x. found (k.ok y refl z) (atoms_work s i j es x)))

pub predicates_differ : {A : Type 0} (v : A → q.State) (s : q.State) (i j : ℕ) (es : List Literal) (o p : Option q.Definition) (x y : Atom) → Does (λ (x : Atom). x) (found o predicate_of) (Ok x)
    → Does (λ (x : Atom). x) (found p predicate_of) (Ok y) → x.0 ≢ y.0 → Does v (predicates_found s i j es o p) (Err Refused)
predicates_differ v s i j es o p x y d k n =
    does_none v (predicates_found s i j es o p) (both_is s i j es o p x y d k ∙ ap (λ b. predicates_work s i j es x.1 y.1 (b && nat_eq (length x.1) (length y.1))) (equal_not x.0 y.0 n))

pub predicates_uneven : {A : Type 0} (v : A → q.State) (s : q.State) (i j : ℕ) (es : List Literal) (o p : Option q.Definition) (x y : Atom) → Does (λ (x : Atom). x) (found o predicate_of) (Ok x)
    → Does (λ (x : Atom). x) (found p predicate_of) (Ok y) → x.0 ≡ y.0 → length x.1 ≢ length y.1 → Does v (predicates_found s i j es o p) (Err Refused)
predicates_uneven v s i j es o p x y d k same n =
    does_none v (predicates_found s i j es o p)
    (both_is s i j es o p x y d k ∙ (λ z. predicates_work s i j es x.1 y.1 (equal_yes x.0 y.0 same z && equal_not (length x.1) (length y.1) n z)))

pub predicates_go : {A : Type 0} (v : A → q.State) (s : q.State) (i j : ℕ) (es : List Literal) (o p : Option q.Definition) (x y : Atom) (r : Result A Fault) → Does (λ (x : Atom). x) (found o predicate_of) (Ok x)
    → Does (λ (x : Atom). x) (found p predicate_of) (Ok y) → x.0 ≡ y.0 → length x.1 ≡ length y.1 → Does v (extended s (adding (equations x.1 y.1) es (predicate_clauses i j es) s.count)) r
    → Does v (predicates_found s i j es o p) r
predicates_go v s i j es o p x y r d k same long h =
    does_as v _ (predicates_found s i j es o p) r
    (both_is s i j es o p x y d k ∙ (λ z. predicates_work s i j es x.1 y.1 (equal_yes x.0 y.0 same z && equal_yes (length x.1) (length y.1) long z))) h

pub ruleset predicate_pairs = (predicates_first, predicates_second, predicates_differ, predicates_uneven, predicates_go)
