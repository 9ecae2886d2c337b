-- What literals stand for, one more each time.
use Rattle.std.proofs.Common.{◌≡◌, ◌≢◌, ℕ, zero, suc, ◌+◌, ◌<◌, ◌≤◌, Bool, true, false, List, [], ◌∷◌, ◌++◌, length, drop, nat_eq, cond, Option, Some, None, Result, Ok, Err, IsErrAnd, refl, sym, ap, ◌∙◌, subst, arith}
use Rattle.std.specs.Borrow.{Bor}
use Rattle.std.specs.List.{slice_get}
use Rattle.std.specs.Option.{option_copied, option_map}
use Rattle.std.proofs.lemmas.Option.{slice_get-map}
use Rattle.std.proofs.lemmas.List.{map-append}
use Rattle.std.proofs.lemmas.Bool.Decides.{nat_tests}
use Rattle.linear_term.specs.Linear.{Linear}
use Rattle.formula.specs.Tree.{form, forms_of}
use Rattle.formula.specs.declared.calculus.Core.{Core}
use Rattle.base_budget.proofs.Charging.{drop_all}
use Rattle.clause_proof.specs.declared.line.Literal.{Literal}
use Rattle.clause_proof.specs.Clauses as q
use Rattle.clause_proof.specs.Atoms as atoms
use Rattle.clause_proof.specs.Atoms.{literal_of, same_definition}
use Rattle.clause_proof.specs.Lines.{found, same_sign, known_as, stand, stand_all, members}
use Rattle.clause_checker.specs.declared.fault.Fault.{Fault}
use Rattle.clause_checker.specs.declared.fault.Fault.TheVariants.{Refused}
use Rattle.clause_checker.specs.declared.state.Definition.{Definition}
use Rattle.clause_checker.specs.Answers.{Does}
use Rattle.clause_checker.specs.Views.{definition_of, definitions_of, known_so, member_at}
use Rattle.clause_checker.proofs.Doing.{does_some, does_none, does_cut, does_on, does_then, does_err, does_as}

-- ---- a known variable
pub known_none : (ds : List Definition) (i : ℕ) (o : Option (Bor Definition)) (d : q.Definition) → option_copied o ≡ slice_get ds i → o ≡ None → false ≡ known_so (slice_get (definitions_of ds) i) d
known_none ds i o d is at = sym (ap (λ x. known_so x d) (slice_get-map definition_of ds i ∙ ap (option_map definition_of) (sym is ∙ ap option_copied at)))

pub known_some : (ds : List Definition) (i : ℕ) (o : Option (Bor Definition)) (r : Bor Definition) (d : q.Definition) (b : Bool) → option_copied o ≡ slice_get ds i → o ≡ Some r
    → b ≡ same_definition (definition_of r.now) d → b ≡ known_so (slice_get (definitions_of ds) i) d
known_some ds i o r d b is at h = h ∙ sym (ap (λ x. known_so x d) (slice_get-map definition_of ds i ∙ ap (option_map definition_of) (sym is ∙ ap option_copied at)))

pub ruleset known = (known_none, known_some)

-- ---- one literal
pub length_of : (ds : List Definition) → length (definitions_of ds) ≡ length ds
length_of [] = refl
length_of (d ∷ ds) = ap suc (length_of ds)

equal_yes : (a b : ℕ) → a ≡ b → nat_eq a b ≡ true
equal_yes a b h = grind (arith, nat_tests)

equal_not : (a b : ℕ) → a ≢ b → nat_eq a b ≡ false
equal_not a b h = grind (arith, nat_tests)

same_yes : (a b : Bool) → a ≡ b → same_sign a b ≡ true
same_yes true true h = refl
same_yes true false h = absurd (cc)
same_yes false true h = absurd (cc)
same_yes false false h = refl

same_not : (a b : Bool) → a ≢ b → same_sign a b ≡ false
same_not true true h = absurd (h refl)
same_not true false h = refl
same_not false true h = refl
same_not false false h = absurd (h refl)

as_known : (ds : List q.Definition) (o : Option q.Definition) (d : q.Definition) → known_as ds o d ≡ cond (known_so o d) (Some ds) None
as_known ds None d = refl
as_known ds (Some c) d = refl

pub stand_other : (ds : List Definition) (x : atoms.Signed) (m : Literal) → x.positive ≢ m.positive → stand (definitions_of ds) x m ≡ None
stand_other ds x m h = ap (λ b. cond b (cond (nat_eq m.variable (length (definitions_of ds))) (Some (definitions_of ds ++ x.definition ∷ [])) (known_as (definitions_of ds) (slice_get (definitions_of ds) m.variable) x.definition)) None) (same_not x.positive m.positive h)

pub stand_next : (ds es : List Definition) (d : Definition) (x : atoms.Signed) (m : Literal) → x.positive ≡ m.positive → m.variable ≡ length ds → es ≡ ds ++ d ∷ [] → definition_of d ≡ x.definition
    → stand (definitions_of ds) x m ≡ Some (definitions_of es)
stand_next ds es d x m sign at is one =
    let all = definitions_of ds in
    ap (λ b. cond b (cond (nat_eq m.variable (length all)) (Some (all ++ x.definition ∷ [])) (known_as all (slice_get all m.variable) x.definition)) None) (same_yes x.positive m.positive sign)
    ∙ ap (λ b. cond b (Some (all ++ x.definition ∷ [])) (known_as all (slice_get all m.variable) x.definition)) (equal_yes m.variable (length all) (at ∙ sym (length_of ds)))
    ∙ ap (λ e. Some (all ++ e ∷ [])) (sym one) ∙ ap Some (sym (ap definitions_of is ∙ map-append definition_of ds (d ∷ [])))

pub stand_known : (ds : List Definition) (x : atoms.Signed) (m : Literal) (b : Bool) → x.positive ≡ m.positive → m.variable ≢ length ds → b ≡ known_so (slice_get (definitions_of ds) m.variable) x.definition
    → stand (definitions_of ds) x m ≡ cond b (Some (definitions_of ds)) None
stand_known ds x m b sign at is =
    let all = definitions_of ds in
    ap (λ b. cond b (cond (nat_eq m.variable (length all)) (Some (all ++ x.definition ∷ [])) (known_as all (slice_get all m.variable) x.definition)) None) (same_yes x.positive m.positive sign)
    ∙ ap (λ b. cond b (Some (all ++ x.definition ∷ [])) (known_as all (slice_get all m.variable) x.definition)) (equal_not m.variable (length all) (λ h. at (h ∙ length_of ds)))
    ∙ as_known all (slice_get all m.variable) x.definition ∙ ap (λ c. cond c (Some all) None) (sym is)

pub stood_known : (ds es : List Definition) (x : atoms.Signed) (m : Literal) (b : Bool) → x.positive ≡ m.positive → m.variable ≢ length ds → b ≡ known_so (slice_get (definitions_of ds) m.variable) x.definition
    → b ≡ true → es ≡ ds → stand (definitions_of ds) x m ≡ Some (definitions_of es)
stood_known ds es x m b sign at is yes_is same = stand_known ds x m b sign at is ∙ ap (λ c. cond c (Some (definitions_of ds)) None) yes_is ∙ ap (λ l. Some (definitions_of l)) (sym same)

pub stood_not : (ds : List Definition) (x : atoms.Signed) (m : Literal) (b : Bool) → x.positive ≡ m.positive → m.variable ≢ length ds → b ≡ known_so (slice_get (definitions_of ds) m.variable) x.definition
    → b ≡ false → stand (definitions_of ds) x m ≡ None
stood_not ds x m b sign at is not_is = stand_known ds x m b sign at is ∙ ap (λ c. cond c (Some (definitions_of ds)) None) not_is

pub ruleset standing = (does_some, does_none, does_cut, stand_other, stand_next, stood_known, stood_not)

-- ---- lists of one and two
pub all_one : (ds : List q.Definition) (x : atoms.Signed) (m : Literal) → stand_all ds (x ∷ []) (m ∷ []) ≡ stand ds x m
all_one ds x m = found_same (stand ds x m)
  where
    found_same : (o : Option (List q.Definition)) → found o (λ cs. stand_all cs [] []) ≡ o
    found_same None = refl
    found_same (Some cs) = refl

pub does_one : {A : Type 0} (view : A → List q.Definition) (ds : List q.Definition) (x : atoms.Signed) (m : Literal) (r : Result A Fault) → Does view (stand ds x m) r → Does view (stand_all ds (x ∷ []) (m ∷ [])) r
does_one view ds x m r h = does_as view (stand ds x m) (stand_all ds (x ∷ []) (m ∷ [])) r (all_one ds x m) h

pub ruleset one = (does_one)

pub ruleset two = (does_then, does_err)

pub ruleset single = (does_cut, does_on)

-- ---- lists, one more each time
pub drop_found : {X : Type 0} (xs : List X) (i : ℕ) (x : X) → slice_get xs i ≡ Some x → drop i xs ≡ x ∷ drop (i + 1) xs
drop_found {X = X} xs i x h = subst (λ j. drop i xs ≡ x ∷ drop j xs) one_more (go xs i h)
  where
    one_more : suc i ≡ i + 1
    one_more = omega arith

    go : (xs : List X) (i : ℕ) → slice_get xs i ≡ Some x → drop i xs ≡ x ∷ drop (suc i) xs
    go [] i h = absurd (cc)
    go (y ∷ xs) zero h = let same : y ≡ x = cc in ap (λ z. z ∷ xs) same
    go (y ∷ xs) (suc i) h = go xs i h

pub drop_missing : {X : Type 0} (xs : List X) (i : ℕ) → slice_get xs i ≡ None → drop i xs ≡ []
drop_missing [] zero h = refl
drop_missing [] (suc i) h = refl
drop_missing (y ∷ xs) zero h = absurd (cc)
drop_missing (y ∷ xs) (suc i) h = drop_missing xs i h

-- what is left to stand for gives all
pub record StandLeft (ds : List q.Definition) (xs : List atoms.Signed) (ms : List Literal) (all : Option (List q.Definition)) : Type 0 where
  pub is : all ≡ stand_all ds xs ms

pub stand_begins : (ds es : List q.Definition) (xs : List atoms.Signed) (ms : List Literal) → es ≡ ds → StandLeft es xs ms (stand_all ds xs ms)
stand_begins ds es xs ms h = record { is = ap (λ l. stand_all l xs ms) (sym h) }

pub record Someone {X : Type 0} (xs : List X) (i : ℕ) : Type 0 where
  pub one : X
  pub is : slice_get xs i ≡ Some one

-- ---- an item by its number
pub item_some : {X A B : Type 0} (v : A → B) (xs : List X) (i : ℕ) (o : Option (Bor X)) (x : Bor X) (k : X → Option B) (r : Result A Fault) → option_copied o ≡ slice_get xs i → o ≡ Some x
    → Does v (k x.now) r → Does v (found (slice_get xs i) k) r
item_some v xs i o x k r is at h = does_as v (k x.now) (found (slice_get xs i) k) r (ap (λ y. found y k) (sym is ∙ ap option_copied at)) h

pub item_none : {X A B : Type 0} (v : A → B) (xs : List X) (i : ℕ) (o : Option (Bor X)) (k : X → Option B) → option_copied o ≡ slice_get xs i → o ≡ None → Does v (found (slice_get xs i) k) (Err Refused)
item_none v xs i o k is at = does_none v (found (slice_get xs i) k) (ap (λ y. found y k) (sym is ∙ ap option_copied at))

pub ruleset items = (item_some, item_none)

-- ---- members, by their numbers
pub item_of : {X : Type 0} (xs : List X) (i : ℕ) → i < length xs → Someone xs i
item_of [] i lt = absurd (omega (arith, lt))
item_of (x ∷ xs) zero lt = record { one = x; is = refl }
item_of (x ∷ xs) (suc i) lt = let k = item_of xs i (omega (arith, lt)) in record { one = k.one; is = k.is }

step_is : (ds : List q.Definition) (fs : List Core) (ts : List Linear) (ms : List Literal) (i : ℕ) (all : Option (List q.Definition)) → i < length fs → StandLeft ds (members (forms_of (drop i fs)) ts) (drop i ms) all
    → all ≡ found (member_at fs ts ms i ds) (λ cs. stand_all cs (members (forms_of (drop (i + 1) fs)) ts) (drop (i + 1) ms))
step_is ds fs ts ms i all lt h =
    let k = item_of fs i lt in
    h.is ∙ (λ j. stand_all ds (members (forms_of (drop_found fs i k.one k.is j)) ts) (drop i ms)) ∙ with_literal (slice_get ms i) refl
    ∙ (λ j. found (found (sym k.is j) (λ f. found (slice_get ms i) (stand ds (literal_of (form f) ts)))) (λ cs. stand_all cs (members (forms_of (drop (i + 1) fs)) ts) (drop (i + 1) ms)))
  where
    with_literal : (o : Option Literal) → slice_get ms i ≡ o
        → stand_all ds (literal_of (form (item_of fs i lt).one) ts ∷ members (forms_of (drop (i + 1) fs)) ts) (drop i ms)
        ≡ found (found (slice_get ms i) (stand ds (literal_of (form (item_of fs i lt).one) ts))) (λ cs. stand_all cs (members (forms_of (drop (i + 1) fs)) ts) (drop (i + 1) ms))
    with_literal None at =
        ap (stand_all ds (literal_of (form (item_of fs i lt).one) ts ∷ members (forms_of (drop (i + 1) fs)) ts)) (drop_missing ms i at)
        ∙ ap (λ o. found (found o (stand ds (literal_of (form (item_of fs i lt).one) ts))) (λ cs. stand_all cs (members (forms_of (drop (i + 1) fs)) ts) (drop (i + 1) ms))) (sym at)
    with_literal (Some m) at =
        ap (stand_all ds (literal_of (form (item_of fs i lt).one) ts ∷ members (forms_of (drop (i + 1) fs)) ts)) (drop_found ms i m at)
        ∙ ap (λ o. found (found o (stand ds (literal_of (form (item_of fs i lt).one) ts))) (λ cs. stand_all cs (members (forms_of (drop (i + 1) fs)) ts) (drop (i + 1) ms))) (sym at)

pub member_goes : (ds es : List q.Definition) (fs : List Core) (ts : List Linear) (ms : List Literal) (i : ℕ) (all : Option (List q.Definition)) → i < length fs → StandLeft ds (members (forms_of (drop i fs)) ts) (drop i ms) all
    → Does (λ (u : Unit {0}). es) (member_at fs ts ms i ds) (Ok tt) → StandLeft es (members (forms_of (drop (i + 1) fs)) ts) (drop (i + 1) ms) all
member_goes ds es fs ts ms i all lt h d =
    record { is = step_is ds fs ts ms i all lt h ∙ ap (λ x. found x (λ cs. stand_all cs (members (forms_of (drop (i + 1) fs)) ts) (drop (i + 1) ms))) (d.ok tt refl) }

pub member_stops : {A : Type 0} (v : A → List q.Definition) (ds es : List q.Definition) (fs : List Core) (ts : List Linear) (ms : List Literal) (i : ℕ) (all : Option (List q.Definition)) (e : Fault) (r : Result A Fault)
    → i < length fs → StandLeft ds (members (forms_of (drop i fs)) ts) (drop i ms) all → IsErrAnd r (λ x. x ≡ e)
    → Does (λ (u : Unit {0}). es) (member_at fs ts ms i ds) (Err e) → Does v all r
member_stops v ds es fs ts ms i all e r lt h err d =
    does_as v _ all r (step_is ds fs ts ms i all lt h)
    (does_err (λ (u : Unit {0}). es) v (member_at fs ts ms i ds) (λ cs. stand_all cs (members (forms_of (drop (i + 1) fs)) ts) (drop (i + 1) ms)) e r err d)

pub rest_none : (ds : List q.Definition) (ms : List Literal) (j : ℕ) → j < length ms → stand_all ds [] (drop j ms) ≡ None
rest_none ds [] j lt = absurd (omega (arith, lt))
rest_none ds (m ∷ ms) zero lt = refl
rest_none ds (m ∷ ms) (suc j) lt = rest_none ds ms j (omega (arith, lt))

pub members_end : (ds : List q.Definition) (fs : List Core) (ts : List Linear) (ms : List Literal) (i : ℕ) (all : Option (List q.Definition)) → length fs ≤ i → StandLeft ds (members (forms_of (drop i fs)) ts) (drop i ms) all
    → length ms ≤ length fs → Does (λ (u : Unit {0}). ds) all (Ok tt)
members_end ds fs ts ms i all le h short =
    does_some (λ (u : Unit {0}). ds) all tt (h.is ∙ (λ k. stand_all ds (members (forms_of (drop_all fs i le k)) ts) (drop_all ms i (omega (arith, le, short)) k)))

pub members_short : {A : Type 0} (v : A → List q.Definition) (ds : List q.Definition) (fs : List Core) (ts : List Linear) (ms : List Literal) (i : ℕ) (all : Option (List q.Definition)) → length fs ≤ i → i ≤ length fs → StandLeft ds (members (forms_of (drop i fs)) ts) (drop i ms) all
    → length fs < length ms → Does v all (Err Refused)
members_short v ds fs ts ms i all le most h more =
    does_none v all (h.is ∙ (λ k. stand_all ds (members (forms_of (drop_all fs i le k)) ts) (drop i ms)) ∙ rest_none ds ms i (omega (arith, most, more)))

pub ruleset walking = (stand_begins, member_goes, member_stops, members_end, members_short)
