-- Sums of facts, one more each time, and clauses that are added.
use Rattle.std.proofs.Common.{◌≡◌, ℕ, pos, Bool, true, false, ◌&&◌, ◌<◌, ◌≤◌, ◌+◌, List, [], ◌∷◌, ◌++◌, map, drop, length, get_or, cond, Option, Some, None, Result, Ok, Err, IsErrAnd, refl, sym, ap, ◌∙◌}
use Rattle.std.proofs.lemmas.List.{append-nil}
use Rattle.linear_term.specs.Linear.{number}
use Rattle.base_budget.proofs.Charging.{drop-item, drop_all}
use Rattle.clause_proof.specs.declared.line.Factor.{Factor}
use Rattle.clause_proof.specs.declared.line.Literal.{Literal}
use Rattle.clause_proof.specs.Clauses as q
use Rattle.clause_proof.specs.Atoms as atoms
use Rattle.clause_proof.specs.Lines.{Fact, found, fact_at, with_fact, sum_of, is_absurd, literal_of_fact, summed, extended, clauses_of, are_known, clashes, resolved}
use Rattle.clause_checker.specs.declared.fault.Fault.{Fault}
use Rattle.clause_checker.specs.declared.fault.Fault.TheVariants.{Refused}
use Rattle.clause_checker.specs.declared.state.State.{State}
use Rattle.clause_checker.specs.Answers.{Does}
use Rattle.clause_marks.specs.declared.marks.Marks.{Marks}
use Rattle.clause_checker.specs.Marking.{IsMarking}
use Rattle.clause_checker.specs.Views.{definitions_of, state_of}
use Rattle.clause_checker.proofs.Stands.{length_of}
use Rattle.clause_checker.proofs.Doing.{does_some, does_none, does_cut, does_on, does_then, does_err, does_as}

-- what is left of a sum is all of it
pub record SumLeft (ds : List q.Definition) (xs : List Factor) (u : Fact) (all : Option Fact) : Type 0 where
  pub is : all ≡ sum_of ds xs u

pub sum_begins : (ds : List q.Definition) (xs : List Factor) (u : Fact) → SumLeft ds xs u (sum_of ds xs u)
sum_begins ds xs u = record { is = refl }

next_is : (ds : List q.Definition) (xs : List Factor) (i : ℕ) (x : Factor) (u : Fact) (all : Option Fact) → i < length xs → x ≡ get_or xs i x → SumLeft ds (drop i xs) u all
    → all ≡ found (found (fact_at ds x.literal) (with_fact x.by u)) (sum_of ds (drop (i + 1) xs))
next_is ds xs i x u all lt is h = h.is ∙ ap (λ l. sum_of ds l u) (drop-item xs i x lt is)

pub sum_goes : (ds : List q.Definition) (xs : List Factor) (i : ℕ) (x : Factor) (u v : Fact) (all : Option Fact) → i < length xs → x ≡ get_or xs i x → SumLeft ds (drop i xs) u all
    → Does (λ (y : Fact). y) (found (fact_at ds x.literal) (with_fact x.by u)) (Ok v) → SumLeft ds (drop (i + 1) xs) v all
sum_goes ds xs i x u v all lt is h d = record { is = next_is ds xs i x u all lt is h ∙ ap (λ o. found o (sum_of ds (drop (i + 1) xs))) (d.ok v refl) }

pub sum_stops : (ds : List q.Definition) (xs : List Factor) (i : ℕ) (x : Factor) (u : Fact) (all : Option Fact) (e : Fault) (r : Result Fact Fault) → i < length xs → x ≡ get_or xs i x
    → SumLeft ds (drop i xs) u all → IsErrAnd r (λ y. y ≡ e) → Does (λ (y : Fact). y) (found (fact_at ds x.literal) (with_fact x.by u)) (Err e) → Does (λ (y : Fact). y) all r
sum_stops ds xs i x u all e r lt is h err d =
    does_as (λ (y : Fact). y) (found (found (fact_at ds x.literal) (with_fact x.by u)) (sum_of ds (drop (i + 1) xs))) all r (next_is ds xs i x u all lt is h)
    (does_err (λ (y : Fact). y) (λ (y : Fact). y) (found (fact_at ds x.literal) (with_fact x.by u)) (sum_of ds (drop (i + 1) xs)) e r err d)

pub sum_ends : (ds : List q.Definition) (xs : List Factor) (i : ℕ) (u : Fact) (all : Option Fact) → length xs ≤ i → SumLeft ds (drop i xs) u all → Does (λ (y : Fact). y) all (Ok u)
sum_ends ds xs i u all le h = does_some (λ (y : Fact). y) all u (h.is ∙ ap (λ l. sum_of ds l u) (drop_all xs i le))

pub ruleset sums = (sum_begins, sum_goes, sum_stops, sum_ends)

-- ---- one more clause
pub clause_added : (s t : State) (c : List Literal) → t.definitions ≡ s.definitions → t.clauses ≡ s.clauses ++ Some c ∷ [] → t.applications ≡ s.applications → t.count ≡ s.count
    → Does (λ (u : Unit {0}). state_of t) (extended (state_of s) (clauses_of (state_of s) (c ∷ []))) (Ok tt)
clause_added s t c d cs a n =
    let none = append-nil s.applications ∙ sym a in
    let same = sym (ap definitions_of d) in
    does_some (λ (u : Unit {0}). state_of t) (extended (state_of s) (clauses_of (state_of s) (c ∷ []))) tt
    (ap Some (λ i. record { definitions = same i; clauses = sym cs i; applications = none i; count = sym n i }))

-- ---- sums
sum_is : (s : q.State) (xs : List Factor) → found (summed s xs) (extended s)
    ≡ found (sum_of s.definitions xs (number (pos 0), true)) (λ u. found (cond (is_absurd (literal_of_fact u)) (Some (clauses_of s (map (λ x. x.literal) xs ∷ []))) None) (extended s))
sum_is s xs = twice (sum_of s.definitions xs (number (pos 0), true))
  where
    twice : (o : Option Fact) → found (found o (λ u. cond (is_absurd (literal_of_fact u)) (Some (clauses_of s (map (λ x. x.literal) xs ∷ []))) None)) (extended s)
        ≡ found o (λ u. found (cond (is_absurd (literal_of_fact u)) (Some (clauses_of s (map (λ x. x.literal) xs ∷ []))) None) (extended s))
    twice None = refl
    twice (Some u) = refl

sum_at : (s : q.State) (xs : List Factor) (u : Fact) (x : atoms.Signed) (b : Bool) → Does (λ (y : Fact). y) (sum_of s.definitions xs (number (pos 0), true)) (Ok u) → x ≡ literal_of_fact u → b ≡ is_absurd x
    → found (summed s xs) (extended s) ≡ found (cond b (Some (clauses_of s (map (λ x. x.literal) xs ∷ []))) None) (extended s)
sum_at s xs u x b d is test =
    sum_is s xs ∙ ap (λ o. found o (λ v. found (cond (is_absurd (literal_of_fact v)) (Some (clauses_of s (map (λ x. x.literal) xs ∷ []))) None) (extended s))) (d.ok u refl)
    ∙ ap (λ c. found (cond c (Some (clauses_of s (map (λ x. x.literal) xs ∷ []))) None) (extended s)) (ap is_absurd (sym is) ∙ sym test)

pub sum_yes : {A : Type 0} (v : A → q.State) (s : q.State) (xs : List Factor) (u : Fact) (x : atoms.Signed) (b : Bool) (c : List Literal) (r : Result A Fault) → Does (λ (y : Fact). y) (sum_of s.definitions xs (number (pos 0), true)) (Ok u)
    → x ≡ literal_of_fact u → b ≡ is_absurd x → b ≡ true → c ≡ map (λ x. x.literal) xs → Does v (extended s (clauses_of s (c ∷ []))) r → Does v (found (summed s xs) (extended s)) r
sum_yes v s xs u x b c r d is test yes_is same h =
    does_as v (extended s (clauses_of s (c ∷ []))) (found (summed s xs) (extended s)) r
    (sum_at s xs u x b d is test ∙ ap (λ t. found (cond t (Some (clauses_of s (map (λ x. x.literal) xs ∷ []))) None) (extended s)) yes_is ∙ ap (λ l. extended s (clauses_of s (l ∷ []))) (sym same)) h

pub sum_no : {A : Type 0} (v : A → q.State) (s : q.State) (xs : List Factor) (u : Fact) (x : atoms.Signed) (b : Bool) → Does (λ (y : Fact). y) (sum_of s.definitions xs (number (pos 0), true)) (Ok u)
    → x ≡ literal_of_fact u → b ≡ is_absurd x → b ≡ false → Does v (found (summed s xs) (extended s)) (Err Refused)
sum_no v s xs u x b d is test no_is =
    does_none v (found (summed s xs) (extended s)) (sum_at s xs u x b d is test ∙ ap (λ t. found (cond t (Some (clauses_of s (map (λ x. x.literal) xs ∷ []))) None) (extended s)) no_is)

pub sum_fails : {A : Type 0} (v : A → q.State) (s : q.State) (xs : List Factor) (e : Fault) (r : Result A Fault) → IsErrAnd r (λ y. y ≡ e) → Does (λ (y : Fact). y) (sum_of s.definitions xs (number (pos 0), true)) (Err e)
    → Does v (found (summed s xs) (extended s)) r
sum_fails v s xs e r err d =
    does_as v _ (found (summed s xs) (extended s)) r (sum_is s xs)
    (does_err (λ (y : Fact). y) v (sum_of s.definitions xs (number (pos 0), true)) (λ u. found (cond (is_absurd (literal_of_fact u)) (Some (clauses_of s (map (λ x. x.literal) xs ∷ []))) None) (extended s)) e r err d)

pub ruleset summing = (sum_yes, sum_no, sum_fails, does_cut, does_on)

-- ---- resolved clauses
abbrev resolved_by : q.State → List Literal → Bool → Option q.State
resolved_by s c b = found (cond b (Some (clauses_of s (c ∷ []))) None) (extended s)

abbrev resolved_after : q.State → List Literal → List ℕ → Option q.State
resolved_after s c hs = found (resolved s c hs) (extended s)

known_is : (s : State) (c : List Literal) (n : ℕ) (k : Bool) → n ≡ length s.definitions → k ≡ are_known n c → k ≡ are_known (length (definitions_of s.definitions)) c
known_is s c n k len is = is ∙ ap (λ j. are_known j c) (len ∙ sym (length_of s.definitions))

pub resolved_unknown : {A : Type 0} (v : A → q.State) (s : State) (c : List Literal) (hs : List ℕ) (n : ℕ) (k : Bool) → n ≡ length s.definitions → k ≡ are_known n c → k ≡ false
    → Does v (resolved_after (state_of s) c hs) (Err Refused)
resolved_unknown v s c hs n k len is no_is =
    does_none v (resolved_after (state_of s) c hs) (ap (λ t. resolved_by (state_of s) c (t && clashes s.clauses hs c)) (sym (known_is s c n k len is) ∙ no_is))

resolved_is : (s : State) (c : List Literal) (hs : List ℕ) (n : ℕ) (k b : Bool) → n ≡ length s.definitions → k ≡ are_known n c → k ≡ true → b ≡ clashes s.clauses hs c
    → resolved_after (state_of s) c hs ≡ resolved_by (state_of s) c b
resolved_is s c hs n k b len is yes_is clash =
    ap (λ t. resolved_by (state_of s) c (t && clashes s.clauses hs c)) (sym (known_is s c n k len is) ∙ yes_is) ∙ ap (resolved_by (state_of s) c) (sym clash)

pub resolved_yes : {A : Type 0} (v : A → q.State) (s : State) (c d : List Literal) (hs : List ℕ) (n : ℕ) (k b : Bool) (m : Marks) (r : Result A Fault) → n ≡ length s.definitions → k ≡ are_known n c → k ≡ true
    → ((ff : List Literal) → IsMarking m ff → b ≡ clashes s.clauses hs ff) → IsMarking m c → b ≡ true → d ≡ c → Does v (extended (state_of s) (clauses_of (state_of s) (d ∷ []))) r → Does v (resolved_after (state_of s) c hs) r
resolved_yes v s c d hs n k b m r len is known clash mk yes_is same h =
    does_as v (extended (state_of s) (clauses_of (state_of s) (d ∷ []))) (resolved_after (state_of s) c hs) r
    (resolved_is s c hs n k b len is known (clash c mk) ∙ ap (resolved_by (state_of s) c) yes_is ∙ ap (λ l. extended (state_of s) (clauses_of (state_of s) (l ∷ []))) (sym same)) h

pub resolved_no : {A : Type 0} (v : A → q.State) (s : State) (c : List Literal) (hs : List ℕ) (n : ℕ) (k b : Bool) (m : Marks) → n ≡ length s.definitions → k ≡ are_known n c → k ≡ true
    → ((ff : List Literal) → IsMarking m ff → b ≡ clashes s.clauses hs ff) → IsMarking m c → b ≡ false → Does v (resolved_after (state_of s) c hs) (Err Refused)
resolved_no v s c hs n k b m len is known clash mk no_is =
    does_none v (resolved_after (state_of s) c hs) (resolved_is s c hs n k b len is known (clash c mk) ∙ ap (resolved_by (state_of s) c) no_is)

pub ruleset clauses_only = (resolved_unknown, resolved_yes, resolved_no)
