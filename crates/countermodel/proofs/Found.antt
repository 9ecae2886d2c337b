-- The values that a call finds where a constraint is false: they are in the range, and as many as the names.
use Rattle.std.proofs.Common.{◌≡◌, ◌≤◌, ℕ, ℤ, Bool, true, false, cond, nat_le, ◌+◌, List, [], ◌∷◌, ◌++◌, length, Option, Some, Result, Ok, ◌&&◌, refl, sym, subst}
use Rattle.std.specs.List.{AllByRecursion}
use Rattle.linear_term.specs.Range.{InRange, all_stay}
use Rattle.base_budget.specs.declared.fault.StepFault.{StepFault}
use Rattle.base_budget.specs.Trace.{Event, Funds, at, charge, raw, mark, At, after_charge, after_mark, done, refused, out_of_range, capped, cut, next}
use Rattle.base_budget.specs.Work.{ChargedAt}
use Rattle.clause_set.specs.declared.literal.Literal.{Literal}
use Rattle.clause_set.specs.Dnfs.{conjunction, negation}
use Rattle.solve_laws.specs.Solutions.{IsGiven, solving}
use Rattle.solve_laws.proofs.Solving.{solving-best}
use Rattle.solve_laws.proofs.Parts.{stay_parts}
use Rattle.solve_laws.proofs.Values.{solution_in}
use Rattle.base_budget.specs.Runs.{raw_stay}
use Rattle.countermodel.specs.Doing.{DoesWork}
use Rattle.model_trees.specs.Walk.{denied, point, read}
use Rattle.proof_tree.proofs.Clauses.{given_and, given_not}
use Rattle.model_trees.proofs.Clauses.{given_read}
use Rattle.model_trees.proofs.Points.{point_given}

-- what is solved is over the names
pub denied_given : (n : ℕ) (g : List (List Literal)) (v : List ℤ) → IsGiven n g → length v ≤ n → IsGiven n (conjunction (negation (read g)).value (point v)).value
denied_given n g v given few = given_and n (negation (read g)).value (point v) (given_not n (read g) (given_read n g given)) (point_given n v few)

pub affirmed_given : (n : ℕ) (g : List (List Literal)) (v : List ℤ) → IsGiven n g → length v ≤ n → IsGiven n (conjunction (read g) (point v)).value
affirmed_given n g v given few = given_and n (read g) (point v) (given_read n g given) (point_given n v few)

-- a run that passes has left the range nowhere
cut_stays : (es : List Event) (a b : At) → cut es a ≡ done b → raw_stay es ≡ true
unfolding cut
cut_stays [] a b h = refl
cut_stays (charge n ∷ es) a b h = by (nat_le (a.funds.spent + capped n) a.funds.budget) (cut_stays es (after_charge n a) b) h
  where
    by : (t : Bool) → (cut es (after_charge n a) ≡ done b → raw_stay es ≡ true) → cond t (cut es (after_charge n a)) (refused a) ≡ done b → raw_stay es ≡ true
    by true f k = f k
    by false f k = absurd (cc)
cut_stays (raw ps ∷ es) a b h = by (all_stay ps) (cut_stays es a b) h
  where
    by : (t : Bool) → (cut es a ≡ done b → raw_stay es ≡ true) → cond t (cut es a) (out_of_range ps a) ≡ done b → (t && raw_stay es) ≡ true
    by true f k = f k
    by false f k = absurd (cc)
cut_stays (mark m ∷ es) a b h = cut_stays es (after_mark m a) b h

pub record Fits (n : ℕ) (u : List ℤ) : Type 0 where
  pub range : AllByRecursion InRange u
  pub many : length u ≡ n

pub denied_fits : (n : ℕ) (d : List (List Literal)) (v u : List ℤ) {a b : At} → IsGiven n d → length v ≤ n → ChargedAt (denied n d v) a (Ok (Some u)) b → Fits n u
unfolding next
denied_fits n d v u {a} {b} given few did =
    let wrong : List (List Literal) = (negation (read d)).value in
    let both : List (List Literal) = (conjunction wrong (point v)).value in
    let formed : IsGiven n both = denied_given n d v given few in
    let q = did.ok (Some u) refl in
    let is : (solving n both).value ≡ Some u = sym q.0 in
    let stay = cut_stays (denied n d v).events a b q.1.end in
    let tail = (stay_parts (conjunction wrong (point v)).events (solving n both).events ((stay_parts (negation (read d)).events ((conjunction wrong (point v)).events ++ (solving n both).events) stay).1)).1 in
    record { range = solution_in n both u formed is tail; many = (solving-best n both u formed is).names }

fits : (n : ℕ) (d : List (List Literal)) (v u : List ℤ) {a b : Funds} (r : Result (Option (List ℤ)) StepFault) → IsGiven n d → length v ≤ n → r ≡ Ok (Some u) → DoesWork (denied n d v) a r b → Fits n u
fits n d v u {a} {b} r given few is did = denied_fits n d v u given few (subst (λ (z : Result (Option (List ℤ)) StepFault). ChargedAt (denied n d v) (at a []) z (at b did.notes)) is did.charged)

pub denied_range : (n : ℕ) (d : List (List Literal)) (v u : List ℤ) {a b : Funds} (r : Result (Option (List ℤ)) StepFault) → IsGiven n d → length v ≤ n → r ≡ Ok (Some u) → DoesWork (denied n d v) a r b → AllByRecursion InRange u
denied_range n d v u r given few is did = (fits n d v u r given few is did).range

pub denied_many : (n : ℕ) (d : List (List Literal)) (v u : List ℤ) {a b : Funds} (r : Result (Option (List ℤ)) StepFault) → IsGiven n d → length v ≤ n → r ≡ Ok (Some u) → DoesWork (denied n d v) a r b → length u ≡ n
denied_many n d v u r given few is did = (fits n d v u r given few is did).many
