-- A rule that is paid for stands at a position below its budget.
use Rattle.std.proofs.Common.{◌≡◌, ◌<◌, ◌≤◌, ◌+◌, ◌*◌, ◌^◌, ◌-◌, ℕ, ℤ, pos, negsuc, ◌<ℤ◌, unsigned_abs, Bool, true, false, cond, nat_le, List, ◌∷◌, length, Some, Ok, refl, subst, arith}
use Rattle.std.specs.Prelude.{slice_get, remove}
use Rattle.std.proofs.lemmas.Int.{ints}
use Rattle.std.proofs.lemmas.List.Elements.{recursion_from_All}
use Rattle.std.proofs.lemmas.Bool.{leb-true}
use Rattle.std.proofs.lemmas.Option.{slice_get_within}
use Rattle.base_budget.specs.declared.log.Entry.TheVariants.{Equation, Apart, Merge, Shift}
use Rattle.base_budget.specs.Trace.{Funds, At, after_charge, done, refused, capped, cut, Event, charge, Traced, next, step, pay}
use Rattle.base_budget.specs.Work.{ChargedAt, Charged}
use Rattle.clause_set.specs.declared.literal.Literal.{Literal}
use Rattle.clause_set.specs.declared.literal.Literal.TheVariants.{Eq, Div, NDiv}
use Rattle.clause_set.specs.Clause.{IsClause}
use Rattle.clause_set.specs.Primitive.{IsPrimitive, IsReducedModulo}
use Rattle.clause_set.specs.Divisibilities.{apart, apart_at, merge, merge_at, shift, shift_at}
use Rattle.clause_set.proofs.Owned.{clause-primitive}
use Rattle.elim_rule_laws.proofs.EquationLists.{kept-got}
use Rattle.clause_set.specs.Names.{names_of, area}
use Rattle.clause_set.specs.Equations.{equation, equation_at}
use Rattle.clause_set.specs.Rules.{rule, applies}
use Rattle.elim_rule_laws.proofs.Applying.{equation_applies, apart_applies, merge_applies, shift_applies}

cut_charge : (n : ℕ) (es : List Event) (a b : At) → cut (charge n ∷ es) a ≡ done b → a.funds.spent + capped n ≤ a.funds.budget
unfolding cut
cut_charge n es a b h = by (nat_le (a.funds.spent + capped n) a.funds.budget) refl h
  where
    by : (t : Bool) → nat_le (a.funds.spent + capped n) a.funds.budget ≡ t → cond t (cut es (after_charge n a)) (refused a) ≡ done b → a.funds.spent + capped n ≤ a.funds.budget
    by true e k = leb-true _ _ e
    by false e k = absurd (cc)

-- what begins with a charge is within the budget where it passes
pub paid_first : {A : Type 0} (n : ℕ) (f : Unit {0} → Traced A) {a b : At} {v : A} → ChargedAt (next (pay n) f) a (Ok v) b → a.funds.spent + capped n ≤ a.funds.budget
unfolding next step
paid_first n f {a} {b} {v} h = cut_charge n (f tt).events a b (h.ok v refl).1.end

more_times : (n k : ℕ) → n ≤ n * (1 + k)
more_times n k = grind (arith)

-- a rule that is charged for the area of the clause stands at a place below the budget
area_paid : {A : Type 0} (i : ℕ) (c : List Literal) (g : Unit {0} → Traced A) {f h : Funds} {v : A} → i < length c → f.budget < 2 ^ 32 → Charged (next (pay (1 + area (length c) c)) g) f (Ok v) h → i < 2 ^ 32
area_paid i c g within small k =
    let p = paid_first (1 + area (length c) c) g k in
    let more = more_times (length c) (length (names_of c)) in
    omega (arith, p, within, more, small)

pub equation_paid : (x i : ℕ) (c : List Literal) {f g : Funds} {v : List (List Literal)} → applies x c (Equation i) ≡ true → f.budget < 2 ^ 32 → Charged (rule x c (Equation i)) f (Ok v) g → i < 2 ^ 32
unfolding rule equation
equation_paid x i c {f} {g} {v} a small h =
    let e = equation_applies x i c a in
    let k : Charged (equation_at x i c (Some (Eq e.term))) f (Ok v) g = subst (λ o. Charged (equation_at x i c o) f (Ok v) g) e.stands h in
    area_paid i c _ (slice_get_within c i _ e.stands) small k

pub merge_paid : (x i j : ℕ) (c : List Literal) {f g : Funds} {v : List (List Literal)} → applies x c (Merge i j) ≡ true → f.budget < 2 ^ 32 → Charged (rule x c (Merge i j)) f (Ok v) g → (i < 2 ^ 32) × (j < 2 ^ 32)
unfolding rule merge
merge_paid x i j c {f} {g} {v} a small h =
    let e = merge_applies x i j c a in
    let k : Charged (merge_at x c (remove (remove c j) i) (Some (Div e.first.divisor e.first.term)) (slice_get c j)) f (Ok v) g =
    subst (λ o. Charged (merge_at x c (remove (remove c j) i) o (slice_get c j)) f (Ok v) g) e.first.stands h in
    let l : Charged (merge_at x c (remove (remove c j) i) (Some (Div e.first.divisor e.first.term)) (Some (Div e.second.divisor e.second.term))) f (Ok v) g =
    subst (λ o. Charged (merge_at x c (remove (remove c j) i) (Some (Div e.first.divisor e.first.term)) o) f (Ok v) g) e.second.stands k in
    (area_paid i c _ (slice_get_within c i _ e.first.stands) small l, area_paid j c _ (slice_get_within c j _ e.second.stands) small l)

pub shift_paid : (x i : ℕ) (c : List Literal) {f g : Funds} {v : List (List Literal)} → applies x c (Shift i) ≡ true → f.budget < 2 ^ 32 → Charged (rule x c (Shift i)) f (Ok v) g → i < 2 ^ 32
unfolding rule shift
shift_paid x i c {f} {g} {v} a small h =
    let e = (shift_applies x i c a).literal in
    let k : Charged (shift_at x c (remove c i) (Some (Div e.divisor e.term))) f (Ok v) g = subst (λ o. Charged (shift_at x c (remove c i) o) f (Ok v) g) e.stands h in
    area_paid i c _ (slice_get_within c i _ e.stands) small k

two_apart : (d : ℤ) → pos 1 <ℤ d → 1 ≤ unsigned_abs d - 1
two_apart (pos n) h = omega (arith, ints)
two_apart (negsuc n) h = absurd (omega (arith, ints))

times_more : (m n k : ℕ) → 1 ≤ m → n ≤ m * (n * (1 + k))
times_more m n k h = grind (arith)

-- in a clause a negated divisibility has a divisor above 1
pub apart_paid : (x i : ℕ) (c : List Literal) {f g : Funds} {v : List (List Literal)} → IsClause c → applies x c (Apart i) ≡ true → f.budget < 2 ^ 32 → Charged (rule x c (Apart i)) f (Ok v) g → i < 2 ^ 32
unfolding rule apart
apart_paid x i c {f} {g} {v} proper a small h =
    let e = apart_applies x i c a in
    let k : Charged (apart_at i c (Some (NDiv e.divisor e.term))) f (Ok v) g = subst (λ o. Charged (apart_at i c o) f (Ok v) g) e.stands h in
    let reduced : IsReducedModulo e.divisor e.term = kept-got IsPrimitive c i (NDiv e.divisor e.term) e.stands (recursion_from_All IsPrimitive c (clause-primitive c proper)) in
    let p = paid_first (1 + (unsigned_abs e.divisor - 1) * area (length c) c) _ k in
    let within = slice_get_within c i _ e.stands in
    let more = times_more (unsigned_abs e.divisor - 1) (length c) (length (names_of c)) (two_apart e.divisor reduced.divisor) in
    omega (arith, p, within, more, small)
