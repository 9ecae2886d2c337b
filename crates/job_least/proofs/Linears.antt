-- The members of a sum, one after the other.
use Rattle.std.proofs.Common.{◌↔◌, ◌≡◌, ℕ, zero, suc, ◌+◌, ◌<◌, ◌≤◌, ℤ, pos, Bool, true, false, ◌&&◌, List, [], ◌∷◌, length, get_or, drop, Result, Ok, Err, IsErrAnd, refl, sym, ap, ◌∙◌, subst, arith}
use Rattle.linear_term.specs.Linear as linear
use Rattle.linear_term.specs.Linear.{Linear}
use Rattle.base_budget.specs.declared.fault.StepFault.{StepFault}
use Rattle.base_budget.specs.Trace.{Traced, next, combining}
use Rattle.base_budget.specs.Work.{Worked}
use Rattle.base_budget.proofs.Charging.{Left, left_next, left_ends, work_err, work_just, drop-item, drop_all}
use Rattle.form_typed.specs.declared.typed.TypedTerm.{TypedTerm}
use Rattle.form_typed.specs.Formula.{Expression, Expressions, expression, expressions_of, number, name, call, minus, total, product, choice, absolute, lesser, greater, no_expression, and_expression}
use Rattle.form_encoding.specs.Encoding.{named}
use Rattle.form_encoding.specs.Root.{names_from}
use Rattle.form_encoding.specs.Plain.{linear_of, linear_sum, linear_more, IsPlain, ArePlain}
use Rattle.job_least.specs.Plain.{is_plain, are_plain, factor_of, without_minus, IsPlainRanged, ArePlainRanged, weight_of, weights_of}

-- Names.

named_from : (m n x : ℕ) → x < n → named (names_from m n) x ≡ linear.name (m + x)
named_from m zero x h = absurd (omega arith)
named_from m (suc n) zero h = ap linear.name (omega arith)
named_from m (suc n) (suc x) h = named_from (suc m) n x (omega arith) ∙ ap linear.name (omega arith)

none_more : (x : ℕ) → 0 + x ≡ x
none_more x = omega arith

pub named_below : (n x : ℕ) → x < n → linear.name x ≡ named (names_from 0 n) x
named_below n x h = sym (named_from 0 n x h ∙ ap linear.name (none_more x))

past_from : (m n x : ℕ) → n ≤ x → named (names_from m n) x ≡ linear.number (pos 0)
past_from m zero x h = refl
past_from m (suc n) zero h = absurd (omega arith)
past_from m (suc n) (suc x) h = past_from (suc m) n x (omega arith)

pub named_past : (n x : ℕ) → n ≤ x → linear.number (pos 0) ≡ named (names_from 0 n) x
named_past n x h = sym (past_from 0 n x h)

-- Members.

after_member : List ℕ → Expressions → Linear → ℤ → Linear → Traced Linear
after_member at ts s k a = next (combining (pos 1) s k a) (λ z. linear_more at ts z)

pub more_is : (at : List ℕ) (t : Expression) (ts : Expressions) (s : Linear)
    → linear_more at (and_expression t ts) s ≡ next (linear_of at (without_minus t)) (λ a. next (combining (pos 1) s (factor_of t) a) (λ z. linear_more at ts z))
more_is at (number v) ts s = refl
more_is at (name x) ts s = refl
more_is at (call f us) ts s = refl
more_is at (minus t) ts s = refl
more_is at (total us) ts s = refl
more_is at (product t u) ts s = refl
more_is at (choice f t u) ts s = refl
more_is at (absolute t) ts s = refl
more_is at (lesser t u) ts s = refl
more_is at (greater t u) ts s = refl

item_left : (at : List ℕ) (ts : List TypedTerm) (i : ℕ) (t : TypedTerm) (s : Linear) (w : Traced Linear) → i < length ts → t ≡ get_or ts i t
    → Left (linear_more at (expressions_of (drop i ts)) s) w
    → Left (next (linear_of at (without_minus (expression t))) (λ a. next (combining (pos 1) s (factor_of (expression t)) a) (λ z. linear_more at (expressions_of (drop (i + 1) ts)) z))) w
item_left at ts i t s w lt is h =
    subst (λ m. Left m w) (more_is at (expression t) (expressions_of (drop (i + 1) ts)) s)
    (subst (λ l. Left (linear_more at (expressions_of l) s) w) (drop-item ts i t lt is) h)

pub member_left : (at : List ℕ) (ts : List TypedTerm) (i : ℕ) (t : TypedTerm) (u : Expression) (k : ℤ) (s a z : Linear) (w : Traced Linear) → i < length ts → t ≡ get_or ts i t
    → u ≡ without_minus (expression t) → k ≡ factor_of (expression t) → Left (linear_more at (expressions_of (drop i ts)) s) w
    → Worked (linear_of at u) (Ok a) → Worked (combining (pos 1) s k a) (Ok z) → Left (linear_more at (expressions_of (drop (i + 1) ts)) z) w
member_left at ts i t u k s a z w lt is part sign h f g =
    left_next (combining (pos 1) s (factor_of (expression t)) a) (λ y. linear_more at (expressions_of (drop (i + 1) ts)) y)
    (left_next (linear_of at (without_minus (expression t))) (λ b. next (combining (pos 1) s (factor_of (expression t)) b) (λ y. linear_more at (expressions_of (drop (i + 1) ts)) y))
    (item_left at ts i t s w lt is h) (subst (λ v. Worked (linear_of at v) (Ok a)) part f))
    (subst (λ v. Worked (combining (pos 1) s v a) (Ok z)) sign g)

pub member_err : (at : List ℕ) (ts : List TypedTerm) (i : ℕ) (t : TypedTerm) (u : Expression) (s : Linear) (w : Traced Linear) (e : StepFault) (r : Result Linear StepFault) → i < length ts → t ≡ get_or ts i t
    → u ≡ without_minus (expression t) → Left (linear_more at (expressions_of (drop i ts)) s) w
    → IsErrAnd r (λ x. x ≡ e) → Worked (linear_of at u) (Err e) → Worked w r
member_err at ts i t u s w e r lt is part h same f =
    left_ends (item_left at ts i t s w lt is h)
    (work_err (linear_of at (without_minus (expression t))) (λ a. next (combining (pos 1) s (factor_of (expression t)) a) (λ z. linear_more at (expressions_of (drop (i + 1) ts)) z)) r same
    (subst (λ v. Worked (linear_of at v) (Err e)) part f))

pub combining_fault : (at : List ℕ) (ts : List TypedTerm) (i : ℕ) (t : TypedTerm) (u : Expression) (k : ℤ) (s a : Linear) (w : Traced Linear) (e : StepFault) (r : Result Linear StepFault) → i < length ts → t ≡ get_or ts i t
    → u ≡ without_minus (expression t) → k ≡ factor_of (expression t) → Left (linear_more at (expressions_of (drop i ts)) s) w
    → IsErrAnd r (λ x. x ≡ e) → Worked (linear_of at u) (Ok a) → Worked (combining (pos 1) s k a) (Err e) → Worked w r
combining_fault at ts i t u k s a w e r lt is part sign h same f g =
    left_ends (left_next (linear_of at (without_minus (expression t))) (λ b. next (combining (pos 1) s (factor_of (expression t)) b) (λ y. linear_more at (expressions_of (drop (i + 1) ts)) y))
    (item_left at ts i t s w lt is h) (subst (λ v. Worked (linear_of at v) (Ok a)) part f))
    (work_err (combining (pos 1) s (factor_of (expression t)) a) (λ z. linear_more at (expressions_of (drop (i + 1) ts)) z) r same
    (subst (λ v. Worked (combining (pos 1) s v a) (Err e)) sign g))

pub members_end : (at : List ℕ) (ts : List TypedTerm) (i : ℕ) (s y : Linear) (w : Traced Linear) → length ts ≤ i → y ≡ s
    → Left (linear_more at (expressions_of (drop i ts)) s) w → Worked w (Ok y)
members_end at ts i s y w le same h =
    left_ends (subst (λ l. Left (linear_more at (expressions_of l) s) w) (drop_all ts i le) h) (work_just s y same)

pub sum_none : (at : List ℕ) (ts : List TypedTerm) (y : Linear) → length ts ≡ 0 → y ≡ linear.number (pos 0) → Worked (linear_sum at (expressions_of ts)) (Ok y)
sum_none at [] y is same = work_just (linear.number (pos 0)) y same
sum_none at (t ∷ ts) y is same = absurd (omega arith)

-- The tree of a term.

pub at_term : (at : List ℕ) (t : TypedTerm) (x : Expression) (r : Result Linear StepFault) → expression t ≡ x → Worked (linear_of at x) r → Worked (linear_of at (expression t)) r
at_term at t x r is h = subst (λ y. Worked (linear_of at y) r) (sym is) h

pub of_term : (at : List ℕ) (t u : TypedTerm) (r : Result Linear StepFault) → t ≡ u → Worked (linear_of at (expression t)) r → Worked (linear_of at (expression u)) r
of_term at t u r is h = subst (λ y. Worked (linear_of at (expression y)) r) is h

-- The measure, and the numbers.

lighter : (ts : List TypedTerm) (i : ℕ) (t : TypedTerm) (w : ℕ) → i < length ts → t ≡ get_or ts i t → weights_of (expressions_of (drop i ts)) ≤ w
    → (weight_of (expression t) + 4 ≤ w) × (weights_of (expressions_of (drop (i + 1) ts)) ≤ w)
lighter ts i t w lt is h =
    let e : weights_of (expressions_of (drop i ts)) ≡ weight_of (expression t) + weights_of (expressions_of (drop (i + 1) ts)) + 4 = ap (λ l. weights_of (expressions_of l)) (drop-item ts i t lt is) in
    (omega arith, omega arith)

part_lighter : (t : Expression) → weight_of (without_minus t) ≤ weight_of t
part_lighter (number v) = omega arith
part_lighter (name x) = omega arith
part_lighter (call f us) = omega arith
part_lighter (minus t) = omega arith
part_lighter (total us) = omega arith
part_lighter (product t u) = omega arith
part_lighter (choice f t u) = omega arith
part_lighter (absolute t) = omega arith
part_lighter (lesser t u) = omega arith
part_lighter (greater t u) = omega arith

part_ranged : (t : Expression) → IsPlainRanged t → IsPlainRanged (without_minus t)
part_ranged (number v) h = h
part_ranged (name x) h = h
part_ranged (call f us) h = h
part_ranged (minus t) h = h
part_ranged (total us) h = h
part_ranged (product t u) h = h
part_ranged (choice f t u) h = h
part_ranged (absolute t) h = h
part_ranged (lesser t u) h = h
part_ranged (greater t u) h = h

-- the members from i on: not heavier than all, their numbers coefficients
pub record Rest (ts : List TypedTerm) (i w : ℕ) : Type 0 where
  pub light : weights_of (expressions_of (drop i ts)) ≤ w
  pub ranged : ArePlainRanged (expressions_of (drop i ts))

pub rest_next : (ts : List TypedTerm) (i : ℕ) (t : TypedTerm) (w : ℕ) → i < length ts → t ≡ get_or ts i t → Rest ts i w → Rest ts (i + 1) w
rest_next ts i t w lt is h = record {
  light = (lighter ts i t w lt is h.light).1;
  ranged = (subst (λ l. ArePlainRanged (expressions_of l)) (drop-item ts i t lt is) h.ranged).1;
}

pub rest_item : (ts : List TypedTerm) (i : ℕ) (t : TypedTerm) (u : Expression) (w : ℕ) → i < length ts → t ≡ get_or ts i t → u ≡ without_minus (expression t) → Rest ts i w
    → IsPlainRanged u × (weight_of u + 4 ≤ w)
rest_item ts i t u w lt is part h =
    let q = lighter ts i t w lt is h.light in
    let p : weight_of u ≤ weight_of (expression t) = subst (λ v. weight_of v ≤ weight_of (expression t)) (sym part) (part_lighter (expression t)) in
    let first : IsPlainRanged (expression t) = (subst (λ l. ArePlainRanged (expressions_of l)) (drop-item ts i t lt is) h.ranged).0 in
    (subst IsPlainRanged (sym part) (part_ranged (expression t) first), (let a = q.0 in omega arith))

pub rest_all : (ts more : List TypedTerm) (t : TypedTerm) → ts ≡ t ∷ more → ArePlainRanged (expressions_of ts) → Rest more 0 (weights_of (expressions_of ts))
rest_all ts more t is h =
    let e : weights_of (expressions_of ts) ≡ weight_of (expression t) + weights_of (expressions_of more) + 4 = ap (λ l. weights_of (expressions_of l)) is in
    record { light = omega arith; ranged = (subst (λ l. ArePlainRanged (expressions_of l)) is h).1 }

pub sum_starts : (at : List ℕ) (ts more : List TypedTerm) (t : TypedTerm) (a : Linear) → ts ≡ t ∷ more → Worked (linear_of at (expression t)) (Ok a)
    → Left (linear_more at (expressions_of more) a) (linear_sum at (expressions_of ts))
sum_starts at ts more t a is h =
    subst (λ l. Left (linear_more at (expressions_of more) a) (linear_sum at (expressions_of l))) (sym is)
    (left_next (linear_of at (expression t)) (λ b. linear_more at (expressions_of more) b) (record { ends = λ r k. k }) h)

-- whether a term is plain

both_so : (a b : Bool) (A B : Type 0) → (a && b) ≡ true → (a ≡ true → A) → (b ≡ true → B) → A × B
both_so true b A B h f g = (f refl, g h)
both_so false b A B h f g = cc

mutual
  pub plain_so : (t : Expression) → is_plain t ≡ true → IsPlain t
  plain_so (number v) h = tt
  plain_so (name x) h = tt
  plain_so (call f ts) h = cc
  plain_so (minus t) h = plain_so t h
  plain_so (total ts) h = plains_so ts h
  plain_so (product s t) h = both_so (is_plain s) (is_plain t) (IsPlain s) (IsPlain t) h (plain_so s) (plain_so t)
  plain_so (choice f s t) h = cc
  plain_so (absolute t) h = cc
  plain_so (lesser s t) h = cc
  plain_so (greater s t) h = cc

  plains_so : (ts : Expressions) → are_plain ts ≡ true → ArePlain ts
  plains_so no_expression h = tt
  plains_so (and_expression t ts) h = both_so (is_plain t) (are_plain ts) (IsPlain t) (ArePlain ts) h (plain_so t) (plains_so ts)

both_true : (a b : Bool) → a ≡ true → b ≡ true → (a && b) ≡ true
both_true true b h k = k
both_true false b h k = cc

mutual
  plain_back : (t : Expression) → IsPlain t → is_plain t ≡ true
  plain_back (number v) h = refl
  plain_back (name x) h = refl
  plain_back (call f ts) h = absurd h
  plain_back (minus t) h = plain_back t h
  plain_back (total ts) h = plains_back ts h
  plain_back (product s t) h = both_true (is_plain s) (is_plain t) (plain_back s h.0) (plain_back t h.1)
  plain_back (choice f s t) h = absurd h
  plain_back (absolute t) h = absurd h
  plain_back (lesser s t) h = absurd h
  plain_back (greater s t) h = absurd h

  plains_back : (ts : Expressions) → ArePlain ts → are_plain ts ≡ true
  plains_back no_expression h = refl
  plains_back (and_expression t ts) h = both_true (is_plain t) (are_plain ts) (plain_back t h.0) (plains_back ts h.1)

pub plain_where : (t : Expression) → (is_plain t ≡ true) ↔ IsPlain t
plain_where t = (plain_so t, plain_back t)
