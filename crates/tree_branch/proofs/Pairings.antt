-- The closing formula of a sequent is as large as its members say, and as deep as they are.
use Rattle.std.proofs.Common.{◌≡◌, ℕ, suc, ◌+◌, ◌-◌, ◌^◌, Bool, true, false, cond, ◌&&◌, nat_eq, min, List, [], ◌∷◌, ◌++◌, length, refl, ◌∙◌, arith}
use Rattle.std.proofs.lemmas.Bool.Decides.{Decides-eqb}
use Rattle.linear_term.specs.Linear.{Linear}
use Rattle.base_budget.specs.Trace.{Traced, capped, just, step, next, each}
use Rattle.formula.specs.Form.{Form, equal, unequal, at_least, holds, fails, differs, conjunction, disjunction, universal, existential, forms, is_pure}
use Rattle.formula.specs.Sizes.{size, sizes}
use Rattle.formula.proofs.Sameness.{size_shifted}
use Rattle.sequent.specs.Rules.{brought}
use Rattle.sequent.specs.Sequent.{Member, Sequent}
use Rattle.pred_unify.specs.Pairs.{difference, equations, alike, same_arguments, other_values, predicate_pair, function_pair, with_predicates, with_functions, function_pairs, pairs_of, pures, closing_of}
use Rattle.tree_branch.specs.Pairing.{sum_of, predicate_pair_size, function_pair_size, with_predicates_size, with_functions_size, function_pairs_size, pure_size, closing_size}

sizes-append : (fs gs : List Form) → sizes (forms (fs ++ gs)) ≡ sizes (forms fs) + sizes (forms gs)
sizes-append [] gs = omega arith
sizes-append (f ∷ fs) gs = let h = sizes-append fs gs in omega (arith, h)

equations-size : (ss ts : List Linear) (out : List Form) → length ss ≡ length ts → sizes (forms (equations ss ts out).value) ≡ sizes (forms out) + length ss
unfolding next just step
equations-size [] ts out h = omega arith
equations-size (s ∷ ss) [] out h = absurd (let z : suc (length ss) ≡ 0 = h in omega (arith, z))
equations-size (s ∷ ss) (t ∷ ts) out h =
    let same : length ss ≡ length ts = (let z : suc (length ss) ≡ suc (length ts) = h in omega (arith, z)) in
    let more = equations-size ss ts (out ++ equal (difference s t).value ∷ []) same in
    let one = sizes-append out (equal (difference s t).value ∷ []) in
    omega (arith, more, one)

alike-length : (p : ℕ) (ss : List Linear) (q : ℕ) (ts : List Linear) → alike p ss q ts ≡ true → length ss ≡ length ts
alike-length p ss q ts h = (Decides-eqb (length ss) (length ts)).0 (second (nat_eq p q) _ h)
  where
    second : (a b : Bool) → (a && b) ≡ true → b ≡ true
    second true b h = h
    second false b h = absurd (cc)

same-size : (ss ts : List Linear) → length ss ≡ length ts → sizes (forms (same_arguments ss ts).value) ≡ 1 + length ss
unfolding next just
same-size ss ts h = let n = equations-size ss ts [] h in omega (arith, n)

other-size : (ss : List Linear) (u : Linear) (ts : List Linear) (v : Linear) → length ss ≡ length ts → sizes (forms (other_values ss u ts v).value) ≡ 2 + length ss
unfolding next just step
other-size ss u ts v h =
    let n = equations-size ss ts [] h in
    let m = sizes-append (equations ss ts []).value (unequal (difference u v).value ∷ []) in
    omega (arith, n, m)

cond-size : (b : Bool) (w : Traced (List Form)) (n : ℕ) → (b ≡ true → sizes (forms w.value) ≡ n) → sizes (forms (cond b w (just [])).value) ≡ cond b n 0
unfolding just
cond-size true w n h = h refl
cond-size false w n h = refl

predicate-size : (p : ℕ) (ss : List Linear) (g : Form) → sizes (forms (predicate_pair p ss g).value) ≡ predicate_pair_size p ss g
unfolding just
predicate-size p ss (holds q ts) = cond-size (alike p ss q ts) (same_arguments ss ts) (1 + length ss) (λ h. same-size ss ts (alike-length p ss q ts h))
predicate-size p ss (equal t) = refl
predicate-size p ss (unequal t) = refl
predicate-size p ss (at_least t) = refl
predicate-size p ss (fails q ts) = refl
predicate-size p ss (differs q ts u) = refl
predicate-size p ss (conjunction fs) = refl
predicate-size p ss (disjunction fs) = refl
predicate-size p ss (universal f) = refl
predicate-size p ss (existential f) = refl

function-size : (f : ℕ) (ss : List Linear) (u : Linear) (g : Form) → sizes (forms (function_pair f ss u g).value) ≡ function_pair_size f ss g
unfolding just
function-size f ss u (differs g ts v) = cond-size (alike f ss g ts) (other_values ss u ts v) (2 + length ss) (λ h. other-size ss u ts v (alike-length f ss g ts h))
function-size f ss u (equal t) = refl
function-size f ss u (unequal t) = refl
function-size f ss u (at_least t) = refl
function-size f ss u (holds q ts) = refl
function-size f ss u (fails q ts) = refl
function-size f ss u (conjunction fs) = refl
function-size f ss u (disjunction fs) = refl
function-size f ss u (universal g) = refl
function-size f ss u (existential g) = refl

each-size : (g : Member → Traced (List Form)) (k : Member → ℕ) → ((m : Member) → sizes (forms (g m).value) ≡ k m) → (ms : List Member) (out : List Form)
    → sizes (forms (each g ms out).value) ≡ sizes (forms out) + sum_of k ms
unfolding next just
each-size g k h [] out = omega arith
each-size g k h (m ∷ ms) out =
    let rest = each-size g k h ms (out ++ (g m).value) in
    let here = h m in
    let both = sizes-append out (g m).value in
    omega (arith, rest, here, both)

with-predicates-size : (ms : List Member) (g : Form) → sizes (forms (with_predicates ms g).value) ≡ with_predicates_size ms g
unfolding just
with-predicates-size ms (fails p ss) =
    let all = each-size (λ m. predicate_pair p ss m.formula) (λ m. predicate_pair_size p ss m.formula) (λ m. predicate-size p ss m.formula) ms [] in
    let none : 0 + sum_of (λ m. predicate_pair_size p ss m.formula) ms ≡ sum_of (λ m. predicate_pair_size p ss m.formula) ms = omega arith in
    all ∙ none
with-predicates-size ms (equal t) = refl
with-predicates-size ms (unequal t) = refl
with-predicates-size ms (at_least t) = refl
with-predicates-size ms (holds q ts) = refl
with-predicates-size ms (differs q ts u) = refl
with-predicates-size ms (conjunction fs) = refl
with-predicates-size ms (disjunction fs) = refl
with-predicates-size ms (universal f) = refl
with-predicates-size ms (existential f) = refl

with-functions-size : (ms : List Member) (g : Form) → sizes (forms (with_functions ms g).value) ≡ with_functions_size ms g
unfolding just
with-functions-size ms (differs f ss u) =
    let all = each-size (λ m. function_pair f ss u m.formula) (λ m. function_pair_size f ss m.formula) (λ m. function-size f ss u m.formula) ms [] in
    let none : 0 + sum_of (λ m. function_pair_size f ss m.formula) ms ≡ sum_of (λ m. function_pair_size f ss m.formula) ms = omega arith in
    all ∙ none
with-functions-size ms (equal t) = refl
with-functions-size ms (unequal t) = refl
with-functions-size ms (at_least t) = refl
with-functions-size ms (holds q ts) = refl
with-functions-size ms (fails q ts) = refl
with-functions-size ms (conjunction fs) = refl
with-functions-size ms (disjunction fs) = refl
with-functions-size ms (universal f) = refl
with-functions-size ms (existential f) = refl

function-pairs-size : (ms : List Member) (out : List Form) → sizes (forms (function_pairs ms out).value) ≡ sizes (forms out) + function_pairs_size ms
unfolding next just
function-pairs-size [] out = omega arith
function-pairs-size (m ∷ ms) out =
    let rest = function-pairs-size ms (out ++ (with_functions ms m.formula).value) in
    let here = with-functions-size ms m.formula in
    let both = sizes-append out (with_functions ms m.formula).value in
    omega (arith, rest, here, both)

pairs-size : (ms : List Member) → sizes (forms (pairs_of ms).value) ≡ sum_of (λ m. with_predicates_size ms m.formula) ms + function_pairs_size ms
unfolding next
pairs-size ms =
    let first = each-size (λ m. with_predicates ms m.formula) (λ m. with_predicates_size ms m.formula) (λ m. with-predicates-size ms m.formula) ms [] in
    let rest = function-pairs-size ms (each (λ m. with_predicates ms m.formula) ms []).value in
    omega (arith, first, rest)

pures-size : (n : ℕ) (ms : List Member) → sizes (forms (pures n ms)) ≡ sum_of pure_size ms
pures-size n [] = refl
pures-size n (m ∷ ms) = by (is_pure m.formula) (pures-size n ms)
  where
    by : (b : Bool) → sizes (forms (pures n ms)) ≡ sum_of pure_size ms → sizes (forms (cond b (brought m.over n m.formula ∷ pures n ms) (pures n ms))) ≡ cond b (size m.formula) 0 + sum_of pure_size ms
    by true h = let same = size_shifted m.over (n - m.over) m.formula in omega (arith, same, h)
    by false h = omega (arith, h)

pub closing_size_is : (s : Sequent) → size (closing_of s).value ≡ closing_size s
unfolding next just
closing_size_is s =
    let first = pures-size s.count s.members in
    let rest = pairs-size s.members in
    let both = sizes-append (pures s.count s.members) (pairs_of s.members).value in
    omega (arith, first, rest, both)

-- sums that stop at the greatest u64 are the sum that stops there
pub capped_sum : (a b c p q r s t u : ℕ) → p ≡ capped a → q ≡ capped b → r ≡ capped c → s ≡ min (q + r) (2 ^ 64 - 1) → t ≡ min (p + s) (2 ^ 64 - 1) → u ≡ min (t + 1) (2 ^ 64 - 1) → u ≡ capped (1 + (a + (b + c)))
capped_sum a b c p q r s t u p_is q_is r_is s_is t_is u_is = omega (arith, p_is, q_is, r_is, s_is, t_is, u_is)

pub close_charge : (q : Sequent) (k r : ℕ) → k ≡ capped (closing_size q) → r ≡ min (k + 1) (2 ^ 64 - 1) → r ≡ capped (1 + size (closing_of q).value)
close_charge q k r k_is r_is = let same = closing_size_is q in omega (arith, k_is, r_is, same)
