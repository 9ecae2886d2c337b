-- The end of the canonical run does not depend on how many rounds it was given, once the budget cannot pay for more.
use Rattle.std.proofs.Common.{◌≡◌, ℕ, suc, zero, ◌+◌, ◌-◌, ◌<◌, ◌≤◌, List, [], ◌∷◌, ◌++◌, refl, sym, ◌∙◌, ap, arith, Option, Some, None}
use Rattle.base_budget.specs.Trace.{Event, charge, raw, mark, capped, At, at, End, done, refused, out_of_range, cut, Traced, step, next}
use Rattle.base_budget.specs.Followed.{Later}
use Rattle.base_budget.specs.Runs.{total, RunsThrough}
use Rattle.base_budget.proofs.Cutting.{resume, cut-append}
use Rattle.base_budget.proofs.Meaning.{passes_where_runs}
use Rattle.formula.specs.Form.{Form}
use Rattle.sequent.specs.declared.member.Pick.{Pick}
use Rattle.sequent.specs.Rules.{picked, place}
use Rattle.sequent.specs.Sequent.{Sequent}
use Rattle.proof_tree.specs.Proof.{Proof}
use Rattle.proof_tree.specs.Proves.{start}
use Rattle.proof_tree.specs.Walk.{fee, fee_by}
use Rattle.search.specs.Building.{built, entered}
use Rattle.base_budget.specs.Ending.{Ending, out_of_steps, overflows, ended, ending}
use Rattle.search.specs.Run.{judged, one_round, or_further, rounds, canonical_run, OneEnd}
use Rattle.base_limits.specs.Limits.{branch_limit}

-- what has passed
passed : (es : List Event) (a b : At) → a.funds.spent ≤ a.funds.budget → cut es a ≡ done b → RunsThrough es a b
passed es a b h e = (passes_where_runs es a b h).0 e

runs_spent : (es : List Event) (a b : At) → RunsThrough es a b → b.funds.spent ≡ a.funds.spent + total es
runs_spent es a b r = ap (λ z. z.funds.spent) r.stands

runs_budget : (es : List Event) (a b : At) → RunsThrough es a b → b.funds.budget ≡ a.funds.budget
runs_budget es a b r = ap (λ z. z.funds.budget) r.stands

runs_later : (es : List Event) (a b : At) → RunsThrough es a b → Later a.funds b.funds
runs_later es a b r =
    let s : b.funds.spent ≡ a.funds.spent + total es = runs_spent es a b r in
    let u : b.funds.budget ≡ a.funds.budget = runs_budget es a b r in
    let w : a.funds.spent + total es ≤ a.funds.budget = r.within in
    record { budget = u; spent = omega arith; within = omega arith }

abbrev after_end : {A : Type 0} → End → (At → Ending A) → Ending A
after_end (done b) f = f b
after_end (refused b) f = out_of_steps b
after_end (out_of_range ps b) f = overflows ps b

resume_end : {A : Type 0} (v : A) (e : End) (ys : List Event) → ended v (resume e ys) ≡ after_end e (λ b. ended v (cut ys b))
resume_end v (done b) ys = refl
resume_end v (refused b) ys = refl
resume_end v (out_of_range ps b) ys = refl

ending-next : {A B : Type 0} (m : Traced A) (f : A → Traced B) (a : At) → ending (next m f) a ≡ after_end (cut m.events a) (λ b. ending (f m.value) b)
unfolding next
ending-next m f a = ap (λ e. ended (f m.value).value e) (cut-append m.events (f m.value).events a) ∙ resume_end (f m.value).value (cut m.events a) (f m.value).events

after_same : {A : Type 0} (e : End) (f g : At → Ending A) → ((b : At) → e ≡ done b → f b ≡ g b) → after_end e f ≡ after_end e g
after_same (done b) f g h = h b refl
after_same (refused b) f g h = refl
after_same (out_of_range ps b) f g h = refl

-- the end of work in a row, by what comes after the first of it passed
ending_same : {A B : Type 0} (m : Traced A) (f g : A → Traced B) (a : At) → ((b : At) → cut m.events a ≡ done b → ending (f m.value) b ≡ ending (g m.value) b)
    → ending (next m f) a ≡ ending (next m g) a
ending_same m f g a h =
    ending-next m f a ∙ after_same (cut m.events a) (λ b. ending (f m.value) b) (λ b. ending (g m.value) b) h ∙ sym (ending-next m g a)

same_further : {A : Type 0} (x y : Traced A) (o : Option A) (a : At) → ending x a ≡ ending y a → ending (or_further x o) a ≡ ending (or_further y o) a
same_further x y None a h = h
same_further x y (Some v) a h = refl

pub total-append : (xs ys : List Event) → total (xs ++ ys) ≡ total xs + total ys
total-append [] ys = omega arith
total-append (charge n ∷ xs) ys = ap (λ z. capped n + z) (total-append xs ys) ∙ (let e : capped n + (total xs + total ys) ≡ capped n + total xs + total ys = omega arith in e)
total-append (raw ps ∷ xs) ys = total-append xs ys
total-append (mark m ∷ xs) ys = total-append xs ys

-- each round charges its root
fee_least : (s : Sequent) (o : Option ℕ) → 1 ≤ fee_by s o
fee_least s None = omega arith
fee_least s (Some i) = omega arith

capped_least : (n : ℕ) → 1 ≤ n → 1 ≤ capped n
capped_least n h = grind (arith, h)

entered_charges : (f : ℕ → Sequent → Traced (Option Proof)) (n : ℕ) (s : Sequent) (p : Pick) → 1 ≤ total (entered f n s p).events
unfolding next step
entered_charges f n s p = let h = capped_least (fee s p) (fee_least s (place p)) in omega (arith, h)

tree_charges : (f : Form) (n k : ℕ) → 1 ≤ total (built k branch_limit 0 (start f n)).events
unfolding built
tree_charges f n k = entered_charges (built k 1999) 0 (start f n) (picked k (start f n).members)

pub round_charges : (f : Form) (n k : ℕ) → 1 ≤ total (one_round f n k).events
unfolding next step
round_charges f n k =
    let e = total-append (built k branch_limit 0 (start f n)).events (judged f n (built k branch_limit 0 (start f n)).value).events in
    let l = tree_charges f n k in
    omega (arith, e, l)

-- one more round than the budget can pay for changes nothing
rounds_enough : (f : Form) (n m k : ℕ) (a : At) → a.funds.spent ≤ a.funds.budget → a.funds.budget < a.funds.spent + m → ending (rounds f n m k) a ≡ ending (rounds f n (suc m) k) a
rounds_enough f n zero k a within h = absurd (let z : a.funds.budget < a.funds.spent + 0 = h in omega arith)
rounds_enough f n (suc m) k a within h =
    ending_same (one_round f n k) _ _ a (λ b pb.
    let rb = passed _ a b within pb in
    let lb = runs_later _ a b rb in
    let sb : b.funds.spent ≡ a.funds.spent + total (one_round f n k).events = runs_spent _ a b rb in
    let least : 1 ≤ total (one_round f n k).events = round_charges f n k in
    same_further (rounds f n m (suc k)) (rounds f n (suc m) (suc k)) (one_round f n k).value b
    (rounds_enough f n m (suc k) b lb.within
    (let bb : b.funds.budget ≡ a.funds.budget = lb.budget in let lt : a.funds.budget < a.funds.spent + suc m = h in omega arith)))

-- nor do any more
rounds_more : (f : Form) (n j m k : ℕ) (a : At) → a.funds.spent ≤ a.funds.budget → a.funds.budget < a.funds.spent + m → ending (rounds f n m k) a ≡ ending (rounds f n (j + m) k) a
rounds_more f n zero m k a within h = ap (λ z. ending (rounds f n z k) a) (let e : m ≡ 0 + m = omega arith in e)
rounds_more f n (suc j) m k a within h =
    rounds_more f n j m k a within h ∙ rounds_enough f n (j + m) k a within (omega (arith, h)) ∙ ap (λ z. ending (rounds f n z k) a) (let e : suc (j + m) ≡ suc j + m = omega arith in e)

-- the end of the canonical run is that of any number of rounds above the budget
pub one_end : OneEnd
unfolding canonical_run
one_end f n g m within h =
    let e : m ≡ (m - suc g.budget) + suc g.budget = omega (arith, h) in
    let lt : g.budget < g.spent + suc g.budget = omega arith in
    sym (rounds_more f n (m - suc g.budget) (suc g.budget) 0 (at g []) within lt ∙ ap (λ z. ending (rounds f n z 0) (at g [])) (sym e))
