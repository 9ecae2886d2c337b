-- What is paid, one line more each time.
use Rattle.std.proofs.Common.{ℕ, ℤ, ◌≡◌, ◌+◌, ◌*◌, ◌-◌, ◌<◌, ◌≤◌, ◌^◌, List, [], ◌∷◌, ◌++◌, Option, Some, None, Result, Ok, Err, refl, sym, ap, ◌∙◌, arith, min}
use Rattle.std.proofs.Math.Nat.{mul_comm}
use Rattle.std.specs.Prelude.{OnOk}
use Rattle.base_budget.specs.Trace.{capped, Funds}
use Rattle.clause_set.proofs.Weights.{capped_product}
use Rattle.formula.specs.Form.{Form}
use Rattle.clause_proof.specs.declared.line.Line.{Line}
use Rattle.clause_proof.specs.Clauses.{State}
use Rattle.clause_proof.specs.Lines.{after, found}
use Rattle.clause_proof.specs.Proofs.{run}
use Rattle.clause_checker.specs.Prices.{price, priced, start_price}
use Rattle.clause_text.specs.declared.head.Head.{Head}
use Rattle.clause_file.specs.Courses.{begun, Reaches, Starts}
use Rattle.clause_file.specs.Costs.{begin_price, check_price, HasPaid, run_price}
use Rattle.clause_file.specs.Roots.{preparation_price}

abbrev with_more : Funds → ℕ → Funds
with_more old n = record old { spent = old.spent + n }

abbrev paid_for : Head → ℕ → Funds
paid_for h n = record { budget = h.charges.count; spent = n }

-- ---- the price of lines, and of one more

no_price : {A : Type 0} (o : Option A) → priced o (λ x. 0) ≡ 0
no_price None = refl
no_price (Some x) = refl

run_more : (s t : State) (ls : List Line) (l : Line) → run s ls ≡ Some t → run_price s (ls ++ l ∷ []) ≡ run_price s ls + price t l
run_more s t [] l is =
    let same : s ≡ t = cc in
    let none = no_price (after s l) in
    let alike : price s l ≡ price t l = ap (λ z. price z l) same in
    omega (arith, none, alike)
run_more s t (k ∷ ls) l is = by (after s k) is (λ u h. run_more u t ls l h)
  where
    by : (o : Option State) → found o (λ u. run u ls) ≡ Some t → ((u : State) → run u ls ≡ Some t → run_price u (ls ++ l ∷ []) ≡ run_price u ls + price t l)
        → price s k + priced o (λ u. run_price u (ls ++ l ∷ [])) ≡ price s k + priced o (λ u. run_price u ls) + price t l
    by None h rest = absurd (cc)
    by (Some u) h rest = let more = rest u h in omega (arith, more)

check_more : (f : Form) (n : ℕ) (file : List ℕ) (h : Head) (ls : List Line) (l : Line) (rest : List ℕ) (s : State) → Reaches f n file h ls rest s → check_price f n h (ls ++ l ∷ []) ≡ check_price f n h ls + price s l
check_more f n file h ls l rest s r = by (begun f n h) r.makes
  where
    by : (o : Option State) → found o (λ u. run u ls) ≡ Some s → begin_price f n h + priced o (λ u. run_price u (ls ++ l ∷ [])) ≡ begin_price f n h + priced o (λ u. run_price u ls) + price s l
    by None is = absurd (cc)
    by (Some u) is = let more = run_more u s ls l is in omega (arith, more)

pub line_paid : (f : Form) (n : ℕ) (file : List ℕ) (h : Head) (ls : List Line) (l : Line) (rest : List ℕ) (s : State) (old new : Funds) → Reaches f n file h ls rest s → HasPaid old h (check_price f n h ls) → new ≡ record old { spent = old.spent + price s l }
    → HasPaid new h (check_price f n h (ls ++ l ∷ []))
line_paid f n file h ls l rest s old new r paid is =
    is ∙ ap (λ (z : Funds). with_more z (price s l)) paid ∙ ap (paid_for h) (sym (check_more f n file h ls l rest s r))

pub line_dear : (f : Form) (n : ℕ) (file : List ℕ) (h : Head) (ls : List Line) (l : Line) (rest : List ℕ) (s : State) (old : Funds) → Reaches f n file h ls rest s → HasPaid old h (check_price f n h ls) → old.budget < old.spent + price s l
    → h.charges.count < check_price f n h (ls ++ l ∷ [])
line_dear f n file h ls l rest s old r paid passes =
    let more = check_more f n file h ls l rest s r in
    let budget = ap (λ z. z.budget) paid in
    let spent = ap (λ z. z.spent) paid in
    omega (arith, more, budget, spent, passes)

-- ---- the price of the start

begins_with : (f : Form) (n : ℕ) (h : Head) → check_price f n h [] ≡ begin_price f n h
begins_with f n h = ap (λ p. begin_price f n h + p) (no_price (begun f n h)) ∙ (omega arith)

start_is : (f k : Form) (n : ℕ) (file text : List ℕ) (h : Head) (vs : List ℤ) → vs ≡ h.values → Starts f n file h text k → preparation_price f h.prepared + start_price k vs ≡ begin_price f n h
start_is f k n file text h vs same t = λ i. preparation_price f h.prepared + start_price (sym t.root i) (same i)

pub start_paid : (f k : Form) (n : ℕ) (file text : List ℕ) (h : Head) (vs : List ℤ) (old new : Funds) → vs ≡ h.values → Starts f n file h text k → HasPaid old h (preparation_price f h.prepared) → new ≡ record old { spent = old.spent + start_price k vs }
    → HasPaid new h (check_price f n h [])
start_paid f k n file text h vs old new same t paid is =
    is ∙ ap (λ (z : Funds). with_more z (start_price k vs)) paid ∙ ap (paid_for h) (start_is f k n file text h vs same t ∙ sym (begins_with f n h))

pub start_dear : (f k : Form) (n : ℕ) (file text : List ℕ) (h : Head) (vs : List ℤ) (old : Funds) → vs ≡ h.values → Starts f n file h text k → HasPaid old h (preparation_price f h.prepared) → old.budget < old.spent + start_price k vs → h.charges.count < begin_price f n h
start_dear f k n file text h vs old same t paid passes =
    let whole = start_is f k n file text h vs same t in
    let budget = ap (λ z. z.budget) paid in
    let spent = ap (λ z. z.spent) paid in
    omega (arith, whole, budget, spent, passes)

-- ---- the price of the preparation

product_is : (s d S D w : ℕ) → s ≡ min S (2 ^ 64 - 1) → d ≡ min D (2 ^ 32 - 1) → D < 2 ^ 32 → w ≡ capped (s * d) → w ≡ capped (S * D)
product_is s d S D w h k lt is =
    let same : d ≡ D = omega (arith, k, lt) in
    is ∙ ap (λ z. capped (s * z)) same ∙ ap capped (mul_comm s D) ∙ capped_product D S s h ∙ ap capped (mul_comm D S)

pub preparation_passes : (s d S D w n steps spent budget : ℕ) → s ≡ min S (2 ^ 64 - 1) → d ≡ min D (2 ^ 32 - 1) → D < 2 ^ 32 → w ≡ capped (s * d) → n ≡ capped (w + steps) → budget < spent + n → budget < spent + (S * D + steps)
preparation_passes s d S D w n steps spent budget h k lt is sum passes = let p = product_is s d S D w h k lt is in omega (arith, p, sum, passes)

pub preparation_is : (s d S D w n steps budget : ℕ) → s ≡ min S (2 ^ 64 - 1) → d ≡ min D (2 ^ 32 - 1) → D < 2 ^ 32 → w ≡ capped (s * d) → n ≡ capped (w + steps) → n < 2 ^ 32 → n ≡ S * D + steps
preparation_is s d S D w n steps budget h k lt is sum few = let p = product_is s d S D w h k lt is in omega (arith, p, sum, few)

pub preparation_pays : {A B : Type 0} (r : Result A B) (old new : Funds) (s d S D w n steps : ℕ) → s ≡ min S (2 ^ 64 - 1) → d ≡ min D (2 ^ 32 - 1) → D < 2 ^ 32 → w ≡ capped (s * d) → n ≡ capped (w + steps) → old.budget < 2 ^ 32
    → OnOk r (old.spent + n ≤ old.budget) → OnOk r (new ≡ record old { spent = old.spent + n }) → OnOk r (new ≡ record old { spent = old.spent + (S * D + steps) })
preparation_pays (Ok x) old new s d S D w n steps h k lt is sum few within pays =
    let small : n < 2 ^ 32 = omega (arith, few, within) in
    pays ∙ ap (with_more old) (preparation_is s d S D w n steps 0 h k lt is sum small)
preparation_pays (Err e) old new s d S D w n steps h k lt is sum few within pays = tt

pub ruleset preparing = (preparation_passes)
