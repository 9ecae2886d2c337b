-- The machine reads the text of each value.
use Rattle.std.proofs.Common.{ℕ, ◌≡◌, ◌≢◌, ◌≤◌, ◌<◌, ◌+◌, ◌^◌, ℤ, pos, ◌<ℤ◌, Bool, true, false, ◌&&◌, cond, List, [], ◌∷◌, ◌++◌, refl, sym, ap, subst, ◌∙◌, append_assoc, append-nil, arith, Option, Some, None, ◌⊎◌, inl, inr}
use Rattle.std.specs.Prelude.{nat_lt, nat_eq, int_lt, unsigned_abs}
use Rattle.std.specs.Ordering.{int_eq}
use Rattle.std.proofs.lemmas.Bool.{le-leb, lt-ltb}
use Rattle.std.proofs.lemmas.Bool.Decides.{nat_tests, Decides-int_eq}
use Rattle.std.proofs.lemmas.Int.{ints}
use Rattle.proof_tokens.specs.declared.tokens.Token.{Token}
use Rattle.proof_tokens.specs.declared.tokens.Token.TheVariants as t
use Rattle.linear_term.specs.Linear.{Linear, IsNormal, with_monomial}
use Rattle.proof_constraint.specs.declared.draft.Divisor.{Divisor}
use Rattle.clause_set.specs.declared.literal.Literal.{Literal}
use Rattle.clause_set.specs.declared.literal.Literal.TheVariants as l
use Rattle.proof_constraint.proofs.Normals.{normal_pairs}
use Rattle.proof_constraint.specs.declared.draft.Draft.{Draft}
use Rattle.proof_constraint.specs.Behind.{Behind}
use Rattle.proof_constraint.specs.Behind as b
use Rattle.proof_constraint.specs.State.{GivenState}
use Rattle.proof_constraint.specs.State as s
use Rattle.proof_constraint.specs.Move.{GivenMove}
use Rattle.proof_constraint.specs.Move as m
use Rattle.proof_constraint.specs.Text.{IsSaid, AreSaidLiterals, AreClauses, behind, sign_text, factor_text, pair_text, pairs_text, number_text, constant_text, sum_text, divisor_text, relation_text, zero_text, literal_text, clause_text, dnf_text}
use Rattle.proof_constraint.specs.Machine.{signed, opened, with_pair, divided, compared, named, counted, starred, ends_literal, ended, follows, word, line_end, blank, moves}
use Rattle.proof_constraint.proofs.Said.{above, ArePairs}
use Rattle.proof_constraint.proofs.Running.{Step, Outcome, read, run}
use Rattle.proof_constraint.proofs.Line.{as_step, line_moves, gives_read}
use Rattle.proof_constraint.proofs.Runner.{run_on, run_done}

abbrev Run : GivenState → List Token → Outcome (List (List Literal))
Run z xs = run line_moves z xs

step_on : (z y : GivenState) (x : Token) (xs : List Token) → moves z x ≡ m.On y → Run z (x ∷ xs) ≡ Run y xs
step_on z y x xs e = run_on line_moves z y x xs (ap as_step e)

step_done : (z : GivenState) (d : List (List Literal)) (x : Token) (xs : List Token) → moves z x ≡ m.Done d → Run z (x ∷ xs) ≡ read d xs
step_done z d x xs e = run_done line_moves z d x xs (ap as_step e)

-- the machine goes on from z as from y
same_move : (z y : GivenState) (x : Token) (xs : List Token) → moves z x ≡ moves y x → Run z (x ∷ xs) ≡ Run y (x ∷ xs)
unfolding run
same_move z y x xs e = ap (λ q. Rattle.proof_constraint.proofs.Running.after (λ w. run line_moves w xs) x xs (as_step q)) e

named_on : (g : Draft) (minus : Bool) (n x : ℕ) → g.least ≤ x → named g minus n x ≡ m.On (s.Behind (b.Sum (with_pair g minus n x)))
named_on g minus n x h = ap (λ q. cond q (m.On (s.Behind (b.Sum (with_pair g minus n x)))) m.Bad) (le-leb g.least x h)

counted_on : (g : Draft) (minus : Bool) (n : ℕ) → 0 < n → counted g minus n ≡ m.On (s.Behind (b.Number g minus n))
counted_on g minus n h = ap (λ q. cond q (m.On (s.Behind (b.Number g minus n))) m.Bad) (lt-ltb 0 n h)

both_hold : (a c : Bool) → a ≡ true → c ≡ true → a && c ≡ true
both_hold true c p q = q
both_hold false c p q = absurd (cc)

starred_on : (g : Draft) (minus : Bool) (n : ℕ) → 1 < n → g.least < 2 ^ 32 → starred g minus n ≡ m.On (s.Times g minus n)
starred_on g minus n h k = ap (λ q. cond q (m.On (s.Times g minus n)) m.Bad) (both_hold (nat_lt 1 n) (nat_lt g.least (2 ^ 32)) (lt-ltb 1 n h) (lt-ltb g.least (2 ^ 32) k))

-- a sign has come before the next part of the sum
record AfterSign (z : GivenState) (g : Draft) (minus : Bool) : Type 0 where
  name : (x : ℕ) → moves z (t.Name x) ≡ named g minus 1 x
  number : (n : ℕ) → 0 < n → moves z (t.Number n) ≡ m.On (s.Behind (b.Number g minus n))

-- from this state the sign of the next part leads there
data BeforeSign (g : Draft) : Behind → Bool → Type 0 where
  at_start : g.sum.pairs ≡ [] → BeforeSign g (b.Start g) true
  at_sum : BeforeSign g (b.Sum g) false

sign_runs : (g : Draft) (w : Behind) (first minus : Bool) → BeforeSign g w first → (z : GivenState) × AfterSign z g minus × ((xs : List Token) → Run (s.Behind w) (sign_text first minus ++ xs) ≡ Run z xs)
unfolding moves
sign_runs g w first true (at_start none) = (
  s.Minus g,
  record { name = λ x. refl; number = λ n h. counted_on g true n h },
  λ xs. step_on (s.Behind (b.Start g)) (s.Blank (b.Start g)) t.Blank (t.Minus ∷ xs) refl ∙ step_on (s.Blank (b.Start g)) (s.Minus g) t.Minus xs refl,
)
sign_runs g w first false (at_start none) =
    (s.Blank (b.Start g), record { name = λ x. refl; number = λ n h. refl }, λ xs. step_on (s.Behind (b.Start g)) (s.Blank (b.Start g)) t.Blank xs refl)
sign_runs g w first true at_sum = (
  s.Blank (b.Sign g true),
  record { name = λ x. refl; number = λ n h. counted_on g true n h },
  λ xs. step_on (s.Behind (b.Sum g)) (s.Blank (b.Sum g)) t.Blank (t.Minus ∷ t.Blank ∷ xs) refl ∙ step_on (s.Blank (b.Sum g)) (s.Behind (b.Sign g true)) t.Minus (t.Blank ∷ xs) refl ∙ step_on (s.Behind (b.Sign g true)) (s.Blank (b.Sign g true)) t.Blank xs refl,
)
sign_runs g w first false at_sum = (
  s.Blank (b.Sign g false),
  record { name = λ x. refl; number = λ n h. counted_on g false n h },
  λ xs. step_on (s.Behind (b.Sum g)) (s.Blank (b.Sum g)) t.Blank (t.Plus ∷ t.Blank ∷ xs) refl ∙ step_on (s.Blank (b.Sum g)) (s.Behind (b.Sign g false)) t.Plus (t.Blank ∷ xs) refl ∙ step_on (s.Behind (b.Sign g false)) (s.Blank (b.Sign g false)) t.Blank xs refl,
)

factor_one : (z : GivenState) (g : Draft) (minus : Bool) (n x : ℕ) (xs : List Token) → AfterSign z g minus → g.least ≤ x → n ≡ 1
    → Run z (t.Name x ∷ xs) ≡ Run (s.Behind (b.Sum (with_pair g minus n x))) xs
factor_one z g minus n x xs a low e = step_on z (s.Behind (b.Sum (with_pair g minus n x))) (t.Name x) xs (a.name x ∙ ap (λ k. named g minus k x) (sym e) ∙ named_on g minus n x low)

factor_more : (z : GivenState) (g : Draft) (minus : Bool) (n x : ℕ) (xs : List Token) → AfterSign z g minus → 1 < n → g.least ≤ x → x < 2 ^ 32
    → Run z (t.Number n ∷ t.Times ∷ t.Name x ∷ xs) ≡ Run (s.Behind (b.Sum (with_pair g minus n x))) xs
unfolding moves
factor_more z g minus n x xs a some low fits =
    step_on z (s.Behind (b.Number g minus n)) (t.Number n) (t.Times ∷ t.Name x ∷ xs) (a.number n (omega arith))
    ∙ step_on (s.Behind (b.Number g minus n)) (s.Times g minus n) t.Times (t.Name x ∷ xs) (starred_on g minus n some (omega arith))
    ∙ step_on (s.Times g minus n) (s.Behind (b.Sum (with_pair g minus n x))) (t.Name x) xs (named_on g minus n x low)

-- a name with its factor
factor_runs : (z : GivenState) (g : Draft) (minus : Bool) (n x : ℕ) (xs : List Token) → AfterSign z g minus → 0 < n → g.least ≤ x → x < 2 ^ 32
    → (q : Bool) → nat_eq n 1 ≡ q → Run z (factor_text n x ++ xs) ≡ Run (s.Behind (b.Sum (with_pair g minus n x))) xs
factor_runs z g minus n x xs a some low fits true e =
    let one : n ≡ 1 = grind (arith, nat_tests) in
    ap (λ q. Run z (cond q (t.Name x ∷ []) (t.Number n ∷ t.Times ∷ t.Name x ∷ []) ++ xs)) e ∙ factor_one z g minus n x xs a low one
factor_runs z g minus n x xs a some low fits false e =
    let not_one : n ≢ 1 = grind (arith, nat_tests) in let more : 1 < n = omega arith in
    ap (λ q. Run z (cond q (t.Name x ∷ []) (t.Number n ∷ t.Times ∷ t.Name x ∷ []) ++ xs)) e ∙ factor_more z g minus n x xs a more low fits

is_signed : (k : ℤ) → signed (int_lt k (pos 0)) (unsigned_abs k) ≡ k
is_signed k = grind (arith, ints)

some_size : (k : ℤ) → k ≢ pos 0 → 0 < unsigned_abs k
some_size k h = grind (arith, ints)

-- with one more pair
abbrev joined : Draft → ℕ → ℤ → Draft
joined g x k = record { clauses = g.clauses; literals = g.literals; divisor = g.divisor; sum = with_monomial g.sum x k; least = x + 1 }

pair_runs : (g : Draft) (w : Behind) (first : Bool) (x : ℕ) (k : ℤ) (xs : List Token) → BeforeSign g w first → g.least ≤ x → x < 2 ^ 32 → k ≢ pos 0
    → Run (s.Behind w) (pair_text first (x, k) ++ xs) ≡ Run (s.Behind (b.Sum (joined g x k))) xs
pair_runs g w first x k xs h low fits some =
    let q = sign_runs g w first (int_lt k (pos 0)) h in
    ap (Run (s.Behind w)) (append_assoc (sign_text first (int_lt k (pos 0))) (factor_text (unsigned_abs k) x) xs)
    ∙ q.2 (factor_text (unsigned_abs k) x ++ xs)
    ∙ factor_runs q.0 g (int_lt k (pos 0)) (unsigned_abs k) x xs q.1 (some_size k some) low fits (nat_eq (unsigned_abs k) 1) refl
    ∙ ap (λ z. Run (s.Behind (b.Sum (joined g x z))) xs) (is_signed k)

abbrev joined_all : Draft → List (ℕ × ℤ) → Draft
joined_all g ps = record { clauses = g.clauses; literals = g.literals; divisor = g.divisor; sum = record { pairs = g.sum.pairs ++ ps; constant = g.sum.constant }; least = above g.least ps }

pairs_run : (ps : List (ℕ × ℤ)) (g : Draft) (xs : List Token) → ArePairs g.least ps → Run (s.Behind (b.Sum g)) (pairs_text false ps ++ xs) ≡ Run (s.Behind (b.Sum (joined_all g ps))) xs
pairs_run [] g xs a = ap (λ q. Run (s.Behind (b.Sum (record { clauses = g.clauses; literals = g.literals; divisor = g.divisor; sum = record { pairs = q; constant = g.sum.constant }; least = g.least }))) xs) (sym (append-nil g.sum.pairs))
pairs_run (p ∷ ps) g xs a =
    ap (Run (s.Behind (b.Sum g))) (append_assoc (pair_text false p) (pairs_text false ps) xs)
    ∙ pair_runs g (b.Sum g) false p.0 p.1 (pairs_text false ps ++ xs) at_sum a.0 a.1 a.2
    ∙ pairs_run ps (joined g p.0 p.1) xs a.4
    ∙ ap (λ q. Run (s.Behind (b.Sum (record { clauses = g.clauses; literals = g.literals; divisor = g.divisor; sum = record { pairs = q; constant = g.sum.constant }; least = above (p.0 + 1) ps }))) xs) (append_assoc g.sum.pairs (p ∷ []) ps)

-- a whole sum: what comes next goes on by what was read
abbrev IsFollower : Token → Type 0
IsFollower x = (g : Draft) (minus : Bool) (n : ℕ) → (word (b.Sum g) x ≡ follows g (pos 0) x) × (word (b.Number g minus n) x ≡ follows g (signed minus n) x)

record EndsSum (w : Behind) (g : Draft) (k : ℤ) : Type 0 where
  gap : blank w ≡ m.On (s.Blank w)
  goes_on : (x : Token) → IsFollower x → word w x ≡ follows g k x
  ends : line_end w ≡ ends_literal ended g.divisor g k

-- a draft up to the least name, which nobody asks for after a sum
abbrev summed : List (List Literal) → List Literal → Option Divisor → List (ℕ × ℤ) → Draft
summed d c v ps = record { clauses = d; literals = c; divisor = v; sum = record { pairs = ps; constant = pos 0 }; least = above 0 ps }

number_by : (g : Draft) (minus : Bool) (n : ℕ) (k : ℤ) → signed minus n ≡ k → EndsSum (b.Number g minus n) g k
number_by g minus n k e = record { gap = refl; goes_on = λ x h. (h g minus n).1 ∙ ap (λ z. follows g z x) e; ends = ap (ends_literal ended g.divisor g) e }

constant_runs : (g : Draft) (w : Behind) (first : Bool) (k : ℤ) → BeforeSign g w first → k ≢ pos 0
    → (u : Behind) × EndsSum u g k × ((xs : List Token) → Run (s.Behind w) (number_text first k ++ xs) ≡ Run (s.Behind u) xs)
constant_runs g w first k h some =
    let minus = int_lt k (pos 0) in let n = unsigned_abs k in
    let q = sign_runs g w first minus h in (
      b.Number g minus n,
      number_by g minus n k (is_signed k),
      λ xs.
          ap (Run (s.Behind w)) (append_assoc (sign_text first minus) (t.Number n ∷ []) xs) ∙ q.2 (t.Number n ∷ xs)
          ∙ step_on q.0 (s.Behind (b.Number g minus n)) (t.Number n) xs (q.1.number n (some_size k some)),
    )

regrouped : (p q r z : List Token) → (p ++ q ++ r) ++ z ≡ p ++ (q ++ (r ++ z))
regrouped p q r z = simp append_assoc

-- the test for 0, by its value
zero_by : (k : ℤ) (q : Bool) → int_eq k (pos 0) ≡ q → ((int_eq k (pos 0) ≡ true) × (k ≡ pos 0)) ⊎ ((int_eq k (pos 0) ≡ false) × (k ≢ pos 0))
zero_by k true e = inl (e, (Decides-int_eq k (pos 0)).0 e)
zero_by k false e = inr (e, λ h. let r = (Decides-int_eq k (pos 0)).1 h in absurd (cc))

abbrev SumRuns : List (List Literal) → List Literal → Option Divisor → List (ℕ × ℤ) → ℤ → List Token → Behind → Type 0
SumRuns d c v ps k text w = (u : Behind) × EndsSum u (summed d c v ps) k × ((xs : List Token) → Run (s.Behind w) (text ++ xs) ≡ Run (s.Behind u) xs)

alone_runs : (d : List (List Literal)) (c : List Literal) (v : Option Divisor) (k : ℤ)
    → ((int_eq k (pos 0) ≡ true) × (k ≡ pos 0)) ⊎ ((int_eq k (pos 0) ≡ false) × (k ≢ pos 0)) → SumRuns d c v [] k (number_text true k) (b.Start (opened d c v))
unfolding moves
alone_runs d c v k (inr q) = constant_runs (opened d c v) (b.Start (opened d c v)) true k (at_start refl) q.1
alone_runs d c v k (inl q) = subst (λ z. SumRuns d c v [] z (number_text true z) (b.Start (opened d c v))) (sym q.1) (
  b.Number (opened d c v) false 0,
  number_by (opened d c v) false 0 (pos 0) refl,
  λ xs.
      step_on (s.Behind (b.Start (opened d c v))) (s.Blank (b.Start (opened d c v))) t.Blank (t.Number 0 ∷ xs) refl
      ∙ step_on (s.Blank (b.Start (opened d c v))) (s.Behind (b.Number (opened d c v) false 0)) (t.Number 0) xs refl,
)

behind_pairs : (g : Draft) (k : ℤ) (p : ℕ × ℤ) (ps : List (ℕ × ℤ)) → ((int_eq k (pos 0) ≡ true) × (k ≡ pos 0)) ⊎ ((int_eq k (pos 0) ≡ false) × (k ≢ pos 0))
    → (u : Behind) × EndsSum u g k × ((xs : List Token) → Run (s.Behind (b.Sum g)) (constant_text (p ∷ ps) k ++ xs) ≡ Run (s.Behind u) xs)
behind_pairs g k p ps (inl q) = (
  b.Sum g,
  record { gap = refl; goes_on = λ x h. (h g false 0).0 ∙ ap (λ z. follows g z x) (sym q.1); ends = ap (ends_literal ended g.divisor g) (sym q.1) },
  λ xs. ap (λ z. Run (s.Behind (b.Sum g)) (cond z [] (number_text false k) ++ xs)) q.0,
)
behind_pairs g k p ps (inr q) =
    let r = constant_runs g (b.Sum g) false k at_sum q.1 in
    (r.0, r.1, λ xs. ap (λ z. Run (s.Behind (b.Sum g)) (cond z [] (number_text false k) ++ xs)) q.0 ∙ r.2 xs)

sum_runs : (d : List (List Literal)) (c : List Literal) (v : Option Divisor) (ps : List (ℕ × ℤ)) (k : ℤ) → ArePairs 0 ps
    → SumRuns d c v ps k (pairs_text true ps ++ constant_text ps k) (b.Start (opened d c v))
sum_runs d c v [] k a = alone_runs d c v k (zero_by k (int_eq k (pos 0)) refl)
sum_runs d c v (p ∷ ps) k a =
    let g = summed d c v (p ∷ ps) in let r = behind_pairs g k p ps (zero_by k (int_eq k (pos 0)) refl) in (
      r.0,
      r.1,
      λ xs.
          ap (Run (s.Behind (b.Start (opened d c v)))) (regrouped (pair_text true p) (pairs_text false ps) (constant_text (p ∷ ps) k) xs)
          ∙ pair_runs (opened d c v) (b.Start (opened d c v)) true p.0 p.1 (pairs_text false ps ++ (constant_text (p ∷ ps) k ++ xs)) (at_start refl) a.0 a.1 a.2
          ∙ pairs_run ps (joined (opened d c v) p.0 p.1) (constant_text (p ∷ ps) k ++ xs) a.4
          ∙ r.2 xs,
    )

related : (bound : Bool) (w : Behind) {d : List (List Literal)} {c : List Literal} {ps : List (ℕ × ℤ)} {k : ℤ} → EndsSum w (summed d c None ps) k
    → moves (s.Blank w) (cond bound t.AtLeast t.Equal) ≡ m.On (s.Behind (b.Relation d c (record { pairs = ps; constant = k }) bound))
unfolding moves
related true w h = h.goes_on t.AtLeast (λ g minus n. (refl, refl))
related false w h = h.goes_on t.Equal (λ g minus n. (refl, refl))

-- what can come after a literal
data Follows : List Token → Type 0 where
  line_ends : (ys : List Token) → Follows (t.LineFeed ∷ ys)
  and_comes : (ys : List Token) → Follows (t.Blank ∷ t.And ∷ ys)
  or_comes : (ys : List Token) → Follows (t.Blank ∷ t.Or ∷ ys)

compared_run : (bound : Bool) (d : List (List Literal)) (c : List Literal) (sum : Linear) (xs : List Token) → IsNormal sum
    → Run (s.Behind (b.Start (opened d c None))) ((sum_text sum ++ relation_text bound ++ zero_text) ++ xs) ≡ Run (s.Behind (b.Clause d (c ++ compared bound sum ∷ []))) xs
unfolding moves
compared_run bound d c sum xs h =
    let r = sum_runs d c None sum.pairs sum.constant (normal_pairs sum h) in
    let first : Run (s.Behind (b.Start (opened d c None))) ((sum_text sum ++ relation_text bound ++ zero_text) ++ xs) ≡ Run (s.Behind r.0) (relation_text bound ++ (zero_text ++ xs)) =
    ap (Run (s.Behind (b.Start (opened d c None)))) (regrouped (sum_text sum) (relation_text bound) zero_text xs) ∙ r.2 (relation_text bound ++ (zero_text ++ xs)) in
    first ∙ step_on (s.Behind r.0) (s.Blank r.0) t.Blank (cond bound t.AtLeast t.Equal ∷ zero_text ++ xs) r.1.gap
    ∙ step_on (s.Blank r.0) (s.Behind (b.Relation d c sum bound)) (cond bound t.AtLeast t.Equal) (zero_text ++ xs) (related bound r.0 r.1)
    ∙ step_on (s.Behind (b.Relation d c sum bound)) (s.Blank (b.Relation d c sum bound)) t.Blank (t.Number 0 ∷ xs) refl
    ∙ step_on (s.Blank (b.Relation d c sum bound)) (s.Behind (b.Clause d (c ++ compared bound sum ∷ []))) (t.Number 0) xs refl

divided_ends : (w : Behind) (v : Divisor) (d : List (List Literal)) (c : List Literal) (sum : Linear) (xs : List Token) → EndsSum w (summed d c (Some v) sum.pairs) sum.constant → Follows xs
    → Run (s.Behind w) xs ≡ Run (s.Behind (b.Clause d (c ++ divided v sum ∷ []))) xs
unfolding moves
divided_ends w v d c sum xs h (line_ends ys) = same_move (s.Behind w) (s.Behind (b.Clause d (c ++ divided v sum ∷ []))) t.LineFeed ys h.ends
divided_ends w v d c sum xs h (and_comes ys) =
    let z = b.Clause d (c ++ divided v sum ∷ []) in
    step_on (s.Behind w) (s.Blank w) t.Blank (t.And ∷ ys) h.gap ∙ same_move (s.Blank w) (s.Blank z) t.And ys (h.goes_on t.And (λ g minus n. (refl, refl)))
    ∙ sym (step_on (s.Behind z) (s.Blank z) t.Blank (t.And ∷ ys) refl)
divided_ends w v d c sum xs h (or_comes ys) =
    let z = b.Clause d (c ++ divided v sum ∷ []) in
    step_on (s.Behind w) (s.Blank w) t.Blank (t.Or ∷ ys) h.gap ∙ same_move (s.Blank w) (s.Blank z) t.Or ys (h.goes_on t.Or (λ g minus n. (refl, refl)))
    ∙ sym (step_on (s.Behind z) (s.Blank z) t.Blank (t.Or ∷ ys) refl)

size_above : (n : ℤ) → pos 1 <ℤ n → 1 < unsigned_abs n
size_above n h = grind (arith, ints)

size_is : (n : ℤ) → pos 1 <ℤ n → pos (unsigned_abs n) ≡ n
size_is n h = grind (arith, ints)

divides_on : (negated : Bool) (d : List (List Literal)) (c : List Literal) (n : ℤ) → pos 1 <ℤ n
    → moves (s.Blank (b.Number (opened d c None) false (unsigned_abs n))) (cond negated t.NotDivides t.Divides) ≡ m.On (s.Behind (b.Start (opened d c (Some (record { size = n; negated = negated })))))
unfolding moves
divides_on true d c n h =
    ap (λ q. cond q (m.On (s.Behind (b.Start (opened d c (Some (record { size = pos (unsigned_abs n); negated = true })))))) m.Bad) (lt-ltb 1 (unsigned_abs n) (size_above n h))
    ∙ ap (λ k. m.On (s.Behind (b.Start (opened d c (Some (record { size = k; negated = true })))))) (size_is n h)
divides_on false d c n h =
    ap (λ q. cond q (m.On (s.Behind (b.Start (opened d c (Some (record { size = pos (unsigned_abs n); negated = false })))))) m.Bad) (lt-ltb 1 (unsigned_abs n) (size_above n h))
    ∙ ap (λ k. m.On (s.Behind (b.Start (opened d c (Some (record { size = k; negated = false })))))) (size_is n h)

divided_run : (v : Divisor) (d : List (List Literal)) (c : List Literal) (sum : Linear) (xs : List Token) → pos 1 <ℤ v.size → IsNormal sum → Follows xs
    → Run (s.Behind (b.Start (opened d c None))) ((divisor_text (Some v) ++ sum_text sum) ++ xs) ≡ Run (s.Behind (b.Clause d (c ++ divided v sum ∷ []))) xs
unfolding moves
divided_run v d c sum xs two h f =
    let g = opened d c None in let r = sum_runs d c (Some v) sum.pairs sum.constant (normal_pairs sum h) in
    let word = cond v.negated t.NotDivides t.Divides in
    step_on (s.Behind (b.Start g)) (s.Blank (b.Start g)) t.Blank (t.Number (unsigned_abs v.size) ∷ t.Blank ∷ word ∷ sum_text sum ++ xs) refl
    ∙ step_on (s.Blank (b.Start g)) (s.Behind (b.Number g false (unsigned_abs v.size))) (t.Number (unsigned_abs v.size)) (t.Blank ∷ word ∷ sum_text sum ++ xs) refl
    ∙ step_on (s.Behind (b.Number g false (unsigned_abs v.size))) (s.Blank (b.Number g false (unsigned_abs v.size))) t.Blank (word ∷ sum_text sum ++ xs) refl
    ∙ step_on (s.Blank (b.Number g false (unsigned_abs v.size))) (s.Behind (b.Start (opened d c (Some v)))) word (sum_text sum ++ xs) (divides_on v.negated d c v.size two)
    ∙ r.2 xs ∙ divided_ends r.0 v d c sum xs r.1 f

literal_runs : (y : Literal) (d : List (List Literal)) (c : List Literal) (xs : List Token) → IsSaid y → Follows xs
    → Run (s.Behind (b.Start (opened d c None))) (literal_text y ++ xs) ≡ Run (s.Behind (b.Clause d (c ++ y ∷ []))) xs
literal_runs (l.Eq sum) d c xs h f = compared_run false d c sum xs h
literal_runs (l.Geq sum) d c xs h f = compared_run true d c sum xs h
literal_runs (l.Div n sum) d c xs h f = divided_run (record { size = n; negated = false }) d c sum xs h.0.0 h.1 f
literal_runs (l.NDiv n sum) d c xs h f = divided_run (record { size = n; negated = true }) d c sum xs h.0.0 h.1 f

follows_more : (ms : List Literal) (xs : List Token) → Follows xs → Follows (behind literal_text t.And ms ++ xs)
follows_more [] xs f = f
follows_more (y ∷ ms) xs f = and_comes (literal_text y ++ behind literal_text t.And ms ++ xs)

literals_run : (ms : List Literal) (d : List (List Literal)) (x : Literal) (c : List Literal) (xs : List Token) → AreSaidLiterals ms → Follows xs
    → Run (s.Behind (b.Clause d (x ∷ c))) (behind literal_text t.And ms ++ xs) ≡ Run (s.Behind (b.Clause d (x ∷ c ++ ms))) xs
unfolding moves
literals_run [] d x c xs a f = ap (λ q. Run (s.Behind (b.Clause d (x ∷ q))) xs) (sym (append-nil c))
literals_run (y ∷ ms) d x c xs a f =
    let k = b.Clause d (x ∷ c) in let tail = behind literal_text t.And ms in
    step_on (s.Behind k) (s.Blank k) t.Blank (t.And ∷ (literal_text y ++ tail) ++ xs) refl
    ∙ step_on (s.Blank k) (s.Behind (b.Start (opened d (x ∷ c) None))) t.And ((literal_text y ++ tail) ++ xs) refl
    ∙ ap (Run (s.Behind (b.Start (opened d (x ∷ c) None)))) (append_assoc (literal_text y) tail xs)
    ∙ literal_runs y d (x ∷ c) (tail ++ xs) a.0 (follows_more ms xs f)
    ∙ literals_run ms d x (c ++ y ∷ []) xs a.1 f
    ∙ ap (λ q. Run (s.Behind (b.Clause d (x ∷ q))) xs) (append_assoc c (y ∷ []) ms)

clause_runs : (c : List Literal) (d : List (List Literal)) (xs : List Token) → AreSaidLiterals c → Follows xs
    → Run (s.Behind (b.Start (opened d [] None))) (clause_text c ++ xs) ≡ Run (s.Behind (b.Clause d c)) xs
unfolding moves
clause_runs [] d xs a f = step_on (s.Behind (b.Start (opened d [] None))) (s.Blank (b.Start (opened d [] None))) t.Blank (t.True ∷ xs) refl ∙ step_on (s.Blank (b.Start (opened d [] None))) (s.Behind (b.Clause d [])) t.True xs refl
clause_runs (y ∷ ms) d xs a f =
    ap (Run (s.Behind (b.Start (opened d [] None)))) (append_assoc (literal_text y) (behind literal_text t.And ms) xs)
    ∙ literal_runs y d [] (behind literal_text t.And ms ++ xs) a.0 (follows_more ms xs f) ∙ literals_run ms d y [] xs a.1 f

clauses_follow : (cs : List (List Literal)) (rest : List Token) → Follows (behind clause_text t.Or cs ++ t.LineFeed ∷ rest)
clauses_follow [] rest = line_ends rest
clauses_follow (e ∷ cs) rest = or_comes (clause_text e ++ behind clause_text t.Or cs ++ t.LineFeed ∷ rest)

clauses_run : (cs : List (List Literal)) (d : List (List Literal)) (c : List Literal) (rest : List Token) → AreClauses cs
    → Run (s.Behind (b.Clause d c)) (behind clause_text t.Or cs ++ t.LineFeed ∷ rest) ≡ read (d ++ c ∷ cs) rest
unfolding moves
clauses_run [] d c rest a = step_done (s.Behind (b.Clause d c)) (d ++ c ∷ []) t.LineFeed rest refl
clauses_run (e ∷ cs) d c rest a =
    let k = b.Clause d c in let tail = behind clause_text t.Or cs in let z = t.LineFeed ∷ rest in let g = opened (d ++ c ∷ []) [] None in
    step_on (s.Behind k) (s.Blank k) t.Blank (t.Or ∷ (clause_text e ++ tail) ++ z) refl
    ∙ step_on (s.Blank k) (s.Behind (b.Start g)) t.Or ((clause_text e ++ tail) ++ z) refl
    ∙ ap (Run (s.Behind (b.Start g))) (append_assoc (clause_text e) tail z)
    ∙ clause_runs e (d ++ c ∷ []) (tail ++ z) a.0 (clauses_follow cs rest)
    ∙ clauses_run cs (d ++ c ∷ []) e rest a.1
    ∙ ap (λ q. read q rest) (append_assoc d (c ∷ []) (e ∷ cs))

-- the machine reads each line
pub complete : (d : List (List Literal)) (rest : List Token) → AreClauses d → Run gives_read ((dnf_text d ++ t.LineFeed ∷ []) ++ rest) ≡ read d rest
unfolding moves
complete [] rest a =
    let g = opened [] [] None in
    step_on (s.Behind (b.Start g)) (s.Blank (b.Start g)) t.Blank (t.False ∷ t.LineFeed ∷ rest) refl ∙ step_on (s.Blank (b.Start g)) (s.Behind b.False) t.False (t.LineFeed ∷ rest) refl
    ∙ step_done (s.Behind b.False) [] t.LineFeed rest refl
complete (c ∷ cs) rest a =
    ap (Run gives_read) (regrouped (clause_text c) (behind clause_text t.Or cs) (t.LineFeed ∷ []) rest)
    ∙ clause_runs c [] (behind clause_text t.Or cs ++ t.LineFeed ∷ rest) a.0 (clauses_follow cs rest) ∙ clauses_run cs [] c rest a.1
