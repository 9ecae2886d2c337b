-- The replay of a log: its loop, and its calls joined.
use Rattle.std.proofs.Common.{◌≡◌, ◌≢◌, ◌<◌, ◌≤◌, ◌+◌, ℕ, zero, suc, Bool, true, false, cond, List, [], ◌∷◌, ◌++◌, length, map, take, drop, get_or, Option, Some, None, Result, Ok, Err, IsErrAnd, arith, refl, sym, ◌∙◌, ap, subst}
use Rattle.std.proofs.lemmas.Bool.{cond-true}
use Rattle.std.proofs.lemmas.List.{take_more, map-append}
use Rattle.std.specs.List.{list_any}
use Rattle.base_budget.specs.declared.fault.StepFault.{StepFault}
use Rattle.base_budget.specs.declared.fault.StepFault.TheVariants.{Memory}
use Rattle.base_budget.specs.declared.log.Entry.{Entry}
use Rattle.base_budget.specs.Trace.{Funds, entry, At, at, Traced, just, next, pay, note}
use Rattle.base_budget.specs.Work.{ChargedAt, Charged}
use Rattle.base_budget.proofs.Charging.{drop-item, drop_all, then_ok, then_fault, then_just, no_memory, unnoted, after_note}
use Rattle.base_budget.proofs.Tracing.{next-assoc, next-same, next-just}
use Rattle.clause_set.specs.declared.literal.Literal.{Literal}
use Rattle.clause_set.specs.Names.{has}
use Rattle.clause_set.specs.Rules.{applies, rule}
use Rattle.elim_laws.specs.Logs.{Rest, rest, Reader, replayed, up_to, turn_of}
use Rattle.elim_check.specs.declared.fault.Stop.{Stop}
use Rattle.elim_check.specs.declared.fault.Stop.TheVariants as stop
use Rattle.elim_check.specs.Reading.{noted, outcome, with_rest, ReadAt}
use Rattle.elim_check.specs.Steps.{passed, is_turn, turn}
use Rattle.elim_check.proofs.Chained.{Reads}

-- ---- the clauses without the name
pub passed_stop : (x : ℕ) (cs out : List (List Literal)) → is_turn x cs ≡ true → passed x cs out ≡ just (cs, out)
passed_stop x [] out h = refl
passed_stop x (c ∷ cs) out h = cond-true _ _ _ h

pub passed_on : (x : ℕ) (todo cs out : List (List Literal)) (c : List Literal) → todo ≡ c ∷ cs → list_any (has x) c ≡ false → passed x todo out ≡ next (pay 1) (λ _. passed x cs (out ++ c ∷ []))
passed_on x todo cs out c first without = ap (λ z. passed x z out) first ∙ ap (λ z. cond z (just (c ∷ cs, out)) (next (pay 1) (λ _. passed x cs (out ++ c ∷ [])))) without

-- what comes where the clauses before the turn are passed
abbrev pub then_turn : List Entry → (List Literal → List (List Literal) → List (List Literal) → Traced (Option (Rest (List (List Literal)))))
    → List (List Literal) → List (List Literal) → Traced (Option (Rest (List (List Literal))))
then_turn ls t [] out = just (Some (rest out ls))
then_turn ls t (c ∷ cs) out = t c cs out

up_to-passed : (x : ℕ) (ls : List Entry) (t : List Literal → List (List Literal) → List (List Literal) → Traced (Option (Rest (List (List Literal))))) (cs out : List (List Literal))
    → up_to x ls t cs out ≡ next (passed x cs out) (λ p. then_turn ls t p.0 p.1)
up_to-passed x ls t [] out = sym (next-just ([], out) (λ p. then_turn ls t p.0 p.1))
up_to-passed x ls t (c ∷ cs) out = by (list_any (has x) c) (up_to-passed x ls t cs (out ++ c ∷ []))
  where
    by : (b : Bool) → up_to x ls t cs (out ++ c ∷ []) ≡ next (passed x cs (out ++ c ∷ [])) (λ p. then_turn ls t p.0 p.1)
        → cond b (t c cs out) (next (pay 1) (λ _. up_to x ls t cs (out ++ c ∷ []))) ≡ next (cond b (just (c ∷ cs, out)) (next (pay 1) (λ _. passed x cs (out ++ c ∷ [])))) (λ p. then_turn ls t p.0 p.1)
    by true h = sym (next-just (c ∷ cs, out) (λ p. then_turn ls t p.0 p.1))
    by false h = next-same (pay 1) _ _ h ∙ sym (next-assoc (pay 1) (λ _. passed x cs (out ++ c ∷ [])) (λ p. then_turn ls t p.0 p.1))

abbrev pub turn_by : ℕ → List Entry → List Literal → List (List Literal) → List (List Literal) → Traced (Option (Rest (List (List Literal))))
turn_by x [] c cs out = just None
turn_by x (e ∷ ls) c cs out = turn_of x e c (λ rs. replayed x ls (rs ++ cs) out)

replayed-passed : (x : ℕ) (ls : List Entry) (cs out : List (List Literal)) → replayed x ls cs out ≡ next (passed x cs out) (λ p. then_turn ls (turn_by x ls) p.0 p.1)
replayed-passed x [] cs out = up_to-passed x [] (turn_by x []) cs out
replayed-passed x (e ∷ ls) cs out = up_to-passed x (e ∷ ls) (turn_by x (e ∷ ls)) cs out

-- ---- the turn of the first clause
abbrev pub after_turn : ℕ → Entry → List Entry → List (List Literal) → Option (List (List Literal)) → Traced (Option (Rest (List (List Literal))))
after_turn x e ls out None = just None
after_turn x e ls out (Some todo) = next (note (entry e)) (λ _. replayed x ls todo out)

turned : (x : ℕ) (e : Entry) (ls : List Entry) (cs out : List (List Literal)) → cs ≢ [] → then_turn (e ∷ ls) (turn_by x (e ∷ ls)) cs out ≡ next (turn x e cs) (after_turn x e ls out)
turned x e ls [] out h = absurd (h refl)
turned x e ls (c ∷ cs) out h = by (applies x c e)
  where
    by : (b : Bool) → cond b (next (rule x c e) (λ rs. next (note (entry e)) (λ _. replayed x ls (rs ++ cs) out))) (just None)
        ≡ next (cond b (next (rule x c e) (λ rs. just (Some (rs ++ cs)))) (just None)) (after_turn x e ls out)
    by true = sym (next-assoc (rule x c e) (λ rs. just (Some (rs ++ cs))) (after_turn x e ls out) ∙ next-same (rule x c e) _ _ (next-just (Some ((rule x c e).value ++ cs)) (after_turn x e ls out)))
    by false = sym (next-just None (after_turn x e ls out))

pub turn_none : (x : ℕ) (e : Entry) (todo : List (List Literal)) {a : At} → todo ≡ [] → ChargedAt (turn x e todo) a (Ok None) a
turn_none x e todo {a} none = subst (λ z. ChargedAt (turn x e z) a (Ok None) a) (sym none) (then_just None None refl)

-- an entry does not apply, or its rule is performed
module _ (x : ℕ) (e : Entry) (todo cs : List (List Literal)) (c : List Literal) (first : todo ≡ c ∷ cs) where
  turn_is : (b : Bool) → applies x c e ≡ b → turn x e todo ≡ cond b (next (rule x c e) (λ rs. just (Some (rs ++ cs)))) (just None)
  turn_is b is = ap (turn x e) first ∙ ap (λ z. cond z (next (rule x c e) (λ rs. just (Some (rs ++ cs)))) (just None)) is

  pub turn_refused : {a : At} → applies x c e ≡ false → ChargedAt (turn x e todo) a (Ok None) a
  turn_refused {a} is = subst (λ w. ChargedAt w a (Ok None) a) (sym (turn_is false is)) (then_just None None refl)

  pub turn_stopped : {f g : Funds} {s : StepFault} (r : Result (List (List Literal)) Stop) → applies x c e ≡ true → Charged (rule x c e) f (Err s) g → IsErrAnd r (λ z. z ≡ stop.Step s)
      → ChargedAt (turn x e todo) (at f []) (outcome r) (at g [])
  turn_stopped (Ok v) is did wrong = absurd wrong
  turn_stopped {f} {g} {s} (Err z) is did wrong =
      subst (λ y. ChargedAt (turn x e todo) (at f []) (outcome (Err y)) (at g [])) (sym wrong)
      (subst (λ w. ChargedAt w (at f []) (Err s) (at g [])) (sym (turn_is true is)) (then_fault (rule x c e) _ did))

  pub turn_memory : {f g : Funds} {rs : List (List Literal)} (r : Result (List (List Literal)) Stop) → applies x c e ≡ true → Charged (rule x c e) f (Ok rs) g → IsErrAnd r (λ z. z ≡ stop.Step Memory)
      → ChargedAt (turn x e todo) (at f []) (outcome r) (at g [])
  turn_memory (Ok v) is did wrong = absurd wrong
  turn_memory {f} {g} (Err z) is did wrong =
      subst (λ y. ChargedAt (turn x e todo) (at f []) (outcome (Err y)) (at g [])) (sym wrong)
      (subst (λ w. ChargedAt w (at f []) (Err Memory) (at g [])) (sym (turn_is true is)) (then_ok (rule x c e) _ did (no_memory (Err Memory) refl)))

  pub turn_done : {f g : Funds} {rs all : List (List Literal)} → applies x c e ≡ true → Charged (rule x c e) f (Ok rs) g → all ≡ rs ++ cs
      → ChargedAt (turn x e todo) (at f []) (Ok (Some all)) (at g [])
  turn_done {f} {g} {rs} {all} is did same =
      subst (λ w. ChargedAt w (at f []) (Ok (Some all)) (at g [])) (sym (turn_is true is)) (then_ok (rule x c e) _ did (then_just (Some (rs ++ cs)) (Some all) (ap Some same)))

-- ---- the loop
-- what is left of a replay
abbrev pub onward : ℕ → List (List Literal) → List (List Literal) → Reader (List (List Literal))
onward x todo out log = replayed x log todo out

noted-more : (log : List Entry) (j : ℕ) (e : Entry) → j < length log → e ≡ get_or log j e → noted log j ++ entry e ∷ [] ≡ noted log (j + 1)
noted-more log j e lt is = sym (ap (map entry) (take_more log j e lt) ∙ map-append entry (take j log) (get_or log j e ∷ []) ∙ ap (λ z. noted log j ++ entry z ∷ []) (sym is))

-- an item that is there does not depend on what stands for one that is not
pub get_or_same : {X : Type 0} (xs : List X) (i : ℕ) (d e : X) → i < length xs → get_or xs i d ≡ get_or xs i e
get_or_same [] i d e h = absurd (omega (arith, h))
get_or_same (x ∷ xs) zero d e h = refl
get_or_same (x ∷ xs) (suc i) d e h = get_or_same xs i d e (omega arith)

module _ (x : ℕ) (todo out : List (List Literal)) {work : Reader (List (List Literal))} {log : List Entry} {i j : ℕ} {f g : Funds} where
  pub pass_failed : {h : Funds} {e : StepFault} (r : Result (List (List Literal)) Stop) → Reads (onward x todo out) log j g work i f → Charged (passed x todo out) g (Err e) h → IsErrAnd r (λ z. z ≡ stop.Step e)
      → ReadAt work log i f r j h
  pass_failed (Ok v) inv did is = absurd is
  pass_failed {h} {e} (Err z) inv did is = subst (λ y. ReadAt work log i f (Err y) j h) (sym is) (inv.ends (Err (stop.Step e)) j h (record {
    did = subst (λ w. ChargedAt w (at g (noted log j)) (Err e) (at h (noted log j))) (sym (replayed-passed x (drop j log) todo out)) (then_fault (passed x todo out) _ (unnoted (noted log j) did));
    within = inv.within;
  }))

  -- after the clauses that are passed
  passed_then : {h k : Funds} {l : ℕ} {r : Result (List (List Literal)) Stop} (p : List (List Literal) × List (List Literal)) → Reads (onward x todo out) log j g work i f → Charged (passed x todo out) g (Ok p) h
      → ChargedAt (then_turn (drop j log) (turn_by x (drop j log)) (p.0) (p.1)) (at h (noted log j)) (with_rest (drop l log) r) (at k (noted log l)) → l ≤ length log → ReadAt work log i f r l k
  passed_then {h} {k} {l} {r} p inv did more within = inv.ends r l k (record {
    did = subst (λ w. ChargedAt w (at g (noted log j)) (with_rest (drop l log) r) (at k (noted log l))) (sym (replayed-passed x (drop j log) todo out))
        (then_ok (passed x todo out) (λ q. then_turn (drop j log) (turn_by x (drop j log)) (q.0) (q.1)) (unnoted (noted log j) did) more);
    within = within;
  })

  pub none_left : {h : Funds} (p : List (List Literal) × List (List Literal)) (r : List (List Literal)) → Reads (onward x todo out) log j g work i f → Charged (passed x todo out) g (Ok p) h → p.0 ≡ [] → r ≡ p.1
      → ReadAt work log i f (Ok r) j h
  none_left {h} p r inv did is same =
      passed_then p inv did
      (subst (λ z. ChargedAt (then_turn (drop j log) (turn_by x (drop j log)) z (p.1)) (at h (noted log j)) (Ok (Some (rest r (drop j log)))) (at h (noted log j))) (sym is)
      (then_just (Some (rest (p.1) (drop j log))) (Some (rest r (drop j log))) (ap (λ z. Some (rest z (drop j log))) same))) inv.within

  -- no entry is left for the turn
  pub no_entry : {h : Funds} (p : List (List Literal) × List (List Literal)) → Reads (onward x todo out) log j g work i f → Charged (passed x todo out) g (Ok p) h → p.0 ≢ [] → length log ≤ j
      → ReadAt work log i f (Err stop.Entry) j h
  no_entry {h} p inv did some ends = passed_then p inv did (by (drop j log) (p.0) (drop_all log j ends) some) inv.within
    where
      by : (ks : List Entry) (cs : List (List Literal)) → ks ≡ [] → cs ≢ [] → ChargedAt (then_turn ks (turn_by x ks) cs (p.1)) (at h (noted log j)) (Ok None) (at h (noted log j))
      by [] [] is some = absurd (some refl)
      by [] (c ∷ cs) is some = then_just None None refl
      by (k ∷ ks) cs is some = absurd cc

  -- the turn, with what comes then
  turn_then : {h k : Funds} {l : ℕ} {r : Result (List (List Literal)) Stop} (p : List (List Literal) × List (List Literal)) (e : Entry) → Reads (onward x todo out) log j g work i f → Charged (passed x todo out) g (Ok p) h
      → p.0 ≢ [] → j < length log → e ≡ get_or log j e → ChargedAt (next (turn x e (p.0)) (after_turn x e (drop (j + 1) log) (p.1))) (at h (noted log j)) (with_rest (drop l log) r) (at k (noted log l)) → l ≤ length log
      → ReadAt work log i f r l k
  turn_then {h} {k} {l} {r} p e inv did some lt is more within =
      passed_then p inv did
      (subst (λ ks. ChargedAt (then_turn ks (turn_by x ks) (p.0) (p.1)) (at h (noted log j)) (with_rest (drop l log) r) (at k (noted log l))) (sym (drop-item log j e lt is))
      (subst (λ w. ChargedAt w (at h (noted log j)) (with_rest (drop l log) r) (at k (noted log l))) (sym (turned x e (drop (j + 1) log) (p.0) (p.1) some)) more)) within

  pub turn_failed : {h k : Funds} (s : Stop) (p : List (List Literal) × List (List Literal)) (e : Entry) (r : Result (List (List Literal)) Stop) → Reads (onward x todo out) log j g work i f → Charged (passed x todo out) g (Ok p) h
      → p.0 ≢ [] → j < length log → e ≡ get_or log j e → ChargedAt (turn x e (p.0)) (at h []) (outcome (Err s)) (at k []) → IsErrAnd r (λ z. z ≡ s) → ReadAt work log i f r j k
  turn_failed s p e (Ok v) inv did some lt is taken wrong = absurd wrong
  turn_failed {h} {k} s p e (Err z) inv did some lt is taken wrong =
      subst (λ y. ReadAt work log i f (Err y) j k) (sym wrong) (turn_then {r = Err s} p e inv did some lt is (by s taken) inv.within)
    where
      by : (s : Stop) → ChargedAt (turn x e (p.0)) (at h []) (outcome (Err s)) (at k [])
          → ChargedAt (next (turn x e (p.0)) (after_turn x e (drop (j + 1) log) (p.1))) (at h (noted log j)) (with_rest {A = List (List Literal)} (drop j log) (Err s)) (at k (noted log j))
      by stop.Entry did = then_ok (turn x e (p.0)) (after_turn x e (drop (j + 1) log) (p.1)) (unnoted (noted log j) did) (then_just None None refl)
      by (stop.Step t) did = then_fault (turn x e (p.0)) _ (unnoted (noted log j) did)

  pub turn_some : {h k : Funds} (p : List (List Literal) × List (List Literal)) (e : Entry) (rs : List (List Literal)) → Reads (onward x todo out) log j g work i f → Charged (passed x todo out) g (Ok p) h
      → p.0 ≢ [] → j < length log → e ≡ get_or log j e → ChargedAt (turn x e (p.0)) (at h []) (Ok (Some rs)) (at k []) → Reads (onward x rs (p.1)) log (j + 1) k work i f
  turn_some {h} {k} p e rs inv did some lt is taken = record {
    ends = λ r l q more. turn_then {r = r} p e inv did some lt is
        (then_ok (turn x e (p.0)) (after_turn x e (drop (j + 1) log) (p.1)) (unnoted (noted log j) taken)
        (after_note (entry e) (λ _. replayed x (drop (j + 1) log) rs (p.1))
        (subst (λ ms. ChargedAt (replayed x (drop (j + 1) log) rs (p.1)) (at k ms) (with_rest (drop l log) r) (at q (noted log l))) (sym (noted-more log j e lt is)) more.did))) more.within;
    within = omega arith;
  }
