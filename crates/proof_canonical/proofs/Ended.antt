-- The round that a run ends with: its tree, and what that and its solution charge.
use Rattle.std.proofs.Common.{◌≡◌, ℕ, suc, zero, ◌+◌, ◌-◌, ◌≤◌, ℤ, Bool, true, false, cond, nat_le, ◌&&◌, List, [], ◌∷◌, ◌++◌, refl, sym, ◌∙◌, ap, subst, arith, Option, Some, None, inl, inr, ◌⊎◌}
use Rattle.base_budget.specs.declared.log.Entry.{Entry}
use Rattle.base_budget.specs.Trace.{Event, Funds, charge, raw, mark, after_charge, after_mark, capped, At, at, End, done, refused, out_of_range, cut, just, step, next}
use Rattle.linear_term.specs.Range.{all_stay}
use Rattle.base_budget.specs.Runs.{total, raw_stay}
use Rattle.std.proofs.lemmas.Bool.Decides.{nat_tests}
use Rattle.formula.specs.Form.{Form, is_pure}
use Rattle.elim_laws.specs.Logs.{entries_of}
use Rattle.elim_laws.specs.Whole.{names_out}
use Rattle.solve_laws.specs.Solutions.{solving}
use Rattle.solve_laws.proofs.Parts.{both_true, stay_parts}
use Rattle.base_limits.specs.Limits.{branch_limit}
use Rattle.proof_tree.specs.Proof.{Proof, given}
use Rattle.proof_tree.specs.Proves.{start}
use Rattle.proof_tree.specs.Walk.{in_new_log}
use Rattle.search.specs.Building.{built}
use Rattle.base_budget.specs.Ending.{ended, ending, ends_with}
use Rattle.search.specs.Run.{RunAnswer, canonical_run, concluded, has_open_leaf, invalid, judged, one_round, or_further, rounds, saturated, too_long, valid}
use Rattle.search.proofs.Endings.{total-append}
use Rattle.search.proofs.Totals.{total-next, total-in_new_log}

-- ---- parts of events
-- the first events of others: they charge no more, and where all raw numbers stay in the range, theirs do
pub record IsPart (es all : List Event) : Type 0 where
  pub charges : total es ≤ total all
  pub stay : raw_stay all ≡ true → raw_stay es ≡ true

whole_part : (es : List Event) → IsPart es es
whole_part es = record { charges = omega arith; stay = λ h. h }

first_part : (xs ys : List Event) → IsPart xs (xs ++ ys)
first_part xs ys = record { charges = (let t = total-append xs ys in omega (arith, t)); stay = λ h. (stay_parts xs ys h).0 }

later_part : (xs ys es : List Event) → IsPart es ys → IsPart es (xs ++ ys)
later_part xs ys es p = record { charges = (let t = total-append xs ys in let c = p.charges in omega (arith, t, c)); stay = λ h. p.stay (stay_parts xs ys h).1 }

-- ---- rounds
-- a round of these events that answers a
record IsRound (f : Form) (n : ℕ) (a : RunAnswer) (all : List Event) : Type 0 where
  limit : ℕ
  answers : (one_round f n limit).value ≡ Some a
  part : IsPart (one_round f n limit).events all

round_found : (f : Form) (n m k : ℕ) (a : RunAnswer) → (rounds f n m k).value ≡ a → (a ≡ too_long → ⊥) → IsRound f n a (rounds f n m k).events
unfolding next just
round_found f n zero k a e not_long = absurd (not_long (sym e))
round_found f n (suc m) k a e not_long = by (one_round f n k).value refl e (λ q. round_found f n m (suc k) a q not_long)
  where
    by : (o : Option RunAnswer) → (one_round f n k).value ≡ o → (or_further (rounds f n m (suc k)) o).value ≡ a → ((rounds f n m (suc k)).value ≡ a → IsRound f n a (rounds f n m (suc k)).events)
        → IsRound f n a ((one_round f n k).events ++ (or_further (rounds f n m (suc k)) o).events)
    by (Some b) is q ih = record { limit = k; answers = is ∙ ap (λ z. Some z) q; part = first_part (one_round f n k).events [] }
    by None is q ih =
        let r = ih q in
        record { limit = r.limit; answers = r.answers; part = later_part (one_round f n k).events (rounds f n m (suc k)).events (one_round f n r.limit).events r.part }

ended_value : {A : Type 0} (v a : A) (e : End) (b : At) → ended v e ≡ ends_with a b → (v ≡ a) × (e ≡ done b)
ended_value v a (done c) b h = (cc, cc)
ended_value v a (refused c) b h = absurd (cc)
ended_value v a (out_of_range ps c) b h = absurd (cc)

-- ---- what has passed
-- the raw numbers of the events stay in the range, and they charge no more than the budget leaves
record Passes (es : List Event) (a : At) : Type 0 where
  stay : raw_stay es ≡ true
  within : (total es ≡ 0) ⊎ ((a.funds).spent + total es ≤ (a.funds).budget)

passes : (es : List Event) (a b : At) → cut es a ≡ done b → Passes es a
unfolding cut
passes [] a b e = record { stay = refl; within = inl refl }
passes (charge n ∷ es) a b e = by (nat_le ((a.funds).spent + capped n) (a.funds).budget) refl e (λ q. passes es (after_charge n a) b q)
  where
    within : (t : ℕ) → (a.funds).spent + capped n ≤ (a.funds).budget → (t ≡ 0) ⊎ ((a.funds).spent + capped n + t ≤ (a.funds).budget) → (a.funds).spent + (capped n + t) ≤ (a.funds).budget
    within t h (inl none) = omega (arith, h, none)
    within t h (inr more) = omega (arith, more)

    by : (t : Bool) → nat_le ((a.funds).spent + capped n) (a.funds).budget ≡ t → cond t (cut es (after_charge n a)) (refused a) ≡ done b → (cut es (after_charge n a) ≡ done b → Passes es (after_charge n a)) → Passes (charge n ∷ es) a
    by true is q ih = let p = ih q in record { stay = p.stay; within = inr (within (total es) (grind (arith, nat_tests)) p.within) }
    by false is q ih = absurd (cc)
passes (raw ps ∷ es) a b e = by (all_stay ps) refl e (λ q. passes es a b q)
  where
    by : (t : Bool) → all_stay ps ≡ t → cond t (cut es a) (out_of_range ps a) ≡ done b → (cut es a ≡ done b → Passes es a) → Passes (raw ps ∷ es) a
    by true is q ih = let p = ih q in record { stay = ap (λ z. z && raw_stay es) is ∙ p.stay; within = p.within }
    by false is q ih = absurd (cc)
passes (mark m ∷ es) a b e = let p = passes es (after_mark m a) b e in record { stay = p.stay; within = p.within }

charges_within : (t spent budget : ℕ) → (t ≡ 0) ⊎ (spent + t ≤ budget) → t ≤ budget - spent
charges_within t spent budget (inl none) = omega (arith, none)
charges_within t spent budget (inr more) = omega (arith, more)

-- a round of the run that answers what the run ends with, within what is left of the budget
record IsLast (f : Form) (n left : ℕ) (a : RunAnswer) : Type 0 where
  limit : ℕ
  answers : (one_round f n limit).value ≡ Some a
  charges : total (one_round f n limit).events ≤ left
  stay : raw_stay (one_round f n limit).events ≡ true

last_found : (f : Form) (n : ℕ) (g : Funds) (a : RunAnswer) (b : At) → ending (canonical_run f n g.budget) (at g []) ≡ ends_with a b → (a ≡ too_long → ⊥) → IsLast f n (g.budget - g.spent) a
unfolding canonical_run
last_found f n g a b e not_long =
    let w = canonical_run f n g.budget in
    let v = ended_value w.value a (cut w.events (at g [])) b e in
    let r = passes w.events (at g []) b v.1 in
    let k = round_found f n (suc g.budget) 0 a v.0 not_long in
    let within = charges_within (total w.events) g.spent g.budget r.within in
    let less = (k.part).charges in
    record { limit = k.limit; answers = k.answers; charges = omega (arith, within, less); stay = (k.part).stay r.stay }

-- ---- the tree of a round
-- the round with the limit k has the tree x, with this solution
pub record HasTree (f : Form) (n k : ℕ) (x : Proof) (a : Option (List ℤ)) : Type 0 where
  pub tree : (built k branch_limit 0 (start f n)).value ≡ Some x
  pub solution : (solving n (given x)).value ≡ a
  pub charges : total (one_round f n k).events ≡ total (built k branch_limit 0 (start f n)).events + total (solving n (given x)).events
  pub stay : raw_stay (one_round f n k).events ≡ true → raw_stay (solving n (given x)).events ≡ true
  pub tree_stay : raw_stay (one_round f n k).events ≡ true → raw_stay (built k branch_limit 0 (start f n)).events ≡ true

judged_charges : (f : Form) (n : ℕ) (x : Proof) → total (judged f n (Some x)).events ≡ total (solving n (given x)).events
unfolding just
judged_charges f n x =
    let one = total-next (in_new_log (solving n (given x))) (λ a. just (concluded f n x a)) in
    let two = total-in_new_log (solving n (given x)) in
    omega (arith, one, two)

judged_stay : (f : Form) (n : ℕ) (x : Proof) → raw_stay (judged f n (Some x)).events ≡ true → raw_stay (solving n (given x)).events ≡ true
unfolding next just step
judged_stay f n x h =
    let w = (solving n (given x)).events in
    (stay_parts w _ (stay_parts (w ++ _) [] h).0).0

-- the tree of a round that answers, and how it is concluded
record Concludes (f : Form) (n k : ℕ) (b : RunAnswer) : Type 0 where
  proof : Proof
  solution : Option (List ℤ)
  tree : HasTree f n k proof solution
  is : concluded f n proof solution ≡ Some b

round_concludes : (f : Form) (n k : ℕ) (b : RunAnswer) → (one_round f n k).value ≡ Some b → (b ≡ too_long → ⊥) → Concludes f n k b
unfolding next just step
round_concludes f n k b e not_long = by (built k branch_limit 0 (start f n)).value refl e
  where
    by : (o : Option Proof) → (built k branch_limit 0 (start f n)).value ≡ o → (judged f n o).value ≡ Some b → Concludes f n k b
    by None is q = absurd (not_long (let z : too_long ≡ b = cc in sym z))
    by (Some x) is q =
        let es = (built k branch_limit 0 (start f n)).events in
        record {
          proof = x;
          solution = (solving n (given x)).value;
          tree = record {
            tree = is;
            solution = refl;
            charges =
                let t = total-append es (judged f n (built k branch_limit 0 (start f n)).value).events in
                let j : total (judged f n (built k branch_limit 0 (start f n)).value).events ≡ total (solving n (given x)).events = ap (λ (z : Option Proof). total (judged f n z).events) is ∙ judged_charges f n x in
                omega (arith, t, j);
            stay = λ h. judged_stay f n x (subst (λ (z : Option Proof). raw_stay (judged f n z).events ≡ true) is (stay_parts es (judged f n (built k branch_limit 0 (start f n)).value).events h).1);
            tree_stay = λ h. (stay_parts es (judged f n (built k branch_limit 0 (start f n)).value).events h).0;
          };
          is = q;
        }

-- ---- answers
pub record IsValidRound (f : Form) (n left : ℕ) (vs : List ℤ) (x : Proof) : Type 0 where
  pub limit : ℕ
  pub tree : HasTree f n limit x (Some vs)
  pub charges : total (one_round f n limit).events ≤ left
  pub stay : raw_stay (solving n (given x)).events ≡ true
  pub tree_stay : raw_stay (built limit branch_limit 0 (start f n)).events ≡ true

pub record IsInvalidRound (f : Form) (n left : ℕ) (log : List Entry) (x : Proof) : Type 0 where
  pub limit : ℕ
  pub tree : HasTree f n limit x None
  pub pure : is_pure f ≡ true
  pub log_is : log ≡ entries_of (names_out n (given x)).events
  pub charges : total (one_round f n limit).events ≤ left
  pub stay : raw_stay (solving n (given x)).events ≡ true
  pub tree_stay : raw_stay (built limit branch_limit 0 (start f n)).events ≡ true

valid_ends : (f : Form) (n left : ℕ) (vs : List ℤ) (x : Proof) → IsLast f n left (valid vs x) → IsValidRound f n left vs x
valid_ends f n left vs x l =
    let c = round_concludes f n l.limit (valid vs x) l.answers (λ e. absurd (cc)) in
    by c.proof c.solution c.tree c.is
  where
    none : (y : Proof) (p o : Bool) → cond p (Some (invalid (entries_of (names_out n (given y)).events) y)) (cond o None (Some (saturated (entries_of (names_out n (given y)).events) y))) ≡ Some (valid vs x) → ⊥
    none y true o e = cc
    none y false true e = cc
    none y false false e = cc

    by : (y : Proof) (a : Option (List ℤ)) → HasTree f n l.limit y a → concluded f n y a ≡ Some (valid vs x) → IsValidRound f n left vs x
    by y None t e = absurd (none y (is_pure f) (has_open_leaf (start f n) y) e)
    by y (Some us) t e =
        let us_is : us ≡ vs = cc in
        let y_is : y ≡ x = cc in
        let u = subst (λ (z : Proof). HasTree f n l.limit z (Some vs)) y_is (subst (λ (z : List ℤ). HasTree f n l.limit y (Some z)) us_is t) in
        record { limit = l.limit; tree = u; charges = l.charges; stay = u.stay l.stay; tree_stay = u.tree_stay l.stay }

invalid_ends : (f : Form) (n left : ℕ) (log : List Entry) (x : Proof) → IsLast f n left (invalid log x) → IsInvalidRound f n left log x
invalid_ends f n left log x l =
    let c = round_concludes f n l.limit (invalid log x) l.answers (λ e. absurd (cc)) in
    by c.proof c.solution c.tree c.is
  where
    none : (y : Proof) (p o : Bool) → is_pure f ≡ p → HasTree f n l.limit y None
        → cond p (Some (invalid (entries_of (names_out n (given y)).events) y)) (cond o None (Some (saturated (entries_of (names_out n (given y)).events) y))) ≡ Some (invalid log x) → IsInvalidRound f n left log x
    none y true o p t e =
        let y_is : y ≡ x = cc in
        let log_is : entries_of (names_out n (given y)).events ≡ log = cc in
        let u = subst (λ (z : Proof). HasTree f n l.limit z None) y_is t in
        record {
          limit = l.limit;
          tree = u;
          pure = p;
          log_is = sym log_is ∙ ap (λ (z : Proof). entries_of (names_out n (given z)).events) y_is;
          charges = l.charges;
          stay = u.stay l.stay;
          tree_stay = u.tree_stay l.stay;
        }
    none y false true p t e = absurd (cc)
    none y false false p t e = absurd (cc)

    by : (y : Proof) (a : Option (List ℤ)) → HasTree f n l.limit y a → concluded f n y a ≡ Some (invalid log x) → IsInvalidRound f n left log x
    by y None t e = none y (is_pure f) (has_open_leaf (start f n) y) refl t e
    by y (Some us) t e = absurd (cc)

pub valid_round : (f : Form) (n : ℕ) (g : Funds) (vs : List ℤ) (x : Proof) (b : At) → ending (canonical_run f n g.budget) (at g []) ≡ ends_with (valid vs x) b → IsValidRound f n (g.budget - g.spent) vs x
valid_round f n g vs x b e = valid_ends f n (g.budget - g.spent) vs x (last_found f n g (valid vs x) b e (λ q. absurd (cc)))

pub invalid_round : (f : Form) (n : ℕ) (g : Funds) (log : List Entry) (x : Proof) (b : At) → ending (canonical_run f n g.budget) (at g []) ≡ ends_with (invalid log x) b → IsInvalidRound f n (g.budget - g.spent) log x
invalid_round f n g log x b e = invalid_ends f n (g.budget - g.spent) log x (last_found f n g (invalid log x) b e (λ q. absurd (cc)))
