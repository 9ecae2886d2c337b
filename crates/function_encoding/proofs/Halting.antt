-- Simple actions, done one after another, and what comes then.
use Rattle.std.proofs.Common.{◌≡◌, ℕ, ◌+◌, ◌<◌, ◌≤◌, true, List, [], ◌∷◌, length, get_or, drop, reverse, Result, Ok, Err, IsErrAnd, IfErr, refl, sym, ◌∙◌, subst, arith}
use Rattle.linear_term.specs.Linear.{Linear}
use Rattle.linear_term.specs.declared.range.TermFault.{TermFault}
use Rattle.linear_term.specs.declared.range.TermFault.TheVariants as term_fault
use Rattle.base_budget.specs.declared.fault.StepFault.{StepFault}
use Rattle.base_budget.specs.Trace.{Traced, next}
use Rattle.base_budget.specs.Work.{Worked, step_fault_of}
use Rattle.base_budget.proofs.Charging.{work_ok, drop-item, drop_all}
use Rattle.formula.specs.Form.{Form}
use Rattle.formula.specs.Made.{Made}
use Rattle.formula.specs.Tree.{form}
use Rattle.formula.proofs.Making.{made_err, made_memory}
use Rattle.function_encoding.specs.Actions.{Action, put_number, put_name, negate, multiply, add, apply, choose, take_absolute, take_extreme, relate, predicate, is_simple, acted, ran}
use Rattle.function_encoding.specs.Instructions.{action_of, actions_of}
use Rattle.function_encoding.specs.Room.{extent_left, AreActionsRanged}
use Rattle.function_encoding.specs.Stops.{Halts, IsStopOf}
use Rattle.function_encoding.specs.Weight.{weight_left}
use Rattle.function_encoding.specs.declared.instruction.Instruction.{Instruction}
use Rattle.function_encoding.specs.declared.stop.Stop.{Stop}
use Rattle.function_encoding.specs.declared.stop.Stop.TheVariants as stop

simple_ran : (a : Action) (at : List ℕ) (c : List Action) (n : ℕ) (vs : List Linear) → is_simple a ≡ true → ran at (a ∷ c) n vs ≡ next (acted at a vs) (ran at c n)
simple_ran (put_number v) at c n vs h = refl
simple_ran (put_name x) at c n vs h = refl
simple_ran negate at c n vs h = refl
simple_ran (multiply left) at c n vs h = refl
simple_ran (add subtracted) at c n vs h = refl
simple_ran (apply f k) at c n vs h = absurd (cc)
simple_ran (choose f) at c n vs h = absurd (cc)
simple_ran take_absolute at c n vs h = absurd (cc)
simple_ran (take_extreme r) at c n vs h = absurd (cc)
simple_ran (relate r) at c n vs h = absurd (cc)
simple_ran (predicate plus p k) at c n vs h = absurd (cc)

simple_keeps : (a : Action) (c : List Action) → is_simple a ≡ true
    → (extent_left c ≡ extent_left (a ∷ c)) × (weight_left c ≤ weight_left (a ∷ c)) × (AreActionsRanged (a ∷ c) → AreActionsRanged (a ∷ []) × AreActionsRanged c)
simple_keeps (put_number v) c h = (refl, omega arith, λ r. ((r.0, tt), r.1))
simple_keeps (put_name x) c h = (refl, omega arith, λ r. (tt, r))
simple_keeps negate c h = (refl, omega arith, λ r. (tt, r))
simple_keeps (multiply left) c h = (refl, omega arith, λ r. (tt, r))
simple_keeps (add subtracted) c h = (refl, omega arith, λ r. (tt, r))
simple_keeps (apply f k) c h = absurd (cc)
simple_keeps (choose f) c h = absurd (cc)
simple_keeps take_absolute c h = absurd (cc)
simple_keeps (take_extreme r) c h = absurd (cc)
simple_keeps (relate r) c h = absurd (cc)
simple_keeps (predicate plus p k) c h = absurd (cc)

-- what is left of the actions ends their work
pub record Leads (at : List ℕ) (c : List Action) (vs : List Linear) (more : List Action) (ws : List Linear) : Type 0 where
  pub works : (n : ℕ) (r : Result Form StepFault) → Worked (ran at more n ws) r → Worked (ran at c n vs) r
  pub extent : extent_left more ≡ extent_left c
  pub ranged : AreActionsRanged more
  pub weight : weight_left more ≤ weight_left c

pub leads_all : (at : List ℕ) (c : List Action) (vs : List Linear) → AreActionsRanged c → Leads at c vs c vs
leads_all at c vs h = record { works = λ n r w. w; extent = refl; ranged = h; weight = omega arith }

-- the next action
pub leads_item : (at : List ℕ) (c : List Action) (vs : List Linear) (is : List Instruction) (i : ℕ) (x : Instruction) (ws : List Linear) → i < length is → x ≡ get_or is i x
    → Leads at c vs (actions_of (drop i is)) ws → Leads at c vs (action_of x ∷ actions_of (drop (i + 1) is)) ws
leads_item at c vs is i x ws lt e h = subst (λ l. Leads at c vs (actions_of l) ws) (drop-item is i x lt e) h

pub leads_next : (at : List ℕ) (c : List Action) (vs : List Linear) (a : Action) (more : List Action) (ws us : List Linear) → is_simple a ≡ true → Leads at c vs (a ∷ more) ws
    → Made (λ xs. reverse xs) (acted at a ws) (Ok us) → Leads at c vs more (reverse us)
leads_next at c vs a more ws us h l m =
    let k = simple_keeps a more h in
    record {
      works = λ n r w. l.works n r (subst (λ z. Worked z r) (sym (simple_ran a at more n ws h)) (work_ok (acted at a ws) (ran at more n) m.works w));
      extent = k.0 ∙ l.extent;
      ranged = (k.2 l.ranged).1;
      weight = (let x = k.1 in let y = l.weight in omega arith);
    }

pub leads_ranged : (at : List ℕ) (c : List Action) (vs : List Linear) (a : Action) (more : List Action) (ws : List Linear) → is_simple a ≡ true → Leads at c vs (a ∷ more) ws → AreActionsRanged (a ∷ [])
leads_ranged at c vs a more ws h l = ((simple_keeps a more h).2 l.ranged).0

pub leads_err : (at : List ℕ) (c : List Action) (vs : List Linear) (a : Action) (more : List Action) (ws : List Linear) (e d : TermFault) → is_simple a ≡ true → Leads at c vs (a ∷ more) ws
    → d ≡ e → Made (λ xs. reverse xs) (acted at a ws) (Err e) → (n : ℕ) → Made form (ran at c n vs) (Err d)
leads_err at c vs a more ws e d h l same m n =
    let k : Made form (next (acted at a ws) (ran at more n)) (Err d) = made_err (λ xs. reverse xs) form (acted at a ws) (ran at more n) (Err d) same m in
    record { works = l.works n (Err (step_fault_of d)) (subst (λ z. Worked z (Err (step_fault_of d))) (sym (simple_ran a at more n ws h)) k.works) }

pub leads_stop : (at : List ℕ) (c : List Action) (vs : List Linear) (a : Action) (more : List Action) (ws : List Linear) (s : Stop) → Leads at c vs (a ∷ more) ws → IsStopOf a ws s → Halts at c vs s more
leads_stop at c vs a more ws s l st = record {
  works = λ n r w. l.works n r (subst (λ z. Worked z r) (st.is at n more) w);
  extent = st.extent more ∙ l.extent;
  ranged = st.ranged more l.ranged;
  weight = (let x = st.weight more in let y = l.weight in omega arith);
}

pub leads_end : (at : List ℕ) (c : List Action) (vs : List Linear) (is : List Instruction) (i : ℕ) (ws : List Linear) (whole : List Action) → length is ≤ i → AreActionsRanged whole
    → Leads at c vs (actions_of (drop i is)) ws → Halts at c vs stop.Nothing whole
leads_end at c vs is i ws whole le h l =
    let e = subst (λ z. Leads at c vs (actions_of z) ws) (drop_all is i le) l in
    record { works = e.works; extent = e.extent; ranged = (tt, h); weight = omega arith }

pub halt_err : {H : Type 0} (r : Result H TermFault) (e : TermFault) (work : ℕ → Traced Form) → IsErrAnd r (λ x. x ≡ e) → ((d : TermFault) → d ≡ e → (n : ℕ) → Made form (work n) (Err d))
    → IfErr r (λ x. (n : ℕ) → Made form (work n) (Err x))
halt_err (Ok x) e work h k = tt
halt_err (Err d) e work h k = k d h

pub halt_memory : {H : Type 0} (r : Result H TermFault) (work : ℕ → Traced Form) → IsErrAnd r (λ x. x ≡ term_fault.Memory) → IfErr r (λ x. (n : ℕ) → Made form (work n) (Err x))
halt_memory (Ok x) work h = tt
halt_memory (Err d) work h = λ n. made_memory form (Err d) h
