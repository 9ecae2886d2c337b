-- The closing formula of a sequent, made and eliminated.
use Rattle.std.proofs.Common.{rules, arith, ◌≡◌, ◌==◌, ◌+◌, ℕ, true, List, [], ◌∷◌, length, Result, Ok, Err, refl, subst, sym}
use Rattle.linear_term.specs.declared.range.TermFault.{TermFault}
use Rattle.linear_term.specs.declared.range.TermFault.TheVariants as term_fault
use Rattle.base_budget.specs.declared.log.ElimLog.{ElimLog}
use Rattle.base_budget.specs.declared.fault.ElimFault.{ElimFault}
use Rattle.base_budget.specs.declared.fault.ElimFault.TheVariants.{Steps, Overflow, Memory}
use Rattle.base_budget.specs.declared.fault.StepFault.{StepFault}
use Rattle.base_budget.specs.declared.fault.StepFault.TheVariants as step_fault
use Rattle.base_budget.specs.Trace.{Funds, Traced, just, next, pay}
use Rattle.base_budget.specs.Work.{Charged, Logged}
use Rattle.base_budget.proofs.Charging.{free, no_memory, then_fault, then_just, then_ok}
use Rattle.base_budget.proofs.Tracing.{next-just}
use Rattle.clause_set.specs.declared.literal.Literal.{Literal}
use Rattle.clause_set.specs.Dnfs.{tidied, tidying}
use Rattle.clause_set.specs.Order.{sorted_once}
use Rattle.elim_laws.specs.Elimination.{exists_name}
use Rattle.formula.specs.Made.{Made}
use Rattle.search.specs.Walking.{unlogged, without_log}

-- work that notes nothing, and then work that answers with its log
pub made_then : {A B C : Type 0} (view : A → B) (m : Traced B) (g : B → Traced C) (a b : Funds) {x : A} (r : Result (C × ElimLog) ElimFault) → Made view m (Ok x) → Logged (g (view x)) a r b → Logged (next m g) a r b
made_then view m g a b {x} (Ok r) made did = then_ok m g (free (Ok (view x)) made.works) did
made_then view m g a b {x} (Err (Steps log)) made did = then_ok m g (free (Ok (view x)) made.works) did
made_then view m g a b {x} (Err (Overflow log p)) made did = then_ok m g (free (Ok (view x)) made.works) did
made_then view m g a b {x} (Err Memory) made did = (did.0, then_ok m g (free (Ok (view x)) made.works) did.1)

refused_first : {A B C : Type 0} (view : A → B) (m : Traced B) (g : B → Traced C) (a : Funds) (e : TermFault) → Made view m (Err e) → Logged (next m g) a (Err (without_log e)) a
refused_first {A} {B} view m g a (term_fault.Overflow p) h = let r : Result B StepFault = Err (step_fault.Overflow p) in then_fault m g (free r h.works)
refused_first {A} {B} view m g a term_fault.Memory h = let r : Result B StepFault = Err step_fault.Memory in ([], then_fault m g (free r h.works))

pub made_fault : {A B C : Type 0} (view : A → B) (m : Traced B) (g : B → Traced C) (a : Funds) (e : TermFault) {f : ElimFault} → Made view m (Err e) → f ≡ without_log e → Logged (next m g) a (Err f) a
made_fault view m g a e h is = subst (λ (f : ElimFault). Logged (next m g) a (Err f) a) (sym is) (refused_first view m g a e h)

-- ---- rules that eliminate nothing
pub no_leaf : (w : Traced (List (List Literal))) (a : Funds) → Logged w a (Err Memory) a
no_leaf w a = ([], let r : Result (List (List Literal)) StepFault = Err step_fault.Memory in no_memory r refl)

-- a constraint that is at hand
pub just_made : (d e : List (List Literal)) (b : Funds) {r : Result (List (List Literal) × ElimLog) ElimFault} → r ≡ unlogged (Ok e) → e ≡ d → Logged (just d) b r b
just_made d e b is same = subst (λ (r : Result (List (List Literal) × ElimLog) ElimFault). Logged (just d) b r b) (sym is) (then_just d e same)

pub empty_is : {X : Type 0} (xs : List X) → (length xs == 0) ≡ true → [] ≡ xs
empty_is [] h = refl
empty_is (x ∷ xs) h = absurd (let z : length xs + 1 ≡ 0 = search (rules, h) in omega (arith, z))

-- what an outcome with its empty log is of
outcome_of : (w : Traced (List (List Literal))) (a b : Funds) (o : Result (List (List Literal)) StepFault) → Charged w a o b → Logged w a (unlogged o) b
outcome_of w a b (Ok d) h = h
outcome_of w a b (Err step_fault.Steps) h = h
outcome_of w a b (Err (step_fault.Overflow p)) h = h
outcome_of w a b (Err step_fault.Memory) h = ([], h)

none_is : (x : ℕ) → next (pay 0) (λ _. just []) ≡ exists_name x []
unfolding tidied sorted_once
none_is x = sym (next-just [] tidying)

-- some value of no clause: none, for one step of no charge
pub nothing_left : (x : ℕ) (d : List (List Literal)) (a b : Funds) (o : Result (List (List Literal)) StepFault) {r : Result (List (List Literal) × ElimLog) ElimFault}
    → [] ≡ d → Charged (next (pay 0) (λ _. just [])) a o b → r ≡ unlogged o → Logged (exists_name x d) a r b
nothing_left x d a b o {r} none did is =
    subst (λ (e : List (List Literal)). Logged (exists_name x e) a r b) none
    (subst (λ (z : Result (List (List Literal) × ElimLog) ElimFault). Logged (exists_name x []) a z b) (sym is) (outcome_of (exists_name x []) a b o (subst (λ (w : Traced (List (List Literal))). Charged w a o b) (none_is x) did)))
