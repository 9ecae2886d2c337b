-- Work whose value is seen in what the code makes.
use Rattle.std.proofs.Common.{◌≡◌, List, [], ◌∷◌, ◌++◌, map, Result, Ok, Err, IsErrAnd, ap, ◌∙◌}
use Rattle.std.proofs.lemmas.List.{map-append}
use Rattle.linear_term.specs.declared.range.TermFault.{TermFault}
use Rattle.linear_term.specs.declared.range.TermFault.TheVariants as term_fault
use Rattle.base_budget.specs.Trace.{Traced, just, next}
use Rattle.base_budget.specs.Work.{step_fault_of}
use Rattle.base_budget.proofs.Charging.{work_ok, work_err, work_just, work_memory, Left, left_next, left_ends}
use Rattle.formula.specs.declared.calculus.Core.{Core}
use Rattle.formula.specs.Form.{Form}
use Rattle.formula.specs.Tree.{form}
use Rattle.formula.specs.Made.{Made}

pub made_ok : {A B C D : Type 0} (u : A → B) (v : C → D) (m : Traced B) (g : B → Traced D) {x : A} {r : Result C TermFault} → Made u m (Ok x) → Made v (g (u x)) r → Made v (next m g) r
made_ok u v m g h k = record { works = work_ok m g h.works k.works }

pub made_err : {A B C D : Type 0} (u : A → B) (v : C → D) (m : Traced B) (g : B → Traced D) {e : TermFault} (r : Result C TermFault) → IsErrAnd r (λ x. x ≡ e) → Made u m (Err e) → Made v (next m g) r
made_err u v m g (Ok x) h k = absurd h
made_err u v m g (Err e') h k = record { works = work_err m g (Err (step_fault_of e')) (ap step_fault_of h) k.works }

pub made_just : {C D : Type 0} (v : C → D) (x : D) (y : C) → v y ≡ x → Made v (just x) (Ok y)
made_just v x y h = record { works = work_just x (v y) h }

pub made_memory : {C D : Type 0} (v : C → D) {m : Traced D} (r : Result C TermFault) → IsErrAnd r (λ x. x ≡ term_fault.Memory) → Made v m r
made_memory v (Ok x) h = absurd h
made_memory v (Err e) h = record { works = work_memory (Err (step_fault_of e)) (ap step_fault_of h) }

-- what is left of a loop's work
pub left_made : {A B D : Type 0} (u : A → B) (m : Traced B) (g : B → Traced D) {work : Traced D} {x : A} → Left (next m g) work → Made u m (Ok x) → Left (g (u x)) work
left_made u m g h k = left_next m g h k.works

pub left_err : {A B C D : Type 0} (u : A → B) (v : C → D) (m : Traced B) (g : B → Traced D) {work : Traced D} {e : TermFault} (r : Result C TermFault) → IsErrAnd r (λ x. x ≡ e) → Left (next m g) work → Made u m (Err e) → Made v work r
left_err u v m g r h l k = record { works = left_ends l (made_err u v m g r h k).works }

pub left_done : {C D : Type 0} (v : C → D) {rest work : Traced D} (r : Result C TermFault) → Left rest work → Made v rest r → Made v work r
left_done v r l k = record { works = left_ends l k.works }

pub pushed : (out : List Core) (f : Core) (g : Form) → form f ≡ g → map form (out ++ f ∷ []) ≡ map form out ++ g ∷ []
pushed out f g h = map-append form out (f ∷ []) ∙ ap (λ x. map form out ++ x ∷ []) h

pub ruleset making = (made_ok, made_err, made_just, made_memory)
