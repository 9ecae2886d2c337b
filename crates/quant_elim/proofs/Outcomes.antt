-- Answers with their log, and what they say.
use Rattle.std.proofs.Common.{◌≡◌, List, [], map, Result, Ok, Err, sym, subst}
use Rattle.std.specs.Prelude.{IfOk}
use Rattle.base_budget.specs.declared.fault.StepFault.{StepFault}
use Rattle.base_budget.specs.declared.fault.StepFault.TheVariants.{Steps, Overflow, Memory}
use Rattle.base_budget.specs.declared.fault.ElimFault.{ElimFault}
use Rattle.base_budget.specs.declared.log.ElimLog.{ElimLog}
use Rattle.base_budget.specs.declared.log.Entry.{Entry}
use Rattle.base_budget.specs.Trace.{Funds, At, at, entry, Traced}
use Rattle.base_budget.specs.Work.{ChargedAt, Charged, Logged, marks_of}
use Rattle.base_budget.proofs.Charging.{charged_value}
use Rattle.quant_elim.specs.Logging.{with_log}

logged : {A : Type 0} (w : Traced A) (o : Result A StepFault) (log : ElimLog) {f g : Funds} → ChargedAt w (at f []) o (at g (marks_of log)) → Logged w f (with_log o log) g
logged w (Ok v) log h = h
logged w (Err Steps) log h = h
logged w (Err (Overflow p)) log h = h
logged w (Err Memory) log h = (marks_of log, h)

-- a log that begins empty
from_empty : {A : Type 0} (w : Traced A) (o : Result A StepFault) (es : List Entry) {f : Funds} {b : At} → es ≡ [] → ChargedAt w (at f (map entry es)) o b → ChargedAt w (at f []) o b
from_empty w o es {f} {b} none h = subst (λ z. ChargedAt w (at f (map entry z)) o b) none h

pub logged_by : {A : Type 0} (w : Traced A) (o : Result A StepFault) (es : List Entry) (log : ElimLog) (r : Result (A × ElimLog) ElimFault) {f g : Funds} → es ≡ [] → ChargedAt w (at f (map entry es)) o (at g (marks_of log)) → r ≡ with_log o log
    → Logged w f r g
logged_by w o es log r {f} {g} none h is = subst (λ z. Logged w f z g) (sym is) (logged w o log (from_empty w o es none h))

-- what is true of the work's value is of the answer
ok_with : {A : Type 0} (P : A → Type 0) (w : Traced A) (o : Result A StepFault) (log : ElimLog) {f g : Funds} → ChargedAt w (at f []) o (at g (marks_of log)) → P w.value → IfOk (with_log o log) (λ v. P (v.0))
ok_with P w (Ok v) log h p = subst P (sym (charged_value h)) p
ok_with P w (Err Steps) log h p = tt
ok_with P w (Err (Overflow q)) log h p = tt
ok_with P w (Err Memory) log h p = tt

pub value_with : {A : Type 0} (P : A → Type 0) (w : Traced A) (o : Result A StepFault) (es : List Entry) (log : ElimLog) (r : Result (A × ElimLog) ElimFault) {f g : Funds} → es ≡ [] → ChargedAt w (at f (map entry es)) o (at g (marks_of log))
    → r ≡ with_log o log → P w.value → IfOk r (λ v. P (v.0))
value_with P w o es log r none h is p = subst (λ z. IfOk z (λ v. P (v.0))) (sym is) (ok_with P w o log (from_empty w o es none h) p)

pub value_of_call : {A : Type 0} (P : A → Type 0) (w : Traced A) (r : Result A StepFault) {f g : Funds} → Charged w f r g → P w.value → IfOk r P
value_of_call P w (Ok v) h p = subst P (sym (charged_value h)) p
value_of_call P w (Err e) h p = tt
