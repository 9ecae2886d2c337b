-- Whole logs: what is told of them, and what an accepted one says.
use Rattle.std.proofs.Common.{◌≡◌, ◌≢◌, ◌<◌, ℕ, zero, suc, Bool, true, false, cond, nat_eq, List, [], ◌∷◌, length, drop, Some, None, Result, Ok, Err, arith, refl, sym, ◌∙◌, ap, subst}
use Rattle.std.specs.Prelude.{IfOk}
use Rattle.std.proofs.lemmas.Bool.Decides.{nat_tests}
use Rattle.std.proofs.Math.ListN.{drop_of_length-le}
use Rattle.base_budget.specs.declared.fault.StepFault.TheVariants.{Steps, Overflow, Memory}
use Rattle.base_budget.specs.declared.log.Entry.{Entry}
use Rattle.base_budget.specs.Trace.{Funds, at, just}
use Rattle.base_budget.specs.Work.{ChargedAt}
use Rattle.base_budget.proofs.Charging.{then_ok, then_fault, then_just, charged_value}
use Rattle.elim_laws.specs.Logs.{rest, Reader, used_up, by_whole_log, Yields}
use Rattle.elim_laws.proofs.Wholes.{whole_yields}
use Rattle.elim_check.specs.declared.fault.LogFault.{LogFault}
use Rattle.elim_check.specs.declared.fault.LogFault.TheVariants as log_fault
use Rattle.elim_check.specs.declared.fault.Stop.{Stop}
use Rattle.elim_check.specs.declared.fault.Stop.TheVariants as stop
use Rattle.elim_check.specs.Reading.{noted, ReadAt}
use Rattle.elim_check.specs.Checked.{Checked, told}

drop_none : (log : List Entry) (j : ℕ) → j < length log → drop j log ≢ []
drop_none [] j h = absurd (omega (arith, h))
drop_none (e ∷ log) zero h = λ is. cc
drop_none (e ∷ log) (suc j) h = drop_none log j (omega arith)

not_used : {A : Type 0} (v : A) (ks : List Entry) → ks ≢ [] → used_up (Some (rest v ks)) ≡ None
not_used v [] h = absurd (h refl)
not_used v (k ∷ ks) h = refl

module _ {A : Type 0} (m : Reader A) (log : List Entry) {f g : Funds} {j : ℕ} where
  -- the work of an answer ended, with every entry done or with one left over
  ended : {v : A} (b : Bool) → nat_eq j (length log) ≡ b → ReadAt m log 0 f (Ok v) j g → Checked m log f (cond b (Ok v) (Err (log_fault.Entry j))) g
  ended {v} true all read =
      let ends : j ≡ length log = grind (arith, nat_tests) in
      record {
        within = omega arith;
        charged = subst (λ k. ChargedAt (by_whole_log m log) (at f []) (Ok (Some v)) (at g (noted log k))) ends (then_ok (m log) (λ o. just (used_up o)) read.did
            (then_just (used_up (Some (rest v (drop j log)))) (Some v) (sym (ap (λ ks. used_up (Some (rest v ks))) (drop_of_length-le log (omega (arith, ends)))))));
      }
  ended {v} false some read =
      let less : j < length log = let ne : j ≢ length log = grind (arith, nat_tests) in let within = read.within in omega (arith, within, ne) in
      record {
        within = read.within;
        charged = then_ok (m log) (λ o. just (used_up o)) read.did (then_just (used_up (Some (rest v (drop j log)))) None (sym (not_used v (drop j log) (drop_none log j less))));
      }

  by_answer : (r : Result A Stop) → ReadAt m log 0 f r j g → Checked m log f (told r j (length log)) g
  by_answer (Ok v) read = ended (nat_eq j (length log)) refl read
  by_answer (Err stop.Entry) read = record { within = read.within; charged = then_ok (m log) (λ o. just (used_up o)) read.did (then_just None None refl) }
  by_answer (Err (stop.Step Steps)) read = record { within = read.within; charged = then_fault (m log) _ read.did }
  by_answer (Err (stop.Step (Overflow p))) read = record { within = read.within; charged = then_fault (m log) _ read.did }
  by_answer (Err (stop.Step Memory)) read = (j, record { within = read.within; charged = then_fault (m log) _ read.did })

pub checked : {A : Type 0} (m : Reader A) (log es : List Entry) {f g : Funds} (r : Result A Stop) (j n : ℕ) (t : Result A LogFault) → ReadAt m es 0 f r j g → es ≡ log → n ≡ length es → t ≡ told r j n → Checked m log f t g
checked m log es {f} {g} r j n t read same count is =
    subst (λ z. Checked m z f t g) same (subst (λ z. Checked m es f z g) (sym (is ∙ ap (told r j) count)) (by_answer m es r read))

-- what any accepted log gives
pub accepted : {A : Type 0} (m : Reader A) (P : A → Type 0) (log : List Entry) (f g : Funds) (t : Result A LogFault) → Yields m P → Checked m log f t g → IfOk t P
accepted m P log f g (Ok v) h did = whole_yields m P h log v (sym (charged_value did.charged))
accepted m P log f g (Err e) h did = tt
