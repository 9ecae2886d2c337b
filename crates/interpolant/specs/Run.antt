-- The run of an interpolant, and what its call answers.
use Rattle.std.specs.Prelude.{◌≡◌, ℕ, zero, suc, Bool, true, false, List, [], ◌∷◌, ◌++◌, Result, Ok, Err}
use Rattle.base_budget.specs.declared.fault.StepFault.{StepFault}
use Rattle.base_budget.specs.declared.fault.StepFault.TheVariants as step_fault
use Rattle.base_budget.specs.declared.fault.ElimFault.{ElimFault}
use Rattle.base_budget.specs.declared.fault.ElimFault.TheVariants.{Steps, Overflow, Memory}
use Rattle.base_budget.specs.declared.log.Entry.{Entry}
use Rattle.base_budget.specs.Followed.{Followed}
use Rattle.base_budget.specs.Runs.{raw_stay}
use Rattle.base_budget.specs.Trace.{Funds, Mark, entry, new_log, round, enter, back, Traced, just, next, note}
use Rattle.pri_typing.specs.declared.problem.Problem.{Problem}
use Rattle.pri_typing.specs.Problems.{assumed_by}
use Rattle.clause_set.specs.declared.literal.Literal.{Literal}
use Rattle.formula.specs.Form.{Form}
use Rattle.elim_laws.specs.Elimination.{exists_name}
use Rattle.elim_laws.specs.Whole.{eliminating}
use Rattle.form_encoding.specs.Problems.{constants, is_large, parts_root}
use Rattle.function_encoding.specs.Encoded.{Encodes}
use Rattle.interpolant.specs.declared.fault.Interpolant.{Interpolant}
use Rattle.interpolant.specs.declared.fault.InterpolantFault.{InterpolantFault}
use Rattle.interpolant.specs.declared.fault.InterpolantFault.TheVariants.{Elim, Encode}
use Rattle.form_encoding.specs.Occurrences.{occurs}

-- the work in a log of its own
abbrev pub in_new_log : {A : Type 0} → Traced A → Traced A
in_new_log w = next (note new_log) (λ _. w)

-- x out of d by "some value", unless it stays
abbrev pub without : Bool → ℕ → List (List Literal) → Traced (List (List Literal))
without true x d = just d
without false x d = in_new_log (exists_name x d)

-- those names below n that do not stay out of d, the greatest first
abbrev pub others_out : (ℕ → Bool) → ℕ → List (List Literal) → Traced (List (List Literal))
others_out stays zero d = just d
others_out stays (suc x) d = next (without (stays x) x d) (others_out stays x)

-- a formula over n names without its quantifiers, and then without those of the n names that do not stay
abbrev pub projecting : (ℕ → Bool) → ℕ → Form → Traced (List (List Literal))
projecting stays n f = next (in_new_log (eliminating n f)) (others_out stays n)

-- what the first set assumes without its quantifiers, and then without the names that do not stand in what the second assumes
unfoldable pub interpolating : Problem → List ℕ → List ℕ → Traced (List (List Literal))
interpolating p first second = projecting (λ x. occurs x (assumed_by p second)) (constants p) (parts_root p first).value

-- the entries of the log in progress after a note: a log is empty where it begins
abbrev pub in_log : List Entry → Mark → List Entry
in_log es (entry e) = es ++ e ∷ []
in_log es new_log = []
in_log es (round k) = es
in_log es (enter k) = es
in_log es (back k) = es

-- why an elimination was cut, without its log
abbrev pub cause_of : ElimFault → StepFault
cause_of (Steps log) = step_fault.Steps
cause_of (Overflow log p) = step_fault.Overflow p
cause_of Memory = step_fault.Memory

-- an answer without the log of a fault
abbrev pub without_log : {A : Type 0} → Result A ElimFault → Result A StepFault
without_log (Ok v) = Ok v
without_log (Err f) = Err (cause_of f)

-- the fault carries this log; running out of memory carries none
abbrev pub IsFaultLog : ElimFault → List Entry → Type 0
IsFaultLog (Steps log) es = log.entries ≡ es
IsFaultLog (Overflow log p) es = log.entries ≡ es
IsFaultLog Memory es = Unit {0}

-- the same of an answer that may be a fault
abbrev pub CarriesLog : {A : Type 0} → Result A ElimFault → List Entry → Type 0
CarriesLog (Ok v) es = Unit {0}
CarriesLog (Err f) es = IsFaultLog f es

-- The call did the work as far as it answers, whatever log stood before; a fault carries the log in progress.
pub record DoesElimination {A : Type 0} (work : Traced A) (old : Funds) (result : Result A ElimFault) (new : Funds) : Type 0 where
  pub log : List Entry → List Entry
  pub did : (before : List Entry) → Followed in_log work old before (without_log result) new (log before)
  pub carries : (before : List Entry) → CarriesLog result (log before)

-- the encoding is not too large, and its raw numbers stay in the range
pub record IsEncodable (work : Traced Form) : Type 0 where
  pub small : is_large work.value ≡ false
  pub stay : raw_stay work.events ≡ true

-- What a call for two sets of parts answers: Encode where what the first set assumes has no encoding, and the purse is as
-- it was; else as the run ends.
abbrev pub AnswersInterpolant : Problem → List ℕ → List ℕ → Funds → Result Interpolant InterpolantFault → Funds → Type 0
AnswersInterpolant p first second old (Ok i) new = IsEncodable (parts_root p first) × DoesElimination (interpolating p first second) old (Ok i.formula) new
AnswersInterpolant p first second old (Err (Elim f)) new = IsEncodable (parts_root p first) × DoesElimination (interpolating p first second) old (Err f) new
AnswersInterpolant p first second old (Err (Encode r)) new = Encodes (parts_root p first) (Err r) × (new ≡ old)
