-- When obligations are refused with Symbols, and that they are never refused with Branch.
use Rattle.std.proofs.Common.{◌≡◌, ◌↔◌, ℕ, Err, refl}
use Rattle.base_budget.specs.Trace.{Funds}
use Rattle.base_budget.specs.declared.fault.ElimFault.TheVariants as elimination
use Rattle.pri_typing.specs.declared.problem.Problem.{Problem}
use Rattle.function_encoding.specs.declared.answer.EncodeRefusal.{EncodeRefusal}
use Rattle.function_encoding.specs.declared.answer.EncodeRefusal.TheVariants as refusal
use Rattle.interpolant.specs.declared.fault.InterpolantFault.{InterpolantFault}
use Rattle.interpolant.specs.declared.fault.InterpolantFault.TheVariants as interpolant
use Rattle.itp_sides.specs.Sides.{case_of, cut_of, none}
use Rattle.pred_interpolant.specs.declared.fault.MiddleFault.TheVariants.{Branch, Symbols}
use Rattle.pred_interpolant.specs.Made.{ObligationsEndEarly, MakesObligations, Misses, first_obligation, second_obligation, memory, run, symbols, uninterpolated, unencoded, unfound}
use Rattle.pred_interpolant.specs.Made as made

refusal_branch : (r : EncodeRefusal) → Branch ≡ unencoded r → ⊥
refusal_branch refusal.Large h = cc
refusal_branch (refusal.Overflow q) h = cc
refusal_branch refusal.Memory h = cc

refusal_symbols : (r : EncodeRefusal) → Symbols ≡ unencoded r → ⊥
refusal_symbols refusal.Large h = cc
refusal_symbols (refusal.Overflow q) h = cc
refusal_symbols refusal.Memory h = cc

fault_branch : (x : InterpolantFault) → Branch ≡ uninterpolated x → ⊥
fault_branch (interpolant.Elim (elimination.Steps log)) h = cc
fault_branch (interpolant.Elim (elimination.Overflow log q)) h = cc
fault_branch (interpolant.Elim elimination.Memory) h = cc
fault_branch (interpolant.Encode r) h = refusal_branch r h

fault_symbols : (x : InterpolantFault) → Symbols ≡ uninterpolated x → ⊥
fault_symbols (interpolant.Elim (elimination.Steps log)) h = cc
fault_symbols (interpolant.Elim (elimination.Overflow log q)) h = cc
fault_symbols (interpolant.Elim elimination.Memory) h = cc
fault_symbols (interpolant.Encode r) h = refusal_symbols r h

missed_branch : (p : Problem) (cut at : ℕ) (old new : Funds) → Misses p cut at old Branch new → ⊥
missed_branch p cut at old new (symbols c e n) = absurd cc
missed_branch p cut at old new (run x c h e) = fault_branch x e
missed_branch p cut at old new (made.memory e) = absurd cc

missed_symbols : (p : Problem) (cut at : ℕ) (old new : Funds) → Misses p cut at old Symbols new → (case_of p (cut_of p cut) at ≡ none) × (new ≡ old)
missed_symbols p cut at old new (symbols c e n) = (c, n)
missed_symbols p cut at old new (run x c h e) = absurd (fault_symbols x e)
missed_symbols p cut at old new (made.memory e) = absurd cc

pub never_branch : (p : Problem) (cut at : ℕ) (old new : Funds) → MakesObligations p cut at old (Err Branch) new → ⊥
never_branch p cut at old new (unfound h) = missed_branch p cut at old new h
never_branch p cut at old new (first_obligation m h u) = refusal_branch u.0 u.2
never_branch p cut at old new (second_obligation m c h r u) = refusal_branch u.0 u.2

pub symbols_where : (p : Problem) (cut at : ℕ) (old new : Funds) → MakesObligations p cut at old (Err Symbols) new ↔ ((case_of p (cut_of p cut) at ≡ none) × (new ≡ old))
symbols_where p cut at old new = (by, λ h. unfound (symbols h.0 refl h.1))
  where
    by : ObligationsEndEarly p cut at old Symbols new → (case_of p (cut_of p cut) at ≡ none) × (new ≡ old)
    by (unfound h) = missed_symbols p cut at old new h
    by (first_obligation m h u) = absurd (refusal_symbols u.0 u.2)
    by (second_obligation m c h r u) = absurd (refusal_symbols u.0 u.2)
