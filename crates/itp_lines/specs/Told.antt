-- What is told of a seam whose call found no interpolant, and of a formula that was found.
use Rattle.std.specs.Prelude.{◌≡◌, ℕ, List, codes}
use Rattle.form_typed.specs.Formula.{Formula, formula}
use Rattle.base_budget.specs.declared.fault.ElimFault.TheVariants as elimination
use Rattle.function_encoding.specs.declared.answer.EncodeRefusal.TheVariants as refusal
use Rattle.pri_typing.specs.declared.problem.Problem.{Problem}
use Rattle.interpolant.specs.declared.fault.InterpolantFault.{InterpolantFault}
use Rattle.interpolant.specs.declared.fault.InterpolantFault.TheVariants.{Elim, Encode}
use Rattle.pred_interpolant.specs.declared.fault.MiddleFault.{MiddleFault}
use Rattle.pred_interpolant.specs.declared.fault.MiddleFault.TheVariants as fault
use Rattle.pred_interpolant.specs.declared.fault.MiddleFormula.{MiddleFormula}
use Rattle.pred_interpolant.specs.declared.fault.MiddleFormula.TheVariants.{Arithmetic, General}
use Rattle.pri_lines.specs.Constraint.{IsLineOf, interpolant_line}
use Rattle.itp_lines.specs.Blocks.{IsTypedText, unknown_line}

-- the text is what the call for a run has met; there is none where memory runs out
abbrev pub IsFaultText : InterpolantFault → List ℕ → Type 0
IsFaultText (Elim (elimination.Steps log)) text = text ≡ codes "steps"
IsFaultText (Elim (elimination.Overflow log place)) text = text ≡ codes "overflow"
IsFaultText (Elim elimination.Memory) text = ⊥
IsFaultText (Encode refusal.Large) text = ⊥
IsFaultText (Encode (refusal.Overflow place)) text = text ≡ codes "overflow"
IsFaultText (Encode refusal.Memory) text = ⊥

-- the text is the line that tells it
abbrev pub TellsInterpolantFault : InterpolantFault → List ℕ → Type 0
TellsInterpolantFault fault text = (cause : List ℕ) × IsFaultText fault cause × (text ≡ unknown_line cause)

-- the text is what the call for a formula with two proofs has met; there is none where memory runs out
abbrev pub IsMiddleCause : MiddleFault → List ℕ → Type 0
IsMiddleCause fault.Symbols text = text ≡ codes "symbols"
IsMiddleCause fault.Steps text = text ≡ codes "steps"
IsMiddleCause (fault.Overflow place) text = text ≡ codes "overflow"
IsMiddleCause fault.Branch text = text ≡ codes "branch"
IsMiddleCause fault.Large text = text ≡ codes "large"
IsMiddleCause fault.Memory text = ⊥

-- the text is the line that tells it
abbrev pub TellsMiddleFault : MiddleFault → List ℕ → Type 0
TellsMiddleFault fault text = (cause : List ℕ) × IsMiddleCause fault cause × (text ≡ unknown_line cause)

-- the text is the line of a formula over the symbols of the problem
pub record IsTypedLine (p : Problem) (f : Formula) (text : List ℕ) : Type 0 where
  pub x : List ℕ
  pub printed : IsTypedText p f x
  pub line : text ≡ interpolant_line x

-- the text is the line of a formula that was found
abbrev pub TellsFormula : Problem → MiddleFormula → List ℕ → Type 0
TellsFormula p (Arithmetic d) text = IsLineOf interpolant_line p d text
TellsFormula p (General f) text = IsTypedLine p (formula f) text
