-- What the call for obligations answers: one case for each step that may end early.
use Rattle.std.specs.Prelude.{◌≡◌, ℕ, Result, Ok, Err}
use Rattle.form_typed.specs.Formula.{Formula, formula}
use Rattle.base_budget.specs.declared.fault.ElimFault.TheVariants as elimination
use Rattle.base_budget.specs.Trace.{Funds}
use Rattle.pri_typing.specs.declared.problem.Problem.{Problem}
use Rattle.formula.specs.declared.calculus.Core.{Core}
use Rattle.function_encoding.specs.declared.answer.EncodeRefusal.{EncodeRefusal}
use Rattle.function_encoding.specs.declared.answer.EncodeRefusal.TheVariants as refusal
use Rattle.function_encoding.specs.Encoded.{Encodes}
use Rattle.itp_sides.specs.Closing.{strongest_formula, weakest_formula}
use Rattle.itp_sides.specs.Sides.{Case, arithmetic, first_itself, second_denied, none, case_of, cut_of, first_sets, first_side, other_sets, other_side}
use Rattle.interpolant.specs.declared.fault.InterpolantFault.{InterpolantFault}
use Rattle.interpolant.specs.declared.fault.InterpolantFault.TheVariants as interpolant
use Rattle.interpolant.specs.Run.{AnswersInterpolant}
use Rattle.pred_interpolant.specs.declared.fault.MiddleFormula.{MiddleFormula}
use Rattle.pred_interpolant.specs.declared.fault.MiddleFormula.TheVariants.{Arithmetic, General}
use Rattle.pred_interpolant.specs.declared.fault.MiddleFault.{MiddleFault}
use Rattle.pred_interpolant.specs.declared.fault.MiddleFault.TheVariants as fault
use Rattle.pred_interpolant.specs.declared.fault.Obligations.{Obligations}
use Rattle.pred_interpolant.specs.declared.making.Sides.{Sides}
use Rattle.pred_interpolant.specs.Middle as middle
use Rattle.pred_interpolant.specs.Middle.{above, below, obligation_root}

-- why there is no encoding, as a fault
abbrev pub unencoded : EncodeRefusal → MiddleFault
unencoded refusal.Large = fault.Large
unencoded (refusal.Overflow p) = fault.Overflow p
unencoded refusal.Memory = fault.Memory

-- why there is no normal form, as a fault
abbrev pub uninterpolated : InterpolantFault → MiddleFault
uninterpolated (interpolant.Elim (elimination.Steps log)) = fault.Steps
uninterpolated (interpolant.Elim (elimination.Overflow log p)) = fault.Overflow p
uninterpolated (interpolant.Elim elimination.Memory) = fault.Memory
uninterpolated (interpolant.Encode r) = unencoded r

-- The formula is what the case asks for: the normal form that the run of the interpolant of both sides ends with, and the purse is
-- as that run left it; or the closed first side, or the closed denial of the second, and the purse is as it was.
abbrev pub FindsBy : Problem → ℕ → ℕ → Case → Funds → MiddleFormula → Funds → Type 0
FindsBy p cut at arithmetic old (Arithmetic d) new =
    AnswersInterpolant p (first_sets (cut_of p cut) at) (other_sets (cut_of p cut) at) old (Ok (record { formula = d })) new
FindsBy p cut at first_itself old (General f) new = (formula f ≡ strongest_formula p (middle.first p cut at) (middle.second p cut at)) × (new ≡ old)
FindsBy p cut at second_denied old (General f) new = (formula f ≡ weakest_formula p (middle.first p cut at) (middle.second p cut at)) × (new ≡ old)
FindsBy p cut at c old m new = ⊥

abbrev pub Finds : Problem → ℕ → ℕ → Funds → MiddleFormula → Funds → Type 0
Finds p cut at old m new = FindsBy p cut at (case_of p (cut_of p cut) at) old m new

-- there is no formula by the case, or the run of the interpolant of both sides ends early with this fault; running out of memory alone is free
pub data Misses (p : Problem) (cut at : ℕ) (old : Funds) (e : MiddleFault) (new : Funds) : Type 0 where
  symbols : case_of p (cut_of p cut) at ≡ none → e ≡ fault.Symbols → new ≡ old → Misses p cut at old e new
  run : (x : InterpolantFault) → case_of p (cut_of p cut) at ≡ arithmetic
      → AnswersInterpolant p (first_sets (cut_of p cut) at) (other_sets (cut_of p cut) at) old (Err x) new → e ≡ uninterpolated x → Misses p cut at old e new
  memory : e ≡ fault.Memory → Misses p cut at old e new

-- the formula by the case, or why there is none
abbrev pub FindsOr : Problem → ℕ → ℕ → Funds → Result MiddleFormula MiddleFault → Funds → Type 0
FindsOr p cut at old (Ok m) new = Finds p cut at old m new
FindsOr p cut at old (Err e) new = Misses p cut at old e new

-- the sides of the cut, in code, with the numbers of their parts
pub record AreSides (p : Problem) (cut at : ℕ) (s : Sides) : Type 0 where
  pub before : s.before.items ≡ first_sets (cut_of p cut) at
  pub behind : s.behind.items ≡ other_sets (cut_of p cut) at
  pub first : formula s.first ≡ first_side p (cut_of p cut) at
  pub second : formula s.second ≡ other_side p (cut_of p cut) at

-- the encoding of this formula ends early with this fault
abbrev pub IsUnencoded : Problem → Formula → MiddleFault → Type 0
IsUnencoded p f e = (r : EncodeRefusal) × Encodes (obligation_root p f) (Err r) × (e ≡ unencoded r)

-- the encoding of this formula
abbrev pub IsRootOf : Problem → Formula → Core → Type 0
IsRootOf p f c = Encodes (obligation_root p f) (Ok c)

-- what ends early with this fault: there is no formula; the first obligation has no encoding; or the second has none.
pub data ObligationsEndEarly (p : Problem) (cut at : ℕ) (old : Funds) (e : MiddleFault) (new : Funds) : Type 0 where
  unfound : Misses p cut at old e new → ObligationsEndEarly p cut at old e new
  first_obligation : (m : MiddleFormula) → Finds p cut at old m new → IsUnencoded p (below p cut at m) e → ObligationsEndEarly p cut at old e new
  second_obligation : (m : MiddleFormula) (c : Core) → Finds p cut at old m new → IsRootOf p (below p cut at m) c → IsUnencoded p (above p cut at m) e
      → ObligationsEndEarly p cut at old e new

-- the obligations of the formula that is found, both encoded; or else the first step that ends early
abbrev pub MakesObligations : Problem → ℕ → ℕ → Funds → Result Obligations MiddleFault → Funds → Type 0
MakesObligations p cut at old (Ok o) new =
    Finds p cut at old o.formula new × IsRootOf p (below p cut at o.formula) o.below.root × IsRootOf p (above p cut at o.formula) o.above.root
MakesObligations p cut at old (Err e) new = ObligationsEndEarly p cut at old e new
