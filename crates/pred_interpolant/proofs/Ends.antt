-- Which steps of the call for obligations end early.
use Rattle.std.proofs.Common.{◌≡◌, ℕ, Result, Ok, Err, IsErrAnd, refl, sym, subst}
use Rattle.base_budget.specs.Trace.{Funds}
use Rattle.form_typed.specs.Formula.{Formula}
use Rattle.pri_typing.specs.declared.problem.Problem.{Problem}
use Rattle.formula.specs.declared.calculus.Core.{Core}
use Rattle.function_encoding.specs.declared.answer.Encoded.{Encoded}
use Rattle.function_encoding.specs.declared.answer.EncodeRefusal.{EncodeRefusal}
use Rattle.function_encoding.specs.Encoded.{Encodes}
use Rattle.pred_interpolant.specs.declared.fault.MiddleFormula.{MiddleFormula}
use Rattle.pred_interpolant.specs.declared.fault.MiddleFault.{MiddleFault}
use Rattle.pred_interpolant.specs.declared.fault.Obligations.{Obligations}
use Rattle.pred_interpolant.specs.Made.{ObligationsEndEarly, Finds, MakesObligations, Misses, first_obligation, second_obligation, unencoded, unfound}
use Rattle.pred_interpolant.specs.Middle.{contradicts, first, follows, obligation_root, said, second}

pub early : (p : Problem) (cut at : ℕ) (old new : Funds) (e : MiddleFault) (r : Result Obligations MiddleFault) → IsErrAnd r (λ x. x ≡ e) → ObligationsEndEarly p cut at old e new → MakesObligations p cut at old r new
early p cut at old new e (Ok o) h k = absurd h
early p cut at old new e (Err x) h k = subst (λ z. ObligationsEndEarly p cut at old z new) (sym h) k

pub unfound_ends : (p : Problem) (cut at : ℕ) (old new : Funds) (e : MiddleFault) (r : Result Obligations MiddleFault) → IsErrAnd r (λ x. x ≡ e) → Misses p cut at old e new → MakesObligations p cut at old r new
unfound_ends p cut at old new e r h k = early p cut at old new e r h (unfound k)

pub below_ends : (p : Problem) (cut at : ℕ) (old new : Funds) (m : MiddleFormula) (f : Formula) (x : EncodeRefusal) (r : Result Obligations MiddleFault) → IsErrAnd r (λ z. z ≡ unencoded x) → Finds p cut at old m new
    → f ≡ first p cut at → Encodes (obligation_root p (follows f (said p m))) (Err x) → MakesObligations p cut at old r new
below_ends p cut at old new m f x r h found e k =
    early p cut at old new (unencoded x) r h (first_obligation m found (x, subst (λ z. Encodes (obligation_root p (follows z (said p m))) (Err x)) e k, refl))

pub above_ends : (p : Problem) (cut at : ℕ) (old new : Funds) (m : MiddleFormula) (f g : Formula) (b : Core) (x : EncodeRefusal) (r : Result Obligations MiddleFault) → IsErrAnd r (λ z. z ≡ unencoded x) → Finds p cut at old m new
    → f ≡ first p cut at → g ≡ second p cut at → Encodes (obligation_root p (follows f (said p m))) (Ok b) → Encodes (obligation_root p (contradicts (said p m) g)) (Err x) → MakesObligations p cut at old r new
above_ends p cut at old new m f g b x r h found e d j k =
    early p cut at old new (unencoded x) r h (second_obligation m b found (subst (λ z. Encodes (obligation_root p (follows z (said p m))) (Ok b)) e j)
    (x, subst (λ z. Encodes (obligation_root p (contradicts (said p m) z)) (Err x)) d k, refl))

pub all_made : (p : Problem) (cut at : ℕ) (old new : Funds) (m : MiddleFormula) (f g : Formula) (b a : Encoded) → Finds p cut at old m new → f ≡ first p cut at → g ≡ second p cut at
    → Encodes (obligation_root p (follows f (said p m))) (Ok b.root) → Encodes (obligation_root p (contradicts (said p m) g)) (Ok a.root)
    → MakesObligations p cut at old (Ok (record { formula = m; below = b; above = a })) new
all_made p cut at old new m f g b a found e d j k =
    (found, subst (λ z. Encodes (obligation_root p (follows z (said p m))) (Ok b.root)) e j, subst (λ z. Encodes (obligation_root p (contradicts (said p m) z)) (Ok a.root)) d k)

-- what is said of a formula is said of an equal one
pub found_as : (p : Problem) (cut at : ℕ) (old new : Funds) (m n : MiddleFormula) → n ≡ m → Finds p cut at old n new → Finds p cut at old m new
found_as p cut at old new m n e k = subst (λ z. Finds p cut at old z new) e k

pub below_as : (p : Problem) (f : Formula) (r : Result Core EncodeRefusal) (m n : MiddleFormula) → n ≡ m → Encodes (obligation_root p (follows f (said p n))) r → Encodes (obligation_root p (follows f (said p m))) r
below_as p f r m n e k = subst (λ z. Encodes (obligation_root p (follows f (said p z))) r) e k

pub above_as : (p : Problem) (g : Formula) (r : Result Core EncodeRefusal) (m n : MiddleFormula) → n ≡ m → Encodes (obligation_root p (contradicts (said p n) g)) r → Encodes (obligation_root p (contradicts (said p m) g)) r
above_as p g r m n e k = subst (λ z. Encodes (obligation_root p (contradicts (said p z) g)) r) e k

-- and so of an encoding
pub encodes_as : (p : Problem) (f : Formula) (b d : Encoded) → d ≡ b → Encodes (obligation_root p f) (Ok d.root) → Encodes (obligation_root p f) (Ok b.root)
encodes_as p f b d e k = subst (λ z. Encodes (obligation_root p f) (Ok z.root)) e k
