-- What a judgement of the body tells of a model and values.
use Rattle.std.proofs.Common.{◌≡◌, ℕ, ℤ, Bool, true, false, Result, Ok, Err, List, [], length, ◌∷◌, refl, sym, ◌∙◌, subst, arith}
use Rattle.std.specs.Prelude.{IfOk}
use Rattle.std.specs.Bool.{Decides}
use Rattle.form_typed.specs.Formula.{formula}
use Rattle.form_encoding.specs.Problems.{body}
use Rattle.form_encoding.proofs.Problems.{over_constants_is}
use Rattle.formula.specs.Form.{Form}
use Rattle.model_check.specs.Judged.{SaysFalse}
use Rattle.model_refuting.specs.Refuting.{IsModelCounterexample}
use Rattle.model_refuting.specs.Tests.{is_candidate}
use Rattle.model_refuting.proofs.Refuted.{all_constants, body_fails}
use Rattle.model_refuting.proofs.Shapes.{IsCandidate, candidate_decides}
use Rattle.model_table.specs.Models.{meaning_of}
use Rattle.model_table.specs.declared.model.Model.{Model}
use Rattle.pri_typing.specs.WellFormed.{IsWellFormed}
use Rattle.pri_typing.specs.declared.problem.Problem.{Problem}

candidate_of : (p : Problem) (m : Model) (us : List ℤ) → IsModelCounterexample p [] m us → IsCandidate p m us
candidate_of p m us k = record { none = sym k.many; fit = k.fit; typed = k.typed; symbols = k.symbols }

-- what is no candidate is no counterexample
pub not_candidate : (p : Problem) (m : Model) (us : List ℤ) (b : Bool) → b ≡ is_candidate p m us → b ≡ false → Decides false (IsModelCounterexample p [] m us)
not_candidate p m us b is e = (
  λ h. absurd (let bad : false ≡ true = h in cc),
  λ k. sym e ∙ is ∙ (candidate_decides p m us).1 (candidate_of p m us k),
)

none_of : (xs : List (List ℕ)) → length xs ≡ 0 → xs ≡ []
none_of [] e = refl
none_of (x ∷ xs) e = absurd (omega (arith, e))

-- a candidate's problem has no existential constants
pub candidate_alone : (p : Problem) (m : Model) (us : List ℤ) (b : Bool) → b ≡ is_candidate p m us → b ≡ true → p.existentials ≡ []
candidate_alone p m us b is e = let c = (candidate_decides p m us).0 (sym is ∙ e) in none_of p.existentials c.none

judged : (p : Problem) (m : Model) (us : List ℤ) (b : Bool) → IsWellFormed p → IsCandidate p m us → SaysFalse b (meaning_of m) (body p).value us → Decides b (IsModelCounterexample p [] m us)
judged p m us true formed c says = (λ h. body_fails p m [] us formed (sym c.none) c.fit c.typed c.symbols says, λ h. refl)
judged p m us false formed c says = (
  λ h. absurd (let bad : false ≡ true = h in cc),
  λ k. absurd (k.fails ((over_constants_is (meaning_of m) p (formula p.formula) us formed.products (all_constants p [] us k.many k.fit)).0 (says.holds refl))),
)

-- the judgement of the body decides whether a candidate is a counterexample
pub decided : {E : Type 0} (p : Problem) (m : Model) (us : List ℤ) (r : Result Bool E) (b : Bool) (f : Form) → IsWellFormed p → b ≡ is_candidate p m us → b ≡ true → f ≡ (body p).value
    → IfOk r (λ z. SaysFalse z (meaning_of m) f us) → IfOk r (λ z. Decides z (IsModelCounterexample p [] m us))
decided p m us (Ok z) b f formed is e same says =
    judged p m us z formed ((candidate_decides p m us).0 (sym is ∙ e)) (subst (λ g. SaysFalse z (meaning_of m) g us) same says)
decided p m us (Err x) b f formed is e same says = tt

pub ruleset judging = (not_candidate, candidate_alone, decided)
