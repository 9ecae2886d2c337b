-- A false encoding refutes its problem.
use Rattle.std.proofs.Common.{◌≡◌, true, ℤ, List, [], ◌∷◌, ◌++◌, length, refl, ap, length-append, arith}
use Rattle.form_typed.specs.Formula.{formula}
use Rattle.form_typed.specs.Sorts.{AreValuesOf}
use Rattle.form_encoding.specs.Problems.{body, constants, problem_root}
use Rattle.form_encoding.proofs.Problems.{holds_is, over_constants_is}
use Rattle.model_check.specs.Judged.{SaysFalse}
use Rattle.model_refuting.specs.Refuting.{FitsSymbols, IsModelCounterexample}
use Rattle.model_table.specs.Models.{meaning_of}
use Rattle.model_table.specs.declared.model.Model.{Model}
use Rattle.pri_typing.specs.Problems.{Holds, IsRefutedAt, by_model}
use Rattle.pri_typing.specs.WellFormed.{IsWellFormed}
use Rattle.pri_typing.specs.declared.problem.Problem.{Problem}

pub root_fails : (p : Problem) (m : Model) (e : List ℤ) → IsWellFormed p → length e ≡ length p.existentials → SaysFalse true (meaning_of m) (problem_root p).value e → ¬ (Holds (meaning_of m) p e)
root_fails p m e formed len says h = says.refutes refl ((holds_is (meaning_of m) p e formed len).1 h)

pub all_constants : (p : Problem) (e us : List ℤ) → length e ≡ length p.existentials → length us ≡ length p.universals → length (e ++ us) ≡ constants p
all_constants p e us len many = omega (arith, length-append e us, len, many)

pub body_fails : (p : Problem) (m : Model) (e us : List ℤ) → IsWellFormed p → length e ≡ length p.existentials → length us ≡ length p.universals → AreValuesOf p.universal_types us → FitsSymbols p m
    → SaysFalse true (meaning_of m) (body p).value (e ++ us) → IsModelCounterexample p e m us
body_fails p m e us formed len many typed symbols says = record {
  many = len;
  fit = many;
  typed = typed;
  fails = λ t. says.refutes refl ((over_constants_is (meaning_of m) p (formula p.formula) (e ++ us) formed.products (all_constants p e us len many)).1 t);
  symbols = symbols;
}

pub refuted : (p : Problem) (m : Model) (us : List ℤ) → p.existentials ≡ [] → IsModelCounterexample p [] m us → (e : List ℤ) → length e ≡ length p.existentials → AreValuesOf p.existential_types e → IsRefutedAt p e
refuted p m us none c [] len typed = record { interpretation = by_model m; universals = us; fit = c.fit; typed = c.typed; fails = c.fails }
refuted p m us none c (v ∷ e) len typed = absurd (omega (arith, len, ap length none))
