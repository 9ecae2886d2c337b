-- What a call that encodes answers, and the components of which parts are made.
use Rattle.std.specs.Prelude.{◌≡◌, ℕ, Bool, true, false, List, map, Result, Ok, Err}
use Rattle.linear_term.specs.declared.range.TermFault.TheVariants as term_fault
use Rattle.form_typed.specs.Formula.{Formulas, formula, formulas}
use Rattle.base_budget.specs.Trace.{Traced}
use Rattle.pri_typing.specs.Problems.{assumed, is_part_in}
use Rattle.pri_typing.specs.WellFormed.{SignedFormula}
use Rattle.formula.specs.declared.calculus.Core.{Core}
use Rattle.formula.specs.Form.{Form}
use Rattle.formula.specs.Made.{Made}
use Rattle.formula.specs.Tree.{form}
use Rattle.form_encoding.specs.Problems.{is_large}
use Rattle.function_encoding.specs.declared.answer.Encoded.{Encoded}
use Rattle.function_encoding.specs.declared.answer.EncodeRefusal.{EncodeRefusal}
use Rattle.function_encoding.specs.declared.answer.EncodeRefusal.TheVariants.{Large, Overflow, Memory}
use Rattle.function_encoding.specs.declared.component.Component.{Component}

-- Large exactly where the whole formula is too large; else Overflow exactly where a raw number leaves the range, with the
-- place of one that does; else the formula. Running out of memory alone is free.
abbrev pub Encodes : Traced Form → Result Core EncodeRefusal → Type 0
Encodes work (Ok f) = (is_large work.value ≡ false) × Made form work (Ok f)
Encodes work (Err Large) = is_large work.value ≡ true
Encodes work (Err (Overflow p)) = (is_large work.value ≡ false) × Made form work (Err (term_fault.Overflow p))
Encodes work (Err Memory) = Unit {0}

-- the formula of an answer
abbrev pub root_of : Result Encoded EncodeRefusal → Result Core EncodeRefusal
root_of (Ok e) = Ok e.root
root_of (Err x) = Err x

-- a component of the code as one of a problem
abbrev pub signed_of : Component → SignedFormula
signed_of c = record { plus = c.plus; what = formula c.what.now }

abbrev pub all_signed : List Component → List SignedFormula
all_signed = map signed_of

-- it is a part of this set
abbrev pub is_in : List ℕ → SignedFormula → Bool
is_in set c = is_part_in set c.what

-- what components assume
abbrev pub all_assumed : List Component → Formulas
all_assumed cs = formulas (map assumed (all_signed cs))
