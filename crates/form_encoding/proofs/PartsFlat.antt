-- The flat conjunction of what parts assume.
use Rattle.std.proofs.Common.{◌≡◌, ℕ, Bool, true, false, not, List, [], ◌∷◌, ◌++◌, map, refl, ap, ◌∙◌}
use Rattle.form_typed.specs.Formula.{Formula, every, formulas}
use Rattle.base_budget.specs.Trace.{just, next}
use Rattle.pri_typing.specs.Problems.{assumed}
use Rattle.pri_typing.specs.WellFormed.{SignedFormula}
use Rattle.formula.specs.Form.{Form, Forms, conjunction, no_form, and_form, forms}
use Rattle.form_encoding.specs.Problems.{append, extended}
use Rattle.form_encoding.specs.Encoding.{encoded, all_encoded}

abbrev member : List ℕ → ℕ → SignedFormula → Form
member at n c = (encoded at n (not c.plus) c.what).value

member_is : (at : List ℕ) (n : ℕ) (plus : Bool) (f : Formula) → (encoded at n true (assumed (record { plus = plus; what = f }))).value ≡ member at n (record { plus = plus; what = f })
member_is at n true f = refl
member_is at n false f = refl

all_members : (at : List ℕ) (n : ℕ) (cs : List SignedFormula) → (all_encoded at n true (formulas (map assumed cs))).value ≡ forms (map (member at n) cs)
unfolding next just
all_members at n [] = refl
all_members at n (c ∷ cs) = λ i. and_form (member_is at n c.plus c.what i) (all_members at n cs i)

pub parts_flat : (at : List ℕ) (n : ℕ) (cs : List SignedFormula) → (encoded at n true (every (formulas (map assumed cs)))).value ≡ conjunction (forms (map (member at n) cs))
unfolding next just
parts_flat at n cs = ap conjunction (all_members at n cs)

pub append-forms : (gs hs : List Form) → append (forms gs) hs ≡ forms (gs ++ hs)
append-forms [] hs = refl
append-forms (g ∷ gs) hs = ap (and_form g) (append-forms gs hs)

pub extended_flat : (at : List ℕ) (n : ℕ) (cs : List SignedFormula) (hs : List Form)
    → extended (encoded at n true (every (formulas (map assumed cs)))).value hs ≡ conjunction (forms (map (member at n) cs ++ hs))
extended_flat at n cs hs = ap (λ f. extended f hs) (parts_flat at n cs) ∙ ap conjunction (append-forms (map (member at n) cs) hs)
