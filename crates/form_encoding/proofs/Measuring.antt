-- Extents of formulas put together.
use Rattle.std.proofs.Common.{◌≡◌, ℕ, ◌+◌, max, Bool, true, false, ◌∙◌, refl, arith}
use Rattle.base_budget.specs.Trace.{capped}
use Rattle.formula.specs.Form.{Form, Forms, no_form, and_form}
use Rattle.formula.specs.Sizes.{size, sizes, depth, depths}
use Rattle.form_encoding.specs.Encoding.{junction, quantified}
use Rattle.form_encoding.specs.Extent.{Extent, nothing, beside, above, measured, all_measured}

capped_sum : (a b : ℕ) → capped (a + b) ≡ capped (capped a + capped b)
capped_sum a b = omega arith

capped_max : (a b : ℕ) → capped (max a b) ≡ max (capped a) (capped b)
capped_max a b = omega arith

capped_more : (a : ℕ) → capped (1 + a) ≡ capped (1 + capped a)
capped_more a = omega arith

pub measured-more : (g : Form) (gs : Forms) (a b : Extent) → measured g ≡ a → all_measured gs ≡ b → all_measured (and_form g gs) ≡ beside a b
measured-more g gs a b p q =
    λ i. record {
      nodes = (capped_sum (size g) (sizes gs) ∙ (λ j. capped ((p j).nodes + (q j).nodes))) i;
      levels = (capped_max (depth g) (depths gs) ∙ (λ j. max ((p j).levels) ((q j).levels))) i;
    }

pub measured-above : (n d : ℕ) (a : Extent) → record { nodes = capped n; levels = capped d } ≡ a → record { nodes = capped (1 + n); levels = capped (1 + d) } ≡ above a
measured-above n d a p =
    λ i. record {
      nodes = (capped_more n ∙ (λ j. capped (1 + (p j).nodes))) i;
      levels = (capped_more d ∙ (λ j. capped (1 + (p j).levels))) i;
    }

pub measured-nothing : all_measured no_form ≡ nothing
measured-nothing = refl

pub measured-junction : (plus : Bool) (gs : Forms) (a : Extent) → all_measured gs ≡ a → measured (junction plus gs) ≡ above a
measured-junction true gs a p = measured-above (sizes gs) (depths gs) a p
measured-junction false gs a p = measured-above (sizes gs) (depths gs) a p

pub measured-quantified : (plus : Bool) (g : Form) (a : Extent) → measured g ≡ a → measured (quantified plus g) ≡ above a
measured-quantified true g a p = measured-above (size g) (depth g) a p
measured-quantified false g a p = measured-above (size g) (depth g) a p
