use Rattle.std.proofs.Common.{◌∙◌, ap, sym, map}
use Rattle.formula.specs.Shifts.{shifted}
use Rattle.formula.specs.Tree.{form}
use Rattle.formula.proofs.Building.{form-And, form-Or}
use Rattle.formula.proofs.Shifted.{and_shifted, or_shifted}
use Rattle.formula.proofs.shifting.+shift.Goals as goal

pub shift_by-returns-in_ok-shift_all-in-And : goal.shift_by-returns-in_ok-shift_all-in-And
shift_by-returns-in_ok-shift_all-in-And t c =
    and_shifted c.args.from c.args.by _ _ (c.in_ok-shift_all-in-And.ensures ∙ ap (map (λ f. shifted c.args.from c.args.by (form f))) c.as_slice-in-And.ensures)
    ∙ ap (shifted c.args.from c.args.by) (sym (ap form c.in-And.is ∙ form-And _))

pub shift_by-returns-in_ok-shift_all-in-Or : goal.shift_by-returns-in_ok-shift_all-in-Or
shift_by-returns-in_ok-shift_all-in-Or t c =
    or_shifted c.args.from c.args.by _ _ (c.in_ok-shift_all-in-Or.ensures ∙ ap (map (λ f. shifted c.args.from c.args.by (form f))) c.as_slice-in-Or.ensures)
    ∙ ap (shifted c.args.from c.args.by) (sym (ap form c.in-Or.is ∙ form-Or _))
