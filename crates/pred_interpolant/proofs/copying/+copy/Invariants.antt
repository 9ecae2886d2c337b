use Rattle.std.proofs.Common.{◌≡◌, take, map}
use Rattle.form_typed.specs.Formula.{expression, formula}
use Rattle.itp_sides.specs.Closing.{renamed, renamed_term}
use Rattle.pred_interpolant.specs.Copies.{sent}
use Rattle.pred_interpolant.proofs.copying.+copy.Given as goal

abbrev pub invariant-all-loop-f : goal.invariant-all-loop-f
invariant-all-loop-f l = map formula l.out ≡ map (λ f. renamed (sent l.table l.more) (formula f)) (take l.f-index l.formulas)

abbrev pub invariant-all_terms-loop-t : goal.invariant-all_terms-loop-t
invariant-all_terms-loop-t l = map expression l.out ≡ map (λ t. renamed_term (sent l.table l.more) (expression t)) (take l.t-index l.terms)
