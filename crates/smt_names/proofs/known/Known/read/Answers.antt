use Rattle.std.proofs.Common.{refl, [], ap, sym, subst, ◌∙◌}
use Rattle.std.proofs.lemmas.Result.{IfOk-weaker}
use Rattle.smt_names.specs.Body.{shape}
use Rattle.smt_names.specs.Saying.{calls_of, shape_said}
use Rattle.smt_names.specs.Symbols.{Agrees}
use Rattle.smt_names.proofs.known.Known.read.Goals as goal

pub returns : goal.returns
returns c = IfOk-weaker c.resolve.result _ _ (λ b h gs knows.
    ap (λ z. shape_said (calls_of z) [] (shape b)) (sym c.as_slice.ensures)
    ∙ h gs [] (subst (λ z. Agrees gs c.args.self.now.symbols z) (sym c.as_slice.ensures) knows) tt refl) c.resolve.ensures
