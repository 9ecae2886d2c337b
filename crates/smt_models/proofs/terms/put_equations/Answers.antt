use Rattle.std.proofs.lemmas.List.{drop_more}
use Rattle.smt_models.proofs.Printing.{equations_step}
use Rattle.smt_models.proofs.terms.put_equations.Goals as goal

pub loop-i-preserved : goal.loop-i-preserved
loop-i-preserved c =
    equations_step _ _ _ _ c.args.at.now c.loop-i.i _ (drop_more c.args.at.now c.loop-i.i _ c.loop-i-test.true) c.in_ok-extend_from_slice.ensures.items c.in_ok-put_equation.ensures c.loop-i.invariant
