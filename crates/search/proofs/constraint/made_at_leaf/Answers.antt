use Rattle.std.proofs.Common.{[]}
use Rattle.sequent.specs.Views.{sequent_of}
use Rattle.pred_unify.specs.Reading.{sequent_at}
use Rattle.sequent.specs.declared.member.Pick.TheVariants.{Close}
use Rattle.search.proofs.Solving.{made_err, made_ok}
use Rattle.search.proofs.constraint.made_at_leaf.Goals as goal

pub returns-in-Ok-clause-work : goal.returns-in-Ok-clause-work
returns-in-Ok-clause-work c = made_ok (sequent_of (sequent_at c.args.leaf.now)) Close [] c.in-Ok.outcome c.in-Ok.ensures c.begin_log.ensures

pub returns-in-Err-clause-work : goal.returns-in-Err-clause-work
returns-in-Err-clause-work c =
    made_err (sequent_of (sequent_at c.args.leaf.now)) Close [] c.begin_log.new.self c.in-Err.fault c.in-Err.ensures c.begin_log.ensures c.cut.ensures.cause c.cut.ensures.place
