use Rattle.std.proofs.Common.{arith}
use Rattle.base_budget.proofs.Charging.{drop-item, drop_all}
use Rattle.form_naming.proofs.Members.{one_named, none_left}
use Rattle.form_naming.proofs.renaming.+naming.Goals as goal

pub all_named-loop-g-preserved : goal.all_named-loop-g-preserved
all_named-loop-g-preserved t c =
    one_named c.args.n c.args.f c.args.ss.now c.loop-g.out c.push.new.self c.g-item.result c.in_ok-named.field-0 _ _ _ (drop-item c.args.formulas.now c.loop-g.g-index c.g-item.result (omega arith) c.g-item.is) c.in_ok-push.ensures.ok
    c.in_ok-named.ensures c.loop-g.invariant

pub all_named-returns : goal.all_named-returns
all_named-returns t c = none_left c.args.n c.args.f c.args.ss.now c.loop-g.out _ _ (drop_all c.args.formulas.now c.loop-g.g-index (omega arith)) c.loop-g.invariant
