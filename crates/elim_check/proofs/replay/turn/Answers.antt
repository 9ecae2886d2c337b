use Rattle.std.proofs.Common.{sym, ◌∙◌}
use Rattle.elim_check.proofs.Replaying.{turn_none, turn_refused, turn_stopped, turn_memory, turn_done}
use Rattle.elim_check.proofs.replay.turn.Goals as goal

pub returns-in_default : goal.returns-in_default
returns-in_default c = turn_none c.args.x c.args.entry c.args.todo c.in_default.ensures.0

pub returns-then-not-does_apply : goal.returns-then-not-does_apply
returns-then-not-does_apply c = turn_refused c.args.x c.args.entry c.args.todo c.take.new.self c.in-Some.c c.in-Some.ensures (sym c.does_apply.ensures ∙ c.if-not-does_apply.true)

pub returns-in_err-results : goal.returns-in_err-results
returns-in_err-results c =
    turn_stopped c.args.x c.args.entry c.args.todo c.take.new.self c.in-Some.c c.in-Some.ensures c.from_residual.result (sym c.does_apply.ensures ∙ c.if-not-does_apply.false) c.in_err-results.ensures c.from_residual.ensures.1

pub returns-in_err-put : goal.returns-in_err-put
returns-in_err-put c =
    turn_memory c.args.x c.args.entry c.args.todo c.take.new.self c.in-Some.c c.in-Some.ensures c.from_residual-in_err-put.result (sym c.does_apply.ensures ∙ c.if-not-does_apply.false) c.in_ok-results.ensures c.from_residual-in_err-put.ensures.1

pub returns : goal.returns
returns c = turn_done c.args.x c.args.entry c.args.todo c.take.new.self c.in-Some.c c.in-Some.ensures (sym c.does_apply.ensures ∙ c.if-not-does_apply.false) c.in_ok-results.ensures c.in_ok-put.ensures
