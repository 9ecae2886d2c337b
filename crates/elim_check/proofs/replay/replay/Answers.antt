use Rattle.std.proofs.Common.{rules, ◌≢◌, [], refl}
use Rattle.elim_check.proofs.Chained.{read_memory}
use Rattle.elim_check.proofs.Replaying.{get_or_same, pass_failed, none_left, no_entry, turn_failed, turn_some}
use Rattle.elim_check.proofs.replay.replay.Goals as goal

pub returns-in_err-todo : goal.returns-in_err-todo
returns-in_err-todo c = read_memory c.from_residual.result c.requires c.from_residual.ensures.1

pub returns-in_err-todo-2 : goal.returns-in_err-todo-2
returns-in_err-todo-2 c =
    let some : c.in_ok-left.left ≢ [] = search rules in
    turn_failed c.args.x c.entries.todo c.entries.out c.in_err-todo-2.field-0.0 (c.in_ok-left.left, c.in_ok-left.done) _ c.from_residual-in_err-todo-2.result c.entries.invariant c.in_ok-left.ensures some (search rules)
    (get_or_same c.args.log.now c.entries.place _ _ c.entries-test.true) c.in_err-todo-2.ensures c.from_residual-in_err-todo-2.ensures.1

pub entries-preserved : goal.entries-preserved
entries-preserved c =
    let some : c.in_ok-left.left ≢ [] = search rules in
    turn_some c.args.x c.entries.todo c.entries.out (c.in_ok-left.left, c.in_ok-left.done) _ c.in_ok-todo-2.todo c.entries.invariant c.in_ok-left.ensures some (search rules)
    (get_or_same c.args.log.now c.entries.place _ _ c.entries-test.true) c.in_ok-todo-2.ensures

pub returns-in_err-left : goal.returns-in_err-left
returns-in_err-left c = pass_failed c.args.x c.entries.todo c.entries.out c.from_residual-in_err-left.result c.entries.invariant c.in_err-left.ensures c.from_residual-in_err-left.ensures.1

pub returns-then-is_empty : goal.returns-then-is_empty
returns-then-is_empty c = none_left c.args.x c.entries.todo c.entries.out (c.in_ok-left.left, c.in_ok-left.done) c.in_ok-left.done c.entries.invariant c.in_ok-left.ensures (search rules) refl

pub returns-in_err-left-2 : goal.returns-in_err-left-2
returns-in_err-left-2 c = pass_failed c.args.x c.entries.todo c.entries.out c.from_residual-in_err-left-2.result c.entries.invariant c.in_err-left-2.ensures c.from_residual-in_err-left-2.ensures.1

pub returns-then-is_empty-2 : goal.returns-then-is_empty-2
returns-then-is_empty-2 c = none_left c.args.x c.entries.todo c.entries.out (c.in_ok-left-2.left, c.in_ok-left-2.done) c.in_ok-left-2.done c.entries.invariant c.in_ok-left-2.ensures (search rules) refl

pub returns : goal.returns
returns c =
    let some : c.in_ok-left-2.left ≢ [] = search rules in
    no_entry c.args.x c.entries.todo c.entries.out (c.in_ok-left-2.left, c.in_ok-left-2.done) c.entries.invariant c.in_ok-left-2.ensures some (search rules)
