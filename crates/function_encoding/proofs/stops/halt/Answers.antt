use Rattle.std.proofs.Common.{◌≡◌, ◌∙◌, ◌+◌, true, drop, reverse, sym, arith}
use Rattle.function_encoding.specs.Actions.{is_simple, ran}
use Rattle.function_encoding.specs.Instructions.{action_of, actions_of}
use Rattle.function_encoding.proofs.Halting.{halt_err, halt_memory, leads_err, leads_item, leads_next}
use Rattle.function_encoding.proofs.stops.halt.Goals as goal

pub returns-in_err-stop-clause-err : goal.returns-in_err-stop-clause-err
returns-in_err-stop-clause-err c = halt_memory _ (λ n. ran c.args.at.now (actions_of c.args.code.now) n (reverse c.args.stack)) c.from_residual-in_err-stop.ensures.1

pub returns-in_err-stack-clause-err : goal.returns-in_err-stack-clause-err
returns-in_err-stack-clause-err c =
    let code = c.args.code.now in
    let x = c.index-code-i.result in
    let more = actions_of (drop (c.loop-i.i + 1) code) in
    let simple : is_simple (action_of x) ≡ true = sym c.is_simple.ensures ∙ c.if-is_simple.true in
    halt_err _ _ (λ n. ran c.args.at.now (actions_of code) n (reverse c.args.stack)) c.from_residual.ensures.1
    (λ d same n. leads_err c.args.at.now (actions_of code) (reverse c.args.stack) (action_of x) more (reverse c.loop-i.stack) _ d simple
    (leads_item c.args.at.now (actions_of code) (reverse c.args.stack) code c.loop-i.i x (reverse c.loop-i.stack) (omega arith) c.index-code-i.is c.loop-i.invariant) same c.in_err-stack.ensures n)

pub loop-i-preserved : goal.loop-i-preserved
loop-i-preserved c =
    let code = c.args.code.now in
    let x = c.index-code-i.result in
    let more = actions_of (drop (c.loop-i.i + 1) code) in
    let simple : is_simple (action_of x) ≡ true = sym c.is_simple.ensures ∙ c.if-is_simple.true in
    leads_next c.args.at.now (actions_of code) (reverse c.args.stack) (action_of x) more (reverse c.loop-i.stack) c.in_ok-stack.stack simple
    (leads_item c.args.at.now (actions_of code) (reverse c.args.stack) code c.loop-i.i x (reverse c.loop-i.stack) (omega arith) c.index-code-i.is c.loop-i.invariant) c.in_ok-stack.ensures
