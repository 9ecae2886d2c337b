use Rattle.std.proofs.Common.{Ok, ap, arith, refl}
use Rattle.formula.specs.Tree.{form}
use Rattle.search.proofs.Rounding.{first_turn, got_ok, next_turn, run_cut, run_found}
use Rattle.search.proofs.run.all_rounds.Goals as goal

pub loop-found-init : goal.loop-found-init
loop-found-init g c = first_turn (form c.args.root.now) c.args.constants c.args.purse.now c.args.course.now c.requires.funds

pub returns-in_err-found : goal.returns-in_err-found
returns-in_err-found g c = run_cut (form c.args.root.now) c.args.constants c.loop-found.limit c.from_residual.result c.loop-found.invariant c.from_residual.ensures.1 (c.in_err-found.ensures.err _ refl)

pub returns-in-Some : goal.returns-in-Some
returns-in-Some g c =
    let made = c.in_ok-found.ensures.some c.in-Some.found (ap Ok c.in-Some.is) in
    got_ok made.0 c.in-Some.found (run_found (form c.args.root.now) c.args.constants c.loop-found.limit made.0 c.loop-found.invariant made.1) made.2

pub overflow_add-limit : goal.overflow_add-limit
overflow_add-limit g c =
    let turn = next_turn (form c.args.root.now) c.args.constants c.loop-found.limit c.loop-found.invariant (c.in_ok-found.ensures.none (ap Ok c.in_default.is)) in
    let charged = turn.charged in
    let within = turn.within in
    let same = turn.budget in
    let budget = c.requires.budget in
    record { fits = omega (arith, charged, within, same, budget) }

pub loop-found-preserved : goal.loop-found-preserved
loop-found-preserved g c = next_turn (form c.args.root.now) c.args.constants c.loop-found.limit c.loop-found.invariant (c.in_ok-found.ensures.none (ap Ok c.in_default.is))
