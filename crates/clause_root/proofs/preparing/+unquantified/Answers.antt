use Rattle.std.proofs.Common.{◌+◌, ◌-◌, arith}
use Rattle.formula.specs.Tree.{form}
use Rattle.clause_root.proofs.Members.{if_ok, if_same, no_name, next_name, below_depth_is, below_over_is}
use Rattle.clause_root.proofs.preparing.+unquantified.Goals as goal

pub returns-in-None : goal.returns-in-None
returns-in-None t c = if_same c.attempt_pure-in-None.result _ _ _ (no_name c.args.most c.args.names c.args.left.now (form c.args.f.now) (omega (arith, c.if-most-eq0.false)) c.in-None.ensures.none) c.attempt_pure-in-None.ensures

pub unquantified-requires : goal.unquantified-requires
unquantified-requires t c =
    let same = below_depth_is c.args.names _ _ (form c.args.f.now) (form c.in_ok-under-in-Some.under) c.in_ok-under-in-Some.ensures in
    (omega (arith, c.decreases, c.if-most-eq0.false), (omega (arith, same, c.requires.room, c.if-most-eq0.false), below_over_is c.args.names _ _ (form c.args.f.now) (form c.in_ok-under-in-Some.under) c.in_ok-under-in-Some.ensures c.requires.over))

pub returns-in_ok-body-in-Some : goal.returns-in_ok-body-in-Some
returns-in_ok-body-in-Some t c =
    if_ok c.reading.result _ _ (λ h is. next_name c.args.most (c.args.most - 1) c.args.names (c.args.names + 1) c.args.left.now c.unquantified.new.left (form c.args.f.now) (form c.in_ok-under-in-Some.under) (form c.in_ok-body-in-Some.body) (form h)
    c.in-Some.found.0 c.in-Some.found.1.now (omega (arith, c.if-most-eq0.false)) (omega arith) c.in-Some.ensures.some c.in_ok-under-in-Some.ensures c.in_ok-body-in-Some.ensures is) c.reading.ensures
