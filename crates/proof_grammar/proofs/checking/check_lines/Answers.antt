use Rattle.std.proofs.Common.{◌∙◌, ap}
use Rattle.proof_grammar.specs.Owed.{tree_owed}
use Rattle.proof_grammar.proofs.Failing.{fails}
use Rattle.proof_grammar.specs.Refusals.{RefusesText}
use Rattle.proof_grammar.specs.Walks.{owed_of}
use Rattle.proof_grammar.proofs.Standing.{inside, inside_more, line_fails, ended_held, ended_refused}
use Rattle.proof_grammar.proofs.Shorter.{line_shorter}
use Rattle.proof_grammar.proofs.checking.check_lines.Goals as goal

pub lines-init : goal.lines-init
lines-init c = inside c.args.opening.now.parts c.args.opening.now.charges (owed_of c.new-walk.result) c.args.text.now c.args.inner.now (c.new-walk.ensures.owed ∙ ap tree_owed c.len.ensures) c.requires

pub returns-in_default-clause-found : goal.returns-in_default-clause-found
returns-in_default-clause-found c =
    ended_held c.args.opening.now.parts c.args.opening.now.charges (owed_of c.lines.walk) c.args.text.now c.lines.rest.now c.ended.result c.in_default.ensures c.ended.ensures.ok c.lines.invariant

pub returns-in_default-clause-refused : goal.returns-in_default-clause-refused
returns-in_default-clause-refused c =
    ended_refused c.args.opening.now.parts c.args.opening.now.charges (owed_of c.lines.walk) c.args.text.now c.lines.rest.now c.ended.result c.in_default.ensures c.ended.ensures.err c.lines.invariant

pub returns-in_err-behind-clause-refused : goal.returns-in_err-behind-clause-refused
returns-in_err-behind-clause-refused c =
    let h = c.lines.invariant in
    fails c.in_err-behind.field-0.0 c.from_residual.result (RefusesText c.args.text.now) c.from_residual.ensures.1
    (line_fails c.args.opening.now.parts _ c.in-Some.owed (owed_of c.lines.walk) c.in-Some.ensures.0 c.args.text.now c.lines.rest.now c.in_err-behind.field-0.0 c.in-Some.ensures.1 c.in_err-behind.ensures.err h.stands)

pub lines-smaller : goal.lines-smaller
lines-smaller c = line_shorter c.in_ok-behind.ensures.ok.line c.lines.rest.now c.in_ok-behind.behind.now c.in_ok-behind.ensures.ok.cut

pub lines-preserved : goal.lines-preserved
lines-preserved c =
    let a = c.in_ok-behind.ensures.ok in
    inside_more c.args.opening.now.parts c.args.opening.now.charges c.in-Some.owed (owed_of c.lines.walk) c.in-Some.ensures.0 (owed_of c.advance.new.walk) a.line c.args.text.now c.lines.rest.now c.in_ok-behind.behind.now c.in-Some.ensures.1
    (a.goes_on c.in-Some.ensures.0 c.in-Some.ensures.1) (a.inner c.in-Some.ensures.0 c.in-Some.ensures.1) a.pays a.cut c.lines.invariant
