use Rattle.std.proofs.Common.{sym, ◌∙◌}
use Rattle.proof_file.proofs.Parts.{marked}
use Rattle.proof_file.proofs.file.body.Goals as goal

pub returns-then-is_marker-2-clause-exact : goal.returns-then-is_marker-2-clause-exact
returns-then-is_marker-2-clause-exact c =
    marked c.args.bytes.now c.lines.rest.now c.in-Some.line.now c.in-Some.more.now c.lines.invariant.0 c.in-Some.ensures.first (sym c.is_marker-in-lines.ensures ∙ c.if-is_marker-2.true)
