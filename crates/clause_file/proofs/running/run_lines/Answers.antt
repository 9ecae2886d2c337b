use Rattle.std.proofs.Common.{ap, sym, ◌∙◌}
use Rattle.clause_checker.specs.Views.{state_of}
use Rattle.clause_proof.specs.Proofs.{ends_empty}
use Rattle.clause_words.proofs.Splitting.{is_none}
use Rattle.clause_file.proofs.Following.{end_wrong}
use Rattle.clause_file.proofs.running.run_lines.Goals as goal

pub returns : goal.returns
returns c = λ f n h reaches paid.
    let at = c.loop-rest.invariant.reached f n h reaches paid in
    end_wrong f n c.loop-rest.number c.args.file.now c.loop-rest.rest.now h at.0 (state_of c.loop-rest.state) (is_none c.loop-rest.rest.now (sym c.is_empty.ensures ∙ c.loop-rest-test.false))
    (sym c.if-ends_empty.false ∙ c.ends_empty.ensures ∙ ap ends_empty c.as_slice.ensures) at.3 at.1
