use Rattle.std.proofs.Common.{◌∙◌, ap}
use Rattle.proof_grammar.specs.Owed.{tree_owed}
use Rattle.proof_file.proofs.Streaming.{coming_all}
use Rattle.proof_file.proofs.stream.Lines.of_text.Goals as goal

pub returns-clause-found : goal.returns-clause-found
returns-clause-found c =
    let opening = c.in_ok-opening.opening in
    coming_all opening.charges opening.parts c.args.text.now c.in_ok-opening.rest.now c.new.result (c.new.ensures.owed ∙ ap tree_owed c.len.ensures) (c.new.ensures.parts ∙ c.len.ensures) c.in_ok-opening.ensures.found c.in_ok-opening.ensures.opened
