use Rattle.clause_checker.specs.Views.{state_of}
use Rattle.clause_file.proofs.Following.{line_made, line_not_made, line_not_read, line_within}
use Rattle.clause_file.proofs.running.run_line.Goals as goal

pub returns-in-Ok-step-clause-made : goal.returns-in-Ok-step-clause-made
returns-in-Ok-step-clause-made c = λ f n h ls reaches paid. line_made f n c.args.file.now c.args.text.now c.in-Ok.rest.now h ls c.in-Ok.line (state_of c.args.state.now) (state_of c.step.new.state) c.args.purse.now c.step.new.purse c.in-Ok.ensures.found.0 c.in-Ok.ensures.found.1 c.in-Ok-step.ensures.does c.in-Ok-step.ensures.pays reaches paid

pub returns-in-Ok-clause-fault : goal.returns-in-Ok-clause-fault
returns-in-Ok-clause-fault c = λ f n h ls reaches paid at. line_not_made f n c.args.number c.args.file.now c.args.text.now c.in-Ok.rest.now h ls c.in-Ok.line (state_of c.args.state.now) (state_of c.step.new.state) c.args.purse.now c.step.new.purse c.in-Err-step.fault c.at_line.result c.in-Ok.ensures.found.0 c.in-Ok.ensures.found.1 c.in-Err-step.ensures.does c.in-Err-step.ensures.pays c.at_line.ensures reaches paid at

pub in_file-requires : goal.in_file-requires
in_file-requires c = line_within c.args.text.now _ c.in-Err.refusal c.in-Err.ensures.first c.requires.within

pub returns-clause-fault : goal.returns-clause-fault
returns-clause-fault c = λ f n h ls reaches paid at. line_not_read f n c.args.file.now c.args.text.now h ls (state_of c.args.state.now) c.in-Err.refusal c.in_file.result c.in-Err.ensures.first c.requires.some c.in_file.ensures reaches
