use Rattle.std.proofs.Common.{◌∙◌, ap}
use Rattle.std.specs.List.{list_all}
use Rattle.parameter_solver.specs.Over.{clause_is_over}
use Rattle.parameter_solver.proofs.Overs.{over_test}
use Rattle.parameter_solver.proofs.over.is_over.Goals as goal

pub returns : goal.returns
returns c = over_test c.args.names c.args.d.now c.clauses_are_over.result (c.clauses_are_over.ensures ∙ ap (list_all (clause_is_over c.args.names)) c.clauses.ensures)
