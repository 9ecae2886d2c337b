use Rattle.parameter_solver.proofs.Spanning.{given_names, given}
use Rattle.parameter_solver.proofs.Answered.{best_by, log_by, none_by}
use Rattle.parameter_solver.proofs.solving.solve.Goals as goal

pub best_values-outcome-requires-clause-over : goal.best_values-outcome-requires-clause-over
best_values-outcome-requires-clause-over c = given_names c.args.names c.clauses.result.now c.args.d.now c.clauses.ensures c.know_clauses.ensures c.requires.over

pub returns-clause-best : goal.returns-clause-best
returns-clause-best c = λ vs h.
    best_by c.args.names c.args.d.now _ _ _ _ vs (given c.args.names c.args.d.now (given_names c.args.names c.clauses.result.now c.args.d.now c.clauses.ensures c.know_clauses.ensures c.requires.over))
    c.best_values-outcome.ensures.work c.answer_with.ensures h

pub returns-clause-none : goal.returns-clause-none
returns-clause-none c = λ log h.
    none_by c.args.names c.args.d.now _ _ _ log _ (given c.args.names c.args.d.now (given_names c.args.names c.clauses.result.now c.args.d.now c.clauses.ensures c.know_clauses.ensures c.requires.over))
    c.best_values-outcome.ensures.work c.answer_with.ensures h

pub returns-clause-log : goal.returns-clause-log
returns-clause-log c = λ log h. log_by _ _ _ _ log _ c.best_values-outcome.ensures.none c.new.ensures c.answer_with.ensures h
