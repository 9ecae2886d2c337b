use Rattle.clause_file.proofs.Formats.{clause_format, other_format}
use Rattle.clause_file.proofs.laws.format_law.Goals as goal

pub returns-clause-clauses : goal.returns-clause-clauses
returns-clause-clauses c = clause_format

pub returns-clause-trees : goal.returns-clause-trees
returns-clause-trees c = other_format
