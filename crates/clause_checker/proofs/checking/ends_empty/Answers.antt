use Rattle.std.proofs.Common.{◌∙◌, sym, ap, Some}
use Rattle.std.specs.Option.{option_copied}
use Rattle.clause_checker.proofs.Checks.{end_tested}
use Rattle.clause_checker.proofs.checking.ends_empty.Goals as goal

pub returns-in-Some-Some : goal.returns-in-Some-Some
returns-in-Some-Some c =
    end_tested c.args.clauses.now c.in-Some-Some.clause c.is_empty-in-Some-Some.result (sym c.at.ensures ∙ ap option_copied c.in-Some-Some.is ∙ ap Some c.in-Some-Some.field-0-is) c.is_empty-in-Some-Some.ensures
