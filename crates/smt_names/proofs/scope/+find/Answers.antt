use Rattle.std.proofs.Common.{Some, None, sym, ◌∙◌}
use Rattle.smt_names.proofs.Finding.{found_in}
use Rattle.smt_names.proofs.scope.+find.Goals as goal

pub returns-in-Some : goal.returns-in-Some
returns-in-Some t c =
    sym (found_in c.args.text.now c.args.scope.now c.in-Names.names c.in-Names.outer c.in-Names.is (Some c.in-Some.leaf) (sym c.in-Some.is ∙ c.find_last.ensures))

pub returns-in-None : goal.returns-in-None
returns-in-None t c =
    c.find.ensures ∙ sym (found_in c.args.text.now c.args.scope.now c.in-Names.names c.in-Names.outer c.in-Names.is None (sym c.in-None.is ∙ c.find_last.ensures))
