use Rattle.std.proofs.Common.{subst}
use Rattle.proof_grammar.specs.Faults.{RefusesLine}
use Rattle.proof_file.proofs.Streaming.{deep_none, syntax_none}
use Rattle.proof_file.proofs.stream.owed_line.Goals as goal

pub returns-in-Err-Syntax : goal.returns-in-Err-Syntax
returns-in-Err-Syntax c = λ l rest p d.
    syntax_none c.args.owed c.args.text.now c.in-Err-Syntax.field-0-0 (subst (λ z. RefusesLine c.args.owed c.args.text.now z) c.in-Err-Syntax.field-0-is c.in-Err-Syntax.ensures.first) l rest p d

pub returns-in-Err-Deep : goal.returns-in-Err-Deep
returns-in-Err-Deep c = λ l rest p d.
    deep_none c.args.owed c.args.text.now c.in-Err-Deep.field-0-0 (subst (λ z. RefusesLine c.args.owed c.args.text.now z) c.in-Err-Deep.field-0-is c.in-Err-Deep.ensures.first) l rest p d
