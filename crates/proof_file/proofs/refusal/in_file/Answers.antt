use Rattle.proof_file.proofs.Places.{syntax_within, deep_within, syntax_placed, deep_placed}
use Rattle.proof_file.proofs.refusal.in_file.Goals as goal

pub overflow_sub-result : goal.overflow_sub-result
overflow_sub-result c = syntax_within c.args.bytes.now c.args.fault c.in-Syntax.left c.in-Syntax.is c.requires.refused c.requires.within

pub overflow_sub-result-in-Deep : goal.overflow_sub-result-in-Deep
overflow_sub-result-in-Deep c = deep_within c.args.bytes.now c.args.fault c.in-Deep.left c.in-Deep.is c.requires.refused c.requires.within

pub returns-in-Syntax : goal.returns-in-Syntax
returns-in-Syntax c = syntax_placed c.args.bytes.now c.args.fault c.in-Syntax.left c.in-Syntax.is c.requires.refused c.requires.within

pub returns-in-Deep : goal.returns-in-Deep
returns-in-Deep c = deep_placed c.args.bytes.now c.args.fault c.in-Deep.left c.in-Deep.is c.requires.refused c.requires.within
