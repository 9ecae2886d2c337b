use Rattle.std.proofs.Common.{◌∷◌}
use Rattle.form_typed.specs.Formula.{expression}
use Rattle.function_encoding.specs.Actions.{compiled, relate}
use Rattle.function_encoding.specs.Instructions.{actions_of}
use Rattle.function_encoding.proofs.Compiling.{follows_none}
use Rattle.function_encoding.proofs.instructions.relation_code.Goals as goal

pub returns : goal.returns
returns c =
    follows_none c.new-code.result (actions_of c.compile_two.new.code) (λ m. compiled (expression c.args.s.now) (compiled (expression c.args.t.now) (relate c.args.relation ∷ m))) c.new-code.ensures c.in_ok-compile_two.ensures
