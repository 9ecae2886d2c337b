use Rattle.std.proofs.Common.{[], ◌∷◌, length, sym, ap, ◌∙◌}
use Rattle.form_typed.specs.Formula.{expressions_of}
use Rattle.function_encoding.specs.Actions.{compiled_all, predicate}
use Rattle.function_encoding.specs.Instructions.{actions_of}
use Rattle.function_encoding.proofs.Compiling.{follows_none, terms_many}
use Rattle.function_encoding.proofs.instructions.predicate_code.Goals as goal

pub returns : goal.returns
returns c =
    let ts = c.args.terms.now in
    follows_none c.new-code.result (actions_of c.compile_call.new.code) (λ m. compiled_all (expressions_of ts) (predicate c.args.plus c.args.p (length ts) ∷ m)) c.new-code.ensures c.in_ok-compile_call.ensures
    ∙ ap (λ k. compiled_all (expressions_of ts) (predicate c.args.plus c.args.p k ∷ [])) (sym (terms_many ts))
