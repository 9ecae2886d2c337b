use Rattle.std.proofs.Common.{◌≡◌, sym, ap, subst, IfOk, Some, map}
use Rattle.std.specs.Option.{option_map}
use Rattle.smt_lists.specs.Expressions.{expr}
use Rattle.smt_shorthand.specs.Functions.{function_in, made}
use Rattle.smt_shorthand.proofs.Forms.{three}
use Rattle.smt_shorthand.proofs.functions.function_in.Goals as goal

pub returns : goal.returns
returns c =
    let is = three c.args.members.now c.name-item.result c.variables-item.result c.sort-item.result c.in-len3.len_at_least c.in-len3.len_below c.name-item.is c.variables-item.is c.sort-item.is in
    subst (λ z. IfOk c.function_by.result (λ f. option_map made f ≡ z)) (sym (ap (λ z. function_in c.args.at (Some (map expr z)) (expr c.args.term.now)) is)) c.function_by.ensures
