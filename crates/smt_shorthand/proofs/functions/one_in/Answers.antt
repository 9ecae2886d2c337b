use Rattle.std.proofs.Common.{◌≡◌, sym, ap, subst, IfOk, map}
use Rattle.std.specs.Option.{option_map}
use Rattle.smt_lists.specs.Expressions.{expr}
use Rattle.smt_shorthand.specs.Functions.{one_in}
use Rattle.smt_shorthand.proofs.Forms.{after_five}
use Rattle.smt_shorthand.proofs.functions.one_in.Goals as goal

pub returns : goal.returns
returns c =
    let is = after_five c.args.members.now c.name-item.result c.variables-item.result c.sort-item.result c.term-item.result c.in-len5.len_at_least c.in-len5.len_below c.name-item.is c.variables-item.is c.sort-item.is c.term-item.is in
    subst (λ z. IfOk c.one_by.result (λ cs. option_map (map expr) cs ≡ z)) (sym (ap (λ z. one_in c.args.at (map expr z)) is)) c.one_by.ensures
