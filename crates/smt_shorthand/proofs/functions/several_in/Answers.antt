use Rattle.std.proofs.Common.{◌≡◌, sym, ap, subst, IfOk, map}
use Rattle.std.specs.Option.{option_map}
use Rattle.smt_lists.specs.Expressions.{expr}
use Rattle.smt_shorthand.specs.Functions.{several_in}
use Rattle.smt_shorthand.proofs.Forms.{after_three}
use Rattle.smt_shorthand.proofs.functions.several_in.Goals as goal

pub returns : goal.returns
returns c =
    let is = after_three c.args.members.now c.signatures-item.result c.terms-item.result c.in-len3.len_at_least c.in-len3.len_below c.signatures-item.is c.terms-item.is in
    subst (λ z. IfOk c.several_by.result (λ cs. option_map (map expr) cs ≡ z)) (sym (ap (λ z. several_in c.args.at (map expr z)) is)) c.several_by.ensures
