use Rattle.std.proofs.Common.{arith, length, subst, sym, ◌∙◌, ◌<◌}
use Rattle.std.specs.Option.{IfSome}
use Rattle.pri_typing.specs.Sites.{bound_texts}
use Rattle.pri_typing.proofs.Scopes.{depth_of-within}
use Rattle.pri_typing.proofs.Tables.{length-existentials-universals}
use Rattle.pri_typing.proofs.scope.refer.Goals as goal

pub overflow_add-result : goal.overflow_add-result
overflow_add-result c =
    let within : c.in-Some.depth < length (bound_texts c.args.site.now.bound.now) =
    subst (λ r. IfSome r (λ d. d < length (bound_texts c.args.site.now.bound.now))) (sym c.depth.ensures ∙ c.in-Some.is)
    (depth_of-within c.args.text.now (bound_texts c.args.site.now.bound.now)) in
    omega (arith, within, c.requires.few, c.requires.shallow, c.constants.ensures, length-existentials-universals c.args.site.now.symbols.now)
