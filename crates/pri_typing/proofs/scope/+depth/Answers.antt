use Rattle.std.proofs.Common.{rules, arith, ap, sym, ◌∙◌, Some, ◌+◌}
use Rattle.pri_typing.specs.declared.scope.BoundNames.TheViews.{the_lemmas}
use Rattle.pri_typing.specs.Sites.{bound_texts}
use Rattle.pri_typing.proofs.Scopes.{bound_more, depth_of-more, depth_by}
use Rattle.pri_typing.proofs.scope.+depth.Goals as goal

pub depth-requires : goal.depth-requires
depth-requires t c = (search (rules, the_lemmas), omega (arith, bound_more c.args.bound.now c.in-More.names c.in-More.outer c.in-More.is, c.requires))

pub returns-in-Some : goal.returns-in-Some
returns-in-Some t c =
    let outer = bound_texts c.in-More.outer.now in
    sym (depth_of-more c.args.text.now c.args.bound.now c.in-More.names c.in-More.outer c.in-More.is
    ∙ ap (depth_by c.args.text.now outer) (sym c.last_place_of.ensures.found ∙ c.in-Some.is)
    ∙ ap (λ n. Some (n + c.in-Some.i)) (sym c.count_bound.ensures))

pub returns-in-None : goal.returns-in-None
returns-in-None t c =
    let outer = bound_texts c.in-More.outer.now in
    c.depth.ensures ∙ sym (depth_of-more c.args.text.now c.args.bound.now c.in-More.names c.in-More.outer c.in-More.is
    ∙ ap (depth_by c.args.text.now outer) (sym c.last_place_of.ensures.found ∙ c.in-None.is))
