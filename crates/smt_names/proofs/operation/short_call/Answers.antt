use Rattle.std.proofs.Common.{◌≡◌, List, ap, subst, ◌∙◌, take, get_or}
use Rattle.std.specs.Option.{IfSome}
use Rattle.smt_terms.specs.Translation.{Standing}
use Rattle.smt_names.specs.Body.{shapes_of}
use Rattle.smt_names.specs.Saying.{Calls, calls_of, shapes_said}
use Rattle.smt_names.specs.declared.body.Body.TheVariants as b
use Rattle.smt_names.proofs.Saying.{call-leaf, call-call}
use Rattle.smt_names.proofs.operation.short_call.Goals as goal

pub returns-in-Leaf : goal.returns-in-Leaf
returns-in-Leaf c = λ e n.
    let is : get_or c.args.definitions.now c.args.k c.index-definitions-k.result ≡ b.Leaf c.in-Leaf.leaf = cc (c.in-Leaf.is, c.index-definitions-k.is) in
    c.at_arguments.ensures (calls_of c.args.definitions.now) e n
    ∙ call-leaf c.args.definitions.now c.args.k c.index-definitions-k.result c.in-Leaf.leaf (shapes_said (calls_of c.args.definitions.now) e (shapes_of c.args.arguments)) n c.if-k-definitions.true is

pub returns-in-Defined : goal.returns-in-Defined
returns-in-Defined c = λ e n.
    let D = calls_of c.args.definitions.now in
    let ss = shapes_said D e (shapes_of c.args.arguments) in
    let is : get_or c.args.definitions.now c.args.k c.index-definitions-k.result ≡ b.Defined c.in-Defined.j c.in-Defined.inner = cc (c.in-Defined.is, c.index-definitions-k.is) in
    let all = subst (λ r. IfSome r (λ bs. (C D : Calls) (e : List Standing)
    → shapes_said D e (shapes_of bs) ≡ shapes_said C (shapes_said D e (shapes_of c.as_slice-in-Defined.result.now)) (shapes_of c.as_slice.result.now))) c.in-Some.is c.in_ok-all-in-Defined.ensures in
    call-call c.args.definitions.now c.args.k c.index-definitions-k.result c.in-Defined.j c.in-Defined.inner c.in-Some.all e ss n c.if-k-definitions.true is c.if-j-k.true
    (all (calls_of (take c.args.k c.args.definitions.now)) D e
    ∙ ap (λ z. shapes_said (calls_of (take c.args.k c.args.definitions.now)) (shapes_said D e (shapes_of z)) (shapes_of c.as_slice.result.now)) c.as_slice-in-Defined.ensures
    ∙ ap (λ z. shapes_said (calls_of (take c.args.k c.args.definitions.now)) ss (shapes_of z)) c.as_slice.ensures)
