use Rattle.std.proofs.Common.{◌≡◌, true, false, length, nat_eq, ap, sym, ◌∙◌, if◌then◌else◌, arith}
use Rattle.std.proofs.lemmas.Result.{IfOk-weaker}
use Rattle.smt_names.specs.Body.{shapes_of}
use Rattle.smt_names.specs.Saying.{calls_of, shapes_said, nothing}
use Rattle.smt_names.proofs.Saying.{said-count, leaf_alone}
use Rattle.smt_names.proofs.operation.defined.Goals as goal

pub returns-then-len-arity : goal.returns-then-len-arity
returns-then-len-arity c =
    let D = calls_of c.args.definitions.now in
    IfOk-weaker c.call.result _ _ (λ b h uses e n.
    let ss = shapes_said D e (shapes_of c.args.arguments) in
    let same : nat_eq (length ss) c.args.arity ≡ true = (let is : length ss ≡ c.args.arity = said-count D e c.args.arguments ∙ sym c.len.ensures ∙ c.if-len-arity.true in grind arith) in
    h uses e n ∙ sym (ap (λ z. if z then D c.args.k ss n else nothing n) same)) c.call.ensures

pub returns-else-len-arity : goal.returns-else-len-arity
returns-else-len-arity c = λ uses e n.
    let D = calls_of c.args.definitions.now in
    let ss = shapes_said D e (shapes_of c.args.arguments) in
    let other : nat_eq (length ss) c.args.arity ≡ false = (let is : length ss ≡ c.len.result = said-count D e c.args.arguments ∙ sym c.len.ensures in let apart : ¬ (length ss ≡ c.args.arity) = λ q. c.if-len-arity.false (sym is ∙ q) in grind arith) in
    leaf_alone D e _ n ∙ sym (ap (λ z. if z then D c.args.k ss n else nothing n) other)
