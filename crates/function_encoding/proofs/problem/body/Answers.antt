use Rattle.std.proofs.Common.{◌≡◌, ◌+◌, ◌≤◌, true, length, ap, ◌∙◌, arith}
use Rattle.form_typed.specs.Formula.{formula}
use Rattle.formula.specs.Tree.{form}
use Rattle.formula.proofs.Making.{made_memory}
use Rattle.form_encoding.specs.Problems.{constants}
use Rattle.form_encoding.specs.Root.{names_from}
use Rattle.function_encoding.proofs.Encodings.{bound_as}
use Rattle.function_encoding.proofs.Roots.{ranged_of, problem_room}
use Rattle.function_encoding.proofs.problem.body.Goals as goal

pub returns-in_err-names : goal.returns-in_err-names
returns-in_err-names c = made_memory form _ c.from_residual.ensures.1

pub encoded-requires-clause-ranged : goal.encoded-requires-clause-ranged
encoded-requires-clause-ranged c = ranged_of 0 (formula c.args.p.now.formula) c.requires.formed.numbers c.requires.formed.binders

pub encoded-requires-clause-room : goal.encoded-requires-clause-room
encoded-requires-clause-room c =
    let few : constants c.args.p.now ≤ 1000 = (let h = c.requires.formed.few in omega arith) in
    let room = problem_room c.args.p.now few c.requires.small in
    let m = c.len.ensures in
    let k = c.len-2.ensures in
    omega arith

pub returns : goal.returns
returns c =
    let p = c.args.p.now in
    let many : c.len.result + c.len-2.result ≡ constants p = λ i. c.len.ensures i + c.len-2.ensures i in
    bound_as (names_from 0 (constants p)) c.as_slice.result.now (constants p) _ true (formula p.formula) _ (c.as_slice.ensures ∙ c.in_ok-names.ensures ∙ ap (names_from 0) many) many c.encoded.ensures
