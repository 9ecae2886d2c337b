use Rattle.std.proofs.Common.{◌≡◌, ◌+◌, ◌≤◌, ◌++◌, true, map, ap, subst, sym, ◌∙◌, arith}
use Rattle.base_budget.specs.Trace.{just, next}
use Rattle.formula.specs.Form.{conjunction, forms}
use Rattle.formula.specs.Tree.{form, forms_of}
use Rattle.formula.proofs.Making.{made_ok, made_err, made_just, made_memory}
use Rattle.form_encoding.specs.Extent.{extents}
use Rattle.form_encoding.specs.Problems.{constants, types}
use Rattle.form_encoding.specs.Root.{conditions, names_from}
use Rattle.function_encoding.specs.Encoded.{all_assumed}
use Rattle.function_encoding.specs.Marks.{is_marked}
use Rattle.function_encoding.specs.Room.{HasNamesLeft}
use Rattle.function_encoding.proofs.Chosen.{members_as, members_err, members_ok, parts_made, parts_ranged, parts_room}
use Rattle.function_encoding.proofs.parts.all_of.Goals as goal

pub returns-in_err-names : goal.returns-in_err-names
returns-in_err-names c = made_memory form _ c.from_residual.ensures.1

pub members-requires-clause-ranged : goal.members-requires-clause-ranged
members-requires-clause-ranged c = parts_ranged c.args.p.now c.args.set.now c.args.components.now c.requires.formed c.requires.chosen

pub members-requires-clause-room : goal.members-requires-clause-room
members-requires-clause-room c =
    let few : constants c.args.p.now ≤ 1000 = (let h = c.requires.formed.few in omega arith) in
    let many : constants c.args.p.now ≡ c.len.result + c.len-2.result = λ i. sym c.len.ensures i + sym c.len-2.ensures i in
    subst (λ n. HasNamesLeft n (extents (all_assumed c.args.components.now))) many
    (parts_room c.args.p.now c.args.set.now c.args.marks.now c.args.components.now c.requires.formed c.requires.marked few c.requires.small c.requires.chosen)

pub returns-in_err-members : goal.returns-in_err-members
returns-in_err-members c =
    let p = c.args.p.now in
    let many : c.len.result + c.len-2.result ≡ constants p = λ i. c.len.ensures i + c.len-2.ensures i in
    parts_made p c.args.set.now c.args.marks.now c.args.components.now _ c.requires.formed c.requires.marked c.requires.chosen
    (members_err p (all_assumed c.args.components.now) c.args.marks.now _ _ c.from_residual-in_err-members.ensures.1
    (members_as (names_from 0 (constants p)) c.as_slice.result.now (constants p) _ (all_assumed c.args.components.now) _ (c.as_slice.ensures ∙ c.in_ok-names.ensures ∙ ap (names_from 0) many) many c.in_err-members.ensures))

pub returns-in_err-all : goal.returns-in_err-all
returns-in_err-all c =
    let p = c.args.p.now in
    let many : c.len.result + c.len-2.result ≡ constants p = λ i. c.len.ensures i + c.len-2.ensures i in
    parts_made p c.args.set.now c.args.marks.now c.args.components.now _ c.requires.formed c.requires.marked c.requires.chosen
    (members_ok p (all_assumed c.args.components.now) c.args.marks.now c.in_ok-members.members _
    (members_as (names_from 0 (constants p)) c.as_slice.result.now (constants p) _ (all_assumed c.args.components.now) _ (c.as_slice.ensures ∙ c.in_ok-names.ensures ∙ ap (names_from 0) many) many c.in_ok-members.ensures)
    (made_err (λ hs. map form hs) form (next (conditions (λ x. is_marked c.args.marks.now x) 0 (types p)) (λ hs. just (map form c.in_ok-members.members ++ hs))) (λ zs. just (conjunction (forms zs))) _
    c.from_residual-in_err-all.ensures.1 c.in_err-all.ensures))

pub returns : goal.returns
returns c =
    let p = c.args.p.now in
    let many : c.len.result + c.len-2.result ≡ constants p = λ i. c.len.ensures i + c.len-2.ensures i in
    parts_made p c.args.set.now c.args.marks.now c.args.components.now _ c.requires.formed c.requires.marked c.requires.chosen
    (members_ok p (all_assumed c.args.components.now) c.args.marks.now c.in_ok-members.members _
    (members_as (names_from 0 (constants p)) c.as_slice.result.now (constants p) _ (all_assumed c.args.components.now) _ (c.as_slice.ensures ∙ c.in_ok-names.ensures ∙ ap (names_from 0) many) many c.in_ok-members.ensures)
    (made_ok (λ hs. map form hs) form (next (conditions (λ x. is_marked c.args.marks.now x) 0 (types p)) (λ hs. just (map form c.in_ok-members.members ++ hs))) (λ zs. just (conjunction (forms zs)))
    c.in_ok-all.ensures (made_just form _ _ c.junction.ensures)))
