use Rattle.std.proofs.Common.{◌≡◌, ◌∙◌, sym, ap, subst, Some, ◌++◌}
use Rattle.std.specs.List.{slice_get, remove}
use Rattle.std.specs.Option.{option_copied}
use Rattle.sequent.specs.Rules.{premises_by, place}
use Rattle.sequent.specs.Views.{added_members, sequent_of}
use Rattle.sequent.specs.declared.member.Sequent.{Sequent}
use Rattle.sequent.proofs.Premising.{premise_is}
use Rattle.sequent.proofs.premises.premise.Goals as goal

pub returns-in_ok-append-in-Some-get : goal.returns-in_ok-append-in-Some-get
returns-in_ok-append-in-Some-get c =
    let p : place c.args.p ≡ Some c.in-Some.at = sym c.place.ensures ∙ c.in-Some.is in
    let h = sym c.get.ensures.value ∙ ap option_copied c.in-Some-get.is in
    let t : Sequent = record { members = c.append.new.members; count = c.count_after.result } in
    subst (λ o. slice_get (premises_by (sequent_of c.args.s.now) o) c.args.i ≡ Some (sequent_of t)) (sym p)
    (premise_is c.args.s.now t c.in-Some.at c.args.i c.in-Some-get.m.now (added_members c.in_ok-new-in-Some-get.new) h c.in_ok-new-in-Some-get.ensures
    (c.in_ok-append-in-Some-get.ensures ∙ ap (λ l. l ++ added_members c.in_ok-new-in-Some-get.new) (c.in_ok-members-in-Some-get.ensures ∙ ap (λ l. remove l c.in-Some.at) c.as_slice.ensures)) c.count_after.ensures)
