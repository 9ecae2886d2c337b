use Rattle.std.proofs.Common.{◌≡◌, ◌++◌, ◌∙◌, ap, length, refl, subst, sym}
use Rattle.base_answers.specs.Answer.{answer_of}
use Rattle.job_dialogue.specs.Dialogue.{IsRefusal, front_of}
use Rattle.job_dialogue.specs.Views.{held_of}
use Rattle.job_dialogue.proofs.Asking.{outcome_made, placed_error, script_accepts, script_refuses, when_false, when_true}
use Rattle.job_dialogue.proofs.judging.ask.Goals as goal

pub returns : goal.returns
returns g c =
    let same : c.as_slice-2.result.now ≡ front_of (held_of c.args.dialogue) c.args.kind ++ c.args.body.now =
    c.as_slice-2.ensures.value ∙ (c.in_ok-extend_from_slice.ensures.items ∙ ap (λ z. z ++ c.args.body.now) c.in_ok-asked.ensures) in
    script_refuses c.args.budget (held_of c.args.dialogue) c.args.kind c.args.body.now c.as_slice-2.result.now (answer_of c.in_ok-output.output) c.in_ok-e.e _ same c.in_ok-output.ensures
    (when_false c.is_taken.result _ _ c.is_taken.ensures c.if-is_taken.false)
    (subst (λ z. IsRefusal z c.in_ok-e.e) (c.as_slice-3.ensures.value ∙ sym c.as_slice-2.ensures.value) c.in_ok-e.ensures)
    (outcome_made _ _ _ _ _ refl refl (placed_error (held_of c.args.dialogue) c.args.kind c.args.body.now _ (length c.as_slice.result.now) c.in_ok-spot.spot c.in_ok-e.e (ap length (c.as_slice.ensures.value ∙ c.in_ok-asked.ensures)) c.in_ok-spot.ensures c.in_ok-text-2.ensures))

pub returns-then-is_taken : goal.returns-then-is_taken
returns-then-is_taken g c =
    let same : c.as_slice-2.result.now ≡ front_of (held_of c.args.dialogue) c.args.kind ++ c.args.body.now =
    c.as_slice-2.ensures.value ∙ (c.in_ok-extend_from_slice.ensures.items ∙ ap (λ z. z ++ c.args.body.now) c.in_ok-asked.ensures) in
    script_accepts c.args.budget (held_of c.args.dialogue) c.args.kind c.args.body.now c.as_slice-2.result.now (answer_of c.in_ok-output.output) _ same c.in_ok-output.ensures (when_true c.is_taken.result _ _ c.is_taken.ensures c.if-is_taken.true)
    (outcome_made _ _ _ _ _ refl c.in_ok-dialogue.ensures c.in_ok-text.ensures)
