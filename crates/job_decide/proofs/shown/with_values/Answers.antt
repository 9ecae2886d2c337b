use Rattle.std.proofs.Common.{◌≡◌, ◌∙◌, ◌++◌, List, ℕ, ap, codes, refl}
use Rattle.base_answers.specs.Answer.{Answer, line}
use Rattle.job_values.specs.Values.{no_model}
use Rattle.model_printer.specs.Models.{model_text}
use Rattle.job_decide.proofs.shown.with_values.Goals as goal

pub returns : goal.returns
returns c = λ part is.
    let told = model_text c.args.problem.now c.args.values.now no_model in
    let same : model_text c.args.problem.now c.args.values.now (record { functions = c.new.result; predicates = c.new-2.result }) ≡ told =
    λ i. model_text c.args.problem.now c.args.values.now (record { functions = c.new.ensures i; predicates = c.new-2.ensures i }) in
    let back : c.behind.result.now ≡ part = c.behind.ensures (line (codes "INVALID")) part refl (c.as_slice-2.ensures.value ∙ is) in
    let front : c.extend_from_slice.new.self.items ≡ line (codes "INVALID") ++ told =
    c.in_ok-extend_from_slice.ensures.items ∙ ap (λ t. t ++ c.as_slice.result.now) c.in_ok-text.ensures.items ∙ ap (λ t. line (codes "INVALID") ++ t) (c.as_slice.ensures.value ∙ c.in_ok-lines.ensures ∙ same) in
    let whole : c.extend_from_slice-2.new.self.items ≡ (line (codes "INVALID") ++ told) ++ part =
    c.in_ok-extend_from_slice-2.ensures.items ∙ ap (λ t. t ++ c.behind.result.now) front ∙ ap (λ t. (line (codes "INVALID") ++ told) ++ t) back in
    ap (λ (t : List ℕ). record { status = 1; text = t }) whole
