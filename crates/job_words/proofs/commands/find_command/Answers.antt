-- Each argument is added as its rule.
use Rattle.std.proofs.Common.{rules, ap₂, codes, ◌≡◌, ◌∙◌, true, false}
use Rattle.std.proofs.lemmas.Result.{IfOk-weaker}
use Rattle.clap.specs.Words.{app_of, rule_of, with_rule}
use Rattle.job_words.specs.Shapes.{bare_app, operand_rule, option_rule}
use Rattle.job_words.proofs.commands.find_command.Goals as goal

pub returns : goal.returns
returns c =
    let file_is : rule_of c.required-file.result ≡ operand_rule (codes "FILE") = search rules in
    let budget_is : rule_of c.long-budget.result ≡ option_rule (codes "budget", true) = search rules in
    let proof_is : rule_of c.action-proof.result ≡ option_rule (codes "proof", false) = search rules in
    let bare_is : app_of c.disable_version_flag.result ≡ bare_app (codes "find") = search rules in
    IfOk-weaker c.arg-3.result _ _ (λ r h. h.shape (search rules)
    ∙ ap₂ with_rule (c.in_ok-arg-2.ensures.shape (search rules) ∙ ap₂ with_rule (c.in_ok-arg.ensures.shape (search rules) ∙ ap₂ with_rule bare_is file_is) budget_is) proof_is)
    c.arg-3.ensures
