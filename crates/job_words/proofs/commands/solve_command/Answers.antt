-- The last two arguments are added as their rules.
use Rattle.std.proofs.Common.{rules, ap₂, codes, ◌≡◌, ◌∙◌, false}
use Rattle.std.proofs.lemmas.Result.{IfOk-weaker}
use Rattle.clap.specs.Words.{rule_of, with_rule}
use Rattle.job_words.specs.Shapes.{option_rule}
use Rattle.job_words.proofs.commands.solve_command.Goals as goal

pub returns : goal.returns
returns c =
    let calculus_is : rule_of c.action-calculus.result ≡ option_rule (codes "calculus", false) = search rules in
    let shows_is : rule_of c.action-shows.result ≡ option_rule (codes "counterexample", false) = search rules in
    IfOk-weaker c.arg-2.result _ _ (λ r h. h.shape (search rules) ∙ ap₂ with_rule (c.in_ok-arg.ensures.shape (search rules) ∙ ap₂ with_rule c.in_ok-command.ensures calculus_is) shows_is) c.arg-2.ensures
