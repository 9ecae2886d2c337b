use Rattle.std.proofs.Common.{◌∙◌, sym, ap, Ok, Some, None}
use Rattle.proof_tree.specs.declared.run.Verdict.TheVariants.{Invalid}
use Rattle.proof_tree.specs.Proves.{verdict_if}
use Rattle.tree_checker.proofs.Concluding.{refuted_cut, refuted_no, refuted_so}
use Rattle.tree_checker.proofs.conclusion.refuted.Goals as goal

pub returns-then-is_bottom : goal.returns-then-is_bottom
returns-then-is_bottom c = λ n. refuted_so c.args.constants c.args.log.now c.args.d.now c.in-Some.left c.check_all.result (Some Invalid) n c.check_all.ensures.work c.outcome.ensures (c.in_ok-left.was ∙ ap Ok c.in-Some.is)
    (ap (λ b. verdict_if b Invalid) (sym (sym c.is_bottom.ensures ∙ c.if-is_bottom.true)))

pub returns-in-Some : goal.returns-in-Some
returns-in-Some c = λ n. refuted_so c.args.constants c.args.log.now c.args.d.now c.in-Some.left c.check_all.result None n c.check_all.ensures.work c.outcome.ensures (c.in_ok-left.was ∙ ap Ok c.in-Some.is)
    (ap (λ b. verdict_if b Invalid) (sym (sym c.is_bottom.ensures ∙ c.if-is_bottom.false)))

pub returns : goal.returns
returns c = λ n. refuted_no c.args.constants c.args.log.now c.args.d.now c.check_all.result n c.check_all.ensures.work c.outcome.ensures (c.in_ok-left.was ∙ ap Ok c.in-None.is)

pub returns-in_err-left : goal.returns-in_err-left
returns-in_err-left c = λ n. refuted_cut c.args.constants c.args.log.now c.args.d.now c.check_all.result c.from_residual.result n c.check_all.ensures.work c.outcome.ensures c.in_err-left.was c.from_residual.ensures.1
