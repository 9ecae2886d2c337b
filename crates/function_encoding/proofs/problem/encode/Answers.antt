use Rattle.std.proofs.Common.{◌↔◌, IsTrue, sym, ap, ◌∙◌, subst}
use Rattle.pri_typing.specs.Problems.{IsPure}
use Rattle.form_encoding.specs.Problems.{is_large}
use Rattle.function_encoding.proofs.Roots.{made_value, root_names, root_pure, root_truth}
use Rattle.function_encoding.proofs.problem.encode.Goals as goal

pub returns-clause-over : goal.returns-clause-over
returns-clause-over c = root_names c.args.p.now c.in_ok-root.root c.requires (made_value c.in_ok-root.ensures)

pub returns-clause-small : goal.returns-clause-small
returns-clause-small c = ap is_large (made_value c.in_ok-root.ensures) ∙ sym c.is_large.ensures ∙ c.if-is_large.false

pub returns-clause-pure : goal.returns-clause-pure
returns-clause-pure c = (
  c.is_pure-pure.ensures,
  subst (λ b. IsTrue b ↔ IsPure c.args.p.now) (sym c.is_pure-pure.ensures) (root_pure c.args.p.now c.in_ok-root.root (made_value c.in_ok-root.ensures)),
)

pub returns-clause-truth : goal.returns-clause-truth
returns-clause-truth c = root_truth c.args.p.now c.in_ok-root.root c.requires (made_value c.in_ok-root.ensures)
