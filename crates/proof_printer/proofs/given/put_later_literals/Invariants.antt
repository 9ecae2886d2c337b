use Rattle.std.proofs.Common.{◌≡◌, ◌++◌, drop}
use Rattle.proof_constraint.specs.Text.{behind, literal_text}
use Rattle.proof_tokens.specs.declared.tokens.Token.TheVariants as t
use Rattle.proof_tokens.specs.Spellings.{spelled}
use Rattle.proof_printer.proofs.given.put_later_literals.Given as goal

abbrev pub invariant-loop-literal : goal.invariant-loop-literal
invariant-loop-literal l = l.out.items ++ spelled (behind literal_text t.And (drop l.literal-index l.literals)) ≡ l.fn.out.items ++ spelled (behind literal_text t.And l.literals)
