use Rattle.std.proofs.Common.{[]}
use Rattle.proof_tokens.specs.declared.tokens.Token.TheVariants as t
use Rattle.proof_tokens.specs.declared.part_lines.SaidLog.TheVariants as said
use Rattle.proof_tokens.specs.Lines.{IsSaidLog, said_text}
use Rattle.proof_tokens.specs.Reading.{RefusesProof}
use Rattle.proof_tokens.proofs.Refusals.{fails, no_word, refused_behind}
use Rattle.proof_grammar.specs.declared.lines.Owed.TheVariants as o
use Rattle.proof_grammar.specs.Lines.{line_text}
use Rattle.proof_grammar.specs.Owed.{Any, Pays}
use Rattle.proof_grammar.proofs.LineKinds.{log_owed}
use Rattle.proof_grammar.proofs.single_lines.log_line.Goals as goal

pub returns-in_err-inner-clause-first : goal.returns-in_err-inner-clause-first
returns-in_err-inner-clause-first c =
    fails c.in_err-inner.field-0.0 c.from_residual.result (RefusesProof (Pays Any (o.Log c.args.parts)) line_text c.args.text.now) c.from_residual.ensures.1
    (log_owed c.args.parts c.args.text.now c.in_err-inner.field-0.0
    (no_word (IsSaidLog c.args.parts) said_text t.Log (said.Entries (record { entries = [] })) c.args.text.now c.in_err-inner.field-0.0 tt c.in_err-inner.ensures.lacks))

pub returns-in_err-log-clause-first : goal.returns-in_err-log-clause-first
returns-in_err-log-clause-first c =
    fails c.in_err-log.field-0.0 c.from_residual-in_err-log.result (RefusesProof (Pays Any (o.Log c.args.parts)) line_text c.args.text.now) c.from_residual-in_err-log.ensures.1
    (log_owed c.args.parts c.args.text.now c.in_err-log.field-0.0
    (refused_behind (IsSaidLog c.args.parts) said_text t.Log c.args.text.now c.in_ok-inner.inner.now c.in_err-log.field-0.0 c.in_ok-inner.ensures.found c.in_err-log.ensures.first))
