-- The file that the tokens are has the term, or there is none.
use Rattle.std.proofs.Common.{sym, ◌∙◌}
use Rattle.job_least.proofs.Braced.{file_term, no_file}
use Rattle.job_least.proofs.term_reading.read_term.Goals as goal

pub returns-in-Ok : goal.returns-in-Ok
returns-in-Ok c = file_term c.args.bytes.now c.as_slice.result.now c.in-Ok.file c.only_term.result (c.as_slice.ensures ∙ c.in_ok-tokens.ensures) c.in-Ok.ensures.read c.only_term.ensures

pub returns-in-Err-Syntax : goal.returns-in-Err-Syntax
returns-in-Err-Syntax c =
    no_file c.args.bytes.now c.as_slice.result.now c.in-Err-Syntax.field-0 (c.as_slice.ensures ∙ c.in_ok-tokens.ensures) c.in-Err-Syntax.ensures.refused
    (λ e. let bad = sym c.in-Err-Syntax.field-0-is ∙ e in cc)

pub returns-in-Err-Literal : goal.returns-in-Err-Literal
returns-in-Err-Literal c =
    no_file c.args.bytes.now c.as_slice.result.now c.in-Err-Literal.field-0 (c.as_slice.ensures ∙ c.in_ok-tokens.ensures) c.in-Err-Literal.ensures.refused
    (λ e. let bad = sym c.in-Err-Literal.field-0-is ∙ e in cc)

pub returns : goal.returns
returns c =
    no_file c.args.bytes.now c.as_slice.result.now c.in-Err-Deep.field-0 (c.as_slice.ensures ∙ c.in_ok-tokens.ensures) c.in-Err-Deep.ensures.refused
    (λ e. let bad = sym c.in-Err-Deep.field-0-is ∙ e in cc)
