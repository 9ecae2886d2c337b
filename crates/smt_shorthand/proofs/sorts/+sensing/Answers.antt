use Rattle.std.proofs.Common.{◌∙◌, sym}
use Rattle.smt_shorthand.proofs.Senses.{listed_sense}
use Rattle.smt_shorthand.proofs.sorts.+sensing.Goals as goal

pub read_sense-returns-in_ok-arguments-in-List : goal.read_sense-returns-in_ok-arguments-in-List
read_sense-returns-in_ok-arguments-in-List t c =
    c.sense_applied.ensures
    ∙ listed_sense c.args.sorts.now c.args.parameters.now c.args.e.now c.in-List.field-0 c.in-List.members c.in-Some.head.now c.in-Some.rest.now c.as_slice-in-List.result.now
    c.in-List.is (sym c.as_slice.ensures ∙ c.in-Some.ensures.cases.0) (c.as_slice-in-List.ensures ∙ c.in_ok-arguments-in-List.ensures)
