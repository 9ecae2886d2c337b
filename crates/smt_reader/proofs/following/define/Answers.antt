use Rattle.std.proofs.Common.{◌∙◌}
use Rattle.smt_terms.specs.Evaluation as evaluation
use Rattle.smt_terms.specs.Term.{phrase}
use Rattle.smt_reader.proofs.Behind.{define_on, described_at}
use Rattle.smt_reader.proofs.following.define.Goals as goal

pub returns-clause-follows : goal.returns-clause-follows
returns-clause-follows c s f new = define_on c.args.reading s c.args.text.now c.in_ok-known.known f new c.in_ok-known.ensures.earlier _
    (evaluation.texts_of c.args.arguments.now) (phrase c.args.term.now) c.in_ok-forms.forms c.in_ok-known.ensures.one
    (described_at c.args.reading.forms c.in_ok-forms.forms c.in_ok-known.known.definitions c.as_slice-2.result.now c.as_slice-2.ensures c.in_ok-forms.ensures)
    c.in_ok-known.ensures.knows (c.as_slice.ensures ∙ c.in_ok-names.ensures)
