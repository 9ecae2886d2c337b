use Rattle.std.proofs.Common.{◌∙◌}
use Rattle.smt_reader.proofs.Behind.{predicate_on}
use Rattle.smt_reader.proofs.following.declare_predicate.Goals as goal

pub returns-clause-follows : goal.returns-clause-follows
returns-clause-follows c s f new = predicate_on c.args.reading s c.args.text.now c.in_ok-known.known f new c.in_ok-known.ensures.earlier c.push.new.self c.in_ok-number.field-0 c.args.arity
    c.in_ok-symbol.field-0 c.in_ok-known.ensures.definitions c.in_ok-known.ensures.knows (c.in_ok-number.ensures ∙ c.len.ensures) c.in_ok-push.ensures.ok c.in_ok-symbol.ensures
