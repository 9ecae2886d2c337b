use Rattle.smt_terms.specs.Term.{phrase}
use Rattle.smt_reader.proofs.Behind.{claim_on, sized_at}
use Rattle.smt_reader.proofs.following.claim.Goals as goal

pub returns-clause-follows : goal.returns-clause-follows
returns-clause-follows c s f = claim_on c.args.reading s (phrase c.args.term.now) c.in_ok-body.body c.len-definitions.result c.push.new.self c.in_ok-one.one c.beside-size.result c.in_ok-body.ensures
    (sized_at c.args.reading.forms c.args.reading.known.definitions c.as_slice.result.now c.in_ok-body.body c.in_ok-one.one c.as_slice.ensures c.in_ok-one.ensures)
    c.beside-size.ensures c.len-definitions.ensures c.in_ok-push.ensures.ok f
