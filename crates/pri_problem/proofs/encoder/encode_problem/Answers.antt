use Rattle.pri_problem.proofs.Encoded.{encoded_as, refused_as}
use Rattle.pri_problem.proofs.encoder.encode_problem.Goals as goal

pub returns-clause-encoded : goal.returns-clause-encoded
returns-clause-encoded c = encoded_as c.args.p.now _ c.encode.ensures.work c.encode.ensures.constants c.encode.ensures.over c.encode.ensures.small c.encode.ensures.truth

pub returns-clause-refused : goal.returns-clause-refused
returns-clause-refused c = refused_as c.args.p.now _ c.encode.ensures.work
