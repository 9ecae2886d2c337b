use Rattle.std.proofs.Common.{◌∙◌, sym}
use Rattle.function_encoding.proofs.Multiples.{named-some, named-none}
use Rattle.function_encoding.proofs.naming.named.Goals as goal

pub returns-in-Some : goal.returns-in-Some
returns-in-Some c = c.name.ensures ∙ sym (named-some c.args.at.now c.args.x c.in-Some.y.now c.in-Some.ensures.lookup.3.0 (c.in-Some.ensures.lookup.3.1 0))

pub returns-in-None : goal.returns-in-None
returns-in-None c = c.number.ensures ∙ sym (named-none c.args.at.now c.args.x c.in-None.ensures.lookup.3)
