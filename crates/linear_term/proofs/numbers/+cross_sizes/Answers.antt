use Rattle.std.proofs.Common.{refl, arith}
use Rattle.linear_term.proofs.Euclid.{crosses_ends, crosses_rest, crosses_more}
use Rattle.linear_term.proofs.numbers.+cross_sizes.Goals as goal

pub returns-then-rest-eq0 : goal.returns-then-rest-eq0
returns-then-rest-eq0 t c = crosses_ends _ _ c.requires c.if-rest-eq0.true

pub returns-then-below-eq0 : goal.returns-then-below-eq0
returns-then-below-eq0 t c = crosses_rest _ _ _ c.cross_sizes-below.result c.requires refl c.cross_sizes-below.ensures c.if-below-eq0.true

pub returns : goal.returns
returns t c = crosses_more _ _ _ c.cross_sizes-below.result _ _ c.requires refl c.cross_sizes-below.ensures (omega arith) refl refl
