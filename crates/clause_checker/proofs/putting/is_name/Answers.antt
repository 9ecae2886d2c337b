use Rattle.std.proofs.Common.{ap, ◌∙◌}
use Rattle.std.specs.List.{slice_get}
use Rattle.clause_checker.proofs.Puts.{name_other}
use Rattle.clause_checker.proofs.putting.is_name.Goals as goal

pub returns-then-pair-n : goal.returns-then-pair-n
returns-then-pair-n c = name_other c.args.t.now c.args.n c.at.result c.in-Some.pair (c.at.ensures ∙ ap (λ l. slice_get l 0) c.pairs.ensures) c.in-Some.is c.if-pair-n.true
