use Rattle.std.proofs.Common.{◌≡◌, take, map}
use Rattle.form_encoding.specs.Meaning.{type_at}
use Rattle.form_encoding.specs.Problems.{types}
use Rattle.pred_interpolant.proofs.closing.sorts_of.Given as goal

abbrev pub invariant-loop-x : goal.invariant-loop-x
invariant-loop-x l = l.sorts.items ≡ map (type_at (types l.p)) (take l.x-index l.own)
