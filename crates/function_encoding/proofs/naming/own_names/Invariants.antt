use Rattle.std.proofs.Common.{◌≡◌, ◌-◌, ◌++◌}
use Rattle.form_encoding.specs.Root.{names_from}
use Rattle.function_encoding.proofs.naming.own_names.Given as goal

abbrev pub invariant-loop-x : goal.invariant-loop-x
invariant-loop-x l = l.all ++ names_from l.x (l.n - l.x) ≡ names_from 0 l.n
