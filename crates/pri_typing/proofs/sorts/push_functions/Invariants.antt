use Rattle.std.proofs.Common.{◌≡◌, take, ◌++◌}
use Rattle.std.specs.List.{filter_map}
use Rattle.pri_typing.specs.Sorts.{function_sort}
use Rattle.pri_typing.proofs.sorts.push_functions.Given as goal

abbrev pub invariant-loop-item : goal.invariant-loop-item
invariant-loop-item l = l.out ≡ l.initial.out ++ filter_map function_sort (take l.item-index l.items)
