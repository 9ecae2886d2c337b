use Rattle.std.proofs.Common.{◌≡◌, drop}
use Rattle.smt_shorthand.specs.Sorts.{sort_named}
use Rattle.smt_shorthand.proofs.sorts.find_sort.Given as goal

abbrev pub invariant-loop-sort : goal.invariant-loop-sort
invariant-loop-sort l = sort_named l.text (drop l.sort-index l.sorts) ≡ sort_named l.text l.sorts
