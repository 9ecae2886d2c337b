use Rattle.std.proofs.Common.{◌≡◌, ◌++◌, codes}
use Rattle.problem_gen.specs.Drills.{conjuncts_text}
use Rattle.problem_gen.proofs.drill.Given as goal

abbrev pub invariant-loop-i : goal.invariant-loop-i
invariant-loop-i l = l.text.items ≡ codes "\\predicates { p(int); }\n\\problem {\n" ++ conjuncts_text l.i
