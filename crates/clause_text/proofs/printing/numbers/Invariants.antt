use Rattle.std.proofs.Common.{◌≡◌, ◌++◌, drop}
use Rattle.std.specs.Fmt.{decimal}
use Rattle.clause_words.specs.Texts.{list_text}
use Rattle.clause_words.specs.Tokens.{spelled}
use Rattle.clause_text.proofs.printing.numbers.Given as goal

abbrev pub invariant-loop-n : goal.invariant-loop-n
invariant-loop-n l = l.out.items ++ spelled (list_text decimal (drop l.n-index l.ns)) ≡ l.fn.out.items ++ spelled (list_text decimal l.ns)
