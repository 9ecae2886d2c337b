use Rattle.std.proofs.Common.{◌≡◌, ◌++◌, drop}
use Rattle.clause_text.specs.Literals.{factor_text}
use Rattle.clause_words.specs.Texts.{list_text}
use Rattle.clause_words.specs.Tokens.{spelled}
use Rattle.clause_text.proofs.printing.factors.Given as goal

abbrev pub invariant-loop-x : goal.invariant-loop-x
invariant-loop-x l = l.out.items ++ spelled (list_text factor_text (drop l.x-index l.xs)) ≡ l.fn.out.items ++ spelled (list_text factor_text l.xs)
