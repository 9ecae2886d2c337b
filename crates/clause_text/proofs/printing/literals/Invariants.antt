use Rattle.std.proofs.Common.{◌≡◌, ◌++◌, drop}
use Rattle.clause_text.specs.Literals.{literal_text}
use Rattle.clause_words.specs.Texts.{list_text}
use Rattle.clause_words.specs.Tokens.{spelled}
use Rattle.clause_text.proofs.printing.literals.Given as goal

abbrev pub invariant-loop-l : goal.invariant-loop-l
invariant-loop-l l = l.out.items ++ spelled (list_text literal_text (drop l.l-index l.ls)) ≡ l.fn.out.items ++ spelled (list_text literal_text l.ls)
