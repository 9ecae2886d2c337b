use Rattle.std.proofs.Common.{◌≡◌, ◌++◌, drop}
use Rattle.clause_text.specs.Literals.{literal_text}
use Rattle.clause_text.specs.Shapes.{by}
use Rattle.clause_words.specs.Texts.{list_to_text}
use Rattle.clause_words.specs.Tokens.{spelled}
use Rattle.clause_text.proofs.printing.literals_by.Given as goal

abbrev pub invariant-loop-l : goal.invariant-loop-l
invariant-loop-l l = l.out.items ++ spelled (list_to_text by literal_text (drop l.l-index l.ls)) ≡ l.fn.out.items ++ spelled (list_to_text by literal_text l.ls)
