use Rattle.std.proofs.Common.{◌≡◌, ◌++◌, drop}
use Rattle.clause_words.specs.Terms.{term_text}
use Rattle.clause_words.specs.Texts.{list_text}
use Rattle.clause_words.specs.Tokens.{spelled}
use Rattle.clause_text.proofs.printing.terms.Given as goal

abbrev pub invariant-loop-t : goal.invariant-loop-t
invariant-loop-t l = l.out.items ++ spelled (list_text term_text (drop l.t-index l.ts)) ≡ l.fn.out.items ++ spelled (list_text term_text l.ts)
