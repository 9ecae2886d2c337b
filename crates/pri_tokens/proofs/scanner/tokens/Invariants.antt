use Rattle.std.proofs.Common.{◌≡◌, map, take}
use Rattle.pri_tokens.specs.Lexemes.{token_of}
use Rattle.pri_tokens.proofs.scanner.tokens.Given as goal

abbrev pub invariant-loop-lexeme : goal.invariant-loop-lexeme
invariant-loop-lexeme l = l.found ≡ map token_of (take l.lexeme-index l.lexeme-items)
