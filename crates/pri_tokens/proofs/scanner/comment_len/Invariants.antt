use Rattle.std.proofs.Common.{◌≡◌, ◌+◌, false, drop}
use Rattle.std.specs.Option.{option_map}
use Rattle.pri_tokens.specs.Lexemes.{behind_close}
use Rattle.pri_tokens.proofs.scanner.comment_len.Given as goal

abbrev pub invariant-loop-i : goal.invariant-loop-i
invariant-loop-i l = behind_close false l.text ≡ option_map (λ n. l.i + n) (behind_close l.star (drop l.i l.text))
