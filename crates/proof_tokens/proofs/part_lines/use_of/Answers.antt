use Rattle.std.proofs.Common.{rules}
use Rattle.proof_tokens.proofs.SignBytes.{no_use}
use Rattle.proof_tokens.proofs.part_lines.use_of.Goals as goal

pub returns-then-byte_at-ne117 : goal.returns-then-byte_at-ne117
returns-then-byte_at-ne117 c = no_use c.args.parts c.args.text.now (search rules)
