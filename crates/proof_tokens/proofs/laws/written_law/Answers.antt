use Rattle.std.proofs.Common.{◌∷◌}
use Rattle.proof_tokens.specs.declared.tokens.Token.TheVariants as t
use Rattle.proof_tokens.specs.Lines.{head_text, charges_text, parts_text, part_text, use_text, log_text, none_text, solution_text}
use Rattle.proof_tokens.proofs.Respelled.{cut_back}
use Rattle.proof_tokens.proofs.Spaced.{head_spaced, charges_spaced, parts_spaced, part_spaced, log_use_spaced, none_use_spaced, log_spaced, none_spaced, solution_spaced}
use Rattle.proof_tokens.proofs.laws.written_law.Goals as goal

pub returns-clause-head : goal.returns-clause-head
returns-clause-head c = λ n rest h. cut_back (head_text n) rest (head_spaced n h)

pub returns-clause-charges : goal.returns-clause-charges
returns-clause-charges c = λ n rest h. cut_back (charges_text n) rest (charges_spaced n h)

pub returns-clause-parts : goal.returns-clause-parts
returns-clause-parts c = λ n rest h. cut_back (parts_text n) rest (parts_spaced n h)

pub returns-clause-part : goal.returns-clause-part
returns-clause-part c = λ es rest h. cut_back (part_text es) rest (part_spaced es h)

pub returns-clause-log_use : goal.returns-clause-log_use
returns-clause-log_use c = λ i rest h. cut_back (t.Log ∷ use_text i) rest (log_use_spaced i h)

pub returns-clause-none_use : goal.returns-clause-none_use
returns-clause-none_use c = λ i rest h. cut_back (t.Nothing ∷ use_text i) rest (none_use_spaced i h)

pub returns-clause-log : goal.returns-clause-log
returns-clause-log c = λ es rest h. cut_back (log_text es) rest (log_spaced es h)

pub returns-clause-none : goal.returns-clause-none
returns-clause-none c = λ es rest h. cut_back (none_text es) rest (none_spaced es h)

pub returns-clause-solution : goal.returns-clause-solution
returns-clause-solution c = λ vs rest h. cut_back (solution_text vs) rest (solution_spaced vs h)
