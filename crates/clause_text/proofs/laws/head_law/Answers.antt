use Rattle.clause_words.proofs.Exact.{refused}
use Rattle.clause_text.specs.Head.{head_of, head_text, IsHead}
use Rattle.clause_text.proofs.ExactHead.{head_reads}
use Rattle.clause_text.proofs.laws.head_law.Goals as goal

pub returns-clause-found : goal.returns-clause-found
returns-clause-found c = head_reads.found

pub returns-clause-again : goal.returns-clause-again
returns-clause-again c = head_reads.again

pub returns-clause-first : goal.returns-clause-first
returns-clause-first c = λ ts n h. refused IsHead head_text head_of head_reads ts n h
