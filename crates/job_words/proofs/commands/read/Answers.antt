-- The command is simple, so clap's clauses say which words it takes, and what it finds.
use Rattle.job_words.proofs.Pairs.{and_both}
use Rattle.job_words.proofs.commands.read.Goals as goal

pub returns-in-Ok-clause-found : goal.returns-in-Ok-clause-found
returns-in-Ok-clause-found c = (c.in-Ok.ensures.kinds c.requires, (c.in-Ok.ensures.matches (and_both _ _ c.requires).0).0)
