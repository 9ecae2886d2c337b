use Rattle.smt_reader.proofs.Single.{never_both, one_refusal, only_memory}
use Rattle.smt_reader.proofs.laws.one_law.Goals as goal

pub returns-clause-taken : goal.returns-clause-taken
returns-clause-taken c bytes ps e h r = only_memory bytes h.lists e h.said h.posed.fits r

pub returns-clause-large : goal.returns-clause-large
returns-clause-large c bytes e h r = only_memory bytes h.lists e h.said h.large.fits r

pub returns-clause-apart : goal.returns-clause-apart
returns-clause-apart c = never_both

pub returns-clause-first : goal.returns-clause-first
returns-clause-first c = one_refusal
