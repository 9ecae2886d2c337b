use Rattle.pri_problem.proofs.Sizes.{searchable}
use Rattle.itp_lines.proofs.Outcomes.{ends_at, not_invalid, not_saturated, valid_proved, valid_runs}
use Rattle.itp_lines.proofs.middles.proved.Goals as goal

pub prove-requires-clause-searchable : goal.prove-requires-clause-searchable
prove-requires-clause-searchable c = searchable c.requires.sound.problem c.args.encoded c.requires.sound.formed c.requires.sound.encoded

pub unreachable-requires : goal.unreachable-requires
unreachable-requires c = not_invalid c.args.encoded _ _ c.in-Invalid.constraint c.in-Invalid.tree c.requires.sound (ends_at _ _ _ _ _ _ c.in_ok-tree.ensures c.in-Invalid.is)

pub unreachable-requires-in-Saturated : goal.unreachable-requires-in-Saturated
unreachable-requires-in-Saturated c = not_saturated c.args.encoded _ _ c.in-Saturated.constraint c.in-Saturated.tree c.requires.sound (ends_at _ _ _ _ _ _ c.in_ok-tree.ensures c.in-Saturated.is)

pub returns-in-Valid-clause-work : goal.returns-in-Valid-clause-work
returns-in-Valid-clause-work c = valid_runs c.args.encoded _ _ c.in-Valid.constraint c.in-Valid.solution c.in-Valid.tree c.requires.sound (ends_at _ _ _ _ _ _ c.in_ok-tree.ensures c.in-Valid.is)

pub returns-in-Valid-clause-proved : goal.returns-in-Valid-clause-proved
returns-in-Valid-clause-proved c = valid_proved c.args.encoded _ _ c.in-Valid.constraint c.in-Valid.solution c.in-Valid.tree c.requires.sound (ends_at _ _ _ _ _ _ c.in_ok-tree.ensures c.in-Valid.is)
