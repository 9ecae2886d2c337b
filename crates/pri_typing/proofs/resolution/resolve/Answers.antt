use Rattle.std.proofs.Common.{◌≡◌, subst, ◌⊎◌, Some}
use Rattle.std.specs.Result.{IfErr}
use Rattle.pri_typing.specs.declared.problem.TypeRefusal.TheVariants.{Memory}
use Rattle.pri_typing.specs.Faults.{least}
use Rattle.pri_typing.specs.Files.{file_faults}
use Rattle.pri_typing.proofs.Answered.{answered, if_more}
use Rattle.pri_typing.proofs.resolution.resolve.Goals as goal

pub returns-clause-refused : goal.returns-clause-refused
returns-clause-refused c = subst (λ blocks. IfErr c.resolve_problem.result (λ r. (r ≡ Memory) ⊎ (least (file_faults (record { blocks = blocks })) ≡ Some r)))
    c.as_slice-blocks.ensures c.resolve_problem.ensures.refused

pub returns-clause-well_formed : goal.returns-clause-well_formed
returns-clause-well_formed c = if_more c.resolve_problem.result (λ p h. h.formed)
    (answered _ c.args.file.now c.resolve_problem.result c.as_slice-blocks.ensures c.requires c.resolve_problem.ensures.typed c.resolve_problem.ensures.sound)

pub returns-clause-distinct : goal.returns-clause-distinct
returns-clause-distinct c = if_more c.resolve_problem.result (λ p h. h.distinct)
    (answered _ c.args.file.now c.resolve_problem.result c.as_slice-blocks.ensures c.requires c.resolve_problem.ensures.typed c.resolve_problem.ensures.sound)

pub returns-clause-identifiers : goal.returns-clause-identifiers
returns-clause-identifiers c = if_more c.resolve_problem.result (λ p h. h.identifiers)
    (answered _ c.args.file.now c.resolve_problem.result c.as_slice-blocks.ensures c.requires c.resolve_problem.ensures.typed c.resolve_problem.ensures.sound)
