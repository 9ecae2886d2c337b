use Rattle.std.proofs.Common.{refl}
use Rattle.smt_models.specs.Models.{constant_definition}
use Rattle.smt_models.proofs.Defining.{defined}
use Rattle.smt_models.proofs.models.put_constant.Goals as goal

pub returns : goal.returns
returns c =
    defined _ _ _ _ c.args.name.now (constant_definition c.args.name.now c.args.value.now) refl c.in_ok-put_head.ensures c.in_ok-put_integer.ensures c.in_ok-extend_from_slice.ensures.items
