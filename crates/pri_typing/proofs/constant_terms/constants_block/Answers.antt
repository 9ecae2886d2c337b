use Rattle.pri_typing.proofs.ConstantTerms.{block_declares}
use Rattle.pri_typing.proofs.constant_terms.constants_block.Goals as goal

pub returns : goal.returns
returns c = rw (c.in_ok-push.ensures.ok, c.new-blocks.ensures) (block_declares c.args.constants.now c.in_ok-names.names c.in_ok-names.ensures)
