use Rattle.std.specs.List.{list_all}
use Rattle.smt_tokens.specs.Bytes.{is_symbol_byte}
use Rattle.smt_models.proofs.Bytes.{passed}
use Rattle.smt_models.proofs.symbols.are_symbol_bytes.Goals as goal

pub loop-byte-preserved : goal.loop-byte-preserved
loop-byte-preserved c =
    passed is_symbol_byte c.args.text.now c.loop-byte.byte-index c.is_symbol_byte-good.result (list_all is_symbol_byte c.args.text.now) c.loop-byte-test.true c.is_symbol_byte-good.ensures c.if-not-good.false c.loop-byte.invariant
