use Rattle.std.proofs.Common.{◌≡◌, ◌∙◌}
use Rattle.smt_tokens.specs.Lexemes.{lexemes_of}
use Rattle.smt_lists.proofs.Texts.{text_found, text_first, text_only}
use Rattle.smt_lists.proofs.reading.lists.Goals as goal

pub returns : goal.returns
returns c =
    let cut : c.as_slice.result.now ≡ lexemes_of c.args.bytes.now = c.as_slice.ensures ∙ c.in_ok-tokens.ensures.exact in
    record {
      found = text_found c.args.bytes.now c.as_slice.result.now c.read.result cut c.read.ensures.runs;
      only = text_only c.args.bytes.now c.as_slice.result.now c.read.result cut c.read.ensures.runs;
      first = text_first c.args.bytes.now c.as_slice.result.now c.read.result cut c.read.ensures.runs;
    }
