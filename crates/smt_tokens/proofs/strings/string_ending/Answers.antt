use Rattle.std.proofs.Common.{◌≡◌, ◌==◌, false, get_or, sym, ◌∙◌, arith}
use Rattle.std.proofs.lemmas.Bool.{eq-eqb}
use Rattle.std.proofs.lemmas.Bool.Decides.{nat_tests}
use Rattle.smt_tokens.specs.Lexemes.{string_ending_of}
use Rattle.smt_tokens.proofs.Quotes.{behind_quote, behind_byte}
use Rattle.smt_tokens.proofs.strings.string_ending.Goals as goal
use Rattle.smt_tokens.proofs.strings.string_ending.Goals.{then-byte-eq34, else-byte-eq34+else-quote+else-not-is_string_byte}

pub loop-i-preserved : goal.loop-i-preserved
loop-i-preserved c = elim c.if-byte-eq34.branch [
  | then-byte-eq34 w ↦ rw w.quote-is (behind_quote c.args.text.now c.loop-i.i c.loop-i.quote (string_ending_of c.args.text.now) c.loop-i-test.true (eq-eqb _ _ w.if-byte-eq34.true) c.loop-i.invariant)
  | else-byte-eq34+else-quote+else-not-is_string_byte w ↦ (
      let apart : (get_or c.args.text.now c.loop-i.i 0 == 34) ≡ false = let n = w.if-byte-eq34.false in grind (arith, nat_tests) in
      let begun = rw w.if-quote.false at c.loop-i.invariant in
      rw (w.quote-is, w.if-quote.false) (behind_byte c.args.text.now c.loop-i.i (string_ending_of c.args.text.now) c.loop-i-test.true apart (sym w.is_string_byte.ensures ∙ w.if-not-is_string_byte.false) begun))
]
