use Rattle.std.proofs.Common.{◌≡◌, ◌∙◌, ◌++◌, [], sym, arith}
use Rattle.std.proofs.lemmas.Grind.{common_steps}
use Rattle.smt_tokens.specs.Lexemes.{lexemes_of, put}
use Rattle.smt_tokens.proofs.Scan.{lexemes_step, lexemes_done}
use Rattle.smt_tokens.proofs.scanner.lexemes.Goals as goal
use Rattle.smt_tokens.proofs.scanner.lexemes.Goals.{in-Some-terminal+in_ok-push, in_default-terminal}

pub loop-piece-preserved : goal.loop-piece-preserved
loop-piece-preserved c =
    let piece = c.in-Some.piece in
    let longer : c.match-piece.found ≡ c.loop-piece.found ++ put c.loop-piece.at piece.len piece.terminal [] =
    elim c.match-piece.branch [ in-Some-terminal+in_ok-push w ↦ rw w.in-Some-terminal.is (grind (arith, common_steps)) | in_default-terminal w ↦ rw w.in_default-terminal.is (grind (arith, common_steps)) ] in
    record {
      scanned = lexemes_step c.loop-piece.found c.match-piece.found (lexemes_of c.args.bytes.now) c.loop-piece.at c.loop-piece.rest.now c.split_at.result.1.now piece
          (sym c.first_piece.ensures.exact ∙ c.in-Some.is) c.in-Some.ensures.within.0 c.split_at.ensures.back longer c.loop-piece.invariant.scanned;
      inside = omega arith;
    }

pub returns : goal.returns
returns c = record { exact = lexemes_done c.loop-piece.found (lexemes_of c.args.bytes.now) c.loop-piece.at c.loop-piece.rest.now (sym c.first_piece.ensures.exact ∙ c.in_default.is) c.loop-piece.invariant.scanned }
