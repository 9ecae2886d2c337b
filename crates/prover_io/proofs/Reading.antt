-- What holds between two pieces of one name, and how much of it is read then.
use Rattle.std.proofs.Common.{◌≡◌, ℕ, ◌+◌, ◌≤◌, List, ◌++◌, length, drop, Option, Some, None, sym, ◌∙◌, ap, arith}
use Rattle.std.proofs.Math.Seq.{drop-append-add}
use Rattle.prover_io.specs.Outside.{TakesAtMost}

-- the bytes held and those that are left are all bytes of the name, where it tells them
abbrev pub ReadSoFar : Option (List ℕ) → Option (List ℕ) → List ℕ → Type 0
ReadSoFar (Some all) left held = (rest : List ℕ) × (left ≡ Some rest) × (held ++ rest ≡ all)
ReadSoFar None left held = left ≡ None

-- with a piece of at most n bytes more, at most those held and n are read
pub takes_piece : (told before after : Option (List ℕ)) (held : List ℕ) (n most : ℕ) → ReadSoFar told before held → TakesAtMost before after n → length held + n ≤ most → TakesAtMost told after most
takes_piece (Some all) (Some left) after held n most so_far taken room = (
  length held + taken.0,
  omega (arith, taken.1, room),
  taken.2 ∙ ap (λ z. Some z) (let same : left ≡ so_far.0 = cc in ap (drop taken.0) same ∙ sym (drop-append-add held so_far.0 taken.0) ∙ ap (drop (length held + taken.0)) so_far.2),
)
takes_piece (Some all) None after held n most so_far taken room = absurd cc
takes_piece None (Some left) after held n most so_far taken room = absurd cc
takes_piece None None after held n most so_far taken room = taken
