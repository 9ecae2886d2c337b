-- A text is put piece after piece.
use Rattle.std.proofs.Common.{◌≡◌, ℕ, ◌-◌, List, ◌++◌, length, take, drop, Option, Some, None, ◌∙◌, ap, append_assoc}
use Rattle.std.proofs.lemmas.List.{take-append-drop, take_rest}
use Rattle.prover_io.specs.Outside.{Adds}
use Rattle.base_answers.specs.Outside.{PutsAll, PutsUpTo}

-- a piece that is taken is put after the front part
puts_piece : (before now after : Option (List ℕ)) (front rest : List ℕ) (n : ℕ) → PutsAll before now front → Adds now after n rest → PutsAll before after (front ++ take n rest)
puts_piece (Some b) (Some c) after front rest n is more = let same : c ≡ b ++ front = cc in more ∙ ap (λ z. Some (z ++ take n rest)) same ∙ ap (λ z. Some z) (append_assoc b front (take n rest))
puts_piece (Some b) None after front rest n is more = absurd cc
puts_piece None (Some c) after front rest n is more = absurd cc
puts_piece None None after front rest n is more = more

-- then the text is put as far as to what the piece leaves
pub puts_more : (before now after : Option (List ℕ)) (text rest : List ℕ) (n : ℕ) → PutsUpTo before now text rest → Adds now after n rest → PutsUpTo before after text (take (length rest - n) (drop n rest))
puts_more before now after text rest n so_far more = record {
  front = so_far.front ++ take n rest;
  parts = ap (λ z. (so_far.front ++ take n rest) ++ z) (take_rest rest n) ∙ append_assoc so_far.front (take n rest) (drop n rest) ∙ ap (λ z. so_far.front ++ z) (take-append-drop n rest) ∙ so_far.parts;
  put = puts_piece before now after so_far.front rest n so_far.put more;
}
