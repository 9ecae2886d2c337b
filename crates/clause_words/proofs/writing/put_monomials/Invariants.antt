use Rattle.std.proofs.Common.{◌≡◌, ◌++◌, drop, map, true}
use Rattle.clause_words.specs.Terms.{monomial_part, parts_text}
use Rattle.clause_words.proofs.writing.put_monomials.Given as goal

abbrev pub invariant-loop-pair : goal.invariant-loop-pair
invariant-loop-pair l = l.out.items ++ parts_text l.first (map monomial_part (drop l.pair-index l.pairs)) ≡ l.fn.out.items ++ parts_text true (map monomial_part l.pairs)
