-- Marks of clauses: small sets of what their literals speak of. Those of a clause are among those of each one that it covers.
use Rattle.std.specs.Prelude.{ℕ, ℤ, ◌≡◌, ◌+◌, ◌*◌, ◌%◌, ◌^◌, Bool, true, false, cond, unsigned_abs, List, [], ◌∷◌, bit_or}
use Rattle.clause_set.specs.declared.literal.Literal.{Literal}
use Rattle.clause_set.specs.declared.literal.Literal.TheVariants.{Eq, Geq, Div, NDiv}
use Rattle.clause_set.specs.Normal.{leads_negative}
use Rattle.clause_set.specs.Clause.{IsClause}

-- a number below 128 with one more coefficient mixed in, whatever its sign
abbrev pub mixed : ℕ → ℕ × ℤ → ℕ
mixed h p = (h * 35 + p.0 + unsigned_abs p.1 % 128 * 9) % 128

-- a number below 128 that the coefficients have in common with their opposite
unfoldable pub shade : ℕ → List (ℕ × ℤ) → ℕ
shade h [] = h
shade h (p ∷ ps) = shade (mixed h p) ps

-- the set of that number alone
unfoldable pub mark : List (ℕ × ℤ) → ℕ
mark ps = 2 ^ shade 0 ps

-- the mark of a literal on one side: a bound has one where its first coefficient has that sign, any other literal on both
abbrev pub mark_of : Bool → Literal → ℕ
mark_of false (Geq t) = cond (leads_negative t.pairs) 0 (mark t.pairs)
mark_of true (Geq t) = cond (leads_negative t.pairs) (mark t.pairs) 0
mark_of b (Eq t) = mark t.pairs
mark_of b (Div d t) = mark t.pairs
mark_of b (NDiv d t) = mark t.pairs

-- the marks of the literals on one side
abbrev pub marks : Bool → List Literal → ℕ
marks b [] = 0
marks b (l ∷ ls) = bit_or (mark_of b l) (marks b ls)

-- c is a clause with these marks
pub record IsMarked (c : List Literal) (m n : ℕ) : Type 0 where
  pub clause : IsClause c
  pub own : m ≡ marks false c
  pub opposite : n ≡ marks true c
