-- m·s + n·t for linear terms s and t, and the numbers that are computed for it.
use Rattle.std.specs.Prelude.{ℕ, ℤ, pos, ◌+ℤ◌, ◌*ℤ◌, List, [], ◌∷◌, ◌++◌, map, cond, nat_lt}
use Rattle.std.specs.Ordering.{int_eq}
use Rattle.linear_term.specs.declared.merge.Aligned.{Aligned}
use Rattle.linear_term.specs.declared.range.Place.{Place}
use Rattle.linear_term.specs.Linear.{Linear}

-- the names of the second term alone
abbrev pub aligned_right : List (ℕ × ℤ) → List Aligned
aligned_right [] = []
aligned_right (q ∷ qs) = record { name = q.0; left = pos 0; right = q.1 } ∷ aligned_right qs

-- a pair p of the first term before others of it, which `rest` aligns: the lesser of two names goes first
abbrev pub aligned_behind : (ℕ × ℤ) → (List (ℕ × ℤ) → List Aligned) → List (ℕ × ℤ) → List Aligned
aligned_behind p rest [] = record { name = p.0; left = p.1; right = pos 0 } ∷ rest []
aligned_behind p rest (q ∷ qs) =
    cond (nat_lt p.0 q.0) (record { name = p.0; left = p.1; right = pos 0 } ∷ rest (q ∷ qs))
    (cond (nat_lt q.0 p.0) (record { name = q.0; left = pos 0; right = q.1 } ∷ aligned_behind p rest qs)
    (record { name = p.0; left = p.1; right = q.1 } ∷ rest qs))

-- the names of two terms, each once and in their order, with its two coefficients, 0 where it does not occur
abbrev pub aligned : List (ℕ × ℤ) → List (ℕ × ℤ) → List Aligned
aligned [] qs = aligned_right qs
aligned (p ∷ ps) qs = aligned_behind p (aligned ps) qs

-- the pair of x and k before the pairs ps; none where k is 0
abbrev pub with_pair : ℕ → ℤ → List (ℕ × ℤ) → List (ℕ × ℤ)
with_pair x k ps = cond (int_eq k (pos 0)) ps ((x, k) ∷ ps)

-- each name with m times its first and n times its second coefficient, where that is not 0
abbrev pub combined : ℤ → ℤ → List Aligned → List (ℕ × ℤ)
combined m n [] = []
combined m n (r ∷ rs) = with_pair r.name ((m *ℤ r.left) +ℤ (n *ℤ r.right)) (combined m n rs)

-- the term m·s + n·t
unfoldable pub combination : ℤ → Linear → ℤ → Linear → Linear
combination m s n t = record {
  pairs = combined m n (aligned s.pairs t.pairs);
  constant = (m *ℤ s.constant) +ℤ (n *ℤ t.constant);
}

-- the number m·a + n·b of a name with the coefficients a and b
abbrev pub place_of : ℤ → ℤ → Aligned → Place
place_of m n r = record { m = m; a = r.left; n = n; b = r.right }

-- the numbers of m·s + n·t: m·a + n·b for each name of s or t in their order, and at the end the one of the constants
unfoldable pub raw_numbers : ℤ → Linear → ℤ → Linear → List Place
raw_numbers m s n t =
    map (place_of m n) (aligned s.pairs t.pairs) ++ (record { m = m; a = s.constant; n = n; b = t.constant } ∷ [])
