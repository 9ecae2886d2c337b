-- Linear terms as words, as `3*c0-c2+5`: names rise, a coefficient 1 is not written, and the constant is written where it is
-- not 0 or stands alone.
use Rattle.std.specs.Prelude.{ℕ, ◌+◌, ◌==◌, ◌||◌, ◌&&◌, not, ℤ, pos, int_lt, unsigned_abs, Bool, true, false, List, [], ◌∷◌, ◌++◌, map, take, drop, Option, Some, None, cond, nat_eq, nat_lt, nat_le}
use Rattle.std.specs.Ordering.{int_eq}
use Rattle.std.specs.Option.{option_map}
use Rattle.std.specs.List.{prefix_len}
use Rattle.std.specs.Fmt.{decimal}
use Rattle.linear_term.specs.Linear.{Linear, number, with_monomial}
use Rattle.clause_words.specs.Numbers.{index_of, size_of, signed}
use Rattle.clause_words.specs.declared.terms.Part.{Part}
use Rattle.clause_words.specs.declared.terms.Part.TheVariants as p
use Rattle.clause_words.specs.declared.terms.Sum.{Sum}

-- how a part of a sum is written, but for its sign
abbrev pub factor_text : ℕ → List ℕ
factor_text n = cond (nat_eq n 1) [] (decimal n ++ 42 ∷ [])

abbrev pub part_text : Part → List ℕ
part_text (p.Constant n) = decimal n
part_text (p.Monomial n x) = factor_text n ++ 99 ∷ decimal x

-- a part of a sum, and whether it is subtracted
abbrev pub SignedPart : Type 0
SignedPart = Bool × Part

-- the sign before a part: before the first one only a `-`
abbrev pub sign_text : Bool → Bool → List ℕ
sign_text true minus = cond minus (45 ∷ []) []
sign_text false minus = cond minus 45 43 ∷ []

abbrev pub parts_text : Bool → List SignedPart → List ℕ
parts_text first [] = []
parts_text first (s ∷ more) = sign_text first s.0 ++ (part_text s.1 ++ parts_text false more)

abbrev pub is_none : List (ℕ × ℤ) → Bool
is_none [] = true
is_none (m ∷ ms) = false

-- the constant k after these monomials
abbrev pub constant_parts : Bool → ℤ → List SignedPart
constant_parts alone k = cond (int_eq k (pos 0) && not alone) [] ((int_lt k (pos 0), p.Constant (unsigned_abs k)) ∷ [])

abbrev pub monomial_part : (ℕ × ℤ) → SignedPart
monomial_part m = (int_lt m.1 (pos 0), p.Monomial (unsigned_abs m.1) m.0)

abbrev pub term_parts : Linear → List SignedPart
term_parts t = map monomial_part t.pairs ++ constant_parts (is_none t.pairs) t.constant

-- the one spelling of a term
abbrev pub term_text : Linear → List ℕ
term_text t = parts_text true (term_parts t)

-- the word of a part: `c1`, `5`, `3*c1`
abbrev pub monomial_of : Option ℕ → Option ℕ → Option Part
monomial_of (Some n) (Some x) = cond (nat_lt 1 n) (Some (p.Monomial n x)) None
monomial_of n x = None

abbrev pub behind_star : List ℕ → List ℕ → Option Part
behind_star ds [] = option_map p.Constant (size_of ds)
behind_star ds (b ∷ []) = None
behind_star ds (b ∷ c ∷ xs) = cond (c == 99) (monomial_of (size_of ds) (index_of xs)) None

abbrev pub no_star : ℕ → Bool
no_star b = not (b == 42)

abbrev pub star_part : List ℕ → Option Part
star_part w = behind_star (take (prefix_len no_star w) w) (drop (prefix_len no_star w) w)

unfoldable pub part_of : List ℕ → Option Part
part_of [] = None
part_of (b ∷ bs) = cond (b == 99) (option_map (p.Monomial 1) (index_of bs)) (star_part (b ∷ bs))

-- one more byte before the words of parts
abbrev pub longer : ℕ → Bool → List (Bool × List ℕ) → List (Bool × List ℕ)
longer b minus [] = (minus, b ∷ []) ∷ []
longer b minus (s ∷ more) = (s.0, b ∷ s.1) ∷ more

-- the words of the parts of a sum, of which the first is subtracted or not
unfoldable pub parts : Bool → List ℕ → List (Bool × List ℕ)
parts minus [] = (minus, []) ∷ []
parts minus (b ∷ bs) =
    cond (b == 43) ((minus, []) ∷ parts false bs)
    (cond (b == 45) ((minus, []) ∷ parts true bs)
    (longer b minus (parts minus bs)))

abbrev pub no_sign : ℕ → Bool
no_sign b = not (b == 43) && not (b == 45)

-- the words of the parts that a sign begins
abbrev pub parts_behind : List ℕ → List (Bool × List ℕ)
parts_behind [] = []
parts_behind (b ∷ bs) = parts (b == 45) bs

-- the sum with one more monomial, the names being above those before
abbrev pub with_name : Sum → Bool → ℕ → ℕ → Option Sum
with_name s minus n x = cond (nat_le s.least x) (Some (record { term = with_monomial s.term x (signed minus n); least = x + 1 })) None

-- the term that ends with a constant; a 0 stands alone
abbrev pub may_end : List (ℕ × ℤ) → Bool → ℕ → Bool
may_end ms minus n = nat_lt 0 n || (is_none ms && not minus)

abbrev pub ended : Sum → Bool → ℕ → Option Linear
ended s minus n = cond (may_end s.term.pairs minus n) (Some (record { pairs = s.term.pairs; constant = signed minus n })) None

abbrev pub ended_by : List ℕ → Sum → Bool → ℕ → Option Linear
ended_by [] s minus n = ended s minus n
ended_by (b ∷ bs) s minus n = None

-- the term that a sum and these words of parts are
unfoldable pub sum_of : Sum → List (Bool × List ℕ) → Option Linear
sum_of s [] = Some s.term
sum_of s (w ∷ ws) = go (part_of w.1) ws (λ t. sum_of t ws)
  where
    named : Option Sum → (Sum → Option Linear) → Option Linear
    named None k = None
    named (Some t) k = k t

    whole : Option Linear → List (Bool × List ℕ) → Option Linear
    whole t [] = t
    whole t (v ∷ vs) = None

    go : Option Part → List (Bool × List ℕ) → (Sum → Option Linear) → Option Linear
    go None vs k = None
    go (Some (p.Monomial n x)) vs k = named (with_name s w.0 n x) k
    go (Some (p.Constant n)) vs k = whole (ended s w.0 n) vs

abbrev pub nothing : Sum
nothing = record { term = number (pos 0); least = 0 }

-- the term that a word is
unfoldable pub term_of : List ℕ → Option Linear
term_of [] = None
term_of (b ∷ bs) = cond (b == 45) (sum_of nothing (parts true bs)) (sum_of nothing (parts false (b ∷ bs)))
