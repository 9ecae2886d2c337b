-- The table that the members of a saturated leaf ask for.
use Rattle.std.specs.Prelude.{ℕ, ℤ, pos, Bool, true, false, cond, ◌&&◌, nat_eq, List, [], ◌∷◌}
use Rattle.std.specs.Ordering.{int_eq}
use Rattle.std.specs.Cmp.Lexicographic.{pointwise}
use Rattle.linear_term.specs.Linear.{value_of}
use Rattle.form_typed.specs.Truth.{Meaning}
use Rattle.formula.specs.Form.{Form, fails, differs, values_of}
use Rattle.sequent.specs.Sequent.{Member}

-- the row of the symbol id at these integers is that of f at xs
abbrev pub is_row : ℕ → List ℤ → ℕ → List ℤ → Bool
is_row id at f xs = nat_eq id f && pointwise int_eq at xs

abbrev pub asks_truth : Form → List ℤ → ℕ → List ℤ → Bool
asks_truth (fails q ts) e p xs = is_row q (values_of ts e) p xs
asks_truth g e p xs = false

-- the predicate is true where a negated one is to be false
abbrev pub truth_in : List Member → List ℤ → ℕ → List ℤ → Bool
truth_in [] e p xs = false
truth_in (m ∷ ms) e p xs = cond (asks_truth m.formula e p xs) true (truth_in ms e p xs)

abbrev pub value_at_first : Form → List ℤ → ℕ → List ℤ → ℤ → ℤ
value_at_first (differs g ts v) e f xs rest = cond (is_row g (values_of ts e) f xs) (value_of v e) rest
value_at_first g e f xs rest = rest

-- the value that the first member asks for, else 0
abbrev pub value_in : List Member → List ℤ → ℕ → List ℤ → ℤ
value_in [] e f xs = pos 0
value_in (m ∷ ms) e f xs = value_at_first m.formula e f xs (value_in ms e f xs)

abbrev pub table_of : List Member → List ℤ → Meaning
table_of ms e = record { truth = truth_in ms e; value = value_in ms e }
