-- One entry of a list of integers, and a name that clauses do not speak of.
use Rattle.std.proofs.Common.{◌≡◌, ℕ, suc, ℤ, pos, ◌*ℤ◌, unsigned_abs, int_le, not, ◌&&◌, ◌||◌, List, [], ◌∷◌, ◌++◌, length, take, refl, ◌∙◌, ap, arith}
use Rattle.std.specs.List.{AllByRecursion}
use Rattle.std.specs.Ordering.{int_eq}
use Rattle.std.proofs.lemmas.Int.{ints}
use Rattle.base_integers.specs.Divides.{divides}
use Rattle.base_integers.specs.Entry.{entry, put}
use Rattle.linear_term.specs.Linear.{Linear, coef_of, value_of}
use Rattle.linear_term.proofs.Names.{value_of-put, value_of-without}
use Rattle.clause_set.specs.declared.literal.Literal.{Literal}
use Rattle.clause_set.specs.declared.literal.Literal.TheVariants.{Eq, Geq, Div, NDiv}
use Rattle.clause_set.specs.Literals.{clause_truth, dnf_truth, literal_truth, term_of}

-- ---- lists
pub put_at : (pre rest : List ℤ) (u v : ℤ) → put (pre ++ u ∷ rest) (length pre) v ≡ pre ++ v ∷ rest
put_at [] rest u v = refl
put_at (x ∷ pre) rest u v = ap (λ e. x ∷ e) (put_at pre rest u v)

pub entry_at : (pre rest : List ℤ) (u : ℤ) → entry (pre ++ u ∷ rest) (length pre) ≡ u
entry_at [] rest u = refl
entry_at (x ∷ pre) rest u = entry_at pre rest u

pub take_front : (pre rest : List ℤ) → take (length pre) (pre ++ rest) ≡ pre
take_front [] rest = refl
take_front (x ∷ pre) rest = ap (λ e. x ∷ e) (take_front pre rest)

pub same_length : (pre rest : List ℤ) (u v : ℤ) → length (pre ++ u ∷ rest) ≡ length (pre ++ v ∷ rest)
same_length [] rest u v = refl
same_length (x ∷ pre) rest u v = ap (λ (k : ℕ). suc k) (same_length pre rest u v)

pub one_longer : (pre : List ℤ) (v : ℤ) → length (pre ++ v ∷ []) ≡ suc (length pre)
one_longer [] v = refl
one_longer (x ∷ pre) v = ap (λ (k : ℕ). suc k) (one_longer pre v)

-- ---- a name that does not occur
abbrev pub Misses : ℕ → Literal → Type 0
Misses j l = coef_of (term_of l) j ≡ pos 0

missed_value : (t : Linear) (j : ℕ) (v : ℤ) (e : List ℤ) → coef_of t j ≡ pos 0 → value_of t (put e j v) ≡ value_of t e
missed_value t j v e h =
    let zero : coef_of t j *ℤ v ≡ pos 0 = ap (λ (z : ℤ). z *ℤ v) h ∙ omega (arith, ints) in
    let none : coef_of t j *ℤ entry e j ≡ pos 0 = ap (λ (z : ℤ). z *ℤ entry e j) h ∙ omega (arith, ints) in
    omega (arith, ints, value_of-put t j e v, value_of-without t j e, zero, none)

missed_literal : (j : ℕ) (v : ℤ) (e : List ℤ) (l : Literal) → Misses j l → literal_truth l (put e j v) ≡ literal_truth l e
missed_literal j v e (Eq t) h = ap (λ z. int_eq z (pos 0)) (missed_value t j v e h)
missed_literal j v e (Geq t) h = ap (λ z. int_le (pos 0) z) (missed_value t j v e h)
missed_literal j v e (Div d t) h = ap (λ z. divides (unsigned_abs d) z) (missed_value t j v e h)
missed_literal j v e (NDiv d t) h = ap (λ z. not (divides (unsigned_abs d) z)) (missed_value t j v e h)

missed_clause : (j : ℕ) (v : ℤ) (e : List ℤ) (c : List Literal) → AllByRecursion (Misses j) c → clause_truth c (put e j v) ≡ clause_truth c e
missed_clause j v e [] h = refl
missed_clause j v e (l ∷ c) h = ap (λ b. b && clause_truth c (put e j v)) (missed_literal j v e l h.0) ∙ ap (λ b. literal_truth l e && b) (missed_clause j v e c h.1)

pub missed_truth : (j : ℕ) (v : ℤ) (e : List ℤ) (d : List (List Literal)) → AllByRecursion (AllByRecursion (Misses j)) d → dnf_truth d (put e j v) ≡ dnf_truth d e
missed_truth j v e [] h = refl
missed_truth j v e (c ∷ d) h = ap (λ b. b || dnf_truth d (put e j v)) (missed_clause j v e c h.0) ∙ ap (λ b. clause_truth c e || b) (missed_truth j v e d h.1)
