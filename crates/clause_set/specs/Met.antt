-- Some value of a name makes a disjunction of clauses true.
use Rattle.std.specs.Prelude.{ℕ, ℤ, ◌≡◌, true, List}
use Rattle.base_integers.specs.Entry.{put}
use Rattle.clause_set.specs.declared.literal.Literal.{Literal}
use Rattle.clause_set.specs.Literals.{dnf_truth}

-- where x becomes some integer v in e, the disjunction d is true
abbrev pub IsMet : List (List Literal) → ℕ → List ℤ → Type 0
IsMet d x e = (v : ℤ) × (dnf_truth d (put e x v) ≡ true)
