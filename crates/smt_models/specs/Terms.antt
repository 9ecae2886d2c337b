-- The terms that the tables of a model are. Their only symbols are operators and parameters.
use Rattle.std.specs.Prelude.{ℕ, suc, ℤ, pos, negsuc, Bool, true, List, [], ◌∷◌, ◌++◌, codes, if◌then◌else◌}
use Rattle.std.specs.Fmt.{decimal}
use Rattle.model_table.specs.declared.model.TruthEntry.{TruthEntry}
use Rattle.model_table.specs.declared.model.ValueEntry.{ValueEntry}
use Rattle.smt_terms.specs.Term.{PlacedTerm, number, used, phrases}

-- a symbol at these terms
abbrev pub use_of : List ℕ → List PlacedTerm → PlacedTerm
use_of x ts = used 0 (record { at = 0; text = x }) (phrases ts)

-- an integer: a numeral, or the negative of one
abbrev pub integer_term : ℤ → PlacedTerm
integer_term (pos n) = number 0 (pos n)
integer_term (negsuc n) = use_of (codes "-") (number 0 (pos (suc n)) ∷ [])

abbrev pub truth_term : Bool → PlacedTerm
truth_term b = use_of (if b then codes "true" else codes "false") []

-- the name of the parameter of this number
abbrev pub argument : ℕ → List ℕ
argument k = codes "x!" ++ decimal k

-- the parameter of this number is v
abbrev pub equation : ℕ → ℤ → PlacedTerm
equation k v = use_of (codes "=") (use_of (argument k) [] ∷ (integer_term v ∷ []))

-- the parameters from this number on are these integers, in order
abbrev pub equations : ℕ → List ℤ → List PlacedTerm
equations k [] = []
equations k (v ∷ vs) = equation k v ∷ equations (suc k) vs

-- all of these are true
abbrev pub all_terms : List PlacedTerm → PlacedTerm
all_terms [] = truth_term true
all_terms (t ∷ []) = t
all_terms (t ∷ (s ∷ ts)) = use_of (codes "and") (t ∷ (s ∷ ts))

-- the value in the first row at the parameters, else the default
abbrev pub values_term : List ValueEntry → ℤ → PlacedTerm
values_term [] d = integer_term d
values_term (row ∷ rows) d = use_of (codes "ite") (all_terms (equations 0 row.at) ∷ (integer_term row.value ∷ (values_term rows d ∷ [])))

-- the truth in the first row at the parameters, else the default
abbrev pub truths_term : List TruthEntry → Bool → PlacedTerm
truths_term [] d = truth_term d
truths_term (row ∷ rows) d = use_of (codes "ite") (all_terms (equations 0 row.at) ∷ (truth_term row.truth ∷ (truths_term rows d ∷ [])))
