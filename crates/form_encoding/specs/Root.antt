-- The encoding of a problem.
use Rattle.std.specs.Prelude.{ℕ, zero, suc, Bool, true, false, cond, List, [], ◌∷◌, ◌++◌, length}
use Rattle.form_typed.specs.declared.typed.Sort.{Sort}
use Rattle.base_budget.specs.Trace.{Traced, just, next}
use Rattle.formula.specs.Form.{Form, universal}
use Rattle.form_encoding.specs.Encoding.{bounds, limits, restricted, bound_by}

-- the k names from m on, in order
abbrev pub names_from : ℕ → ℕ → List ℕ
names_from m zero = []
names_from m (suc k) = m ∷ names_from (suc m) k

-- that those of the names from x on that are kept have values of these types
abbrev pub conditions : (ℕ → Bool) → ℕ → List Sort → Traced (List Form)
conditions kept x [] = just []
conditions kept x (s ∷ ss) =
    next (cond (kept x) (limits false x (bounds s)) (just [])) (λ hs. next (conditions kept (suc x) ss) (λ gs. just (hs ++ gs)))

-- the formula for all values of these types of the names from x on
abbrev pub for_last : ℕ → List Sort → Traced Form → Traced Form
for_last x [] body = body
for_last x (s ∷ ss) body = bound_by true x s (for_last (suc x) ss body)

-- that the first names have values of the first types, and the formula for all values of the other types of further names
abbrev pub root : List Sort → List Sort → Traced Form → Traced Form
root first others body =
    next (for_last (length first) others body) (λ g. next (conditions (λ x. true) 0 first) (λ hs. just (restricted false hs g)))

-- f for all integers of its last k names
abbrev pub all_last : ℕ → Form → Form
all_last zero f = f
all_last (suc k) f = universal (all_last k f)
