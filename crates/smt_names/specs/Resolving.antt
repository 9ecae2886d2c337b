-- What it means that names were resolved.
use Rattle.std.specs.Prelude.{◌≡◌, ◌+◌, ℕ, List, map, length}
use Rattle.smt_terms.specs.declared.term.Binding.{Binding}
use Rattle.smt_terms.specs.Term.{bindings_of}
use Rattle.smt_terms.specs.Evaluation.{Globals}
use Rattle.smt_terms.specs.Translation.{Standing, Replacements, Writer, symbol_said, bindings_said}
use Rattle.smt_names.specs.declared.body.Body.{Body}
use Rattle.smt_names.specs.declared.symbols.Symbols.{Symbols}
use Rattle.smt_names.specs.declared.resolving.Read.{Read}
use Rattle.smt_names.specs.Body.{shapes_of}
use Rattle.smt_names.specs.Saying.{Calls, leaf_said, bound_said, calls_of}
use Rattle.smt_names.specs.Scopes.{BoundNames, names_in, AreWithin, AreLeavesWithin}
use Rattle.smt_names.specs.Symbols.{Agrees}

-- What was resolved becomes the same as what was to be resolved: wherever the symbols of the code are those of a script, and the
-- bound names are those below n, whatever they are replaced by.
abbrev pub Resolves : {X : Type 0} → Symbols → List Body → BoundNames → ℕ → (Calls → List Standing → X) → (Writer → Replacements → X) → Type 0
Resolves s ds ls n F G = (gs : Globals) (e : List Standing) → Agrees gs s ds → AreWithin n ls → length e ≡ n → F (calls_of ds) e ≡ G (symbol_said gs) (names_in e ls)

-- the names of a `let` stand for what they are bound to, after those around them
abbrev pub AreRead : Symbols → List Body → BoundNames → ℕ → List Binding → Read → Type 0
AreRead s ds ls n bs r = (length r.leaves.items ≡ length bs) × (r.count ≡ n + length r.kept) × AreLeavesWithin r.count r.leaves.items
    × ((gs : Globals) (e : List Standing) → Agrees gs s ds → AreWithin n ls → length e ≡ n
    → map (leaf_said (bound_said (calls_of ds) e (shapes_of r.kept))) r.leaves.items ≡ bindings_said (symbol_said gs) (names_in e ls) (bindings_of bs))
